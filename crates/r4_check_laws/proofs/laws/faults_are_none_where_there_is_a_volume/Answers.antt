use Rattle.r4_check_laws.proofs.Clear.{content_clear, volume_clear}
use Rattle.r4_check_laws.proofs.Found.{content_there, volume_there}
use Rattle.r4_check_laws.proofs.laws.faults_are_none_where_there_is_a_volume.Goals as goal

pub returns-clause-content : goal.returns-clause-content
returns-clause-content c n image s whole layout none = content_there n s image whole layout none

pub returns-clause-no_content_fault : goal.returns-clause-no_content_fault
returns-clause-no_content_fault c n image s m whole layout has = content_clear n image s m whole layout has

pub returns-clause-volume : goal.returns-clause-volume
returns-clause-volume c n image settled s whole settles layout none = volume_there n image settled s whole settles layout none

pub returns-clause-no_volume_fault : goal.returns-clause-no_volume_fault
returns-clause-no_volume_fault c n image settled s m settles layout has = volume_clear n image settled s m settles layout has
