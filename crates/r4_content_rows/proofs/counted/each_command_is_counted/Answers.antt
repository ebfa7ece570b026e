use Rattle.r4_content.proofs.Computed.{all_counts}
use Rattle.r4_content_rows.proofs.Replied.{counted}
use Rattle.r4_content_rows.proofs.counted.each_command_is_counted.Goals as goal

pub returns : goal.returns
returns c = record { counts = all_counts; replies = counted }
