use Rattle.r4_content_rows.proofs.Lost.{beside_numbers, lost_link, lost_root}
use Rattle.r4_content_rows.proofs.fewer.fewer_conditions_are_needed.Goals as goal

pub returns : goal.returns
returns c = record { link = lost_link; numbers = beside_numbers; rmdir = lost_root }
