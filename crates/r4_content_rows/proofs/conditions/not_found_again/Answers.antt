use Rattle.r4_content_rows.proofs.Examples.{lost_link, moved_out}
use Rattle.r4_content_rows.proofs.Numbers.{own_numbers}
use Rattle.r4_content_rows.proofs.conditions.not_found_again.Goals as goal

pub returns : goal.returns
returns c = record { link = lost_link; rename = moved_out; numbers = own_numbers }
