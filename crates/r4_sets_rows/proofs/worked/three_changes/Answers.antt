use Rattle.r4_sets_rows.proofs.WorkedThrough.{first_applies, second_applies, third_applies}
use Rattle.r4_sets_rows.proofs.worked.three_changes.Goals as goal

pub returns : goal.returns
returns c = record { first = first_applies; second = second_applies; third = third_applies }
