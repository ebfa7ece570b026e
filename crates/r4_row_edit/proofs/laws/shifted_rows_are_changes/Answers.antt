use Rattle.r4_row_edit.proofs.Shifts.{shifted}
use Rattle.r4_row_edit.proofs.laws.shifted_rows_are_changes.Goals as goal

pub returns : goal.returns
returns c = shifted
