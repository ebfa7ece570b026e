use Rattle.std.proofs.Common.{length}
use Rattle.r4_row_edit.proofs.parting.+fill_parts.Given as goal

abbrev pub decreases-fill_parts : goal.decreases-fill_parts
decreases-fill_parts l = length l.parts.now
