use Rattle.std.proofs.Common.{length}
use Rattle.std.specs.Vec.Iter.{into_iter_items}
use Rattle.r4_row_edit.proofs.climbing.+climb.Given as goal

abbrev pub decreases-climb : goal.decreases-climb
decreases-climb l = length (into_iter_items l.above)
