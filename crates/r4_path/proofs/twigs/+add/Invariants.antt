use Rattle.std.proofs.Common.{length}
use Rattle.std.specs.Vec.Iter.{into_iter_items}
use Rattle.r4_path.proofs.twigs.+add.Given as goal

abbrev pub decreases-add : goal.decreases-add
decreases-add l = length (into_iter_items l.more)
