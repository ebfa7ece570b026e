use Rattle.std.specs.Prelude.{length}
use Rattle.r4_extent_turn.proofs.tails.+add_leaves.Given as goal

abbrev pub decreases-add_leaves : goal.decreases-add_leaves
decreases-add_leaves l = length l.leaves.now
