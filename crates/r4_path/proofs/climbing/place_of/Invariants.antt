use Rattle.std.proofs.Common.{◌≡◌, ℕ, ◌<◌}
use Rattle.std.specs.Prelude.{slice_get, Some}
use Rattle.r4_base.specs.Key.{rank}
use Rattle.r4_base.specs.Node.{Item}
use Rattle.r4_leaf.specs.r4_node40.View.{view_items}
use Rattle.r4_path.proofs.climbing.place_of.Given as goal

abbrev pub invariant-loop-i : goal.invariant-loop-i
invariant-loop-i l = (k : ℕ) (x : Item) → k < l.i → slice_get (view_items l.node) k ≡ Some x → rank x.key < rank l.key
