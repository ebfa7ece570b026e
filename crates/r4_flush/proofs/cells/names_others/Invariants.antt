use Rattle.std.proofs.Common.{◌≡◌, ◌<◌, ℕ, Some}
use Rattle.std.specs.Prelude.{slice_get}
use Rattle.std.specs.Ordering.{nat_cmp}
use Rattle.std.specs.BTreeMap.{get}
use Rattle.r4_base.specs.Node.{Item}
use Rattle.r4_node40.specs.View.{view_items}
use Rattle.r4_flush.specs.Anew.{IsItemAnew, new_name}
use Rattle.r4_flush.proofs.cells.names_others.Given as goal

abbrev pub invariant-loop-i : goal.invariant-loop-i
invariant-loop-i l = (k : ℕ) (x : Item) → k < l.i → slice_get (view_items l.node) k ≡ Some x
    → IsItemAnew (new_name (get nat_cmp l.names)) x x
