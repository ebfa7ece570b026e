use Rattle.std.proofs.Common.{◌≡◌, ◌<◌, ℕ}
use Rattle.std.specs.Prelude.{slice_get, Some}
use Rattle.r4_base.specs.Key.{rank}
use Rattle.r4_base.specs.Node.{Item}
use Rattle.r4_squeeze.specs.Items.{items_meant}
use Rattle.r4_row_edit.proofs.placing.place_in.Given as goal

abbrev pub invariant-loop-i : goal.invariant-loop-i
invariant-loop-i l = (k : ℕ) (x : Item) → k < l.i → slice_get (items_meant l.items) k ≡ Some x → rank x.key < rank l.key
