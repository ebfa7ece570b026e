-- What comes below the items of a node, item by item.
use Rattle.std.proofs.Common.{◌≡◌, ℕ, ◌+◌, [], ◌∷◌, List, take, ap, ◌∙◌, arith}
use Rattle.std.specs.Prelude.{Some, slice_get}
use Rattle.std.proofs.lemmas.List.Sums.{sum_by-append, sum_by-cons}
use Rattle.r4_base.specs.Node.{Item}
use Rattle.r4_extent_put.specs.r4_extent_change.r4_measure.Budget.{below, of_item}
use Rattle.r4_extent_put.proofs.r4_extent_change.r4_measure.r4_path.Filling.{take_more}

pub below_next : (u : ℕ → ℕ) (items : List Item) (i : ℕ) (it : Item) → slice_get items i ≡ Some it
    → below u (take (i + 1) items) ≡ below u (take i items) + of_item u it
below_next u items i it at =
    let sum = ap (below u) (take_more i items it at) ∙ sum_by-append (of_item u) (take i items) (it ∷ []) in
    let one = sum_by-cons (of_item u) it [] in
    omega (arith, sum, one)
