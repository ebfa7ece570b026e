-- An item, and the items behind it.
use Rattle.std.proofs.Common.{◌≡◌, ℕ, ◌+◌, List, ◌∷◌, drop, ap, ◌∙◌}
use Rattle.std.specs.Prelude.{Some, slice_get}
use Rattle.std.proofs.lemmas.List.{drop_more}
use Rattle.std.proofs.lemmas.Option.{get_or_from_slice_get, slice_get_within}
use Rattle.r4_base.specs.Cell.{next_key}
use Rattle.r4_base.specs.Key.{rank}
use Rattle.r4_base.specs.Node.{Item}

pub item_first : (items : List Item) (i : ℕ) (it : Item) → slice_get items i ≡ Some it → drop i items ≡ it ∷ drop (i + 1) items
item_first items i it is = drop_more items i it (slice_get_within items i it is) ∙ ap (λ (x : Item). x ∷ drop (i + 1) items) (get_or_from_slice_get items i it it is)

pub next_is : (hi : ℕ) (items : List Item) (i : ℕ) (it : Item) → slice_get items i ≡ Some it → next_key hi (drop i items) ≡ rank it.key
next_is hi items i it is = ap (next_key hi) (item_first items i it is)
