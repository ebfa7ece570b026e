-- Where a key lies among the items of a node (docs/volume.md, "Cells"). A key is its rank.
use Rattle.std.specs.Prelude.{◌≡◌, ℕ, ◌<◌, ◌≤◌, List, slice_get, length, Some}
use Rattle.r4_base.specs.Key.{rank}
use Rattle.r4_base.specs.Node.{Item}

-- The first n items have keys that are not above this one, and the others keys that are.
pub record AreUpTo (items : List Item) (key n : ℕ) : Type 0 where
  pub within : n ≤ length items
  pub low : (i : ℕ) (x : Item) → slice_get items i ≡ Some x → i < n → rank x.key ≤ key
  pub high : (i : ℕ) (x : Item) → slice_get items i ≡ Some x → n ≤ i → key < rank x.key
