-- Items that may be put into a leaf together, for tests.
use Rattle.std.specs.Prelude.{◌≡◌, ◌⊎◌, ℕ, ◌+◌, ◌<◌, ◌≤◌, List, [], ◌∷◌, Contains}
use Rattle.r4_base.specs.Cell.{item_end, item_units}
use Rattle.r4_base.specs.Key.{offset_of, rank}
use Rattle.r4_base.specs.declared.key.Key.{Key}
use Rattle.r4_base.specs.Node.{Item}
use Rattle.r4_base.specs.Value.{Value}
use Rattle.r4_leaf.specs.Leaves.{MayBePut}
use Rattle.r4_leaf.specs.Remade.{item_of}
use Rattle.r4_leaf.specs.Units.{LeafUnit}
use Rattle.r4_leaf.specs.declared.remaking.Given.{Given}
use Rattle.r4_leaf.specs.declared.remaking.KeyRange.{KeyRange}

-- The item may be put in, and all its units have keys from its own on and below another.
pub record Stands (it : Item) (end : ℕ) : Type 0 where
  pub put : MayBePut it
  pub below : rank it.key < end
  pub within : item_end it ≤ end
  pub above : (k : ℕ) (v : Value) → Contains (item_units it) (k, v) → rank it.key ≤ k
  pub inside : (k : ℕ) (v : Value) → Contains (item_units it) (k, v) → k < end

-- so many bytes of a tail from a key on, and below another
abbrev pub IsTail : Key → (count end : ℕ) → Type 0
IsTail key count end =
    (1 ≤ count) × (offset_of key + count ≤ 16384) × (rank key + count ≤ end)

-- Each item stands in its range, which begins at its key, and the ranges follow one another.
abbrev pub ArePut : (lo hi : ℕ) → List Given → List KeyRange → Type 0
ArePut lo hi [] ranges = Unit {0}
ArePut lo hi (g ∷ gs) [] = ⊥
ArePut lo hi (g ∷ gs) (r ∷ rs) =
    (lo ≤ rank r.from) × (rank r.from ≡ rank (item_of g).key) × (rank r.to ≤ hi)
    × Stands (item_of g) (rank r.to)
    × ArePut (rank r.to) hi gs rs

-- no unit has a key of the range
abbrev pub IsClear : KeyRange → List LeafUnit → Type 0
IsClear r us = (k : ℕ) (v : Value) → Contains us (k, v) → (k < rank r.from) ⊎ (rank r.to ≤ k)

-- none has a key of one of the items' ranges
abbrev pub AreClear : List Given → List KeyRange → List LeafUnit → Type 0
AreClear (g ∷ gs) (r ∷ rs) us = IsClear r us × AreClear gs rs us
AreClear gs rs us = Unit {0}
