-- Leaves that share out units, and items that may be put in (docs/volume.md, "Leaves").
use Rattle.std.specs.Prelude.{◌≡◌, ◌⊎◌, ℕ, ◌+◌, ◌-◌, ◌*◌, ◌^◌, ◌<◌, ◌≤◌, List, [], ◌∷◌, ◌++◌, length, slice_get, All, Contains, true, None}
use Rattle.r4_base.specs.Cell.{cell_fault, item_body_fault, units_in}
use Rattle.r4_base.specs.Key.{rank}
use Rattle.r4_base.specs.Node.{Item, items_of, mkfs_id_of}
use Rattle.r4_base.specs.Value.{Value}
use Rattle.r4_node40.specs.Laid.{room_of}
use Rattle.r4_leaf.specs.Units.{LeafUnit, leaf_bytes, unit_bytes}
use Rattle.r4_leaf.specs.declared.leaf.Leaf.{Leaf}

-- The block may stand as a leaf for this range, in memory.
abbrev pub MayStand : (lo hi : ℕ) → List ℕ → Type 0
MayStand lo hi b = (length b ≡ 4096) × (cell_fault true (2 ^ 64) 1 lo hi b ≡ None)

-- It may stand, and has these units, for which there is room. They take up no more than they need: a unit that continues the
-- one before it stands in its item.
pub record IsLeaf (lo hi : ℕ) (us : List LeafUnit) (x : Leaf) : Type 0 where
  pub from : rank x.lo ≡ lo
  pub stands : MayStand lo hi x.block
  pub units : units_in (items_of x.block) ≡ us
  pub fits : leaf_bytes us ≤ 4068
  pub room : room_of x.block + leaf_bytes us ≡ 4068

-- The next unit has no room behind these, of which there are many bytes.
pub record IsFull (us : List LeafUnit) (next : LeafUnit) : Type 0 where
  pub some : 1 ≤ length us
  pub full : 4068 < leaf_bytes us + unit_bytes (slice_get us (length us - 1)) next
  pub filled : 3723 ≤ leaf_bytes us

-- The leaves have these units in their order, and share out this range: each but the first begins at its first unit's key, and the one
-- before it had no room for that unit.
abbrev pub Packs : (lo hi : ℕ) → List LeafUnit → List Leaf → Type 0
Packs lo hi us [] = ⊥
Packs lo hi us (x ∷ []) = IsLeaf lo hi us x
Packs lo hi us (x ∷ (y ∷ more)) = (first : List LeafUnit) × (next : LeafUnit) × (rest : List LeafUnit) × (us ≡ first ++ next ∷ rest) × (rank y.lo ≡ next.0)
    × (lo < next.0) × IsLeaf lo next.0 first x × IsFull first next × Packs next.0 hi (next ∷ rest) (y ∷ more)

-- Each of the leaves has this mkfs_id.
abbrev pub HaveMkfsId : ℕ → List Leaf → Type 0
HaveMkfsId id leaves = All (λ (x : Leaf). mkfs_id_of x.block ≡ id) leaves

-- Units that need at most 4068 bytes are in one leaf; and others are in at most one more for each 1024 bytes that are too many, or a part of
-- these.
pub record AreFew (us : List LeafUnit) (leaves : List Leaf) : Type 0 where
  pub one : leaf_bytes us ≤ 4068 → length leaves ≡ 1
  pub several : 4068 < leaf_bytes us → 2 ≤ length leaves
  pub more : 4068 < leaf_bytes us → 1024 * length leaves + 2020 < leaf_bytes us
  pub few : length leaves ≤ 16

-- An item that may be put into leaves: stat data, entries of a directory or bytes of a tail, which have no fault.
pub record MayBePut (it : Item) : Type 0 where
  pub plugin : (it.plugin ≡ 0) ⊎ ((it.plugin ≡ 2) ⊎ (it.plugin ≡ 6))
  pub sound : item_body_fault true (2 ^ 64) it ≡ None

-- An item of a leaf that is put in by itself: stat data, entries of a directory or bytes of a tail, which have no fault.
pub record IsGiven (it : Item) : Type 0 where
  pub plugin : (it.plugin ≡ 0) ⊎ ((it.plugin ≡ 2) ⊎ (it.plugin ≡ 6))
  pub sound : item_body_fault true (2 ^ 64) it ≡ None
  pub short : length it.body ≤ 4030

-- No key has a unit in both.
abbrev pub AreApart : List LeafUnit → List LeafUnit → Type 0
AreApart us vs = (k : ℕ) (v w : Value) → Contains us (k, v) → Contains vs (k, w) → ⊥
