-- A cell under other names: what its block is when what it names gets other names (docs/durable.md,
-- "From an open atom to its plan").
--     IsItemAnew    an item
--     IsBlockAnew   a block
--     IsCellAnew    a cell
use Rattle.std.specs.Prelude.{◌≡◌, ◌≢◌, ◌⊎◌, ℕ, ◌<◌, ◌≤◌, ◌^◌, ◌==◌, if◌then◌else◌, List, [], ◌∷◌, length, map}
use Rattle.std.specs.Prelude.{Option, true, false}
use Rattle.std.specs.Option.{option_map}
use Rattle.r4_base.specs.Bitmap.{is_fixed}
use Rattle.r4_base.specs.Cell.{is_extent, is_pointer}
use Rattle.r4_base.specs.Extents.{pointer_of, units_of}
use Rattle.r4_base.specs.Node.{Item, count_of, item_at, item_flags_at, items_of, node_fault, start_of}
use Rattle.r4_base.specs.declared.items.Unit.{Unit as ExtentUnit}
use Rattle.r4_base.specs.declared.limits.TheConstants.{UNPLACED}
use Rattle.r4_base.specs.declared.things.BlockNo.{BlockNo}
use Rattle.r4_cell.specs.Seen.{CellSeen}
use Rattle.r4_node40.specs.Laid.{KeepsFree, SameHead, WritesBody, room_of}
use Rattle.r4_flushed.specs.r4_sealed.Commits.{spot_of}

-- ---- names

-- the block that a name gets, or else the name
abbrev pub new_name : (place : ℕ → Option BlockNo) → ℕ → ℕ
new_name place i = spot_of (place i) i

-- Each name stays, or it is one from 2^63 on, and becomes that of a block which may be named.
abbrev pub BecomeBlocks : (ℕ → ℕ) → Type 0
BecomeBlocks f = (i : ℕ) → (f i ≡ i) ⊎ ((UNPLACED ≤ i) × (f i < 2 ^ 64)
    × (is_fixed (2 ^ 64) (f i) ≡ false))

-- ---- items

-- one of two lists is made of the other, item by item
abbrev pub AreMade : {A B : Type 0} → (A → B → Type 0) → List A → List B → Type 0
AreMade R [] [] = Unit {0}
AreMade R [] (y ∷ ys) = ⊥
AreMade R (x ∷ xs) [] = ⊥
AreMade R (x ∷ xs) (y ∷ ys) = R x y × AreMade R xs ys

-- a unit of one block gets that block's new name; a wider one stays as it is
abbrev pub unit_anew : (ℕ → ℕ) → ExtentUnit → ExtentUnit
unit_anew f u = if u.width == 1 then record u { start = f u.start } else u

-- The same key, plugin and length; a pointer names its node by the new name, the units of an extent are named anew,
-- and every other body stays.
pub record IsItemAnew (f : ℕ → ℕ) (x y : Item) : Type 0 where
  pub key : y.key ≡ x.key
  pub plugin : y.plugin ≡ x.plugin
  pub long : length y.body ≡ length x.body
  pub pointer : is_pointer x ≡ true → pointer_of y.body ≡ option_map f (pointer_of x.body)
  pub extent : is_extent x ≡ true → units_of y.body ≡ map (unit_anew f) (units_of x.body)
  pub other : is_pointer x ≡ false → is_extent x ≡ false → y.body ≡ x.body

abbrev pub AreItemsAnew : (ℕ → ℕ) → List Item → List Item → Type 0
AreItemsAnew f = AreMade (IsItemAnew f)

-- ---- blocks

-- The items are named anew, and all else of the block is as it was. It is a node where it was one.
pub record IsBlockAnew (f : ℕ → ℕ) (b c : List ℕ) : Type 0 where
  pub whole : length c ≡ length b
  pub node : node_fault c ≡ node_fault b
  pub items : AreItemsAnew f (items_of b) (items_of c)
  pub count : count_of c ≡ count_of b
  pub head : SameHead b c
  pub room : room_of c ≡ room_of b
  pub start : start_of c ≡ start_of b
  pub flags : (k : ℕ) → k < count_of b → item_flags_at c k ≡ item_flags_at b k
  pub free : KeepsFree b c

-- Item i is named anew, and nothing else of the block changes.
pub record IsWrittenAnew (f : ℕ → ℕ) (old : List ℕ) (i : ℕ) (new : List ℕ) : Type 0 where
  pub body : List ℕ
  pub written : WritesBody old body i new
  pub anew : IsItemAnew f (item_at (count_of old) old i) (record (item_at
      (count_of old) old i) { body = body })

-- The cell under its new name: a data block with its bytes, and a node with its block named anew.
pub record IsCellAnew (f : ℕ → ℕ) (x y : CellSeen) : Type 0 where
  pub id : y.id ≡ f x.id
  pub level : y.level ≡ x.level
  pub lo : y.lo ≡ x.lo
  pub hi : y.hi ≡ x.hi
  pub bytes : x.level ≡ 0 → y.block ≡ x.block
  pub block : x.level ≢ 0 → IsBlockAnew f x.block y.block
