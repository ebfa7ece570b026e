-- What one leaf gets, and what that makes of its units (docs/volume.md, "Which edits a leaf gets"). A key is its rank.
use Rattle.std.specs.Prelude.{◌≡◌, ℕ, ◌+◌, ◌^◌, ◌≤◌, List, [], ◌∷◌, true, length, map, All}
use Rattle.std.specs.Prelude.{Option, Some, None, if◌then◌else◌}
use Rattle.std.specs.List.{filter}
use Rattle.r4_base.specs.Key.{IsKey, rank}
use Rattle.r4_base.specs.Node.{Item}
use Rattle.r4_content.specs.Edited.{Edits, is_between}
use Rattle.r4_content.specs.Listed.{list_edited}
use Rattle.r4_content.specs.Seen.{Rises}
use Rattle.r4_content.specs.declared.edits.Edits.{Edits as HeldEdits}
use Rattle.r4_content.specs.declared.edits.Interval.{Interval}
use Rattle.r4_reach.specs.r4_leaf.Remade.{CanPutAll, cut_all, filled_tail, item_of, put_all}
use Rattle.r4_reach.specs.r4_leaf.Units.{LeafUnit}
use Rattle.r4_reach.specs.r4_leaf.declared.remaking.Given.{Given}
use Rattle.r4_reach.specs.r4_leaf.declared.remaking.KeyRange.{KeyRange}
use Rattle.r4_leaf_edits.specs.declared.leaf_edits.LeafEdits.{LeafEdits}
use Rattle.r4_leaf_edits.specs.declared.leaf_edits.LeafItem.{LeafItem}
use Rattle.r4_leaf_edits.specs.declared.leaf_edits.LeafItem.TheVariants.{Filled, Lent, Spelled}
use Rattle.r4_reach.specs.Touched.{Body, first_byte, is_spread}

-- an item that comes: bytes that are lent, bytes of one value, or a body that was spelled
abbrev pub made_item : LeafItem → Item
made_item (Lent key bytes) = record { key = key; plugin = 6; body = bytes.now }
made_item (Filled key count byte) = filled_tail key count byte
made_item (Spelled key plugin body) = record { key = key; plugin = plugin; body = body.items }

-- the ranges of keys that go, and the items that come
abbrev pub cuts_in : LeafEdits → List KeyRange
cuts_in x = x.cuts.items

abbrev pub items_in : LeafEdits → List Item
items_in x = map made_item x.items.items

-- these are the items, as they are given to a leaf
abbrev pub AreItems : LeafEdits → List Given → Type 0
AreItems x gs = map item_of gs ≡ items_in x

-- at most so many ranges, and at most so many items
abbrev pub HasAtMost : ℕ → LeafEdits → Type 0
HasAtMost n x = (length (cuts_in x) ≤ n) × (length (items_in x) ≤ n)

-- one for each interval, run and value of the edits, and one for a body that goes to extents
abbrev pub edit_count : HeldEdits → ℕ
edit_count e = length e.cuts.items + (1 + (length e.zeros.items + (length e.fills.items
    + length e.runs.items)) + length e.puts.items)

-- ---- where they belong

-- Each range lies in the leaf's.
abbrev pub CutsWithin : (lo hi : ℕ) → List KeyRange → Type 0
CutsWithin lo hi [] = Unit {0}
CutsWithin lo hi (c ∷ cs) = (lo ≤ rank c.from) × (rank c.to ≤ hi) × CutsWithin lo hi cs

-- The keys of the items are keys.
abbrev pub HaveKeys : List Given → Type 0
HaveKeys [] = Unit {0}
HaveKeys (g ∷ gs) = IsKey (item_of g).key × HaveKeys gs

-- ---- what they make

-- Units that a leaf of this range may have: their keys rise, and lie in it.
pub record AreOfLeaf (lo hi : ℕ) (us : List LeafUnit) : Type 0 where
  pub rises : Rises us
  pub within : All (λ (u : LeafUnit). is_between lo hi u.0 ≡ true) us

-- They may be put into a leaf with these units once the ranges are cut out. Then it has what the edits make of the
-- units, as far as that lies in its range.
pub record MakesEdits (lo hi : ℕ) (e : Edits) (cuts : List KeyRange) (gs : List Given)
    (us : List LeafUnit) : Type 0 where
  pub can : CanPutAll gs (cut_all cuts us)
  pub units : put_all gs (cut_all cuts us) ≡ filter (λ u. is_between lo hi u.0) (list_edited e us)

-- ---- a body that stands in extents afterwards

-- all keys of a body that stands in extents afterwards, if there is one
abbrev pub spread_keys : Option Body → Option (ℕ × ℕ)
spread_keys None = None
spread_keys (Some b) = if is_spread b then Some (first_byte b, first_byte b + 2 ^ 64) else None

-- bytes that a leaf gets stand before this one of their file; where they go to extents, they may stand anywhere
abbrev pub bytes_end : Option Interval → ℕ
bytes_end None = 16384
bytes_end (Some body) = 2 ^ 64
