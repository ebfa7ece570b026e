-- Keys of bodies and of none that intervals and extents have (docs/volume.md, "Reach"). A key is its rank.
use Rattle.std.specs.Prelude.{◌≡◌, ◌⊎◌, ℕ, ◌+◌, ◌<◌, ◌≤◌, List, [], ◌∷◌, drop, slice_get}
use Rattle.std.specs.Prelude.{Bool, true, false, if◌then◌else◌}
use Rattle.std.specs.Prelude.{Contains, Option, Some, None}
use Rattle.r4_base.specs.Cell.{is_extent, next_key}
use Rattle.r4_base.specs.Key.{rank}
use Rattle.r4_base.specs.Node.{Item, items_of}
use Rattle.r4_base.specs.Tree.{Span}
use Rattle.r4_cell.specs.Seen.{CellSeen, node_of}
use Rattle.r4_content.specs.Edited.{Edits, Intervals, changed, is_in}
use Rattle.r4_leaf.specs.declared.remaking.KeyRange.{KeyRange}
use Rattle.r4_marking.specs.r4_reach.Reach.{is_body}
use Rattle.r4_leaf_demands.specs.declared.touching.Way.{Way}
use Rattle.r4_leaf_demands.specs.declared.touching.Way.TheVariants.{Change, Read}

-- one of the keys from one on and below another is a body's, or none's
abbrev pub HasKind : (body : Bool) → (lo hi : ℕ) → Type 0
HasKind body lo hi = (k : ℕ) × (lo ≤ k) × (k < hi) × (is_body k ≡ body)

-- and so is one that an interval has
abbrev pub MeetsKind : (body : Bool) → Intervals → (lo hi : ℕ) → Type 0
MeetsKind body rs lo hi = (k : ℕ) × (is_in rs k ≡ true) × (is_body k ≡ body) × (lo ≤ k) × (k < hi)

-- A key of an extent is changed and no body's; or it is read, or a body's that is changed.
abbrev pub IsTouched : Way → Edits → (reads : Intervals) → Span → Type 0
IsTouched Change e reads s = MeetsKind false (changed e) s.lo s.hi
IsTouched Read e reads s = ((k : ℕ) × (is_in reads k ≡ true) × (s.lo ≤ k) × (k < s.hi))
    ⊎ MeetsKind true (changed e) s.lo s.hi

-- one of the cell's extents has such a key
abbrev pub IsTouchedIn : Way → Edits → (reads : Intervals) → CellSeen → Type 0
IsTouchedIn way e reads c = (s : Span) × Contains (node_of c).spans s × IsTouched way e reads s

-- ---- an extent of a node

-- the range of an item, where it is an extent
abbrev pub item_spans : (next : ℕ) → Item → List Span
item_spans next it = if is_extent it then record { lo = rank it.key; hi = next } ∷ [] else []

-- that of an item at a place
abbrev pub spans_at : CellSeen → (place : ℕ) → Item → List Span
spans_at c place it = item_spans (next_key (rank c.hi) (drop (place + 1) (items_of c.block))) it

-- it is told
abbrev pub IsToldAt : CellSeen → (place : ℕ) → List Span → Type 0
IsToldAt c place ss = (it : Item) → slice_get (items_of c.block) place ≡ Some it
    → spans_at c place it ≡ ss

-- the item at a place is an extent that has such a key
abbrev pub IsTouchedAt : Way → Edits → (reads : Intervals) → CellSeen → (place : ℕ) → Type 0
IsTouchedAt way e reads c place = (it : Item) × (s : Span)
    × (slice_get (items_of c.block) place ≡ Some it)
    × Contains (spans_at c place it) s × IsTouched way e reads s

abbrev pub span_of : KeyRange → Span
span_of r = record { lo = rank r.from; hi = rank r.to }

abbrev pub spans_told : Option KeyRange → List Span
spans_told None = []
spans_told (Some r) = span_of r ∷ []
