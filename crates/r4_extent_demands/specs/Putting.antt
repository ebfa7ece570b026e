-- Values that are put into the ranges of extents (docs/volume.md, "Reach"). A key is its rank.
use Rattle.std.specs.Prelude.{◌≡◌, ℕ, List, [], ◌++◌, map, sum_by, Some, Option, slice_get}
use Rattle.std.specs.List.{filter}
use Rattle.r4_base.specs.Node.{Item, items_of}
use Rattle.r4_base.specs.Tree.{Span}
use Rattle.r4_bodies.specs.r4_cell.Seen.{CellSeen}
use Rattle.r4_content.specs.Edited.{Edits, is_between}
use Rattle.r4_content.specs.Listed.{list_edited}
use Rattle.r4_bodies.specs.r4_leaf.Units.{LeafUnit}
use Rattle.r4_bodies.specs.r4_leaf.declared.remaking.KeyRange.{KeyRange}
use Rattle.r4_bodies.specs.r4_leaf_demands.Touching.{span_of, spans_at}
use Rattle.r4_bodies.specs.r4_leaf_edits.r4_reach.Needs.{leaf_edits, leaves_for}
use Rattle.r4_bodies.specs.r4_leaf_edits.r4_reach.Touched.{Body}

-- the values that are put into a range, as units of a leaf
abbrev pub put_into : Option Body → Edits → (lo hi : ℕ) → List LeafUnit
put_into b e lo hi = filter (λ u. is_between lo hi u.0) (list_edited (leaf_edits b e) [])

-- so many pointers come for those that are put into these ranges
abbrev pub leaves_in : Option Body → Edits → List Span → ℕ
leaves_in b e ss = sum_by (λ (s : Span). leaves_for (put_into b e s.lo s.hi)) ss

-- The range of the item at a place comes behind the others, where it is an extent.
abbrev pub AddsSpans : CellSeen → (place : ℕ) → (old new : List KeyRange) → Type 0
AddsSpans c place old new = (it : Item) → slice_get (items_of c.block) place ≡ Some it
    → map span_of new ≡ map span_of old ++ spans_at c place it
