-- When a command's whole change may be made of the cells of its task, where values come among
-- extents, as far as these cells tell it (docs/volume.md, "Bodies in extents"). A key is its rank.
use Rattle.std.specs.Prelude.{◌+◌, ◌-◌, ◌/◌, ◌≤◌, ◌&&◌, nat_le, not, Bool, true, List}
use Rattle.std.specs.Prelude.{Contains, Option, None, Some, length}
use Rattle.std.specs.List.{list_all}
use Rattle.r4_content.specs.Edited.{Edits}
use Rattle.r4_extent_turned.specs.r4_extent_growth.r4_extent_demands.r4_leaf_demands.Leaves.{IsInLeaves}
use Rattle.r4_extent_turned.specs.r4_extent_growth.r4_measure.r4_cell.Seen.{CellSeen}
use Rattle.r4_extent_turned.specs.r4_extent_growth.r4_measure.r4_cell.declared.change.Fresh.{Fresh}
use Rattle.r4_extent_turned.specs.r4_extent_growth.r4_measure.r4_reach.Touched.{Body, is_spread}
use Rattle.r4_extent_put.specs.Putting.{TakesValues, leaves_put, numbers_put}
use Rattle.r4_extent_put.specs.Taking.{takes_values}
use Rattle.r4_extent_put.specs.Whole.{putting_among}

-- no body stands in extents afterwards
abbrev pub is_in_leaves : Option Body → Bool
is_in_leaves None = true
is_in_leaves (Some b) = not (is_spread b)

-- there is a number for each leaf that comes, and 128 for each cell
abbrev pub has_numbers : Option Body → Edits → Fresh → List CellSeen → Bool
has_numbers b e f cells =
    nat_le f.next f.end && (nat_le (leaves_put b e cells) (f.end - f.next)
    && nat_le (length cells) ((f.end - f.next - leaves_put b e cells) / 128))

-- No body stands in extents afterwards. There are numbers enough, and each twig among whose extents
-- values come takes them.
abbrev pub may_put : Option Body → Edits → Fresh → List CellSeen → Bool
may_put b e f cells =
    is_in_leaves b
    && (has_numbers b e f cells && list_all (takes_values b e) (putting_among b e cells))

-- The same, in the words of `CanPut`: all that it asks, but for what is known of the part of a tree
-- in which the cells stand, and of the budget.
pub record MayPutAll (b : Option Body) (e : Edits) (f : Fresh) (cells : List CellSeen)
    : Type 0 where
  pub in_leaves : IsInLeaves b
  pub twigs : (c : CellSeen) → Contains (putting_among b e cells) c → TakesValues b e c
  pub numbers : f.next + numbers_put b e cells ≤ f.end
