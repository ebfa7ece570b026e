-- When a command's whole change may be made of the cells of its task, where its body stands in
-- extents and loses blocks, as far as these cells tell it (docs/volume.md, "Bodies in extents").
-- A key is its rank.
use Rattle.std.specs.Prelude.{◌≡◌, ℕ, ◌+◌, ◌-◌, ◌/◌, ◌^◌, ◌≤◌, ◌&&◌, nat_le, nat_lt, not, Bool, true}
use Rattle.std.specs.Prelude.{List, Contains, None, length}
use Rattle.std.specs.List.{list_all}
use Rattle.r4_base.specs.Key.{rank}
use Rattle.r4_base.specs.declared.key.Key.{Key}
use Rattle.r4_extent_growth.specs.r4_build.Building.{LiesInLeaf}
use Rattle.r4_content.specs.Edited.{Edits, changed, is_in}
use Rattle.r4_extent_growth.specs.r4_extent_build.Growing.{end_after, end_before}
use Rattle.r4_extent_growth.specs.r4_extent_change.Among.{losing_twigs}
use Rattle.r4_extent_growth.specs.r4_extent_change.Beside.{without_bytes}
use Rattle.r4_extent_growth.specs.r4_extent_change.Losing.{numbers_lost}
use Rattle.r4_extent_growth.specs.r4_extent_demands.Pieces.{gets_among}
use Rattle.r4_extent_growth.specs.Lying.{have_room, lie_in_leaves}
use Rattle.r4_extent_growth.specs.r4_extent_loss.Losing.{IsLosing}
use Rattle.r4_extent_growth.specs.r4_measure.r4_cell.Seen.{CellSeen, node_of}
use Rattle.r4_extent_growth.specs.r4_measure.r4_cell.declared.change.Fresh.{Fresh}
use Rattle.r4_extent_growth.specs.r4_measure.r4_leaf.Units.{leaf_bytes}
use Rattle.r4_extent_growth.specs.r4_measure.r4_path.Sharing.{IsSound}
use Rattle.r4_extent_growth.specs.r4_measure.r4_reach.Needs.{is_met, units_after}
use Rattle.r4_extent_growth.specs.r4_measure.r4_reach.Touched.{Body, first_byte}
use Rattle.r4_extent_shrink.specs.Going.{MayLeave, may_leave}

-- The body stands in extents and loses blocks, and none of its blocks gets bytes.
abbrev pub does_lose : Body → Edits → Bool
does_lose b e =
    b.in_extents && (nat_lt (end_after b) (end_before b)
    && not (gets_among b e (first_byte b) (2 ^ 52)))

-- there are 129 numbers for each cell
abbrev pub has_numbers : Fresh → List CellSeen → Bool
has_numbers f cells = nat_le f.next f.end && nat_le (length cells) ((f.end - f.next) / 129)

-- The body loses blocks. What is no byte lies in leaves, which have room for it. There are numbers
-- enough, and the blocks that go of each twig may go.
abbrev pub may_lose : Body → Edits → Fresh → List CellSeen → Bool
may_lose b e f cells =
    (does_lose b e && lie_in_leaves cells e)
    && (have_room (without_bytes e) cells
    && (has_numbers f cells && list_all (may_leave b cells) (losing_twigs b cells)))

-- The same, in the words of `CanLose`: all that it asks, but for what is known of the part of a
-- tree in which the cells stand, and of the budget.
pub record MayLoseAll (b : Body) (e : Edits) (f : Fresh) (cells : List CellSeen) : Type 0 where
  pub first : Key
  pub losing : IsLosing b first e
  pub sound : (c : CellSeen) → Contains cells c → c.level ≡ 1 → IsSound c
  pub twigs : (c : CellSeen) → Contains (losing_twigs b cells) c → MayLeave b cells c
  pub lie : (k : ℕ) → is_in (changed (without_bytes e)) k ≡ true → LiesInLeaf cells k
  pub room : (c : CellSeen) → Contains cells c → c.level ≡ 1
      → is_met (changed (without_bytes e)) (rank c.lo) (rank c.hi) ≡ true
      → leaf_bytes (units_after None (without_bytes e) (node_of c)) ≤ 4068
  pub numbers : f.next + numbers_lost b e cells ≤ f.end
