-- What stays of leaves in whose range an extent comes (docs/volume.md, "Bodies in extents").
use Rattle.std.specs.Prelude.{◌≡◌, ◌+◌, Option}
use Rattle.r4_base.specs.declared.key.Key.{Key}
use Rattle.r4_extent_build.specs.r4_cell.Seen.{CellSeen}
use Rattle.r4_extent_build.specs.r4_cell.declared.change.Fresh.{Fresh}
use Rattle.r4_extent_build.specs.r4_edit.LeafParts.{HasLeft, HasRight}
use Rattle.r4_extent_turn.specs.Turning.{Turn, last_of, right_number}

-- What stays of the first leaf, below one key, under its number, and of the last one, from another
-- on, under a number that is not the first one's. Two numbers are taken.
pub record KeepsEnds (x : Turn) (from to : Key) (before after : Fresh)
    (left right : Option CellSeen) : Type 0 where
  pub left_is : HasLeft x.leaf from left
  pub right_is : HasRight (last_of x) to (right_number x before.next) right
  pub number : after ≡ record before { next = before.next + 2 }
