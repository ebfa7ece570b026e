-- A body in extents that loses blocks: what is asked so that the change of its task's cells moves
-- it (docs/volume.md, "Bodies in extents"). A key is its rank.
use Rattle.std.specs.Prelude.{◌≡◌, ℕ, ◌+◌, ◌^◌, ◌≤◌, false, true, List, Contains, Some}
use Rattle.r4_base.specs.Tree.{Store}
use Rattle.r4_base.specs.Value.{Byte, Content, Value, at_key}
use Rattle.r4_base.specs.Volume.{HasExtents}
use Rattle.r4_base.specs.declared.key.Key.{Key}
use Rattle.r4_content.specs.Edited.{Edits, changed, is_between, is_in}
use Rattle.r4_applied.specs.r4_build.r4_leaf_edits.Suiting.{SuitLeaves}
use Rattle.r4_applied.specs.r4_reach.Reach.{is_body}
use Rattle.r4_applied.specs.r4_reach.Touched.{Body, first_byte}
use Rattle.r4_applied.specs.r4_sets_told.r4_cell.Seen.{CellSeen}
use Rattle.r4_allowed.specs.r4_extent_change.Among.{GoesAt}
use Rattle.r4_allowed.specs.r4_extent_change.Beside.{without_bytes}
use Rattle.r4_allowed.specs.r4_extent_change.r4_extent_build.Growing.{end_after, end_before}
use Rattle.r4_allowed.specs.r4_extent_change.r4_extent_loss.Losing.{IsLosing}
use Rattle.r4_extent_moves.specs.Moving.{in_body}

-- The body loses blocks and none of it gets bytes, and it stood in extents as files do. Leaves can
-- take the edits. Each key of the blocks that go lies in the range of a twig among the cells; a key
-- of the body is zeroed only where a 0 stands. A cut that begins in a body ends within this one,
-- and attributes and entries change outside of it.
pub record LosesBody (b : Body) (e : Edits) (u : Store Value) (raw : Content)
    (cells : List CellSeen) : Type 0 where
  pub first : Key
  pub losing : IsLosing b first e
  pub stood : HasExtents u b.file b.was
  pub end : ℕ
  pub suits : SuitLeaves end e
  pub goes : (k : ℕ) → is_between (end_after b) (end_before b) k ≡ true → GoesAt b cells k
  pub zeros : (k : ℕ) → in_body b k ≡ true → is_in e.zeros k ≡ true
      → at_key raw k ≡ Some (Byte 0)
  pub cuts : (r : ℕ × ℕ) → Contains e.cuts r → is_body r.0 ≡ true
      → r.1 ≤ first_byte b + 2 ^ 64
  pub beside : (k : ℕ) → is_in (changed (without_bytes e)) k ≡ true → in_body b k ≡ false
