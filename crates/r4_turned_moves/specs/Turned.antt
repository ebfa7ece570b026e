-- A body that comes out of tails, or had no bytes, to extents: what is asked so that the change of
-- its task's cells moves it (docs/volume.md, "Bodies in extents"). A key is its rank.
use Rattle.std.specs.Prelude.{◌≡◌, ℕ, ◌+◌, ◌^◌, ◌≤◌, false, true, Contains, Some}
use Rattle.r4_base.specs.Key.{rank}
use Rattle.r4_base.specs.Tree.{IsTree, Root, Store}
use Rattle.r4_base.specs.Value.{Value}
use Rattle.r4_base.specs.Volume.{HasTails}
use Rattle.r4_base.specs.declared.key.Key.{Key}
use Rattle.r4_content.specs.Edited.{Edits, changed, is_in}
use Rattle.r4_extent_moves.specs.Moving.{in_body}
use Rattle.r4_extent_moves.specs.r4_applied.r4_build.r4_leaf_edits.Suiting.{SuitLeaves}
use Rattle.r4_extent_moves.specs.r4_applied.r4_path.Steps.{Follow}
use Rattle.r4_extent_moves.specs.r4_applied.r4_reach.Reach.{is_body}
use Rattle.r4_extent_moves.specs.r4_applied.r4_reach.Touched.{Body, first_byte}
use Rattle.r4_extent_moves.specs.r4_applied.r4_sets_told.r4_cell.Seen.{CellSeen, node_of}
use Rattle.r4_extent_moves.specs.r4_extent_change.Beside.{without_bytes}
use Rattle.r4_extent_moves.specs.r4_extent_change.r4_extent_build.Growing.{end_after, end_before}
use Rattle.r4_extent_moves.specs.r4_extent_change.r4_extent_build.r4_extent_edit.Turning.{AreAround}
use Rattle.r4_extent_moves.specs.r4_extent_turned.r4_extent_turn.Turning.{IsTurningBody, Turn, last_of, leaves_of}

-- The body comes to extents and needs no fewer blocks than before, and it stood in tails as files
-- do. The leaves of the turn are the tree's; they stand one beside the other, around the keys of
-- the blocks that come. Leaves can take the edits. A cut that begins in a body ends within this
-- one, and attributes and entries change outside of it.
pub record TurnsBody (b : Body) (e : Edits) (u : Store Value) (x : Turn) : Type 0 where
  pub first : Key
  pub turning : IsTurningBody b first
  pub longer : end_before b ≤ end_after b
  pub stood : HasTails u b.file b.was
  pub root : Root
  pub tree : IsTree u root
  pub leaves_in : (c : CellSeen) → Contains (leaves_of x) c → u c.id ≡ Some (node_of c)
  pub follow : Follow 1 (rank x.leaf.lo) (rank (last_of x).hi) (leaves_of x)
  pub around : AreAround x.leaf x.more (first_byte b) (end_after b)
  pub end : ℕ
  pub suits : SuitLeaves end e
  pub cuts : (r : ℕ × ℕ) → Contains e.cuts r → is_body r.0 ≡ true
      → r.1 ≤ first_byte b + 2 ^ 64
  pub beside : (k : ℕ) → is_in (changed (without_bytes e)) k ≡ true → in_body b k ≡ false
