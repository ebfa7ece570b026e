-- What the turn of a twig of a body that comes to extents leaves of a working set (docs/volume.md,
-- "Bodies in extents").
use Rattle.std.specs.Prelude.{◌≡◌, ◌⊎◌, ◌+◌, ◌<◌, ◌≤◌, Contains, length}
use Rattle.r4_base.specs.Tree.{Root, Store}
use Rattle.r4_base.specs.Value.{Value}
use Rattle.r4_build.specs.Making.{StaysOf}
use Rattle.r4_extent_build.specs.r4_cell.Patch.{HaveNames}
use Rattle.r4_extent_build.specs.r4_cell.Seen.{CellSeen}
use Rattle.r4_extent_build.specs.r4_cell.declared.change.Fresh.{Fresh}
use Rattle.r4_content.specs.Edited.{Edits}
use Rattle.r4_extent_build.specs.r4_twig_turns.Turning.{behind}
use Rattle.r4_build.specs.r4_measure.Budget.{Budget, most_from}
use Rattle.r4_build.specs.r4_measure.Grafting.{IsQuietBelow}
use Rattle.r4_build.specs.r4_measure.Measured.{IsMeasured}
use Rattle.r4_build.specs.r4_patch.Joining.{ids_of}
use Rattle.r4_build.specs.r4_reach.Touched.{Body}
use Rattle.r4_build.specs.r4_work.Working.{root_of, standing}
use Rattle.r4_build.specs.r4_work.declared.working.WorkingSet.{WorkingSet}
use Rattle.r4_extent_turn.specs.Turning.{Kept, Turn, blocks_turned, kept_cells, leaves_of, numbered}
use Rattle.r4_extent_turn.specs.Turning.{turning_turn}

-- The set after it is measured for the numbers that are left, and still nothing more comes below
-- twigs. In the end there may be no more cells than before, without the leaves, which went, and
-- with the blocks that came and what stays of the leaves. Each leaf that stood and has none of
-- their numbers stands, and so does what stays of them: leaves, each of a number that one of them
-- had or that was taken, no two of one. What was of some cells is still of them.
pub record LeavesLeaves (b : Body) (e : Edits) (u : Budget) (t : Store Value) (r : Root) (f : Fresh)
    (w now : WorkingSet) (x : Turn) (s : Kept) : Type 0 where
  pub left : Budget
  pub measured : IsMeasured t r (behind (turning_turn b e x s) f) now left
  pub quiet : IsQuietBelow left
  pub few : most_from left (root_of now r) (standing now) + length (leaves_of x)
      ≤ most_from u (root_of w r) (standing w) + (blocks_turned b e + length (kept_cells s))
  pub leaves : (c : CellSeen) → Contains (standing w) c → c.level ≡ 1
      → (Contains (ids_of (leaves_of x)) c.id → ⊥) → Contains (standing now) c
  pub kept : (c : CellSeen) → Contains (kept_cells (numbered x (f.next + blocks_turned b e) s)) c
      → Contains (standing now) c × (c.level ≡ 1)
  pub taken : (c : CellSeen) → Contains (kept_cells (numbered x (f.next + blocks_turned b e) s)) c
      → Contains (ids_of (leaves_of x)) c.id
      ⊎ ((f.next ≤ c.id) × (c.id < (behind (turning_turn b e x s) f).next))
  pub names : HaveNames (kept_cells (numbered x (f.next + blocks_turned b e) s))
  pub stays : StaysOf f (behind (turning_turn b e x s) f) w now
