-- The change of a task of which values come among extents, and whose body, if it has one, stands in
-- no extents afterwards (docs/volume.md, "Bodies in extents"). A key is its rank.
use Rattle.std.specs.Prelude.{◌≡◌, List, Contains}
use Rattle.r4_base.specs.Value.{Value}
use Rattle.r4_turned_tasks.specs.r4_extent_put.Whole.{put_keys}
use Rattle.r4_turned_tasks.specs.r4_extent_put.r4_extent_demands.r4_leaf_demands.Leaves.{IsInLeaves}
use Rattle.r4_turned_tasks.specs.r4_task_moves.Doing.{body_for}
use Rattle.r4_turned_tasks.specs.r4_task_moves.r4_extent_moves.r4_applied.r4_build.Building.{HaveLawfulKeys, set_by}
use Rattle.r4_turned_tasks.specs.r4_task_moves.r4_extent_moves.r4_applied.r4_build.Built.{edits_for}
use Rattle.r4_turned_tasks.specs.r4_task_moves.r4_extent_moves.r4_applied.r4_build.declared.task.Task.{Task}
use Rattle.r4_turned_tasks.specs.r4_task_moves.r4_extent_moves.r4_applied.r4_patch.Effect.{HasEffect}
use Rattle.r4_turned_tasks.specs.r4_task_moves.r4_extent_moves.r4_applied.r4_path.Sharing.{IsSound}
use Rattle.r4_turned_tasks.specs.r4_task_moves.r4_extent_moves.r4_applied.r4_sets_told.r4_cell.Patch.{Patch}
use Rattle.r4_turned_tasks.specs.r4_task_moves.r4_extent_moves.r4_applied.r4_sets_told.r4_cell.Seen.{CellSeen}

-- Each twig among the cells stands as a cell may, in memory.
abbrev pub TwigsMayStand : List CellSeen → Type 0
TwigsMayStand cells = (c : CellSeen) → Contains cells c → c.level ≡ 2 → IsSound c

-- No body stands in extents afterwards, and each key that the edits change is one that an item may
-- have. The twigs that are written may stand. The patch sets what the edits set, where a leaf that
-- is written has the key, or a value comes there among the extents of such a twig; what they cut
-- where neither is stays.
pub record IsPutFor (task : Task) (p : Patch Value) : Type 0 where
  pub in_leaves : IsInLeaves (body_for task)
  pub keys : HaveLawfulKeys (edits_for task)
  pub twigs : TwigsMayStand task.writes
  pub effect : HasEffect p (put_keys (body_for task) (edits_for task) task.writes)
      (set_by (edits_for task))
