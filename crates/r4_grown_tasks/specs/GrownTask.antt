-- The change of a task whose body stands in extents and loses no blocks (docs/volume.md, "Bodies in
-- extents"). A key is its rank.
use Rattle.std.specs.Prelude.{◌≡◌, ℕ, ◌<◌, Bool, List, Contains, Some}
use Rattle.r4_base.specs.Tree.{IsNode, Root, Store}
use Rattle.r4_base.specs.Value.{Content, Value}
use Rattle.r4_base.specs.declared.key.Key.{Key}
use Rattle.r4_lost_tasks.specs.r4_extent_growth.r4_extent_build.Growing.{IsClearFor, IsGrowing}
use Rattle.r4_lost_tasks.specs.r4_extent_growth.r4_extent_build.Looping.{AreKeysOfEach}
use Rattle.r4_lost_tasks.specs.r4_extent_growth.r4_extent_change.Beside.{turning_among}
use Rattle.r4_lost_tasks.specs.r4_extent_growth.r4_extent_change.Changing.{grown_keys, grown_values}
use Rattle.r4_lost_tasks.specs.r4_extent_growth.r4_extent_demands.Sizes.{AreExtentEdits}
use Rattle.r4_lost_tasks.specs.r4_extent_growth.r4_measure.r4_cell.Seen.{CellSeen, node_of}
use Rattle.r4_grown_tasks.specs.Places.{HavePlaces}
use Rattle.r4_lost_tasks.specs.r4_task_moves.Alike.{StandLike}
use Rattle.r4_lost_tasks.specs.r4_task_moves.Doing.{body_for}
use Rattle.r4_lost_tasks.specs.r4_task_moves.r4_extent_moves.r4_applied.r4_build.Built.{IsPlaceFor, edits_for}
use Rattle.r4_lost_tasks.specs.r4_task_moves.r4_extent_moves.r4_applied.r4_build.declared.task.Task.{Task}
use Rattle.r4_lost_tasks.specs.r4_task_moves.r4_extent_moves.r4_applied.r4_patch.Effect.{HasEffect, IsHeld}
use Rattle.r4_lost_tasks.specs.r4_task_moves.r4_extent_moves.r4_applied.r4_reach.Touched.{Body}
use Rattle.r4_lost_tasks.specs.r4_task_moves.r4_extent_moves.r4_applied.r4_sets_told.r4_cell.Patch.{Patch}

-- The task's body loses no blocks. These cells stand in a tree with the units of each one in which
-- the task may be done, as those that it writes do. The twigs among them whose pieces change are
-- nodes such as trees have, and nothing stands in them where blocks come. Each byte that is set gets
-- its place among the cells, or is a 0 where one stands. The patch has the effect of
-- `change_of_growing` on the cells; what its old cells hold is below some key.
pub record IsGrownFor (task : Task) (p : Patch Value) (b : Body) (cells : List CellSeen) : Type 0
  where
    pub first : Key
    pub body : body_for task ≡ Some b
    pub growing : IsGrowing b first
    pub asks : AreExtentEdits (Some b) (edits_for task)
    pub like : (u : Store Value) (root : Root) (raw n : Content) → IsPlaceFor task u root raw n
        → StandLike u cells
    pub nodes : (c : CellSeen) → Contains (turning_among b (edits_for task) cells) c
        → IsNode (node_of c)
    pub clear : (c : CellSeen) → Contains (turning_among b (edits_for task) cells) c
        → IsClearFor b c
    pub places : HavePlaces b (edits_for task) task.reads cells
    pub effect : (at : CellSeen → ℕ → Bool)
        → AreKeysOfEach b (edits_for task) (turning_among b (edits_for task) cells) at
        → HasEffect p (grown_keys b (edits_for task) cells at) (grown_values (edits_for task))
    pub end : ℕ
    pub within : (k : ℕ) → IsHeld p.old k → k < end
