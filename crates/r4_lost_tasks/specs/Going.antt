-- The change of a task whose body stands in extents and loses blocks (docs/volume.md, "Bodies in
-- extents"). A key is its rank.
use Rattle.std.specs.Prelude.{◌≡◌, ℕ, ◌<◌, ◌==◌, ◌&&◌, nat_le, if◌then◌else◌, Bool, true, List, [], ◌∷◌, Some}
use Rattle.r4_base.specs.Key.{rank}
use Rattle.r4_base.specs.Value.{Value}
use Rattle.r4_base.specs.declared.key.Key.{Key}
use Rattle.r4_content.specs.Edited.{is_between}
use Rattle.r4_task_moves.specs.r4_extent_shrink.r4_extent_build.Growing.{end_after, end_before}
use Rattle.r4_task_moves.specs.r4_extent_shrink.r4_extent_change.Among.{GoesAt}
use Rattle.r4_task_moves.specs.r4_extent_shrink.r4_extent_change.Losing.{lost_keys, lost_values}
use Rattle.r4_task_moves.specs.r4_extent_shrink.r4_extent_demands.Sizes.{AreExtentEdits}
use Rattle.r4_task_moves.specs.r4_extent_shrink.r4_extent_loss.Losing.{IsLosing}
use Rattle.r4_task_moves.specs.r4_extent_shrink.r4_measure.r4_cell.Seen.{CellSeen}
use Rattle.r4_task_moves.specs.Doing.{body_for}
use Rattle.r4_task_moves.specs.r4_extent_moves.r4_applied.r4_build.Built.{edits_for}
use Rattle.r4_task_moves.specs.r4_extent_moves.r4_applied.r4_build.declared.task.Task.{Task}
use Rattle.r4_task_moves.specs.r4_extent_moves.r4_applied.r4_patch.Effect.{HasEffect}
use Rattle.r4_task_moves.specs.r4_extent_moves.r4_applied.r4_reach.Touched.{Body}
use Rattle.r4_task_moves.specs.r4_extent_moves.r4_applied.r4_sets_told.r4_cell.Patch.{Patch}

-- how far the ranges of twigs among the cells go on from a key, each behind the one before it
abbrev pub goes_on : (key : ℕ) → List CellSeen → ℕ
goes_on k [] = k
goes_on k (c ∷ cells) =
    goes_on (if (c.level == 2) && is_between (rank c.lo) (rank c.hi) k then rank c.hi else k) cells

-- they have the keys of all blocks that go
abbrev pub have_blocks : Body → List CellSeen → Bool
have_blocks b cells = nat_le (end_before b) (goes_on (end_after b) cells)

-- The task's body loses blocks, which twigs among the cells that it writes have; nothing is zeroed.
-- The patch has the effect of `change_of_losing` on these cells, below some key.
pub record IsLostFor (task : Task) (p : Patch Value) (b : Body) : Type 0 where
  pub first : Key
  pub body : body_for task ≡ Some b
  pub losing : IsLosing b first (edits_for task)
  pub asks : AreExtentEdits (Some b) (edits_for task)
  pub goes : (k : ℕ) → is_between (end_after b) (end_before b) k ≡ true → GoesAt b task.writes k
  pub zeros : (edits_for task).zeros ≡ []
  pub effect : HasEffect p (lost_keys b (edits_for task) task.writes) (lost_values (edits_for task))
  pub end : ℕ
  pub within : (k : ℕ) → lost_keys b (edits_for task) task.writes k ≡ true → k < end
