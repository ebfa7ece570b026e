-- The change of a task whose body comes out of tails, or had no bytes, to extents (docs/volume.md,
-- "Bodies in extents"). A key is its rank.
use Rattle.std.specs.Prelude.{◌≡◌, ℕ, ◌<◌, ◌≤◌, true, Some}
use Rattle.r4_base.specs.Key.{rank}
use Rattle.r4_base.specs.Tree.{Root, Store}
use Rattle.r4_base.specs.Value.{Content, Value}
use Rattle.r4_base.specs.declared.key.Key.{Key}
use Rattle.r4_grown_tasks.specs.r4_task_moves.Alike.{StandLike}
use Rattle.r4_grown_tasks.specs.r4_task_moves.Doing.{body_for}
use Rattle.r4_grown_tasks.specs.r4_task_moves.r4_extent_moves.r4_applied.r4_build.Built.{IsPlaceFor, edits_for}
use Rattle.r4_grown_tasks.specs.r4_task_moves.r4_extent_moves.r4_applied.r4_build.declared.task.Task.{Task}
use Rattle.r4_grown_tasks.specs.r4_task_moves.r4_extent_moves.r4_applied.r4_build.r4_leaf_edits.Suiting.{SuitLeaves}
use Rattle.r4_grown_tasks.specs.r4_task_moves.r4_extent_moves.r4_applied.r4_patch.Effect.{HasEffect}
use Rattle.r4_grown_tasks.specs.r4_task_moves.r4_extent_moves.r4_applied.r4_path.Steps.{Follow}
use Rattle.r4_grown_tasks.specs.r4_task_moves.r4_extent_moves.r4_applied.r4_reach.Touched.{Body, first_byte}
use Rattle.r4_grown_tasks.specs.r4_task_moves.r4_extent_moves.r4_applied.r4_sets_told.r4_cell.Patch.{Patch}
use Rattle.r4_grown_tasks.specs.r4_task_moves.r4_extent_moves.r4_extent_change.r4_extent_build.Growing.{end_after, end_before}
use Rattle.r4_grown_tasks.specs.r4_task_moves.r4_extent_moves.r4_extent_change.r4_extent_build.r4_extent_edit.Turning.{AreAround}
use Rattle.r4_grown_tasks.specs.r4_turned_moves.r4_extent_turned.Whole.{turned_keys, turned_values}
use Rattle.r4_grown_tasks.specs.r4_turned_moves.r4_extent_turned.r4_extent_turn.Turning.{IsTurningBody, Turn, last_of}
use Rattle.r4_grown_tasks.specs.r4_turned_moves.r4_extent_turned.r4_extent_turn.Turning.{leaves_of}

-- The task's body comes to extents and needs no fewer blocks than before. The leaves of the turn
-- stand in a tree with the units of each one in which the task may be done, as those that it writes
-- do, one beside the other, around the keys of the blocks that come. The patch has the effect of
-- `change_of_turning` on such cells, below some key.
pub record IsTurnedFor (task : Task) (p : Patch Value) (b : Body) (x : Turn) : Type 0 where
  pub first : Key
  pub body : body_for task ≡ Some b
  pub turning : IsTurningBody b first
  pub longer : end_before b ≤ end_after b
  pub end_of_bytes : ℕ
  pub suits : SuitLeaves end_of_bytes (edits_for task)
  pub like : (u : Store Value) (root : Root) (raw n : Content) → IsPlaceFor task u root raw n
      → StandLike u (leaves_of x)
  pub follow : Follow 1 (rank x.leaf.lo) (rank (last_of x).hi) (leaves_of x)
  pub around : AreAround x.leaf x.more (first_byte b) (end_after b)
  pub effect : HasEffect p (turned_keys b (edits_for task)) (turned_values b (edits_for task) x)
  pub end : ℕ
  pub within : (k : ℕ) → turned_keys b (edits_for task) k ≡ true → k < end
