-- The cells of a task gathered below one twig (docs/volume.md, "Bodies in extents"). A key is its
-- rank.
use Rattle.std.specs.Prelude.{ℕ, ◌≤◌, length}
use Rattle.r4_put_tasks.specs.r4_build.declared.task.Task.{Task}
use Rattle.r4_row_gather.specs.Gathering.{IsBroughtBelow}
use Rattle.r4_row_gather.specs.declared.gathering.Gathered.{Gathered}

-- Of the cells that the task writes those come among which some keys are below one twig, and no more
-- of them.
pub record IsGatheredFor (task : Task) (g : Gathered) : Type 0 where
  pub from : ℕ
  pub to : ℕ
  pub are : IsBroughtBelow task.writes from to g
  pub few : length g.cells ≤ length task.writes
