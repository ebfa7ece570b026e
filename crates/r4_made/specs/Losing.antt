-- When the blocks that go of a task's body may go of its cells (docs/volume.md, "Bodies in
-- extents"). A key is its rank.
use Rattle.std.specs.Prelude.{◌≡◌, ℕ, true, []}
use Rattle.r4_put_tasks.specs.r4_build.declared.task.Task.{Task}
use Rattle.r4_put_tasks.specs.r4_build.r4_reach.Touched.{Body}
use Rattle.r4_content.specs.Edited.{Edits, is_between}
use Rattle.r4_put_tasks.specs.r4_lost_tasks.r4_extent_shrink.Shrink.{MayLoseAll}
use Rattle.r4_put_tasks.specs.r4_lost_tasks.r4_extent_shrink.r4_extent_build.Growing.{end_after, end_before}
use Rattle.r4_put_tasks.specs.r4_lost_tasks.r4_extent_shrink.r4_extent_change.Among.{GoesAt}

-- The change may be asked for, as far as the cells that the task writes tell it; nothing is zeroed,
-- and twigs among them have all blocks that go.
pub record MayBeLost (task : Task) (b : Body) (e : Edits) : Type 0 where
  pub may : MayLoseAll b e task.fresh task.writes
  pub zeros : e.zeros ≡ []
  pub goes : (k : ℕ) → is_between (end_after b) (end_before b) k ≡ true → GoesAt b task.writes k
