-- When values may be put among the extents of a task's cells (docs/volume.md, "Bodies in extents").
use Rattle.std.specs.Prelude.{Option}
use Rattle.r4_put_tasks.specs.r4_build.Building.{HaveLawfulKeys}
use Rattle.r4_put_tasks.specs.r4_build.declared.task.Task.{Task}
use Rattle.r4_put_tasks.specs.r4_build.r4_reach.Touched.{Body}
use Rattle.r4_content.specs.Edited.{Edits}
use Rattle.r4_put_tasks.specs.Put.{TwigsMayStand}
use Rattle.r4_put_tasks.specs.r4_extent_put.Allowing.{MayPutAll}

-- The change may be asked for, as far as the cells that the task writes tell it, the edits change
-- keys that items may have, and the twigs may stand.
pub record MayBePut (task : Task) (b : Option Body) (e : Edits) : Type 0 where
  pub may : MayPutAll b e task.fresh task.writes
  pub keys : HaveLawfulKeys e
  pub twigs : TwigsMayStand task.writes
