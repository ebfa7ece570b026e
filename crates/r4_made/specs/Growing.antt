-- When a task's body may grow in some cells (docs/volume.md, "Bodies in extents").
use Rattle.std.specs.Prelude.{List}
use Rattle.r4_put_tasks.specs.r4_build.declared.task.Task.{Task}
use Rattle.r4_put_tasks.specs.r4_build.r4_measure.r4_cell.Seen.{CellSeen}
use Rattle.r4_put_tasks.specs.r4_build.r4_reach.Touched.{Body}
use Rattle.r4_content.specs.Edited.{Edits}
use Rattle.r4_put_tasks.specs.r4_grown_tasks.Places.{HavePlaces}
use Rattle.r4_put_tasks.specs.r4_lost_tasks.r4_extent_shrink.r4_extent_growth.Growth.{MayGrow}

-- The change may be asked for, as far as these cells tell it, and each byte that is set gets its
-- place among them.
pub record MayBeGrown (task : Task) (cells : List CellSeen) (b : Body) (e : Edits) : Type 0 where
  pub may : MayGrow b e task.fresh cells
  pub places : HavePlaces b e task.reads cells
