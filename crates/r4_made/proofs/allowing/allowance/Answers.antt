use Rattle.std.proofs.Common.{map, subst}
use Rattle.std.specs.Arc.{arc_value}
use Rattle.r4_put_tasks.specs.r4_allowed.Allowing.{IsMeasure}
use Rattle.r4_put_tasks.specs.r4_build.r4_measure.r4_cell.Patch.{root_of_pair}
use Rattle.r4_made.proofs.Made.{measured, suffices, task_cells}
use Rattle.r4_made.proofs.allowing.allowance.Goals as goal

pub returns : goal.returns
returns c =
    let task = c.args.task.now in
    let cells = map (λ x. arc_value x) c.args.cells.now in
    let table = c.in_ok-table.table.items in
    record {
      measure = λ t r is. measured t r task cells table is
          (subst (λ xs. IsMeasure t (root_of_pair task.scope.root) cells xs) c.as_slice.ensures.value
          (c.is_allowed.ensures.budget c.if-not-is_allowed.false t task.fresh (task_cells t r task cells is)));
      suffices = suffices c.args.twigs.now table c.in_ok-table.ensures.twigs c.requires;
    }
