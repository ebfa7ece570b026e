-- What the parts of the change of a task give of which values come among extents.
use Rattle.std.proofs.Common.{List, Option, sym, subst}
use Rattle.r4_put_tasks.specs.r4_allowed.Table.{budget_of}
use Rattle.r4_put_tasks.specs.r4_allowed.declared.table.Allowance.{Allowance}
use Rattle.r4_base.specs.Tree.{Root, Store}
use Rattle.r4_base.specs.Value.{Value}
use Rattle.r4_put_tasks.specs.r4_build.Building.{HaveLawfulKeys, set_by}
use Rattle.r4_put_tasks.specs.r4_build.Built.{IsMove, IsTaskIn, edits_for}
use Rattle.r4_put_tasks.specs.r4_build.declared.task.Task.{Task}
use Rattle.r4_put_tasks.specs.r4_build.r4_measure.r4_cell.Patch.{root_of_pair}
use Rattle.r4_put_tasks.specs.r4_build.r4_measure.r4_cell.declared.change.Change.{Change}
use Rattle.r4_put_tasks.specs.r4_build.r4_patch.Effect.{HasEffect}
use Rattle.r4_put_tasks.specs.r4_build.r4_patch.Joining.{patch_of_change}
use Rattle.r4_put_tasks.specs.r4_build.r4_reach.Touched.{Body}
use Rattle.r4_content.specs.Edited.{Edits}
use Rattle.r4_put_tasks.proofs.PutMoves as puts
use Rattle.r4_put_tasks.proofs.r4_extent_put.Found.{can_put}
use Rattle.r4_put_tasks.specs.r4_extent_put.Putting.{CanPut}
use Rattle.r4_put_tasks.specs.r4_extent_put.Taking.{twigs_putting}
use Rattle.r4_put_tasks.specs.r4_extent_put.Whole.{put_keys}
use Rattle.r4_made.specs.Making.{IsAllowance, IsPlanned}
use Rattle.r4_made.specs.Putting.{MayBePut}
use Rattle.r4_put_tasks.specs.r4_extent_put.r4_extent_demands.r4_leaf_demands.Leaves.{IsInLeaves}

pub can_be_put : (task : Task) (b : Option Body) (e : Edits) (table : List Allowance) → MayBePut task b e
    → IsAllowance task task.writes (twigs_putting b e task.writes) table → (t : Store Value) (r : Root) → IsTaskIn t r task
    → CanPut b e (budget_of table) t (root_of_pair task.scope.root) task.fresh task.writes
can_be_put task b e table may allowance t r is =
    let measure = allowance.measure t r is in
    subst (λ (q : Root). CanPut b e (budget_of table) t q task.fresh task.writes) (sym is.root)
    (can_put b e (budget_of table) t r task.fresh task.writes may.may is.cells_in is.names measure.measured measure.quiet
    is.unplaced allowance.suffices)

pub put_moves : (task : Task) (b : Option Body) (e : Edits) (d : Change) → IsPlanned task e b → MayBePut task b e
    → HasEffect (patch_of_change d) (put_keys b e task.writes) (set_by e) → IsMove task (patch_of_change d)
put_moves task b e d planned may effect =
    puts.is_move task (patch_of_change d)
    (record {
      in_leaves = subst IsInLeaves planned.body may.may.in_leaves;
      keys = subst HaveLawfulKeys planned.edits may.keys;
      twigs = may.twigs;
      effect = subst (λ (x : Option Body). HasEffect (patch_of_change d) (put_keys x (edits_for task) task.writes)
          (set_by (edits_for task))) planned.body
          (subst (λ (f : Edits). HasEffect (patch_of_change d) (put_keys b f task.writes) (set_by f)) planned.edits effect);
    })
