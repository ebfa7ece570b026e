-- What was built of a task is a change of its cells, and counts at most one object that comes and one that goes.
use Rattle.std.proofs.Common.{◌≡◌, ◌⊎◌, ◌∙◌, ◌<◌, ◌≤◌, ◌&&◌, Bool, true, false, List, Contains, sym, subst}
use Rattle.std.proofs.Common.{arith, if◌then◌else◌, length}
use Rattle.std.specs.Arc.{arc_value}
use Rattle.r4_taking.specs.r4_build.Built.{BuiltSeen, IsBuildable, IsBuilt, IsTaskIn, reply_for}
use Rattle.r4_taking.specs.r4_cell.Patch.{by_name, root_of_pair}
use Rattle.r4_taking.specs.r4_cell.Seen.{CellSeen}
use Rattle.r4_taking.specs.r4_cell.declared.change.Fresh.{Fresh}
use Rattle.r4_taking.specs.r4_cell.declared.change.Root.{Root}
use Rattle.r4_content.specs.Counts.{is_okay}
use Rattle.r4_content.specs.Edited.{Pairs}
use Rattle.r4_content.specs.Fields.{HasBytePaths}
use Rattle.r4_content.specs.Held.{pairs_of}
use Rattle.r4_content.specs.Meaning.{makes_object}
use Rattle.r4_content.specs.declared.command.Command.{Command}
use Rattle.r4_counted.proofs.Taken.{takes_one}
use Rattle.r4_counted.specs.r4_patch.Joining.{ids_of}
use Rattle.r4_counted.specs.r4_suited.Suited.{AreLawfulSeen}
use Rattle.r4_taking.specs.r4_turns.declared.out.Out.{Out}
use Rattle.r4_taking.specs.r4_turns.declared.out.Scope.{Scope}
use Rattle.r4_taking.specs.r4_kept.TasksOut.{IsGiven}
use Rattle.r4_taking.specs.r4_kept.View.{CoreSeen}
use Rattle.r4_done.specs.Done.{IsChangeOf}

-- The built task is the one that is out: its command, the cells that it writes, its numbers, and what was seen for it.
-- So it may be built where the task was given that.
module _ (out : Out) (x : Command) (y : BuiltSeen) (built : IsBuilt y) (command : y.task.command ≡ x)
    (writes : y.task.writes ≡ out.writes) (fresh : y.task.fresh ≡ out.numbers.fresh)
    (scope : y.task.scope ≡ out.scope) (seen : pairs_of (arc_value y.task.seen) ≡ pairs_of (arc_value out.seen)) where
  module _ (tree : Root) (g : IsGiven tree x out) where
    is_task : IsTaskIn (by_name g.met) (root_of_pair g.root) y.task
    is_task =
        let t = by_name g.met in
        let top = root_of_pair g.root in
        let s = pairs_of (arc_value y.task.seen) in
        subst (λ (z : Command). IsBuildable z s y.task.scope t top y.task.fresh y.task.writes) (sym command)
        (subst (λ (z : Scope). IsBuildable x s z t top y.task.fresh y.task.writes) (sym scope)
        (subst (λ (l : List CellSeen). IsBuildable x s out.scope t top y.task.fresh l) (sym writes)
        (subst (λ (f : Fresh). IsBuildable x s out.scope t top f out.writes) (sym fresh)
        (subst (λ (z : Pairs). IsBuildable x z out.scope t top out.numbers.fresh out.writes) (g.seen ∙ sym seen) g.can))))

  pub built_is_change : {D : Type 0} (c : CoreSeen D) → IsChangeOf c out x y.change
  built_is_change c = record {
    is = built.change;
    reached = λ z has. subst (λ (l : List CellSeen). Contains l z) writes (built.old z has);
    numbered = λ z has.
        subst (λ (f : Fresh). Contains (ids_of y.change.old) z.id ⊎ ((f.next ≤ z.id) × (z.id < f.end))) fresh
        (built.new z has);
    meets = λ g. built.meets (by_name g.met) (root_of_pair g.root) (is_task c.tree g);
    few = subst (λ (z : Scope). length y.change.new ≤ z.most) scope built.few;
  }

pub one_made : (y : BuiltSeen) → IsBuilt y → y.objects.born ≤ 1
one_made y built = let e = built.born in let few = by (makes_object y.task.command && is_okay (reply_for y.task)) in
    omega (arith, e, few)
  where
    by : (b : Bool) → (if b then 1 else 0) ≤ 1
    by true = omega arith
    by false = omega arith

pub one_gone : (y : BuiltSeen) → IsBuilt y → HasBytePaths y.task.command
    → AreLawfulSeen y.task.command (pairs_of (arc_value y.task.seen)) → y.objects.gone ≤ 1
one_gone y built bytes lawful =
    let e = built.gone in
    let few = takes_one y.task.command (pairs_of (arc_value y.task.seen)) lawful bytes in
    omega (arith, e, few)
