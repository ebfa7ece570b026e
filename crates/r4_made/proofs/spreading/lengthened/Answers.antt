use Rattle.std.proofs.Common.{List, map, subst, sym}
use Rattle.std.specs.Arc.{arc_value}
use Rattle.std.specs.Option.{IfSome}
use Rattle.r4_put_tasks.specs.r4_build.Built.{IsTaskIn}
use Rattle.r4_put_tasks.specs.r4_build.r4_measure.r4_cell.Patch.{place}
use Rattle.r4_put_tasks.specs.r4_build.r4_measure.r4_cell.Seen.{CellSeen}
use Rattle.r4_put_tasks.specs.r4_build.r4_patch.Joining.{patch_of_change}
use Rattle.r4_made.specs.Making.{IsMadeIn, over}
use Rattle.r4_made.proofs.Gathered.{built_over}
use Rattle.r4_made.proofs.Made.{made_of_own}
use Rattle.r4_made.proofs.spreading.lengthened.Goals as goal

pub returns-in-Some : goal.returns-in-Some
returns-in-Some c =
    let task = c.args.task.now in
    let d = c.in-Some.change in
    made_of_own task d (subst (λ (cells : List CellSeen). IsMadeIn task cells d) c.as_slice.ensures
    (subst (λ o. IfSome o (IsMadeIn task (map (λ x. arc_value x) c.as_slice.result.now))) c.in-Some.is
    c.in_ok-change.ensures))

pub lengthened_in-requires-2-clause-task : goal.lengthened_in-requires-2-clause-task
lengthened_in-requires-2-clause-task c =
    let task = c.args.task.now in
    let gathered = c.in_ok-gathered.gathered in
    let (t, (r, is)) = c.requires.task in
    let now = place (patch_of_change gathered.change) t in (
      now,
      (
        r,
        subst (λ (cells : List CellSeen). IsTaskIn now r (over task cells)) (sym c.as_slice-2.ensures)
            (built_over task gathered c.in_ok-gathered.ensures.gathered c.requires.outside t r is),
      ),
    )
