use Rattle.std.proofs.Common.{List, ◌∙◌, ap}
use Rattle.r4_check_objects.specs.Objects.{object_faults}
use Rattle.r4_check_objects.specs.declared.held.Held.{Held}
use Rattle.r4_check.specs.Walk.{judged}
use Rattle.r4_check.proofs.Judged.{judged_all, judged_extends, judged_none}
use Rattle.r4_check.proofs.Steps.{steps_none}
use Rattle.r4_check.proofs.objects.tell_objects.Goals as goal

pub returns-in_err-faults-clause-steps : goal.returns-in_err-faults-clause-steps
returns-in_err-faults-clause-steps g c blocks =
    let s = c.args.settled.now.found.super40 in
    steps_none blocks _ _ _ _ c.from_residual.result (judged s) c.from_residual.ensures.1 (judged_extends s)

pub returns-clause-steps : goal.returns-clause-steps
returns-clause-steps g c blocks =
    let s = c.args.settled.now.found.super40 in
    judged_all blocks s _ _ c.args.tally.now _ c.tell_all.result c.deref-2.result.now c.unwrap_or-leaf.result c.if-not-tally.false c.unwrap_or-leaf.ensures (c.deref-2.ensures.value ∙ c.in_ok-faults.ensures ∙ ap (λ (l : List Held). object_faults s c.unwrap_or-leaf.result l) c.deref.ensures.value) (c.tell_all.ensures.steps blocks)
