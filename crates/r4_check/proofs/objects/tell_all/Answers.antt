use Rattle.std.proofs.Common.{◌+◌, List, take, ap}
use Rattle.std.proofs.lemmas.List.{take_all}
use Rattle.r4_check.specs.Walk.{with_faults}
use Rattle.r4_check.proofs.Judged.{part_extends, told_more, told_none}
use Rattle.r4_check.proofs.Steps.{steps_as, steps_ended, tells_ended, tells_same, tells_then}
use Rattle.r4_check_objects.specs.declared.fault.Fault.{Fault}
use Rattle.r4_check.proofs.objects.tell_all.Goals as goal

pub loop-fault-init : goal.loop-fault-init
loop-fault-init g c = (tells_same _ _ (tt {0}), λ blocks. told_none blocks _ _ (tt {0}))

pub returns-in_err-tell_wrong-clause-tells : goal.returns-in_err-tell_wrong-clause-tells
returns-in_err-tell_wrong-clause-tells g c = tells_ended _ _ _ _ _ c.from_residual.result c.from_residual.ensures.1 (tells_then _ _ _ _ _ _ _ _ c.loop-fault.invariant.0 c.in_err-tell_wrong.ensures.tells)

pub returns-in_err-tell_wrong-clause-steps : goal.returns-in_err-tell_wrong-clause-steps
returns-in_err-tell_wrong-clause-steps g c blocks =
    steps_ended blocks _ _ _ _ _ c.from_residual.result _ _ c.from_residual.ensures.1 (λ w. part_extends c.args.faults.now (c.loop-fault.fault-index + 1) w)
    (told_more blocks _ _ _ _ _ _ _ _ c.args.faults.now c.loop-fault.fault-index _ c.loop-fault-test.true (c.loop-fault.invariant.1 blocks) (c.in_err-tell_wrong.ensures.steps blocks))

pub loop-fault-preserved : goal.loop-fault-preserved
loop-fault-preserved g c = (
  tells_then _ _ _ _ _ _ _ _ c.loop-fault.invariant.0 c.in_ok-tell_wrong.ensures.tells,
  λ blocks. told_more blocks _ _ _ _ _ _ _ _ c.args.faults.now c.loop-fault.fault-index _ c.loop-fault-test.true (c.loop-fault.invariant.1 blocks) (c.in_ok-tell_wrong.ensures.steps blocks),
)

pub returns-clause-tells : goal.returns-clause-tells
returns-clause-tells g c = c.loop-fault.invariant.0

pub returns-clause-steps : goal.returns-clause-steps
returns-clause-steps g c blocks =
    steps_as blocks _ _ _ _ _ (with_faults (take c.loop-fault.fault-index c.args.faults.now)) (with_faults c.args.faults.now) (λ w h. ap (λ (l : List Fault). with_faults l w) (take_all c.loop-fault.fault-index c.args.faults.now c.loop-fault-test.false)) (c.loop-fault.invariant.1 blocks)
