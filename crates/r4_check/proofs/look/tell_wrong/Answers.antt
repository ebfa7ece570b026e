use Rattle.r4_check_objects.specs.Faults.{fault_at, fault_line}
use Rattle.r4_check.specs.Walk.{with_fault}
use Rattle.r4_check.specs.declared.stop.Stop.TheVariants.{Sink}
use Rattle.r4_check.proofs.Steps.{extends_same, steps_ended, tells_ended}
use Rattle.r4_check.proofs.Tallies.{steps_told, steps_untold, tells_cut, tells_wrong}
use Rattle.r4_check.proofs.look.tell_wrong.Goals as goal

pub returns-in_err-tell-clause-tells : goal.returns-in_err-tell-clause-tells
returns-in_err-tell-clause-tells g c = tells_ended _ _ _ _ Sink c.from_residual.result c.from_residual.ensures.1
    (tells_cut (fault_line (fault_at c.args.b c.in-Some.what)) _ _ _ _ c.in_err-tell.field-0.0 c.in_err-tell.ensures.printed c.in_err-tell.ensures.told)

pub returns-in_err-tell-clause-steps : goal.returns-in_err-tell-clause-steps
returns-in_err-tell-clause-steps g c blocks =
    steps_ended blocks _ _ _ _ Sink c.from_residual.result (with_fault c.args.b c.args.wrong) _ c.from_residual.ensures.1 (λ v. extends_same (with_fault c.args.b c.args.wrong v))
    (steps_untold blocks c.args.b c.args.wrong c.in-Some.what c.in-Some.is _ _ c.args.tally.now c.tell.new.self c.in_err-tell.field-0.0 c.in_err-tell.ensures.printed)

pub returns-clause-tells : goal.returns-clause-tells
returns-clause-tells g c = tells_wrong (fault_line (fault_at c.args.b c.in-Some.what)) _ _ _ _ c.in_ok-tell.field-0 (tt {0}) c.in_ok-tell.ensures.printed c.in_ok-tell.ensures.told

pub returns-clause-steps : goal.returns-clause-steps
returns-clause-steps g c blocks = steps_told blocks c.args.b c.args.wrong c.in-Some.what c.in-Some.is _ _ _ _ c.in_ok-tell.field-0 (tt {0}) c.in_ok-tell.ensures.printed c.in_ok-tell.ensures.told
