use Rattle.std.proofs.Common.{subst}
use Rattle.r4_back.specs.r4_core.Doing.{IsDoable}
use Rattle.r4_apply.proofs.working.done_in.Goals as goal

pub done_single-requires-clause-can : goal.done_single-requires-clause-can
done_single-requires-clause-can g c κs within =
    let w = c.args.within in
    subst (λ b. IsDoable c.args.core.now c.args.script (record { txn = w.txn; single = b }) c.args.made c.args.atom)
    c.if-within.true c.requires.can

pub done-requires-clause-can : goal.done-requires-clause-can
done-requires-clause-can g c κs within =
    let w = c.args.within in
    subst (λ b. IsDoable c.args.core.now c.args.script (record { txn = w.txn; single = b }) c.args.made c.args.atom)
    c.if-within.false c.requires.can
