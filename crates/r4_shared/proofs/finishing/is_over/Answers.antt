use Rattle.std.proofs.Common.{None, subst}
use Rattle.r4_shared.specs.Finishing.{AllAnswered}
use Rattle.r4_shared.proofs.Steps.{over}
use Rattle.r4_shared.proofs.finishing.is_over.Goals as goal

pub returns-then-is_at_rest-clause-whole : goal.returns-then-is_at_rest-clause-whole
returns-then-is_at_rest-clause-whole g c = λ all.
    let core = c.args.core.now in
    let r = c.is_at_rest.ensures in
    let is = c.if-is_at_rest.true in
    c.runs_are_whole.ensures _ _ _ _ _ (c.lawful.ensures.kept.history.told None tt)
    (over core (r.sound is) (r.rests is) (r.none is) (subst AllAnswered c.turns.ensures (c.are_answered.ensures all)))
