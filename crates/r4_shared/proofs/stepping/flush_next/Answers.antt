use Rattle.std.proofs.Common.{None, inl, refl}
use Rattle.r4_history.proofs.WaitingSteps.{flush_is_closed}
use Rattle.r4_shared.proofs.stepping.flush_next.Goals as goal

pub flush-requires-clause-closed : goal.flush-requires-clause-closed
flush-requires-clause-closed g c κs within =
    let asked = c.requires.asked in
    flush_is_closed _ _ _ _ _ (c.lawful.ensures.kept.history.told None tt) asked.0 c.args.atom asked.1

pub returns-in-Ok : goal.returns-in-Ok
returns-in-Ok g c = inl (refl, c.in-Ok.ensures.sealed)
