use Rattle.std.proofs.Common.{◌∙◌, ap, sym}
use Rattle.r4_turns.specs.Turns.{turn_at}
use Rattle.r4_back.proofs.refusing.refuse_within.Goals as goal

pub unreachable-requires : goal.unreachable-requires
unreachable-requires g c =
    let (out, is) = c.requires.out in
    let served = c.lawful.ensures.kept.tables.tasks.served c.args.script.0 out is in
    let at = c.open.ensures ∙ ap (λ t. (turn_at t c.args.script.0).transaction) c.turns.ensures in
    absurd (cc (sym c.in-None.is ∙ at ∙ served.transaction))
