use Rattle.std.proofs.Common.{subst, sym}
use Rattle.std.specs.Prelude.{IfOk}
use Rattle.r4_outside.proofs.Lent.{lent_name}
use Rattle.r4_serve.specs.Serving.{Asks, parts_seen}
use Rattle.r4_serve.proofs.Lent.{lent_ok}
use Rattle.r4_serve.proofs.asking.ask.Goals as goal

pub returns-clause-asks : goal.returns-clause-asks
returns-clause-asks g c =
    let d = g.D.Device.state in
    let parts = parts_seen c.args.parts.now in
    let back = c.ask_over-back.result.0 in
    subst (λ z. IfOk c.ask_over-back.result.1 (Asks (d c.args.dev.now) (d z) parts c.args.command.now))
    (sym (c.dev-1.given.1 (sym (lent_name c.ask_over-back.ensures.device.goes.lender))))
    (lent_ok _ back.ghost_name (d c.args.dev.now) (d back.now) parts c.args.command.now c.ask_over-back.result.1
    c.ask_over-back.ensures.asks)
