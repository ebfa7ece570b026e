use Rattle.std.proofs.Common.{None, subst}
use Rattle.r4_print.specs.Printing.{Prints}
use Rattle.r4_run.specs.Showing.{text_shown}
use Rattle.r4_run.proofs.Closing.{closed_so}
use Rattle.r4_run.proofs.session.close.Goals as goal

pub returns : goal.returns
returns g c =
    let core = c.args.core in
    let d = c.into_device-dev.ensures in
    let kept = c.lawful.ensures.kept.history in
    let printed = c.print_shown-printed in
    let prints = subst (λ t. Prints (text_shown c.args.shown t.entries) (g.K.Sink.state c.args.out.now) printed.result
    (g.K.Sink.state printed.new.out)) c.trace.ensures printed.ensures in
    closed_so (text_shown c.args.shown) g.N.Run.start g.N.Run.clock g.N.Run.scripts core (g.E.Device.state c.into_device-dev.result)
    d.legal d.time d.safe d.content kept.job (kept.told None tt).broken c.standing_of-standing.result
    printed.result _ _ c.standing_of-standing.ensures prints
