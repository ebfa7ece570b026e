use Rattle.std.proofs.Common.{◌≡◌, ◌∙◌, inr, subst, sym}
use Rattle.r4_devices.specs.Stop.{stopped_after}
use Rattle.r4_shared.specs.r4_history.Tables.{asked}
use Rattle.r4_words.specs.Options.{asked_stop}
use Rattle.r4_run.specs.Showing.{text_shown}
use Rattle.r4_run.specs.Stopping.{RanStopped}
use Rattle.r4_run.proofs.Stopped.{stopped_view}
use Rattle.r4_run.proofs.running.run_stopped.Goals as goal

pub returns-in-Ok-clause-ran : goal.returns-in-Ok-clause-ran
returns-in-Ok-clause-ran g c =
    let state = g.E.Device.state in
    let stop = asked_stop c.args.stop in
    let old = g.K.Sink.state c.args.out.now in
    let run = c.run_stopping-dev in
    let new = g.K.Sink.state run.new.out in
    let below = c.into_inner-in-Ok.ensures in
    let made = subst (λ d. c.in-Ok.dev ≡ stopped_after d (state d).clock stop.writes stop.tear stop.pick)
    c.new-dev.ensures c.in-Ok.ensures.made in
    let ran = stopped_view state (text_shown c.args.shown) stop g.N.Run.start g.N.Run.clock (asked c.args.job) c.args.dev c.in-Ok.dev
    run.result.dev
    old new run.result.code made c.requires.begins run.ensures.goes below.covered below.tells below.reached
    run.ensures.ran in
    inr (subst (λ x. RanStopped (text_shown c.args.shown) stop g.N.Run.start g.N.Run.clock (asked c.args.job) (state c.args.dev) old
    run.result.code (state x) new) (sym (c.into_inner-in-Ok-2.ensures.device ∙ below.device)) ran)
