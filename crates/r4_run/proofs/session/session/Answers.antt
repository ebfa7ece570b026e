use Rattle.r4_run.specs.Showing.{text_shown}
use Rattle.r4_run.proofs.Closing.{served_so, unopened_so}
use Rattle.r4_run.proofs.session.session.Goals as goal

pub returns-in-Err : goal.returns-in-Err
returns-in-Err g c = record {
  served = unopened_so (text_shown c.args.shown) g.N.Run.start g.N.Run.clock g.N.Run.scripts c.requires.named.text c.args.job
      c.requires.named.scripts_are c.requires.named.spells (g.E.Device.state c.args.dev)
      (g.E.Device.state c.in-Err.field-0.dev) (g.K.Sink.state c.args.out.now) (g.K.Sink.state c.args.out.now)
      c.in-Err.field-0.why
      c.in-Err.ensures.refused.1 c.in-Err.ensures.safe;
}

pub returns-in-Ok : goal.returns-in-Ok
returns-in-Ok g c = record {
  served = served_so (text_shown c.args.shown) g.N.Run.start g.N.Run.clock g.N.Run.scripts c.requires.named.text c.args.job
      c.requires.named.scripts_are c.requires.named.spells (g.E.Device.state c.args.dev)
      (g.E.Device.state c.close-dev.result.0) _ _ c.close-dev.result.1 c.close-dev.result.2
      c.in-Ok.ensures.opened.is_found.size c.close-dev.ensures;
}
