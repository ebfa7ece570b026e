use Rattle.r4_run.specs.Showing.{text_shown}
use Rattle.r4_run.proofs.Ends.{ran_told}
use Rattle.r4_run.proofs.running.run_through.Goals as goal

pub returns-clause-ran : goal.returns-clause-ran
returns-clause-ran g c =
    ran_told (text_shown c.args.shown) g.N.Run.start g.N.Run.clock _ (g.E.Device.state c.args.dev) (g.E.Device.state c.serve_job-dev.result.dev)
    _ _ _ c.faults-before.result c.serve_job-dev.result.end c.tell_end-code.result c.faults-before.ensures
    c.serve_job-dev.ensures.served c.tell_end-code.ensures
