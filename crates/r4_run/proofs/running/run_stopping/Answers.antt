use Rattle.std.proofs.Common.{sym}
use Rattle.r4_devices.specs.Stop.{told}
use Rattle.r4_run.specs.Showing.{text_shown}
use Rattle.r4_run.proofs.Ends.{over_starved, over_told}
use Rattle.r4_run.proofs.running.run_stopping.Goals as goal

pub returns-then-starved-clause-ran : goal.returns-then-starved-clause-ran
returns-then-starved-clause-ran g c =
    let served = c.serve_job-dev in
    let told_memory = c.tell_memory-code in
    over_starved (text_shown c.args.shown) g.N.Run.start g.N.Run.clock _ (told g.E.Device.state c.args.dev)
    (told g.E.Device.state served.result.dev)
    _ _ _ served.result.end told_memory.result served.result.dev.starved (sym c.if-starved.ensures)
    told_memory.ensures.code served.ensures.served told_memory.ensures.line

pub returns-clause-ran : goal.returns-clause-ran
returns-clause-ran g c =
    let served = c.serve_job-dev in
    over_told (text_shown c.args.shown) g.N.Run.start g.N.Run.clock _ (told g.E.Device.state c.args.dev)
    (told g.E.Device.state served.result.dev)
    _ _ _ c.faults-before.result served.result.end c.tell_end-code.result served.result.dev.starved
    (sym c.if-starved.ensures) c.faults-before.ensures served.ensures.served c.tell_end-code.ensures
