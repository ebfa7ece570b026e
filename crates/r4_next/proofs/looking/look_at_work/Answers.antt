use Rattle.std.proofs.Common.{subst, sym}
use Rattle.r4_next.specs.Taking.{IsLooked}
use Rattle.r4_next.proofs.Found.{work_looked}
use Rattle.r4_next.proofs.looking.look_at_work.Goals as goal

pub returns-clause-ok : goal.returns-clause-ok
returns-clause-ok g c =
    let core = c.args.core.now in
    let d = g.D.Device.state in
    subst (IsLooked d core c.serve.new.core c.args.script) (sym c.looked_as.ensures)
    (work_looked d core c.serve.new.core c.args.script c.requires.sound c.in_ok-served.served c.in_ok-served.ensures.ok)
