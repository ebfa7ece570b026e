use Rattle.r4_durable.proofs.Opened.{alike_means, begins_lawfully, kept_now, opens_safely}
use Rattle.r4_durable.proofs.kept.openings_keep_volumes.Goals as goal

pub returns : goal.returns
returns g c =
    let old = g.D.Device.state c.args.old.now in
    let new = g.D.Device.state c.args.new.now in
    record {
      alike = alike_means;
      lawful = begins_lawfully;
      moments = λ b limit on goes always. opens_safely b limit old new on goes always;
      kept = λ b limit job o count on goes put crashes has.
          kept_now limit b job o old new count on goes put crashes has;
    }
