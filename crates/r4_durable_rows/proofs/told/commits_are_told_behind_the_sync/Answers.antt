use Rattle.r4_durable_rows.proofs.ToldEarly.{too_early, unsynced}
use Rattle.r4_durable_rows.proofs.told.commits_are_told_behind_the_sync.Goals as goal

pub returns : goal.returns
returns g c =
    let before = g.D.Device.state c.args.old.now in
    let now = g.D.Device.state c.args.new.now in
    record {
      unsynced = λ at block answer tells wrote. unsynced at block before now answer tells wrote;
      too_early = λ limit b older atom t clock image ordered from by left old changes safe.
          too_early limit b older atom t clock image now ordered from by left old changes safe;
    }
