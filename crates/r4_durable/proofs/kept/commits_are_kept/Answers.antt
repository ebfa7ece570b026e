use Rattle.r4_durable.proofs.Commits.{means_again}
use Rattle.r4_durable.proofs.kept.commits_are_kept.Goals as goal

pub returns : goal.returns
returns g = λ limit b job x small h will lost later image end now more goes session defers clock.
    means_again g.on_disk_law.ensures limit small b job x h will lost later image end now more goes session defers clock
