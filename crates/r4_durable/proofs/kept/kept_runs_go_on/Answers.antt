use Rattle.r4_durable.proofs.Flushes.{still_deferred}
use Rattle.r4_durable.proofs.GoingOn.{again, found, session_sealed, there}
use Rattle.r4_durable.proofs.kept.kept_runs_go_on.Goals as goal

pub returns-clause-session : goal.returns-clause-session
returns-clause-session g = λ limit b job c work plan small way. (
  session_sealed g.on_disk_law.ensures limit small b job c work plan way,
  still_deferred limit b job c work plan way.kept way.can,
)

pub returns-clause-found : goal.returns-clause-found
returns-clause-found g = λ limit b job c work plan small way more legal none.
    found g.on_disk_law.ensures limit small b job c work plan way more legal none

pub returns-clause-durable : goal.returns-clause-durable
returns-clause-durable g = λ limit b job c work plan small way more legal none.
    there g.on_disk_law.ensures limit small b job c work plan way more legal none

pub returns-clause-again : goal.returns-clause-again
returns-clause-again g = λ limit b job c work plan small way.
    again g.on_disk_law.ensures limit small b job c work plan way
