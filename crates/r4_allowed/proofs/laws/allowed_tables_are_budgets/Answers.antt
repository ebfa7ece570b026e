use Rattle.r4_allowed.proofs.Allowed.{measure}
use Rattle.r4_allowed.proofs.laws.allowed_tables_are_budgets.Goals as goal

pub returns : goal.returns
returns c t r f cells table task is = measure t r f cells table task is
