use Rattle.r4_history.proofs.Told.{told_end, told_last}
use Rattle.r4_history.proofs.transactions.transactions_end.Goals as goal

pub returns : goal.returns
returns c = record { end = told_end; last = told_last }
