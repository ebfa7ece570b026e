use Rattle.r4_history.proofs.Told.{told_begin, told_single}
use Rattle.r4_history.proofs.transactions.transactions_begin.Goals as goal

pub returns : goal.returns
returns c = record { begin = told_begin; single = told_single }
