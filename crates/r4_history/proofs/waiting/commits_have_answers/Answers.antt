use Rattle.r4_history.proofs.WaitingSteps.{all_committed, flush_is_closed}
use Rattle.r4_history.proofs.waiting.commits_have_answers.Goals as goal

pub returns : goal.returns
returns c = record { committed = all_committed; flush = flush_is_closed }
