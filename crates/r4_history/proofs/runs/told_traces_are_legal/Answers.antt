use Rattle.r4_history.proofs.RunSteps.{commit_is, open_in_both, told_legal}
use Rattle.r4_history.proofs.runs.told_traces_are_legal.Goals as goal

pub returns : goal.returns
returns c = record { legal = told_legal; begun = open_in_both; commit = commit_is }
