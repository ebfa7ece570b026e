use Rattle.r4_history.proofs.TaskSteps.{begun_follow, captured_follow, cleaned_follow, ended_follow, fused_follow, renamed_follow, state_follow}
use Rattle.r4_history.proofs.tasks.tasks_keep_their_owners.Goals as goal

pub returns : goal.returns
returns c = record {
  begins = begun_follow;
  ends = ended_follow;
  fuses = fused_follow;
  states = state_follow;
  cleaned = cleaned_follow;
  captured = captured_follow;
  renamed = renamed_follow;
}
