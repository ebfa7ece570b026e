use Rattle.r4_placed.proofs.ByBlock.{is_commit_by}
use Rattle.r4_placed.proofs.Planning.{is_commit, plannable}
use Rattle.r4_placed.proofs.plans.plans_can_be_made.Goals as goal

pub returns : goal.returns
returns g = record {
  plannable = plannable;
  commits = λ n work m p r plan. is_commit n work m r p plan;
  by_block = λ n work m p r plan. is_commit_by n work m r p plan;
}
