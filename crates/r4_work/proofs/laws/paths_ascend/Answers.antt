use Rattle.r4_work.specs.Working.{now_of, root_of, standing}
use Rattle.r4_work.proofs.InPlace.{now_part, standing_is}
use Rattle.r4_work.proofs.Paths.{names_next, path_ascends}
use Rattle.r4_work.proofs.laws.paths_ascend.Goals as goal

pub returns : goal.returns
returns c = record {
  named = λ s r b x k part sb sx one up at_b at_x. names_next s r part b x k sb sx one up at_b at_x;
  ascends = λ t r f w k is.
      path_ascends (now_of w t) (root_of w r) (now_part t r f w is) (standing w) (standing_is t r f w is) k;
}
