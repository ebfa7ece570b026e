use Rattle.r4_measure.proofs.FreshReach.{fresh_reached}
use Rattle.r4_measure.proofs.examples.fresh_volumes_are_reached.Goals as goal

pub returns : goal.returns
returns c = λ twig leaf a is_twig is_leaf. fresh_reached twig leaf is_twig is_leaf a
