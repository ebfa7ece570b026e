use Rattle.r4_build.proofs.FreshBuilt.{fresh_built, fresh_suits}
use Rattle.r4_build.proofs.examples.fresh_volumes_can_be_built_on.Goals as goal

pub returns-clause-can : goal.returns-clause-can
returns-clause-can c = λ twig leaf a is_twig is_leaf. fresh_built twig leaf is_twig is_leaf a

pub returns-clause-suits : goal.returns-clause-suits
returns-clause-suits c = λ a good. fresh_suits a good
