use Rattle.r4_extent_reaching.proofs.Told.{told_is_so}
use Rattle.r4_extent_reaching.proofs.laws.told_kinds_are_so.Goals as goal

pub returns : goal.returns
returns c = λ p q root met b g at told. told_is_so p q root met b g at told
