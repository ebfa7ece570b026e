use Rattle.r4_suited.proofs.Suits.{command_suits, told_suits}
use Rattle.r4_suited.proofs.laws.plans_suit_leaves.Goals as goal

pub returns : goal.returns
returns g = record {
  body = λ c s in_extents bytes r lawful. command_suits c s in_extents bytes r lawful;
  told = λ c s in_extents spread bytes r lawful told. told_suits c s in_extents spread bytes r lawful told;
}
