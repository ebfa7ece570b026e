use Rattle.r4_suited.specs.Suited.{IsLawfulSeen}
use Rattle.r4_suited.proofs.Cells.{cell_lawful, reach_lawful}
use Rattle.r4_suited.proofs.Walked.{at_found}
use Rattle.r4_suited.proofs.laws.accepted_cells_are_lawful.Goals as goal

pub returns : goal.returns
returns g = record {
  cell = λ in_memory blocks level lo hi b h. cell_lawful in_memory blocks level lo hi b h;
  reach = λ root c met reads writes rises h accepted. reach_lawful root c met reads writes rises h accepted;
  list = λ c s all k v on at. at_found IsLawfulSeen s k v all at;
}
