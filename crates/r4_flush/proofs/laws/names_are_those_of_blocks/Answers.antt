use Rattle.r4_flush.proofs.Joining.{cell_agrees, names_agree}
use Rattle.r4_flush.proofs.laws.names_are_those_of_blocks.Goals as goal

pub returns : goal.returns
returns c = record { names = names_agree; cells = cell_agrees }
