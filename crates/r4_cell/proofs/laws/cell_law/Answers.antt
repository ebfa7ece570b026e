use Rattle.r4_cell.proofs.Nodes.{cell_node, data_node}
use Rattle.r4_cell.proofs.FromImage.{reads}
use Rattle.r4_cell.proofs.laws.cell_law.Goals as goal

pub returns : goal.returns
returns c = record { data_block = data_node; node = cell_node; content = reads }
