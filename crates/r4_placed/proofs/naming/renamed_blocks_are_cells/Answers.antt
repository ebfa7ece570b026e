use Rattle.r4_placed.proofs.RenamingItems.{cell_renamed}
use Rattle.r4_placed.proofs.naming.renamed_blocks_are_cells.Goals as goal

pub returns : goal.returns
returns g = cell_renamed
