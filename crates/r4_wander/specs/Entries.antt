-- What an entry of a writer writes.
use Rattle.std.specs.Prelude.{ℕ, List}
use Rattle.std.specs.Arc.{arc_value}
use Rattle.r4_wander.specs.declared.entry.What.{What}
use Rattle.r4_wander.specs.declared.entry.What.TheVariants.{OfCell, OfBlock}
use Rattle.r4_wander.specs.declared.home_block.HomeBlock.{HomeBlock}
use Rattle.r4_wander.specs.declared.home_block.HomeBlock.TheVariants.{Made, OfCell as OfCellInMemory}

-- the bytes that are written: those of the cell's block, or of the block
abbrev pub bytes_of : What → List ℕ
bytes_of (OfCell cell) = (arc_value cell).block
bytes_of (OfBlock block) = arc_value block

-- the block of a home: the one that was made, or that of the cell in memory
abbrev pub block_of : HomeBlock → List ℕ
block_of (Made block) = block
block_of (OfCellInMemory cell) = (arc_value cell).block
