use Rattle.std.proofs.Common.{take}
use Rattle.r4_seal.specs.Checked.{AreClearBlocks}
use Rattle.r4_seal.proofs.checking.are_clear.Given as goal

abbrev pub invariant-loop-block : goal.invariant-loop-block
invariant-loop-block g l = AreClearBlocks l.core (take l.block-index l.blocks)
