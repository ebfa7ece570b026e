use Rattle.std.proofs.Common.{◌≡◌, take}
use Rattle.r4_outside.proofs.memory.copies.Given as goal

abbrev pub invariant-loop-block : goal.invariant-loop-block
invariant-loop-block l = l.copied.items ≡ take l.block-index l.blocks
