use Rattle.std.proofs.Common.{map, take}
use Rattle.r4_commit.proofs.HeldBlocks.{IsHolding}
use Rattle.r4_commit.proofs.holding.hold_blocks.Given as goal

abbrev pub invariant-loop-block : goal.invariant-loop-block
invariant-loop-block l = IsHolding l.fn.space l.space l.atom (map (λ b. b.0) (take l.block-index l.blocks))
