use Rattle.std.proofs.Common.{take}
use Rattle.r4_replay.specs.Overlaps.{Adds}
use Rattle.r4_replay.proofs.overlap.keep.Given as goal

abbrev pub invariant-loop-block : goal.invariant-loop-block
invariant-loop-block l = Adds l.fn.kept (take l.block-index l.blocks) l.kept
