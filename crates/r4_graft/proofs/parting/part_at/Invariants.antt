use Rattle.std.proofs.Common.{◌≡◌}
use Rattle.std.specs.Prelude.{take}
use Rattle.r4_base.specs.Key.{rank}
use Rattle.r4_graft.specs.Splices.{parted}
use Rattle.r4_graft.proofs.parting.part_at.Given as goal

abbrev pub invariant-loop-piece : goal.invariant-loop-piece
invariant-loop-piece l = l.parted.items ≡ parted (rank l.key) (take l.piece-index l.pieces)
