use Rattle.std.proofs.Common.{◌≡◌}
use Rattle.std.specs.Prelude.{take}
use Rattle.r4_base.specs.Key.{rank}
use Rattle.r4_graft.specs.Splices.{parted}
use Rattle.r4_extent_demands.proofs.parting.part_each.Given as goal

abbrev pub invariant-loop-piece : goal.invariant-loop-piece
invariant-loop-piece l = l.parts.items ≡ parted (rank l.key) (take l.piece-index l.pieces)
