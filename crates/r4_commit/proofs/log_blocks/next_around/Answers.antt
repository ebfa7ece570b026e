use Rattle.std.proofs.Common.{arith}
use Rattle.r4_place.proofs.ChosenCells.{none_unused}
use Rattle.r4_commit.proofs.log_blocks.next_around.Goals as goal

pub unreachable-requires : goal.unreachable-requires
unreachable-requires c = let none = none_unused c.args.space.now c.in-None.ensures.none in absurd (omega (arith, none, c.requires))
