use Rattle.std.proofs.Common.{arith, true}
use Rattle.r4_base.specs.Key.{rank}
use Rattle.r4_cell.proofs.Faults.{stands}
use Rattle.r4_cell.proofs.reading.new_cell.Goals as goal

pub invariant_of-new : goal.invariant_of-new
invariant_of-new c = stands true 18446744073709551616 18446744073709551616 c.args.level (rank c.args.lo) (rank c.args.hi) c.args.block (omega arith) c.requires
