use Rattle.r4_cde.proofs.Spelled.{spelled_first, spelled_second, spelled_third}
use Rattle.r4_cde.proofs.short.byte_of.Goals as goal
use Rattle.r4_cde.proofs.short.byte_of.Goals.{in-0-to-6, in-7-to-14, in_default}
use Rattle.std.proofs.Common.{arith}

pub returns : goal.returns
returns c = elim c.if-i-lt7.branch [
  | in-0-to-6 w ↦ rw w.number-is (spelled_first c.args.key.now c.args.i (omega arith))
  | in-7-to-14 w ↦ rw w.number-is (spelled_second c.args.key.now c.args.i (omega arith) (omega arith))
  | in_default w ↦ rw w.number-is (spelled_third c.args.key.now c.args.i (omega arith) (omega arith))
]
