use Rattle.std.proofs.Common.{arith}
use Rattle.r4_logfmt.proofs.Pairs.{length-pairs_of, get-pairs_of}
use Rattle.r4_logfmt.proofs.record.LogRecord.pair.Goals as goal

pub pair_in-requires-clause-within : goal.pair_in-requires-clause-within
pair_in-requires-clause-within c = omega (arith, length-pairs_of c.args.self.now.block.now)

pub returns : goal.returns
returns c = rw (c.pair_in.ensures) (get-pairs_of c.args.i c.args.self.now.block.now c.requires)
