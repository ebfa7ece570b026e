use Rattle.std.proofs.Common.{arith}
use Rattle.r4_base.specs.Key.{rank}
use Rattle.r4_graft.proofs.Placed.{place_within}
use Rattle.r4_path.proofs.pieces.put_among.Goals as goal

pub splice-requires-clause-from : goal.splice-requires-clause-from
splice-requires-clause-from c = let at = c.place_of-at.ensures in let within = place_within (rank c.args.key.now) c.args.pieces.now in omega (arith, at, within)

pub splice-requires-clause-to : goal.splice-requires-clause-to
splice-requires-clause-to c = let at = c.place_of-at.ensures in let within = place_within (rank c.args.key.now) c.args.pieces.now in omega (arith, at, within)
