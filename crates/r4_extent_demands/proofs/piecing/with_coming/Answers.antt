use Rattle.std.proofs.Common.{arith}
use Rattle.r4_base.specs.Key.{rank}
use Rattle.r4_graft.proofs.Placed.{place_within}
use Rattle.r4_extent_demands.proofs.piecing.with_coming.Goals as goal

pub splice-requires-clause-from : goal.splice-requires-clause-from
splice-requires-clause-from c =
    let within = place_within (rank c.coming.result.from) c.args.pieces.now in
    let at = c.place_of-at.ensures in
    omega (arith, within, at)

pub splice-requires-clause-to : goal.splice-requires-clause-to
splice-requires-clause-to c =
    let within = place_within (rank c.coming.result.from) c.args.pieces.now in
    let at = c.place_of-at.ensures in
    omega (arith, within, at)
