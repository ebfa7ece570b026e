use Rattle.std.proofs.Common.{arith}
use Rattle.r4_base.specs.Key.{rank}
use Rattle.r4_work.proofs.r4_graft.Placed.{place_within}
use Rattle.r4_row_gather.proofs.parting.parted.Goals as goal

pub parted_at-requires-clause-end : goal.parted_at-requires-clause-end
parted_at-requires-clause-end c =
    let most = c.max-end.ensures in
    let begin = c.place_in_twig-begin.ensures in
    let at = c.place_of.ensures in
    let within = place_within (rank c.args.keys.now.to) c.args.pieces.now in
    omega (arith, most, begin, at, within)

pub parted_at-requires-3-clause-end : goal.parted_at-requires-3-clause-end
parted_at-requires-3-clause-end c =
    let most = c.max-end.ensures in
    let begin = c.place_in_twig-begin.ensures in
    let at = c.place_of.ensures in
    let within = place_within (rank c.args.keys.now.to) c.args.pieces.now in
    omega (arith, most, begin, at, within)
