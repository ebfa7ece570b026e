use Rattle.std.proofs.Common.{arith}
use Rattle.r4_base.specs.Key.{rank}
use Rattle.r4_work.proofs.r4_graft.Placed.{place_within}
use Rattle.r4_row_gather.proofs.parting.place_in_twig.Goals as goal

pub returns-in_default : goal.returns-in_default
returns-in_default c =
    let less = c.saturating_sub.ensures in
    let at = c.place_of-at.ensures in
    let within = place_within (rank c.args.keys.now.from) c.args.pieces.now in
    omega (arith, less, at, within)
