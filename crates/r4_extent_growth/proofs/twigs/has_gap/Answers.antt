use Rattle.std.proofs.Common.{arith, sym}
use Rattle.std.proofs.lemmas.List.{length-take-le}
use Rattle.r4_base.specs.Key.{rank}
use Rattle.r4_twig_asks.proofs.r4_graft.Placed.{place_within}
use Rattle.r4_extent_growth.proofs.twigs.has_gap.Goals as goal

pub slice_bounds-before-end : goal.slice_bounds-before-end
slice_bounds-before-end c =
    let within = place_within (rank c.coming-coming.result.from) c.args.pieces.now in
    let at = c.place_of.ensures in
    sym (length-take-le c.place_of.result c.args.pieces.now (omega (arith, within, at)))
