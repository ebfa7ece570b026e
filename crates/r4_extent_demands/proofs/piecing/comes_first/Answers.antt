use Rattle.std.proofs.Common.{◌≡◌, ap, sym, ◌∙◌}
use Rattle.r4_base.specs.Key.{rank}
use Rattle.r4_bodies.specs.r4_cell.Seen.{node_of}
use Rattle.r4_bodies.specs.r4_leaf.Units.{is_between}
use Rattle.r4_bodies.proofs.r4_leaf_edits.r4_path.Rising.{hi_is, lo_is}
use Rattle.r4_extent_demands.proofs.piecing.comes_first.Goals as goal

pub returns : goal.returns
returns c =
    let n = node_of c.args.twig.now in
    let low : rank c.lo.result ≡ n.lo = ap rank c.lo.ensures ∙ sym (lo_is c.args.twig.now) in
    let high : rank c.hi.result ≡ n.hi = ap rank c.hi.ensures ∙ sym (hi_is c.args.twig.now) in
    c.has.ensures ∙ (λ i. is_between (low i) (high i) (c.coming.ensures.from i))
