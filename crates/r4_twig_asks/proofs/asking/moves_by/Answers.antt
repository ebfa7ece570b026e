use Rattle.std.proofs.Common.{◌≡◌, ap, refl, sym, ◌∙◌}
use Rattle.std.specs.Prelude.{nat_lt, ◌&&◌}
use Rattle.r4_base.specs.Key.{rank}
use Rattle.r4_extent_demands.specs.r4_cell.Seen.{node_of}
use Rattle.r4_extent_demands.proofs.r4_leaf_edits.Touched.{or_false, or_true}
use Rattle.r4_extent_demands.proofs.r4_marking.r4_path.Rising.{hi_is, lo_is}
use Rattle.r4_extent_demands.specs.r4_marking.r4_reach.Touched.{coming}
use Rattle.r4_twig_asks.proofs.asking.moves_by.Goals as goal

pub returns-then-is_within : goal.returns-then-is_within
returns-then-is_within c =
    let b = c.args.body.now in
    let n = node_of c.args.node.now in
    let come = c.coming-coming.ensures in
    let at : rank c.lo.result ≡ n.lo = ap rank c.lo.ensures ∙ sym (lo_is c.args.node.now) in
    let low = c.is_within.ensures ∙ (λ i. nat_lt (come.from i) (at i) && nat_lt (at i) (come.to i)) in
    low ∙ or_true (nat_lt (coming b).0 n.lo && nat_lt n.lo (coming b).1)
    (nat_lt (coming b).0 n.hi && nat_lt n.hi (coming b).1) _ refl (sym low ∙ c.if-is_within.true)

pub returns-else-is_within : goal.returns-else-is_within
returns-else-is_within c =
    let b = c.args.body.now in
    let n = node_of c.args.node.now in
    let come = c.coming-coming.ensures in
    let at : rank c.lo.result ≡ n.lo = ap rank c.lo.ensures ∙ sym (lo_is c.args.node.now) in
    let end : rank c.hi.result ≡ n.hi = ap rank c.hi.ensures ∙ sym (hi_is c.args.node.now) in
    let low = c.is_within.ensures ∙ (λ i. nat_lt (come.from i) (at i) && nat_lt (at i) (come.to i)) in
    let high = c.is_within-else-is_within.ensures ∙ (λ i. nat_lt (come.from i) (end i) && nat_lt (end i) (come.to i)) in
    high ∙ or_false (nat_lt (coming b).0 n.lo && nat_lt n.lo (coming b).1)
    (nat_lt (coming b).0 n.hi && nat_lt n.hi (coming b).1) _ refl (sym low ∙ c.if-is_within.false)
