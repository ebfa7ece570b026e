use Rattle.std.proofs.Common.{◌≡◌, ℕ, sym, ◌∙◌}
use Rattle.std.specs.Prelude.{nat_lt}
use Rattle.r4_base.specs.Key.{rank}
use Rattle.r4_extent_change.proofs.r4_measure.r4_path.Rising.{hi_is, lo_is}
use Rattle.r4_extent_change.specs.r4_measure.r4_cell.Seen.{CellSeen, node_of}
use Rattle.r4_extent_change.specs.r4_measure.r4_leaf.Units.{is_between}
use Rattle.r4_extent_change.specs.r4_measure.r4_reach.Touched.{coming}
use Rattle.r4_extent_growth.proofs.Tests.{and_off, and_on}
use Rattle.r4_extent_growth.proofs.twigs.comes_into.Goals as goal

in_range : (c : CellSeen) (k : ℕ) → is_between (rank c.lo) (rank c.hi) k ≡ is_between (node_of c).lo (node_of c).hi k
in_range c k = λ i. is_between (sym (lo_is c) i) (sym (hi_is c) i) k

pub returns-then-comes_first : goal.returns-then-comes_first
returns-then-comes_first c =
    let twig = c.args.twig.now in
    let at = (coming c.args.body.now).0 in
    and_on _ _ c.is_below.result (in_range twig at ∙ sym c.comes_first.ensures ∙ c.if-comes_first.true)
    (c.is_below.ensures ∙ (λ i. nat_lt (c.coming-coming.ensures.from i) (c.coming-coming.ensures.to i)))

pub returns-else-comes_first : goal.returns-else-comes_first
returns-else-comes_first c =
    let twig = c.args.twig.now in
    let at = (coming c.args.body.now).0 in
    and_off _ _ c.comes_first.result (in_range twig at ∙ sym c.comes_first.ensures ∙ c.if-comes_first.false) c.if-comes_first.false
