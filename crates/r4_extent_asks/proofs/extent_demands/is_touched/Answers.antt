use Rattle.std.proofs.Common.{map, sym, ◌∙◌}
use Rattle.r4_base.specs.Key.{rank}
use Rattle.r4_units.specs.r4_cell.Seen.{node_of}
use Rattle.r4_content.specs.Held.{interval_of}
use Rattle.r4_twig_asks.proofs.r4_leaf_edits.Touched.{intervals_met}
use Rattle.r4_twig_asks.specs.r4_reach.Needs.{is_met}
use Rattle.r4_twig_asks.proofs.r4_extent_demands.PutsInto.{any_is}
use Rattle.r4_extent_asks.proofs.Asks.{touched_high, touched_low}
use Rattle.r4_extent_asks.proofs.extent_demands.is_touched.Goals as goal

pub returns-then-level-eq-LEAF : goal.returns-then-level-eq-LEAF
returns-then-level-eq-LEAF c =
    let rs = map interval_of c.args.changes.now in
    c.meets_intervals.ensures
    ∙ sym (intervals_met (rank c.low_range.result.from) (rank c.low_range.result.to) c.args.changes.now)
    ∙ (λ i. is_met rs (rank (c.low_range.ensures.from i)) (rank (c.low_range.ensures.to i)))
    ∙ sym (touched_low rs c.args.cell.now (sym c.level.ensures ∙ c.if-level-eq-LEAF.true))

pub returns : goal.returns
returns c =
    let rs = map interval_of c.args.changes.now in
    any_is c.extents_have.result (λ s. is_met rs s.lo s.hi) (node_of c.args.cell.now).spans c.extents_have.ensures
    ∙ sym (touched_high rs c.args.cell.now (λ one. c.if-level-eq-LEAF.false (c.level.ensures ∙ one)))
