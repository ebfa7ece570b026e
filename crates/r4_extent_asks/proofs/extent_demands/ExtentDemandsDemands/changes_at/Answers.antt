use Rattle.std.proofs.Common.{◌≡◌, ◌↔◌, true, arith, map, sym, subst, ◌∙◌}
use Rattle.std.specs.Option.{option_copied}
use Rattle.r4_base.specs.Key.{rank}
use Rattle.r4_units.specs.r4_cell.Seen.{node_of}
use Rattle.r4_content.specs.Held.{edits_of, interval_of}
use Rattle.r4_twig_asks.proofs.r4_leaf_edits.Touched.{intervals_met}
use Rattle.r4_twig_asks.specs.r4_reach.Needs.{demand_of, is_met}
use Rattle.r4_twig_asks.specs.r4_reach.Reach.{IsWrittenAt}
use Rattle.r4_extent_asks.specs.Demands.{DemandsSeen}
use Rattle.r4_extent_asks.proofs.AtCells.{met_iff, written_high, written_low}
use Rattle.r4_extent_asks.proofs.extent_demands.ExtentDemandsDemands.changes_at.Goals as goal

pub returns-then-level-gt-LEAF : goal.returns-then-level-gt-LEAF
returns-then-level-gt-LEAF c =
    let x = c.args.cell.now in
    let b = option_copied c.self.inside.body in
    let e = edits_of c.self.inside.edits.now in
    let reads = map interval_of c.self.inside.reads.now in
    let rs = map interval_of c.self.inside.changes.now in
    let level = c.level.ensures in
    let told = c.if-level-gt-LEAF.true in
    subst (λ (d : DemandsSeen). (c.extents_have.result ≡ true)
    ↔ IsWrittenAt (demand_of d.body (edits_of d.edits) d.reads d.changes) (node_of x)) c.self.view_is
    (written_high b e reads rs x c.extents_have.result (omega (arith, level, told)) c.extents_have.ensures)

pub returns : goal.returns
returns c =
    let x = c.args.cell.now in
    let b = option_copied c.self.inside.body in
    let e = edits_of c.self.inside.edits.now in
    let reads = map interval_of c.self.inside.reads.now in
    let rs = map interval_of c.self.inside.changes.now in
    let level = c.level.ensures in
    let told = c.if-level-gt-LEAF.false in
    subst (λ (d : DemandsSeen). (c.meets_intervals.result ≡ true)
    ↔ IsWrittenAt (demand_of d.body (edits_of d.edits) d.reads d.changes) (node_of x)) c.self.view_is
    (written_low b e reads rs x c.meets_intervals.result (omega (arith, level, told)) c.low_range.ensures.none
    (met_iff c.meets_intervals.result rs (rank x.lo) (rank x.hi)
    (c.meets_intervals.ensures
    ∙ sym (intervals_met (rank c.low_range.result.from) (rank c.low_range.result.to) c.self.inside.changes.now)
    ∙ (λ i. is_met rs (rank (c.low_range.ensures.from i)) (rank (c.low_range.ensures.to i))))))
