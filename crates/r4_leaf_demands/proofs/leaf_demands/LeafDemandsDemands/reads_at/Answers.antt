use Rattle.std.proofs.Common.{◌≡◌, ◌↔◌, true, arith, map, sym, subst, ◌∙◌}
use Rattle.r4_base.specs.Key.{rank}
use Rattle.r4_cell.specs.Seen.{node_of}
use Rattle.r4_content.specs.Held.{edits_of, interval_of}
use Rattle.r4_suited.proofs.r4_leaf_edits.Touched.{intervals_met}
use Rattle.r4_marking.specs.r4_reach.Needs.{is_met}
use Rattle.r4_marking.specs.r4_reach.Reach.{IsReadAt}
use Rattle.r4_leaf_demands.specs.Leaves.{DemandsSeen, leaf_demand}
use Rattle.r4_leaf_demands.proofs.AtCells.{read_high, read_low}
use Rattle.r4_leaf_demands.proofs.Meets.{met_iff}
use Rattle.r4_leaf_demands.proofs.leaf_demands.LeafDemandsDemands.reads_at.Goals as goal

pub returns-then-level-gt-LEAF : goal.returns-then-level-gt-LEAF
returns-then-level-gt-LEAF c =
    let x = c.args.cell.now in
    let level = c.level.ensures in
    let told = c.if-level-gt-LEAF.true in
    subst (λ (d : DemandsSeen). (c.extents_have.result ≡ true) ↔ IsReadAt (leaf_demand (edits_of d.edits) d.reads)
    (node_of x)) c.self.view_is
    (read_high (edits_of c.self.inside.edits.now) (map interval_of c.self.inside.reads.now) x c.extents_have.result
    (omega (arith, level, told)) c.extents_have.ensures)

pub returns : goal.returns
returns c =
    let x = c.args.cell.now in
    let e = edits_of c.self.inside.edits.now in
    let reads = map interval_of c.self.inside.reads.now in
    let level = c.level.ensures in
    let told = c.if-level-gt-LEAF.false in
    subst (λ (d : DemandsSeen). (c.meets_intervals.result ≡ true) ↔ IsReadAt (leaf_demand (edits_of d.edits) d.reads)
    (node_of x)) c.self.view_is
    (read_low e reads x c.meets_intervals.result (omega (arith, level, told)) c.low_range.ensures.none
    (met_iff c.meets_intervals.result reads (rank x.lo) (rank x.hi)
    (c.meets_intervals.ensures
    ∙ sym (intervals_met (rank c.low_range.result.from) (rank c.low_range.result.to) c.self.inside.reads.now)
    ∙ (λ i. is_met reads (rank (c.low_range.ensures.from i)) (rank (c.low_range.ensures.to i))))))
