use Rattle.std.proofs.Common.{◌≡◌, ◌↔◌, true, arith, map, subst, ◌∙◌}
use Rattle.r4_base.specs.Key.{rank}
use Rattle.r4_cell.specs.Seen.{node_of}
use Rattle.r4_content.specs.Edited.{changed}
use Rattle.r4_content.specs.Held.{edits_of, interval_of}
use Rattle.r4_marking.specs.r4_reach.Needs.{is_met}
use Rattle.r4_marking.specs.r4_reach.Reach.{IsWrittenAt}
use Rattle.r4_leaf_demands.specs.Leaves.{DemandsSeen, leaf_demand}
use Rattle.r4_leaf_demands.proofs.AtCells.{written_high, written_low}
use Rattle.r4_leaf_demands.proofs.Meets.{met_iff}
use Rattle.r4_leaf_demands.proofs.leaf_demands.LeafDemandsDemands.changes_at.Goals as goal

pub returns-then-level-gt-LEAF : goal.returns-then-level-gt-LEAF
returns-then-level-gt-LEAF c =
    let x = c.args.cell.now in
    let level = c.level.ensures in
    let told = c.if-level-gt-LEAF.true in
    subst (λ (d : DemandsSeen). (c.extents_have.result ≡ true) ↔ IsWrittenAt (leaf_demand (edits_of d.edits) d.reads)
    (node_of x)) c.self.view_is
    (written_high (edits_of c.self.inside.edits.now) (map interval_of c.self.inside.reads.now) x c.extents_have.result
    (omega (arith, level, told)) c.extents_have.ensures)

pub returns : goal.returns
returns c =
    let x = c.args.cell.now in
    let e = edits_of c.self.inside.edits.now in
    let reads = map interval_of c.self.inside.reads.now in
    let level = c.level.ensures in
    let told = c.if-level-gt-LEAF.false in
    subst (λ (d : DemandsSeen). (c.touches_leaf.result ≡ true) ↔ IsWrittenAt (leaf_demand (edits_of d.edits) d.reads)
    (node_of x)) c.self.view_is
    (written_low e reads x c.touches_leaf.result (omega (arith, level, told)) c.low_range-range.ensures.none
    (met_iff c.touches_leaf.result (changed e) (rank x.lo) (rank x.hi)
    (c.touches_leaf.ensures
    ∙ (λ i. is_met (changed e) (rank (c.low_range-range.ensures.from i)) (rank (c.low_range-range.ensures.to i))))))
