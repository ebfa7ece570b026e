use Rattle.std.proofs.Common.{map, ap, ◌∙◌, ◌≡◌, ◌-◌, arith}
use Rattle.std.specs.Arc.{arc_value}
use Rattle.r4_base.specs.Key.{rank}
use Rattle.r4_cell.specs.Seen.{CellSeen}
use Rattle.r4_node40.specs.View.{view_items}
use Rattle.r4_squeeze.proofs.Naming.{decided, slum_level}
use Rattle.r4_squeeze.proofs.slum.is_slum.Goals as goal

pub returns-then-level-eq0-2 : goal.returns-then-level-eq0-2
returns-then-level-eq0-2 c =
    λ s. let (one, up) = slum_level (map arc_value c.args.slum.now) c.args.parent.now (arc_value c.in-Some.first.now)
    (map arc_value c.in-Some.field-0-1.now) (ap (map arc_value) c.in-Some.ensures.cases.0) s in
    let zero = c.if-level-eq0-2.true in
    let is = c.level-2.ensures in
    omega (arith, up, zero, is)

pub returns-then-level : goal.returns-then-level
returns-then-level c =
    λ s. let (one, up) = slum_level (map arc_value c.args.slum.now) c.args.parent.now (arc_value c.in-Some.first.now)
    (map arc_value c.in-Some.field-0-1.now) (ap (map arc_value) c.in-Some.ensures.cases.0) s in
    let other = c.if-level.true in
    let is = c.level-3.ensures in
    let over = c.level-4.ensures in
    let same = ap (λ (x : CellSeen). x.level) c.deref-2.ensures in
    absurd (other (let h : c.level-3.result ≡ c.level-4.result - 1 = omega (arith, up, is, over, same) in h))

pub returns : goal.returns
returns c =
    let up = c.if-level.false in
    let is = c.level-3.ensures in
    let over = c.level-4.ensures in
    let zero = c.if-level-eq0.false in
    let first = c.level.ensures in
    let more = c.if-level-eq0-2.false in
    let parent_is = c.level-2.ensures in
    let same = ap (λ (x : CellSeen). x.level) c.deref.ensures in
    let same_up = ap (λ (x : CellSeen). x.level) c.deref-2.ensures in
    decided c.args.parent.now (arc_value c.in-Some.first.now) (map arc_value c.in-Some.field-0-1.now)
    (map arc_value c.args.slum.now) (ap (map arc_value) c.in-Some.ensures.cases.0) c.place_of-at.result
    c.are_named.result (view_items c.node-node.result) (rank c.lo.result)
    (record { whole = c.node-node.ensures.whole; accepted = c.node-node.ensures.stands })
    (omega (arith, first, zero, same)) (omega (arith, up, is, over, same_up, more, parent_is))
    c.node-node.ensures.items (ap rank (c.lo.ensures ∙ ap (λ (x : CellSeen). x.lo) c.deref-3.ensures))
    c.place_of-at.ensures.below c.place_of-at.ensures.at c.are_named.ensures
