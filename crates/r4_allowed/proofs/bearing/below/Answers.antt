use Rattle.std.proofs.Common.{◌≡◌, ◌-◌, List, ap, subst, ◌∙◌, arith}
use Rattle.std.specs.Prelude.{Some, slice_get}
use Rattle.r4_base.specs.Node.{Item, items_of}
use Rattle.r4_extent_put.specs.r4_extent_change.r4_measure.Budget.{of_item}
use Rattle.r4_extent_put.specs.r4_extent_change.r4_node40.View.{item_shown}
use Rattle.r4_allowed.specs.Table.{budget_of}
use Rattle.r4_allowed.proofs.Coming.{below_next}
use Rattle.r4_allowed.proofs.bearing.below.Goals as goal

pub loop-i-preserved : goal.loop-i-preserved
loop-i-preserved c =
    let it = item_shown c.item.result in
    let level = ap (λ n. n - 1) c.level-level.ensures in
    let next = below_next (budget_of c.args.table.now (c.args.node.now.level - 1)) (items_of c.args.node.now.block) c.loop-i.i it
    (subst (λ (xs : List Item). slice_get xs c.loop-i.i ≡ Some it) c.node-view.ensures.items c.item.ensures.shown) in
    let one = c.from-cells.ensures ∙ (c.coming_at.ensures ∙ ap (λ l. of_item (budget_of c.args.table.now l) it) level) in
    let sum = c.loop-i.invariant.sum in
    let small = c.loop-i.invariant.small in
    let few = c.coming_at.type_inv in
    record { sum = omega (arith, next, one, sum); small = omega (arith, small, few, c.from-cells.ensures) }
