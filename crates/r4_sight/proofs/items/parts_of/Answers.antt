use Rattle.std.proofs.Common.{◌≡◌, ◌^◌, ◌∙◌, ℕ, List, true, ap, subst, sym, arith}
use Rattle.std.specs.Prelude.{None, Some, slice_get}
use Rattle.r4_base.specs.Cell.{cell_fault, units_in}
use Rattle.r4_base.specs.Key.{rank}
use Rattle.r4_base.specs.Node.{Item, items_of}
use Rattle.r4_content.specs.Edited.{Pairs}
use Rattle.r4_content.specs.Seen.{Rises, pairs_in}
use Rattle.r4_leaf.proofs.LeafItems.{lie_rise}
use Rattle.r4_leaf.proofs.Lying.{lie_sound}
use Rattle.r4_leaf.proofs.Standing.{some_range}
use Rattle.r4_node40.specs.View.{item_shown, view_items}
use Rattle.r4_units.proofs.LeafUnits.{node_units}
use Rattle.r4_sight.proofs.Adding.{read_all, read_more}
use Rattle.r4_sight.proofs.Between.{rises_in}
use Rattle.r4_sight.proofs.items.parts_of.Goals as goal

pub add_item-requires : goal.add_item-requires
add_item-requires c =
    let leaf = c.args.leaf.now in
    let stand : cell_fault true (2 ^ 64) 1 (rank leaf.lo) (rank leaf.hi) leaf.block ≡ None = subst (λ (l : ℕ). cell_fault true (2 ^ 64) l (rank leaf.lo) (rank leaf.hi) leaf.block ≡ None) c.requires c.node-node.ensures.stands in
    let lies = some_range (rank leaf.lo) (rank leaf.hi) leaf.block (c.node-node.ensures.whole, stand) in
    lie_sound (rank leaf.lo) lies.0 (items_of leaf.block) c.loop-i.i (item_shown c.item.result) lies.1
    (subst (λ xs. slice_get xs c.loop-i.i ≡ Some (item_shown c.item.result)) c.node-node.ensures.items c.item.ensures.shown)

pub loop-i-preserved : goal.loop-i-preserved
loop-i-preserved c = read_more (rank c.args.within.from) (rank c.args.within.to) (view_items c.node-node.result) c.loop-i.i (item_shown c.item.result) c.loop-i.parts.items c.add_item.new.parts.items c.item.ensures.shown c.loop-i.invariant c.in_ok-add_item.ensures

pub returns-clause-pairs : goal.returns-clause-pairs
returns-clause-pairs c =
    let leaf = c.args.leaf.now in
    let a = rank c.args.within.from in
    let b = rank c.args.within.to in
    let past = c.loop-i-test.false in
    let count = c.len-i-end.ensures in
    read_all a b (view_items c.node-node.result) c.loop-i.i c.loop-i.parts.items (omega (arith, past, count)) c.loop-i.invariant
    ∙ ap (λ (us : Pairs). pairs_in us a b) (ap units_in c.node-node.ensures.items ∙ sym (node_units leaf.level (rank leaf.lo) (rank leaf.hi) leaf.block (let level = c.requires in omega (arith, level))))

pub returns-clause-rises : goal.returns-clause-rises
returns-clause-rises c =
    let leaf = c.args.leaf.now in
    let stand : cell_fault true (2 ^ 64) 1 (rank leaf.lo) (rank leaf.hi) leaf.block ≡ None = subst (λ (l : ℕ). cell_fault true (2 ^ 64) l (rank leaf.lo) (rank leaf.hi) leaf.block ≡ None) c.requires c.node-node.ensures.stands in
    let lies = some_range (rank leaf.lo) (rank leaf.hi) leaf.block (c.node-node.ensures.whole, stand) in
    let a = rank c.args.within.from in
    let b = rank c.args.within.to in
    let past = c.loop-i-test.false in
    let count = c.len-i-end.ensures in
    subst Rises (sym (read_all a b (view_items c.node-node.result) c.loop-i.i c.loop-i.parts.items (omega (arith, past, count)) c.loop-i.invariant ∙ ap (λ (xs : List Item). pairs_in (units_in xs) a b) c.node-node.ensures.items))
    (rises_in a b (rank leaf.lo) lies.0 (units_in (items_of leaf.block)) (lie_rise (rank leaf.lo) lies.0 (items_of leaf.block) lies.1))
