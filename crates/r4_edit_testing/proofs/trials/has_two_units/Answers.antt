use Rattle.std.proofs.Common.{◌≤◌, length, subst}
use Rattle.r4_node40.specs.View.{item_shown, view_items}
use Rattle.r4_edit_testing.proofs.TwoUnits.{at_least, by_entries, by_items, by_tail, no_dir_fault}
use Rattle.r4_edit_testing.proofs.trials.has_two_units.Goals as goal

pub returns-then-len-ne1 : goal.returns-then-len-ne1
returns-then-len-ne1 c = λ h. by_items c.args.leaf.now c.args.leaf.now (view_items c.node-node.result) (λ i. c.args.leaf.now)
    c.requires.level c.requires.range c.node-node.ensures.whole c.node-node.ensures.stands c.node-node.ensures.items
    (subst (λ n. 2 ≤ n) c.len-then-len-ne1.ensures (at_least c.len-then-len-ne1.result h))

pub has_two_entries-requires : goal.has_two_entries-requires
has_two_entries-requires c = no_dir_fault c.args.leaf.now c.args.leaf.now (view_items c.node-node.result) (λ i. c.args.leaf.now)
    c.requires.level c.requires.range c.node-node.ensures.whole c.node-node.ensures.stands c.node-node.ensures.items
    (item_shown c.item-item.result) c.item-item.ensures.shown c.if-item-eq2.true

pub returns-then-item-eq2 : goal.returns-then-item-eq2
returns-then-item-eq2 c = λ h. by_entries c.args.leaf.now c.args.leaf.now (view_items c.node-node.result)
    (λ i. c.args.leaf.now) c.requires.level c.requires.range c.node-node.ensures.whole c.node-node.ensures.stands
    c.node-node.ensures.items (item_shown c.item-item.result) c.item-item.ensures.shown c.if-item-eq2.true
    (c.has_two_entries.ensures h)

pub returns-then-item-eq6 : goal.returns-then-item-eq6
returns-then-item-eq6 c = λ h. by_tail c.args.leaf.now c.args.leaf.now (view_items c.node-node.result) (λ i. c.args.leaf.now)
    c.requires.level c.requires.range c.node-node.ensures.whole c.node-node.ensures.stands c.node-node.ensures.items
    (item_shown c.item-item.result) c.item-item.ensures.shown c.if-item-eq6.true
    (at_least (length c.item-item.result.body.now) h)
