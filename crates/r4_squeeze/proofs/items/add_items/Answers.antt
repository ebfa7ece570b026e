use Rattle.std.proofs.Common.{◌∙◌, ap, drop, refl}
use Rattle.r4_node40.specs.View.{item_shown, view_items}
use Rattle.r4_squeeze.specs.Items.{item_meant, items_meant}
use Rattle.r4_squeeze.specs.declared.items.NodeItem.TheVariants.{Stays}
use Rattle.r4_squeeze.proofs.Adding.{added, get_dropped}
use Rattle.r4_squeeze.proofs.items.add_items.Goals as goal

pub loop-i-preserved : goal.loop-i-preserved
loop-i-preserved c = ap items_meant c.in_ok-push.ensures.items
    ∙ added item_meant c.loop-i.items.items (Stays c.item.result) (items_meant c.args.items.now.items)
    (drop c.args.from (view_items c.args.node.now)) c.loop-i.i (item_shown c.item.result) c.loop-i.invariant
    (get_dropped (view_items c.args.node.now) c.args.from c.loop-i.i ∙ c.item.ensures.shown) refl
