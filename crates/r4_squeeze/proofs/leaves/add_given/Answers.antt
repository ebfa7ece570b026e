use Rattle.std.proofs.Common.{◌∙◌, ap, map, refl}
use Rattle.r4_leaf.specs.Remade.{item_of}
use Rattle.r4_leaf.specs.declared.remaking.Given.TheVariants.{Item as GivenItem}
use Rattle.r4_node40.specs.View.{item_shown, view_items}
use Rattle.r4_squeeze.proofs.Adding.{added}
use Rattle.r4_squeeze.proofs.leaves.add_given.Goals as goal

pub loop-i-preserved : goal.loop-i-preserved
loop-i-preserved c = ap (map item_of) c.in_ok-push.ensures.items
    ∙ added item_of c.loop-i.items.items
    (GivenItem c.item-item.result.key c.item-item.result.plugin c.item-item.result.body)
    (map item_of c.args.items.now.items) (view_items c.args.leaf.now) c.loop-i.i
    (item_shown c.item-item.result) c.loop-i.invariant c.item-item.ensures.shown refl
