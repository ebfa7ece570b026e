use Rattle.std.proofs.Common.{arith, subst, ◌≡◌, List}
use Rattle.std.specs.Prelude.{Some, slice_get}
use Rattle.r4_base.specs.Node.{Item}
use Rattle.r4_node40.specs.View.{item_shown}
use Rattle.r4_units.proofs.Leaves.{body_of, dir_good}
use Rattle.r4_list.proofs.frame.place_in.Goals as goal

pub of_item-entries-requires : goal.of_item-entries-requires
of_item-entries-requires c =
    let level = c.requires.level in
    let is = subst (λ (items : List Item). slice_get items c.args.item ≡ Some (item_shown c.item-item.result)) c.node-node.ensures.items c.item-item.ensures.shown in
    dir_good (item_shown c.item-item.result) c.if-item-ne-ENTRIES.false (body_of c.args.leaf.now c.args.item _ (omega (arith, level)) c.node-node.ensures.stands is)
