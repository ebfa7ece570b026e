use Rattle.std.proofs.Common.{sym, subst}
use Rattle.std.proofs.lemmas.Result.{on_ok_weaker}
use Rattle.r4_leaf.specs.Leaves.{MayBePut}
use Rattle.r4_leaf.specs.Remade.{AddsItem, item_of}
use Rattle.r4_leaf.specs.declared.remaking.Given.{Given}
use Rattle.r4_leaf.proofs.remaking.add_given.Goals as goal

pub add_lent-requires : goal.add_lent-requires
add_lent-requires c = subst (λ (x : Given). MayBePut (item_of x)) c.in-Item.is c.requires

pub returns-in-Item : goal.returns-in-Item
returns-in-Item c =
    on_ok_weaker c.add_lent.result
    (subst (λ (x : Given). AddsItem c.args.pieces.now.items (item_of x) c.add_lent.new.pieces.items) (sym c.in-Item.is)) c.add_lent.ensures

pub add_fill-requires : goal.add_fill-requires
add_fill-requires c = subst (λ (x : Given). MayBePut (item_of x)) c.in-Fill.is c.requires

pub returns-in-Fill : goal.returns-in-Fill
returns-in-Fill c =
    on_ok_weaker c.add_fill.result
    (subst (λ (x : Given). AddsItem c.args.pieces.now.items (item_of x) c.add_fill.new.pieces.items) (sym c.in-Fill.is)) c.add_fill.ensures
