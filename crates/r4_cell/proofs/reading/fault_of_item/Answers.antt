use Rattle.std.proofs.Common.{◌∙◌, ap, sym, arith, List, false}
use Rattle.r4_base.specs.Cell.{items_in_fault}
use Rattle.r4_base.specs.Key.{rank}
use Rattle.r4_base.specs.Node.{Item}
use Rattle.r4_node40.specs.View.{view_block, view_items}
use Rattle.r4_node40.proofs.Following.{item_first}
use Rattle.r4_cell.proofs.Faults.{body_short, items_good, items_out, items_refused}
use Rattle.r4_cell.proofs.reading.fault_of_item.Goals as goal

pub last_key-requires : goal.last_key-requires
last_key-requires c = let short = body_short (view_block c.args.node.now).now c.args.i _ c.item-item.ensures.shown in omega (arith, short, c.requires.whole)

pub returns-in-Ok : goal.returns-in-Ok
returns-in-Ok c =
    ap (λ (xs : List Item). items_in_fault false c.args.place.now.blocks c.args.place.now.level (rank c.args.place.now.lo) (rank c.args.place.now.hi) c.args.i xs) (item_first (view_items c.args.node.now) c.args.i _ c.item-item.ensures.shown)
    ∙ items_good c.args.place.now.blocks c.args.place.now.level (rank c.args.place.now.lo) (rank c.args.place.now.hi) c.args.i _ _ _ c.key_behind-next.ensures (c.in-Ok.ensures.0) (sym c.is_in_range.ensures ∙ c.if-is_in_range.true)

pub returns-in-Ok-2 : goal.returns-in-Ok-2
returns-in-Ok-2 c =
    ap (λ (xs : List Item). items_in_fault false c.args.place.now.blocks c.args.place.now.level (rank c.args.place.now.lo) (rank c.args.place.now.hi) c.args.i xs) (item_first (view_items c.args.node.now) c.args.i _ c.item-item.ensures.shown)
    ∙ items_out c.args.place.now.blocks c.args.place.now.level (rank c.args.place.now.lo) (rank c.args.place.now.hi) c.args.i _ _ _ c.key_behind-next.ensures (c.in-Ok.ensures.0) (sym c.is_in_range.ensures ∙ c.if-is_in_range.false)

pub returns-in-Err : goal.returns-in-Err
returns-in-Err c =
    ap (λ (xs : List Item). items_in_fault false c.args.place.now.blocks c.args.place.now.level (rank c.args.place.now.lo) (rank c.args.place.now.hi) c.args.i xs) (item_first (view_items c.args.node.now) c.args.i _ c.item-item.ensures.shown)
    ∙ items_refused c.args.place.now.blocks c.args.place.now.level (rank c.args.place.now.lo) (rank c.args.place.now.hi) c.args.i _ _ _ c.in-Err.ensures
