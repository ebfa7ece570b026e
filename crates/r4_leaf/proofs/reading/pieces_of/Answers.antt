use Rattle.std.proofs.Common.{List, sym, subst, arith}
use Rattle.r4_node40.specs.View.{item_shown, view_items}
use Rattle.r4_leaf.specs.declared.piece.Piece.{Piece}
use Rattle.r4_leaf.proofs.Lying.{HasRead, lie_sound, read_follow, read_more, read_none, read_units}
use Rattle.r4_leaf.proofs.reading.pieces_of.Goals as goal

pub add_item-requires : goal.add_item-requires
add_item-requires c = lie_sound c.requires.0 c.requires.1 (view_items c.args.leaf.now) c.loop-i.i (item_shown c.item-item.result) c.requires.2 c.item-item.ensures.shown

pub loop-i-init : goal.loop-i-init
loop-i-init c = subst (λ (ps : List Piece). HasRead (view_items c.args.leaf.now) 0 ps) (sym c.new-pieces.ensures.items) (read_none (view_items c.args.leaf.now))

pub loop-i-preserved : goal.loop-i-preserved
loop-i-preserved c = read_more (view_items c.args.leaf.now) c.loop-i.i (item_shown c.item-item.result) c.loop-i.pieces.items c.add_item.new.pieces.items c.item-item.ensures.shown c.loop-i.invariant c.in_ok-add_item.ensures

pub returns-clause-units : goal.returns-clause-units
returns-clause-units c =
    let past = c.loop-i-test.false in let count = c.len-i-end.ensures in
    read_units (view_items c.args.leaf.now) c.loop-i.i c.loop-i.pieces.items (omega (arith, past, count)) c.loop-i.invariant

pub returns-clause-follow : goal.returns-clause-follow
returns-clause-follow c =
    let past = c.loop-i-test.false in let count = c.len-i-end.ensures in
    read_follow (view_items c.args.leaf.now) c.loop-i.i c.loop-i.pieces.items (omega (arith, past, count)) c.loop-i.invariant
