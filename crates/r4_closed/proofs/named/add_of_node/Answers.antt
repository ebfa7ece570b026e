use Rattle.std.proofs.Common.{◌++◌, ◌^◌, ◌≤◌, ℕ, List, length, sym, ap, ◌∙◌, arith}
use Rattle.std.proofs.lemmas.Option.{slice_get_within}
use Rattle.r4_base.specs.Cell.{item_names}
use Rattle.r4_base.specs.Node.{Item}
use Rattle.r4_cell.proofs.Faults.{body_short}
use Rattle.r4_node40.specs.View.{item_shown, view_block, view_items}
use Rattle.r4_closed.specs.Named.{ItemStands, new_ids}
use Rattle.r4_closed.proofs.Items.{items_new}
use Rattle.r4_closed.proofs.Taken.{all_next, at_place, flat_all, flat_next, read_at}
use Rattle.r4_closed.proofs.named.add_of_node.Goals as goal

pub add_of_item-requires-clause-short : goal.add_of_item-requires-clause-short
add_of_item-requires-clause-short c =
    let short = body_short (view_block c.args.node.now).now c.loop-i.i (item_shown c.item.result)
    c.item.ensures.shown in
    omega (arith, short, c.requires.whole)

pub add_of_item-requires-clause-sound : goal.add_of_item-requires-clause-sound
add_of_item-requires-clause-sound c =
    at_place (ItemStands (2 ^ 64)) (view_items c.args.node.now) c.loop-i.i (item_shown c.item.result)
    c.item.ensures.shown c.requires.sound

pub returns-then-not-branch-clause-refused : goal.returns-then-not-branch-clause-refused
returns-then-not-branch-clause-refused c = λ no all. c.in_ok-add_of_item.ensures.refused c.if-not-branch.true
    (at_place (ItemStands (2 ^ 63)) (view_items c.args.node.now) c.loop-i.i (item_shown c.item.result)
    c.item.ensures.shown all)

pub loop-i-preserved : goal.loop-i-preserved
loop-i-preserved c =
    let lt = slice_get_within (view_items c.args.node.now) c.loop-i.i (item_shown c.item.result)
    c.item.ensures.shown in
    let is = read_at (view_items c.args.node.now) c.loop-i.i (item_shown c.item.result) c.item.ensures.shown in
    record {
      stand = all_next (ItemStands (2 ^ 63)) (view_items c.args.node.now) c.loop-i.i (item_shown c.item.result) lt is
          c.loop-i.invariant.stand (c.in_ok-add_of_item.ensures.stands c.if-not-branch.false);
      named = flat_next (λ (it : Item). new_ids (item_names 0 0 it)) (view_items c.args.node.now) c.loop-i.i
          (item_shown c.item.result) c.args.named.now.items c.loop-i.named.items c.add_of_item.new.named.items lt is
          c.loop-i.invariant.named (c.in_ok-add_of_item.ensures.named c.if-not-branch.false 0 0);
    }

pub returns-clause-named : goal.returns-clause-named
returns-clause-named c = λ yes level hi.
    let past : length (view_items c.args.node.now) ≤ c.loop-i.i =
    omega (arith, c.loop-i-test.false, c.len-i-end.ensures) in
    flat_all (λ (it : Item). new_ids (item_names 0 0 it)) (view_items c.args.node.now) c.loop-i.i
    c.args.named.now.items c.loop-i.named.items past c.loop-i.invariant.named
    ∙ ap (λ (l : List ℕ). c.args.named.now.items ++ l) (sym (items_new level hi (view_items c.args.node.now)))
