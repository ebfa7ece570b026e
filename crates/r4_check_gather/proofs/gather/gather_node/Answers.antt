use Rattle.std.proofs.Common.{◌≡◌, ◌^◌, ◌++◌, ◌∙◌, List, true, ap, sym, subst, arith}
use Rattle.std.specs.Prelude.{Some, slice_get}
use Rattle.std.specs.List.{flat_map}
use Rattle.std.proofs.lemmas.List.{take_all}
use Rattle.r4_base.specs.Key.{rank}
use Rattle.r4_base.specs.Node.{Item, items_of}
use Rattle.r4_cell.proofs.Faults.{body_short}
use Rattle.r4_cell.proofs.NodesAt.{node_at}
use Rattle.r4_search.proofs.Places.{body_at}
use Rattle.r4_node40.specs.View.{item_shown, view_items}
use Rattle.r4_check_objects.specs.Held.{held_by}
use Rattle.r4_check_objects.specs.declared.held.Held.{Held}
use Rattle.r4_check_gather.proofs.Gathered.{base_more, flat_more, node_held}
use Rattle.r4_check_gather.proofs.gather.gather_node.Goals as goal

pub gather_item-requires-clause-short : goal.gather_item-requires-clause-short
gather_item-requires-clause-short c =
    let node = c.node-node.ensures in
    let at = sym (ap (λ (xs : List Item). slice_get xs c.loop-i.i) node.items) ∙ c.item.ensures.shown in
    let short = body_short c.args.cell.now.block c.loop-i.i (item_shown c.item.result) at in
    let whole = node.whole in
    omega (arith, short, whole)

pub gather_item-requires-clause-sound : goal.gather_item-requires-clause-sound
gather_item-requires-clause-sound c =
    let node = c.node-node.ensures in
    let cell = c.args.cell.now in
    let at = sym (ap (λ (xs : List Item). slice_get xs c.loop-i.i) node.items) ∙ c.item.ensures.shown in
    body_at true (2 ^ 64) cell.level (rank cell.lo) (rank cell.hi) 0 (items_of cell.block) c.loop-i.i (item_shown c.item.result) (node_at true (2 ^ 64) cell.level (rank cell.lo) (rank cell.hi) cell.block c.requires node.stands).items at

pub loop-i-preserved : goal.loop-i-preserved
loop-i-preserved c = flat_more (held_by c.args.block) (view_items c.node-node.result) c.loop-i.i (item_shown c.item.result) c.args.found.now.items c.loop-i.found.items c.gather_item.new.found.items c.item.ensures.shown c.loop-i.invariant c.in_ok-gather_item.ensures

pub returns : goal.returns
returns c =
    let cell = c.args.cell.now in
    let past = c.loop-i-test.false in
    let end = c.len-i-end.ensures in
    c.loop-i.invariant ∙ base_more c.args.found.now.items _ _ (ap (flat_map (held_by c.args.block)) (take_all c.loop-i.i (view_items c.node-node.result) (omega (arith, past, end)) ∙ c.node-node.ensures.items) ∙ node_held c.args.block cell.level (rank cell.lo) (rank cell.hi) cell.block c.requires)
