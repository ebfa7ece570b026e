use Rattle.std.proofs.Common.{arith, sym, subst, ap, ◌≡◌, ◌≤◌, List, length}
use Rattle.std.specs.Prelude.{Some, slice_get}
use Rattle.r4_base.specs.Key.{rank}
use Rattle.r4_node40.specs.View.{item_shown}
use Rattle.r4_base.specs.Node.{Item, KeysRise, items_of}
use Rattle.r4_base.specs.declared.key.Key.{Key}
use Rattle.r4_units.specs.Leaf.{AreUpTo}
use Rattle.r4_list.proofs.FrameSpans.{next_ends, node_ends, span_of}
use Rattle.r4_units.proofs.Leaves.{keys_rise}
use Rattle.r4_list.proofs.frame.behind.Goals as goal

pub items_up_to-count-requires : goal.items_up_to-count-requires
items_up_to-count-requires c = subst KeysRise (sym c.node-node.ensures.items) (keys_rise c.args.cell.now c.node-node.ensures.whole c.requires.level c.node-node.ensures.stands)

pub returns-then-count-len-clause-more : goal.returns-then-count-len-clause-more
returns-then-count-len-clause-more c = c.items_up_to-count.ensures.high _ _ c.item.ensures.shown (omega arith)

pub returns-then-count-len-clause-within : goal.returns-then-count-len-clause-within
returns-then-count-len-clause-within c = λ s has at.
    let items = items_of c.args.cell.now.block in
    let up = subst (λ (xs : List Item). AreUpTo xs (rank c.args.key) c.items_up_to-count.result) c.node-node.ensures.items c.items_up_to-count.ensures in
    next_ends (rank c.args.cell.now.hi) (rank c.args.key) c.items_up_to-count.result items up s (span_of c.args.cell.now c.requires.level s has) at (item_shown c.item.result)
    (subst (λ (xs : List Item). slice_get xs c.items_up_to-count.result ≡ Some (item_shown c.item.result)) c.node-node.ensures.items c.item.ensures.shown)

pub returns-clause-within : goal.returns-clause-within
returns-clause-within c = λ s has at.
    let items = items_of c.args.cell.now.block in
    let up = subst (λ (xs : List Item). AreUpTo xs (rank c.args.key) c.items_up_to-count.result) c.node-node.ensures.items c.items_up_to-count.ensures in
    let count = ap (λ (xs : List Item). length xs) c.node-node.ensures.items in
    let all = c.if-count-len.false in
    let len = c.len.ensures in
    subst (λ (k : Key). rank k ≤ s.hi) (sym c.hi.ensures) (node_ends (rank c.args.cell.now.hi) (rank c.args.key) c.items_up_to-count.result items up s (span_of c.args.cell.now c.requires.level s has) at (omega (arith, all, len, count)))
