use Rattle.std.proofs.Common.{◌≡◌, ◌+◌, List, length, ap, subst, ◌∙◌, arith}
use Rattle.std.specs.Prelude.{Some, slice_get}
use Rattle.std.proofs.lemmas.List.{take_all}
use Rattle.r4_base.specs.Node.{Item, items_of}
use Rattle.r4_node40.specs.View.{item_shown}
use Rattle.r4_marking.specs.r4_path.Nodes.{weight}
use Rattle.r4_marking.proofs.r4_path.Filling.{weight_take}
use Rattle.r4_leaf_demands.proofs.Weighed.{sound, weight_next}
use Rattle.r4_leaf_demands.proofs.weighing.node_bytes.Goals as goal

pub overflow_add-bytes-in-loop-i : goal.overflow_add-bytes-in-loop-i
overflow_add-bytes-in-loop-i c =
    let items = items_of c.args.cell.now.block in
    let next = weight_next items c.loop-i.i (item_shown c.item.result)
    (subst (λ (xs : List Item). slice_get xs c.loop-i.i ≡ Some (item_shown c.item.result)) c.node-node.ensures.items
    c.item.ensures.shown) in
    let most = weight_take (c.loop-i.i + 1) items in
    let fits = (sound c.args.cell.now c.requires c.node-node.ensures.whole c.node-node.ensures.stands).fits in
    let now = c.loop-i.invariant in
    let header = c.from.ensures in
    omega (arith, next, most, fits, now, header)

pub loop-i-preserved : goal.loop-i-preserved
loop-i-preserved c =
    let items = items_of c.args.cell.now.block in
    let next = weight_next items c.loop-i.i (item_shown c.item.result)
    (subst (λ (xs : List Item). slice_get xs c.loop-i.i ≡ Some (item_shown c.item.result)) c.node-node.ensures.items
    c.item.ensures.shown) in
    let now = c.loop-i.invariant in
    let header = c.from.ensures in
    omega (arith, next, now, header)

pub returns-clause-weight : goal.returns-clause-weight
returns-clause-weight c =
    let past = c.loop-i-test.false in
    let count = c.len-i-end.ensures in
    let same = ap length c.node-node.ensures.items in
    c.loop-i.invariant
    ∙ ap weight (take_all c.loop-i.i (items_of c.args.cell.now.block) (omega (arith, past, count, same)))

pub returns-clause-fits : goal.returns-clause-fits
returns-clause-fits c =
    let most = weight_take c.loop-i.i (items_of c.args.cell.now.block) in
    let fits = (sound c.args.cell.now c.requires c.node-node.ensures.whole c.node-node.ensures.stands).fits in
    let now = c.loop-i.invariant in
    omega (arith, most, fits, now)

pub returns-clause-few : goal.returns-clause-few
returns-clause-few c =
    let past = c.loop-i-test.false in
    let count = c.len-i-end.ensures in
    let same = ap length c.node-node.ensures.items in
    let all = ap weight (take_all c.loop-i.i (items_of c.args.cell.now.block) (omega (arith, past, count, same))) in
    let few = (sound c.args.cell.now c.requires c.node-node.ensures.whole c.node-node.ensures.stands).few in
    let now = c.loop-i.invariant in
    omega (arith, all, few, now)

pub returns-clause-level : goal.returns-clause-level
returns-clause-level c = (sound c.args.cell.now c.requires c.node-node.ensures.whole c.node-node.ensures.stands).level
