use Rattle.std.proofs.Common.{◌≡◌, ◌∙◌, ◌++◌, ap, arith, map, subst, sym, take}
use Rattle.std.specs.Prelude.{Contains}
use Rattle.std.specs.Arc.{arc_value}
use Rattle.std.proofs.lemmas.List.{take_all}
use Rattle.r4_base.specs.Node.{items_of}
use Rattle.r4_cell.specs.Seen.{CellSeen}
use Rattle.r4_leaf.specs.Remade.{item_of}
use Rattle.r4_node40.specs.View.{view_items}
use Rattle.r4_path.specs.Sharing.{IsSound, items_of_cells}
use Rattle.r4_squeeze.proofs.Cells.{items_more, level_of_cell, one_more, sound_more}
use Rattle.r4_squeeze.proofs.leaves.items_behind.Goals as goal

pub node-requires : goal.node-requires
node-requires c =
    let (from, both) = c.requires in
    let (to, follow) = both in
    let is = level_of_cell arc_value 1 from to c.loop-leaf.leaf-index c.args.leaves.now c.leaf-item.result follow
    c.loop-leaf-test.true c.leaf-item.is in
    let same = ap (λ (x : CellSeen). x.level) c.deref.ensures in
    omega (arith, is, same)

pub loop-leaf-preserved : goal.loop-leaf-preserved
loop-leaf-preserved c =
    let cell : CellSeen = arc_value c.leaf-item.result in
    let before = map arc_value (take c.loop-leaf.leaf-index c.args.leaves.now) in
    let more = one_more arc_value c.args.leaves.now c.loop-leaf.leaf-index c.leaf-item.result
    c.loop-leaf-test.true c.leaf-item.is in
    let its : view_items c.node.result ≡ items_of cell.block =
    c.node.ensures.items ∙ ap (λ (x : CellSeen). items_of x.block) c.deref.ensures in (
      c.in_ok-add_given.ensures
          ∙ (ap (λ xs. map item_of c.loop-leaf.items.items ++ xs) its
          ∙ (ap (λ xs. xs ++ items_of cell.block) c.loop-leaf.invariant.0
          ∙ (sym (items_more before cell) ∙ ap items_of_cells (sym more)))),
      subst (λ cs. (x : CellSeen) → Contains cs x → IsSound x) (sym more)
          (sound_more before cell c.loop-leaf.invariant.1 (subst IsSound c.deref.ensures
          (record { whole = c.node.ensures.whole; accepted = c.node.ensures.stands }))),
    )

pub returns-clause-items : goal.returns-clause-items
returns-clause-items c = c.loop-leaf.invariant.0
    ∙ ap (λ xs. items_of_cells (map arc_value xs)) (take_all c.loop-leaf.leaf-index c.args.leaves.now c.loop-leaf-test.false)

pub returns-clause-sound : goal.returns-clause-sound
returns-clause-sound c = subst (λ xs. (x : CellSeen) → Contains (map arc_value xs) x → IsSound x)
    (take_all c.loop-leaf.leaf-index c.args.leaves.now c.loop-leaf-test.false) c.loop-leaf.invariant.1
