use Rattle.std.proofs.Common.{◌≡◌, ◌∙◌, ◌++◌, ap, arith, map, subst, sym, take}
use Rattle.std.specs.Prelude.{Contains}
use Rattle.std.specs.Arc.{arc_value}
use Rattle.std.proofs.lemmas.List.{take_all}
use Rattle.r4_base.specs.Node.{items_of}
use Rattle.r4_cell.specs.Seen.{CellSeen}
use Rattle.r4_node40.specs.View.{view_items}
use Rattle.r4_path.specs.Sharing.{IsSound, items_of_cells}
use Rattle.r4_squeeze.specs.Items.{items_meant}
use Rattle.r4_squeeze.proofs.Cells.{items_more, level_of_cell, one_more, sound_more, taken_all}
use Rattle.r4_squeeze.proofs.squeezing.items_of_all.Goals as goal

pub node-node-requires : goal.node-node-requires
node-node-requires c =
    let (level, rest) = c.requires in
    let (from, both) = rest in
    let (to, parts) = both in
    let low = parts.0 in
    let is = level_of_cell arc_value level from to c.loop-cell.cell-index c.args.slum.now c.cell-item.result parts.1
    c.loop-cell-test.true c.cell-item.is in
    let same = ap (λ (x : CellSeen). x.level) c.deref.ensures in
    omega (arith, low, is, same)

pub loop-cell-preserved : goal.loop-cell-preserved
loop-cell-preserved c =
    let cell : CellSeen = arc_value c.cell-item.result in
    let before = map arc_value (take c.loop-cell.cell-index c.args.slum.now) in
    let more = one_more arc_value c.args.slum.now c.loop-cell.cell-index c.cell-item.result
    c.loop-cell-test.true c.cell-item.is in
    let all : take c.len.result (view_items c.node-node.result) ≡ view_items c.node-node.result =
    taken_all c.len.result (view_items c.node-node.result) (sym c.len.ensures) in
    let its : view_items c.node-node.result ≡ items_of cell.block =
    c.node-node.ensures.items ∙ ap (λ (x : CellSeen). items_of x.block) c.deref.ensures in (
      c.in_ok-add_items.ensures
          ∙ (ap (λ xs. items_meant c.loop-cell.items.items ++ xs) (all ∙ its)
          ∙ (ap (λ xs. xs ++ items_of cell.block) c.loop-cell.invariant.0
          ∙ (sym (items_more before cell) ∙ ap items_of_cells (sym more)))),
      subst (λ cs. (x : CellSeen) → Contains cs x → IsSound x) (sym more)
          (sound_more before cell c.loop-cell.invariant.1 (subst IsSound c.deref.ensures
          (record { whole = c.node-node.ensures.whole; accepted = c.node-node.ensures.stands }))),
    )

pub returns-clause-items : goal.returns-clause-items
returns-clause-items c = c.loop-cell.invariant.0
    ∙ ap (λ xs. items_of_cells (map arc_value xs)) (take_all c.loop-cell.cell-index c.args.slum.now c.loop-cell-test.false)

pub returns-clause-sound : goal.returns-clause-sound
returns-clause-sound c = subst (λ xs. (x : CellSeen) → Contains (map arc_value xs) x → IsSound x)
    (take_all c.loop-cell.cell-index c.args.slum.now c.loop-cell-test.false) c.loop-cell.invariant.1
