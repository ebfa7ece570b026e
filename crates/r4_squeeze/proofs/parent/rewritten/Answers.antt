use Rattle.std.proofs.Common.{◌∙◌, ◌≤◌, ℕ, ap, arith, length, map, subst, sym}
use Rattle.std.specs.Arc.{arc_value}
use Rattle.std.proofs.lemmas.Result.{IfOk-weaker}
use Rattle.r4_base.specs.Key.{rank}
use Rattle.r4_base.specs.Node.{PluginsFit, mkfs_id_of}
use Rattle.r4_cell.specs.Seen.{CellSeen}
use Rattle.r4_node40.specs.View.{view_items}
use Rattle.r4_path.specs.Nodes.{IsNodeOf}
use Rattle.r4_path.specs.Sharing.{IsSound}
use Rattle.r4_squeeze.specs.Items.{items_meant}
use Rattle.r4_squeeze.proofs.PackedLeft.{long_cells}
use Rattle.r4_squeeze.proofs.Rewriting.{few_items, items_are, new_stands, over_is, parent_some, ready, rewriting}
use Rattle.r4_squeeze.proofs.Rewriting.{room_for}
use Rattle.r4_squeeze.proofs.parent.rewritten.Goals as goal

pub node-node-requires : goal.node-node-requires
node-node-requires c = parent_some (map arc_value c.args.slum.now) c.args.parent.now c.requires.slum

pub overflow_cast-slum : goal.overflow_cast-slum
overflow_cast-slum c =
    let sound : IsSound c.args.parent.now =
    record { whole = c.node-node.ensures.whole; accepted = c.node-node.ensures.stands } in
    let r = ready arc_value c.args.parent.now c.args.slum.now c.index-slum-0.result c.place_of-at.result
    (view_items c.node-node.result) (rank c.lo.result) c.index-slum-0.is c.requires.slum sound c.node-node.ensures.items
    (ap rank (c.lo.ensures ∙ ap (λ (x : CellSeen). x.lo) c.deref.ensures)) c.place_of-at.ensures.below
    c.place_of-at.ensures.at in
    let few = few_items c.args.parent.now (map arc_value c.args.slum.now) c.place_of-at.result sound r in
    let same = ap length c.node-node.ensures.items in
    let within = c.place_of-at.ensures.within in
    let all = room_for c.args.parent.now (map arc_value c.args.slum.now) c.place_of-at.result sound r
    (omega (arith, same, within)) in
    let long = long_cells arc_value c.args.slum.now in
    omega (arith, few, all, long)

pub items_over-requires : goal.items_over-requires
items_over-requires c =
    let sound : IsSound c.args.parent.now =
    record { whole = c.node-node.ensures.whole; accepted = c.node-node.ensures.stands } in
    let r = ready arc_value c.args.parent.now c.args.slum.now c.index-slum-0.result c.place_of-at.result
    (view_items c.node-node.result) (rank c.lo.result) c.index-slum-0.is c.requires.slum sound c.node-node.ensures.items
    (ap rank (c.lo.ensures ∙ ap (λ (x : CellSeen). x.lo) c.deref.ensures)) c.place_of-at.ensures.below
    c.place_of-at.ensures.at in
    let same = ap length c.node-node.ensures.items in
    let within = c.place_of-at.ensures.within in
    let all = room_for c.args.parent.now (map arc_value c.args.slum.now) c.place_of-at.result sound r
    (omega (arith, same, within)) in
    let long = long_cells arc_value c.args.slum.now in
    omega (arith, all, long, same)

pub node_of-requires-clause-level : goal.node_of-requires-clause-level
node_of-requires-clause-level c =
    let sound : IsSound c.args.parent.now =
    record { whole = c.node-node.ensures.whole; accepted = c.node-node.ensures.stands } in
    let r = ready arc_value c.args.parent.now c.args.slum.now c.index-slum-0.result c.place_of-at.result
    (view_items c.node-node.result) (rank c.lo.result) c.index-slum-0.is c.requires.slum sound c.node-node.ensures.items
    (ap rank (c.lo.ensures ∙ ap (λ (x : CellSeen). x.lo) c.deref.ensures)) c.place_of-at.ensures.below
    c.place_of-at.ensures.at in
    let done = rewriting c.args.parent.now (map arc_value c.args.slum.now) c.place_of-at.result sound r
    (map arc_value c.args.cells.now) c.requires.come (items_meant c.as_slice.result.now)
    (items_are c.args.parent.now arc_value arc_value c.args.slum.now c.args.cells.now c.place_of-at.result (view_items c.node-node.result)
    (items_meant c.as_slice.result.now) (ap items_meant c.as_slice.ensures.value ∙ c.in_ok-items.ensures)
    c.node-node.ensures.items) in
    subst (λ (l : ℕ). (2 ≤ l) × (l ≤ 8)) (sym c.level.ensures) done.level

pub node_of-requires-clause-rise : goal.node_of-requires-clause-rise
node_of-requires-clause-rise c =
    let sound : IsSound c.args.parent.now =
    record { whole = c.node-node.ensures.whole; accepted = c.node-node.ensures.stands } in
    let r = ready arc_value c.args.parent.now c.args.slum.now c.index-slum-0.result c.place_of-at.result
    (view_items c.node-node.result) (rank c.lo.result) c.index-slum-0.is c.requires.slum sound c.node-node.ensures.items
    (ap rank (c.lo.ensures ∙ ap (λ (x : CellSeen). x.lo) c.deref.ensures)) c.place_of-at.ensures.below
    c.place_of-at.ensures.at in
    let done = rewriting c.args.parent.now (map arc_value c.args.slum.now) c.place_of-at.result sound r
    (map arc_value c.args.cells.now) c.requires.come (items_meant c.as_slice.result.now)
    (items_are c.args.parent.now arc_value arc_value c.args.slum.now c.args.cells.now c.place_of-at.result (view_items c.node-node.result)
    (items_meant c.as_slice.result.now) (ap items_meant c.as_slice.ensures.value ∙ c.in_ok-items.ensures)
    c.node-node.ensures.items) in
    done.rise

pub node_of-requires-clause-fit : goal.node_of-requires-clause-fit
node_of-requires-clause-fit c =
    let sound : IsSound c.args.parent.now =
    record { whole = c.node-node.ensures.whole; accepted = c.node-node.ensures.stands } in
    let r = ready arc_value c.args.parent.now c.args.slum.now c.index-slum-0.result c.place_of-at.result
    (view_items c.node-node.result) (rank c.lo.result) c.index-slum-0.is c.requires.slum sound c.node-node.ensures.items
    (ap rank (c.lo.ensures ∙ ap (λ (x : CellSeen). x.lo) c.deref.ensures)) c.place_of-at.ensures.below
    c.place_of-at.ensures.at in
    let done = rewriting c.args.parent.now (map arc_value c.args.slum.now) c.place_of-at.result sound r
    (map arc_value c.args.cells.now) c.requires.come (items_meant c.as_slice.result.now)
    (items_are c.args.parent.now arc_value arc_value c.args.slum.now c.args.cells.now c.place_of-at.result (view_items c.node-node.result)
    (items_meant c.as_slice.result.now) (ap items_meant c.as_slice.ensures.value ∙ c.in_ok-items.ensures)
    c.node-node.ensures.items) in
    subst (λ l. PluginsFit l (items_meant c.as_slice.result.now)) (sym c.level.ensures) done.fit

pub node_of-requires-clause-bodies : goal.node_of-requires-clause-bodies
node_of-requires-clause-bodies c =
    let sound : IsSound c.args.parent.now =
    record { whole = c.node-node.ensures.whole; accepted = c.node-node.ensures.stands } in
    let r = ready arc_value c.args.parent.now c.args.slum.now c.index-slum-0.result c.place_of-at.result
    (view_items c.node-node.result) (rank c.lo.result) c.index-slum-0.is c.requires.slum sound c.node-node.ensures.items
    (ap rank (c.lo.ensures ∙ ap (λ (x : CellSeen). x.lo) c.deref.ensures)) c.place_of-at.ensures.below
    c.place_of-at.ensures.at in
    let done = rewriting c.args.parent.now (map arc_value c.args.slum.now) c.place_of-at.result sound r
    (map arc_value c.args.cells.now) c.requires.come (items_meant c.as_slice.result.now)
    (items_are c.args.parent.now arc_value arc_value c.args.slum.now c.args.cells.now c.place_of-at.result (view_items c.node-node.result)
    (items_meant c.as_slice.result.now) (ap items_meant c.as_slice.ensures.value ∙ c.in_ok-items.ensures)
    c.node-node.ensures.items) in
    done.bodies

pub node_of-requires-clause-room : goal.node_of-requires-clause-room
node_of-requires-clause-room c =
    let sound : IsSound c.args.parent.now =
    record { whole = c.node-node.ensures.whole; accepted = c.node-node.ensures.stands } in
    let r = ready arc_value c.args.parent.now c.args.slum.now c.index-slum-0.result c.place_of-at.result
    (view_items c.node-node.result) (rank c.lo.result) c.index-slum-0.is c.requires.slum sound c.node-node.ensures.items
    (ap rank (c.lo.ensures ∙ ap (λ (x : CellSeen). x.lo) c.deref.ensures)) c.place_of-at.ensures.below
    c.place_of-at.ensures.at in
    let done = rewriting c.args.parent.now (map arc_value c.args.slum.now) c.place_of-at.result sound r
    (map arc_value c.args.cells.now) c.requires.come (items_meant c.as_slice.result.now)
    (items_are c.args.parent.now arc_value arc_value c.args.slum.now c.args.cells.now c.place_of-at.result (view_items c.node-node.result)
    (items_meant c.as_slice.result.now) (ap items_meant c.as_slice.ensures.value ∙ c.in_ok-items.ensures)
    c.node-node.ensures.items) in
    done.room

pub new_cell-requires : goal.new_cell-requires
new_cell-requires c =
    let sound : IsSound c.args.parent.now =
    record { whole = c.node-node.ensures.whole; accepted = c.node-node.ensures.stands } in
    let r = ready arc_value c.args.parent.now c.args.slum.now c.index-slum-0.result c.place_of-at.result
    (view_items c.node-node.result) (rank c.lo.result) c.index-slum-0.is c.requires.slum sound c.node-node.ensures.items
    (ap rank (c.lo.ensures ∙ ap (λ (x : CellSeen). x.lo) c.deref.ensures)) c.place_of-at.ensures.below
    c.place_of-at.ensures.at in
    let done = rewriting c.args.parent.now (map arc_value c.args.slum.now) c.place_of-at.result sound r
    (map arc_value c.args.cells.now) c.requires.come (items_meant c.as_slice.result.now)
    (items_are c.args.parent.now arc_value arc_value c.args.slum.now c.args.cells.now c.place_of-at.result (view_items c.node-node.result)
    (items_meant c.as_slice.result.now) (ap items_meant c.as_slice.ensures.value ∙ c.in_ok-items.ensures)
    c.node-node.ensures.items) in
    new_stands c.args.parent.now (items_meant c.as_slice.result.now) c.in_ok-block.block c.level.result
    c.level-2.result (rank c.lo-2.result) (rank c.hi.result) c.level.ensures c.level-2.ensures (ap rank c.lo-2.ensures)
    (ap rank c.hi.ensures) c.in_ok-block.ensures.node done.level.0 done.some done.lies

pub returns : goal.returns
returns c =
    let sound : IsSound c.args.parent.now =
    record { whole = c.node-node.ensures.whole; accepted = c.node-node.ensures.stands } in
    let r = ready arc_value c.args.parent.now c.args.slum.now c.index-slum-0.result c.place_of-at.result
    (view_items c.node-node.result) (rank c.lo.result) c.index-slum-0.is c.requires.slum sound c.node-node.ensures.items
    (ap rank (c.lo.ensures ∙ ap (λ (x : CellSeen). x.lo) c.deref.ensures)) c.place_of-at.ensures.below
    c.place_of-at.ensures.at in
    let done = rewriting c.args.parent.now (map arc_value c.args.slum.now) c.place_of-at.result sound r
    (map arc_value c.args.cells.now) c.requires.come (items_meant c.as_slice.result.now)
    (items_are c.args.parent.now arc_value arc_value c.args.slum.now c.args.cells.now c.place_of-at.result (view_items c.node-node.result)
    (items_meant c.as_slice.result.now) (ap items_meant c.as_slice.ensures.value ∙ c.in_ok-items.ensures)
    c.node-node.ensures.items) in
    IfOk-weaker c.new_cell.result _ _ (λ v is. over_is c.args.parent.now (map arc_value c.args.slum.now)
    (map arc_value c.args.cells.now) (items_meant c.as_slice.result.now) (arc_value v) c.id.result.0 c.level-2.result c.lo-2.result
    c.hi.result c.in_ok-block.block is c.id.ensures c.level-2.ensures c.lo-2.ensures c.hi.ensures sound done
    (subst (λ l. IsNodeOf l (items_meant c.as_slice.result.now) c.in_ok-block.block) c.level.ensures
    c.in_ok-block.ensures.node)
    (c.in_ok-block.ensures.mkfs_id ∙ (c.get32-mkfs_id.ensures ∙ ap mkfs_id_of (c.bytes.ensures.value ∙ c.block.ensures)))
    ) c.new_cell.ensures
