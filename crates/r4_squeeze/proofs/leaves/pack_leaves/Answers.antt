use Rattle.std.proofs.Common.{◌∙◌, ap, map, subst}
use Rattle.std.specs.Prelude.{Contains}
use Rattle.std.specs.Arc.{arc_value}
use Rattle.std.proofs.lemmas.Result.{IfOk-weaker}
use Rattle.r4_base.specs.Key.{rank}
use Rattle.r4_base.specs.Node.{items_of, mkfs_id_of}
use Rattle.r4_cell.specs.Seen.{CellSeen}
use Rattle.r4_node40.specs.View.{view_items}
use Rattle.r4_path.specs.Sharing.{IsSound, items_of_cells}
use Rattle.r4_squeeze.proofs.LeafSlums.{can_first, leaves_first, lies_first, tail_is}
use Rattle.r4_squeeze.proofs.leaves.pack_leaves.Goals as goal

pub remake-requires-clause-leaf : goal.remake-requires-clause-leaf
remake-requires-clause-leaf c =
    let (from, ends) = c.requires.slum in
    let (to, both) = ends in (
      to,
      lies_first arc_value c.args.slum.now c.index-slum-0.result from to (rank c.lo.result) both.0 c.index-slum-0.is
          both.1 (subst IsSound c.deref-2.ensures
          (record { whole = c.node.ensures.whole; accepted = c.node.ensures.stands })) c.in_ok-items.items.items c.as_slice.result.now c.as_slice.ensures.value
          (c.in_ok-items.ensures.items ∙ ap (λ xs. items_of_cells (map arc_value xs)) (tail_is c.args.slum.now))
          (subst (λ xs. (x : CellSeen) → Contains (map arc_value xs) x → IsSound x) (tail_is c.args.slum.now)
          c.in_ok-items.ensures.sound) (view_items c.node.result)
          (c.node.ensures.items ∙ ap (λ (x : CellSeen). items_of x.block) c.deref-2.ensures)
          (ap rank (c.lo.ensures ∙ ap (λ (x : CellSeen). x.lo) c.deref-3.ensures)),
    )

pub remake-requires-clause-can : goal.remake-requires-clause-can
remake-requires-clause-can c =
    let (from, ends) = c.requires.slum in
    let (to, both) = ends in
    can_first arc_value c.args.slum.now c.index-slum-0.result from to (rank c.lo.result) both.0 c.index-slum-0.is
    both.1 (subst IsSound c.deref-2.ensures
    (record { whole = c.node.ensures.whole; accepted = c.node.ensures.stands })) c.in_ok-items.items.items c.as_slice.result.now c.as_slice.ensures.value
    (c.in_ok-items.ensures.items ∙ ap (λ xs. items_of_cells (map arc_value xs)) (tail_is c.args.slum.now))
    (subst (λ xs. (x : CellSeen) → Contains (map arc_value xs) x → IsSound x) (tail_is c.args.slum.now)
    c.in_ok-items.ensures.sound) (view_items c.node.result)
    (c.node.ensures.items ∙ ap (λ (x : CellSeen). items_of x.block) c.deref-2.ensures)
    (ap rank (c.lo.ensures ∙ ap (λ (x : CellSeen). x.lo) c.deref-3.ensures))

pub returns-clause-packs : goal.returns-clause-packs
returns-clause-packs c =
    IfOk-weaker c.filled_of.result _ _ (λ v done. λ from to less follow.
    leaves_first arc_value c.args.slum.now c.index-slum-0.result from to (rank c.lo.result) less c.index-slum-0.is
    follow (subst IsSound c.deref-2.ensures
    (record { whole = c.node.ensures.whole; accepted = c.node.ensures.stands })) c.in_ok-items.items.items c.as_slice.result.now c.as_slice.ensures.value
    (c.in_ok-items.ensures.items ∙ ap (λ xs. items_of_cells (map arc_value xs)) (tail_is c.args.slum.now))
    (subst (λ xs. (x : CellSeen) → Contains (map arc_value xs) x → IsSound x) (tail_is c.args.slum.now)
    c.in_ok-items.ensures.sound) (view_items c.node.result)
    (c.node.ensures.items ∙ ap (λ (x : CellSeen). items_of x.block) c.deref-2.ensures)
    (ap rank (c.lo.ensures ∙ ap (λ (x : CellSeen). x.lo) c.deref-3.ensures))
    c.in_ok-leaves.leaves.items c.get32-mkfs_id.result v.items c.in_ok-leaves.ensures.packs c.in_ok-leaves.ensures.mkfs_id
    (c.get32-mkfs_id.ensures ∙ ap mkfs_id_of (c.bytes.ensures.value ∙ (c.block.ensures
    ∙ ap (λ (x : CellSeen). x.block) c.deref.ensures))) done) c.filled_of.ensures
