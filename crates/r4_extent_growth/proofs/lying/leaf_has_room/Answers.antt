use Rattle.std.proofs.Common.{arith, inl, refl, sym, subst}
use Rattle.std.specs.Prelude.{List}
use Rattle.r4_base.specs.Key.{rank}
use Rattle.r4_base.specs.declared.key.Key.{Key}
use Rattle.r4_content.specs.Held.{edits_of}
use Rattle.r4_twig_asks.proofs.r4_leaf.Standing.{stand_lie}
use Rattle.r4_twig_asks.specs.r4_leaf.Items.{Lie}
use Rattle.r4_twig_asks.specs.r4_leaf.Remade.{AreWithin, CanPutAll, cut_all}
use Rattle.r4_twig_asks.specs.r4_leaf.Units.{LeafUnit}
use Rattle.r4_extent_change.specs.r4_measure.r4_cell.Seen.{node_of}
use Rattle.r4_extent_change.specs.r4_measure.r4_path.r4_node40.View.{view_items}
use Rattle.r4_extent_change.proofs.r4_build.r4_edit.LeafLent.{lent_stands, lent_units}
use Rattle.r4_extent_change.proofs.r4_build.Made.{gets_of, units_of_leaf}
use Rattle.r4_extent_growth.proofs.InLeaves.{same_room, some_keys}
use Rattle.r4_extent_growth.proofs.lying.leaf_has_room.Goals as goal

pub bytes_after-requires-clause-leaf : goal.bytes_after-requires-clause-leaf
bytes_after-requires-clause-leaf c =
    let leaf = c.args.leaf.now in
    let some = some_keys (edits_of c.args.edits.now) (rank leaf.lo) (rank leaf.hi) c.requires.met in
    let stands = lent_stands leaf c.requires.level leaf.block leaf.lo refl refl c.node-node.ensures.whole c.node-node.ensures.stands in
    let lie = stand_lie (rank leaf.lo) (rank leaf.hi) leaf.block stands (inl (omega (arith, some))) in
    let gets = gets_of c.args.edits.now c.in_ok-gets.gets c.in_ok-items.items.items c.as_slice.result.now c.cuts.result.now c.lo.result c.hi.result leaf c.lo.ensures c.hi.ensures c.cuts.ensures c.as_slice.ensures.value
    c.in_ok-items.ensures c.in_ok-gets.ensures.cuts c.in_ok-gets.ensures.items c.in_ok-gets.ensures.edits in (
      rank leaf.hi,
      (
        subst (λ (k : Key). Lie (rank k) (rank leaf.hi) (view_items c.node-node.result)) (sym c.lo-2.ensures)
            (subst (Lie (rank leaf.lo) (rank leaf.hi)) (sym c.node-node.ensures.items) lie),
        subst (λ (k : Key). AreWithin (rank k) (rank leaf.hi) c.as_slice.result.now) (sym c.lo-2.ensures) gets.within,
      ),
    )

pub bytes_after-requires-clause-can : goal.bytes_after-requires-clause-can
bytes_after-requires-clause-can c =
    let leaf = c.args.leaf.now in
    let some = some_keys (edits_of c.args.edits.now) (rank leaf.lo) (rank leaf.hi) c.requires.met in
    let stands = lent_stands leaf c.requires.level leaf.block leaf.lo refl refl c.node-node.ensures.whole c.node-node.ensures.stands in
    let gets = gets_of c.args.edits.now c.in_ok-gets.gets c.in_ok-items.items.items c.as_slice.result.now c.cuts.result.now c.lo.result c.hi.result leaf c.lo.ensures c.hi.ensures c.cuts.ensures c.as_slice.ensures.value
    c.in_ok-items.ensures c.in_ok-gets.ensures.cuts c.in_ok-gets.ensures.items c.in_ok-gets.ensures.edits in
    subst (λ (us : List LeafUnit). CanPutAll c.as_slice.result.now (cut_all c.cuts.result.now us))
    (sym (lent_units leaf c.requires.level (view_items c.node-node.result) c.node-node.ensures.items))
    (gets.makes (node_of leaf).units (units_of_leaf leaf c.requires.level stands some)).can

pub returns : goal.returns
returns c =
    let leaf = c.args.leaf.now in
    let some = some_keys (edits_of c.args.edits.now) (rank leaf.lo) (rank leaf.hi) c.requires.met in
    let stands = lent_stands leaf c.requires.level leaf.block leaf.lo refl refl c.node-node.ensures.whole c.node-node.ensures.stands in
    let gets = gets_of c.args.edits.now c.in_ok-gets.gets c.in_ok-items.items.items c.as_slice.result.now c.cuts.result.now c.lo.result c.hi.result leaf c.lo.ensures c.hi.ensures c.cuts.ensures c.as_slice.ensures.value
    c.in_ok-items.ensures c.in_ok-gets.ensures.cuts c.in_ok-gets.ensures.items c.in_ok-gets.ensures.edits in
    same_room (edits_of c.args.edits.now) leaf c.cuts.result.now c.as_slice.result.now (view_items c.node-node.result) c.in_ok-bytes.bytes
    (lent_units leaf c.requires.level (view_items c.node-node.result) c.node-node.ensures.items)
    (gets.makes (node_of leaf).units (units_of_leaf leaf c.requires.level stands some)) c.in_ok-bytes.ensures
