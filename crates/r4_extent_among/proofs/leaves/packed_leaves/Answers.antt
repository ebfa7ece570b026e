use Rattle.std.proofs.Common.{◌≡◌, List, ap, arith, length, subst, sym, ◌∙◌}
use Rattle.std.specs.Arc.{arc_value}
use Rattle.std.specs.Option.{option_copied}
use Rattle.r4_base.specs.Key.{rank}
use Rattle.r4_extent_build.specs.r4_cell.Seen.{CellSeen}
use Rattle.r4_extent_build.specs.r4_cell.declared.change.Fresh.{Fresh}
use Rattle.r4_content.specs.Held.{edits_of}
use Rattle.r4_extent_build.specs.r4_edit.LeafParts.{IsEmptyLeaf}
use Rattle.r4_extent_build.specs.r4_extent_demands.Putting.{put_into}
use Rattle.r4_build.specs.r4_leaf.Leaves.{AreFew, HaveMkfsId, Packs}
use Rattle.r4_build.specs.r4_leaf.Units.{LeafUnit}
use Rattle.r4_build.specs.r4_path.Levels.{step_of}
use Rattle.r4_extent_among.proofs.PackedLeaves.{counted, empty_node, few_length, packed_from}
use Rattle.r4_extent_among.proofs.leaves.packed_leaves.Goals as goal

pub leaf_level-requires-clause-node : goal.leaf_level-requires-clause-node
leaf_level-requires-clause-node c = empty_node c.args.range.now c.take_number-id.result.0 c.args.mkfs_id (arc_value c.in_ok-leaf.leaf) c.requires.range c.in_ok-leaf.ensures

pub leaf_level-requires-clause-numbers : goal.leaf_level-requires-clause-numbers
leaf_level-requires-clause-numbers c =
    let b = option_copied c.args.body in
    let e = edits_of c.args.edits.now in
    let leaf = arc_value c.in_ok-leaf.leaf in
    let is = c.in_ok-leaf.ensures in
    let us = put_into b e (rank c.args.range.now.from) (rank c.args.range.now.to) in
    let values : put_into b e (rank c.deref.result.now.lo) (rank c.deref.result.now.hi) ≡ us
    = (λ i. put_into b e (rank ((ap (λ (x : CellSeen). x.lo) c.deref.ensures ∙ is.from) i)) (rank ((ap (λ (x : CellSeen). x.hi) c.deref.ensures ∙ is.to) i))) in
    let few = subst (λ (vs : List LeafUnit). AreFew vs c.in_ok-leaves.leaves.items) values c.in_ok-leaves.ensures.few in
    let long = counted us (length c.in_ok-leaves.leaves.items) (few_length us c.in_ok-leaves.leaves.items few) in
    let n = ap (λ (f : Fresh). f.next) c.take_number-id.ensures.next in
    let end = ap (λ (f : Fresh). f.end) c.take_number-id.ensures.next in
    let enough = c.requires.numbers in
    omega (arith, long, n, end, enough)

pub returns-clause-packed : goal.returns-clause-packed
returns-clause-packed c =
    let b = option_copied c.args.body in
    let e = edits_of c.args.edits.now in
    let leaf = arc_value c.in_ok-leaf.leaf in
    let r = c.args.range.now in
    let m = c.args.mkfs_id in
    let is : IsEmptyLeaf c.args.fresh.now.next r.from r.to m leaf = subst (λ i. IsEmptyLeaf i r.from r.to m leaf) c.take_number-id.ensures.number c.in_ok-leaf.ensures in
    let us = put_into b e (rank r.from) (rank r.to) in
    let leaves = c.in_ok-leaves.leaves.items in
    let values : put_into b e (rank leaf.lo) (rank leaf.hi) ≡ us = (λ i. put_into b e (rank (is.from i)) (rank (is.to i))) in
    let few = subst (λ (vs : List LeafUnit). AreFew vs leaves) values (subst (λ (x : CellSeen). AreFew (put_into b e (rank x.lo) (rank x.hi)) leaves) c.deref.ensures c.in_ok-leaves.ensures.few) in
    let packs = subst (λ (vs : List LeafUnit). Packs (rank leaf.lo) (rank leaf.hi) vs leaves) values
    (subst (λ (x : CellSeen). Packs (rank x.lo) (rank x.hi) (put_into b e (rank x.lo) (rank x.hi)) leaves) c.deref.ensures c.in_ok-leaves.ensures.packs) in
    let ids = subst (λ i. HaveMkfsId i leaves) (sym is.mkfs_id_is) c.in_ok-leaves.ensures.mkfs_id in
    packed_from r m leaf c.args.fresh.now c.take_number-id.new.fresh c.leaf_level.new.fresh us leaves (step_of c.in_ok-new.field-0) c.requires.range is c.take_number-id.ensures.next few packs
    (c.in_ok-new.ensures.step us packs ids)
