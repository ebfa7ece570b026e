use Rattle.std.proofs.Common.{◌∙◌, ap, refl}
use Rattle.r4_base.specs.Key.{rank}
use Rattle.r4_base.specs.Node.{mkfs_id_of}
use Rattle.r4_path.specs.r4_leaf.Units.{cut_units}
use Rattle.r4_path.specs.r4_node40.View.{view_block, view_items}
use Rattle.r4_edit.proofs.LeafLent.{lent_leaves, lent_stands}
use Rattle.r4_edit.proofs.PartedLeaf.{behind_is, behind_one, has_units, some_range}
use Rattle.r4_edit.proofs.leaf_parts.block_below.Goals as goal

pub only-requires : goal.only-requires
only-requires c =
    let leaf = c.args.leaf.now in
    let level = c.requires.level in
    behind_one leaf level (lent_stands leaf level leaf.block leaf.lo refl refl c.node.ensures.whole c.node.ensures.stands) (some_range leaf c.args.key.now c.requires.from c.requires.to)
    (rank c.args.key.now) (rank c.hi.result) (ap rank c.hi.ensures) c.in_ok-leaves.leaves.items
    (lent_leaves leaf level (cut_units (rank c.args.key.now) (rank c.hi.result)) (view_items c.node.result) c.lo.result c.in_ok-leaves.leaves.items c.node.ensures.items c.lo.ensures
    (c.in_ok-leaves.ensures.packs (rank leaf.hi) (lent_stands leaf level (view_block c.node.result).now c.lo.result c.node.ensures.block c.lo.ensures c.node.ensures.whole c.node.ensures.stands))
    c.in_ok-leaves.ensures.few)

pub returns : goal.returns
returns c =
    let leaf = c.args.leaf.now in
    let level = c.requires.level in
    let stand = lent_stands leaf level leaf.block leaf.lo refl refl c.node.ensures.whole c.node.ensures.stands in
    has_units leaf _ _ c.get32-mkfs_id.result c.in_ok-leaves.leaves.items c.only.result
    (behind_is leaf level stand (some_range leaf c.args.key.now c.requires.from c.requires.to) (rank c.args.key.now) (rank c.hi.result) (ap rank c.hi.ensures))
    (c.get32-mkfs_id.ensures ∙ ap mkfs_id_of (c.bytes.ensures.value ∙ c.block.ensures))
    (lent_leaves leaf level (cut_units (rank c.args.key.now) (rank c.hi.result)) (view_items c.node.result) c.lo.result c.in_ok-leaves.leaves.items c.node.ensures.items c.lo.ensures
    (c.in_ok-leaves.ensures.packs (rank leaf.hi) (lent_stands leaf level (view_block c.node.result).now c.lo.result c.node.ensures.block c.lo.ensures c.node.ensures.whole c.node.ensures.stands))
    c.in_ok-leaves.ensures.few)
    c.in_ok-leaves.ensures.mkfs_id c.only.ensures
