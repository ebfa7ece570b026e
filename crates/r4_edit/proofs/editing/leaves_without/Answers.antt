use Rattle.std.proofs.lemmas.Result.{IfOk-weaker}
use Rattle.r4_base.specs.Key.{rank}
use Rattle.r4_path.specs.r4_leaf.Units.{cut_units}
use Rattle.r4_path.specs.r4_node40.View.{view_block, view_items}
use Rattle.r4_edit.proofs.LeafLent.{lent_leaves, lent_stands}
use Rattle.r4_path.proofs.Results.{and_ok}
use Rattle.r4_edit.proofs.editing.leaves_without.Goals as goal

pub returns-clause-leaves : goal.returns-clause-leaves
returns-clause-leaves c =
    IfOk-weaker c.cut_out.result _ _ (λ v h.
    lent_leaves c.args.leaf.now c.requires.level (cut_units (rank c.args.from.now) (rank c.args.to.now))
    (view_items c.node.result) c.lo.result v.items c.node.ensures.items c.lo.ensures
    (h.0 (rank c.args.leaf.now.hi) (lent_stands c.args.leaf.now c.requires.level
    (view_block c.node.result).now c.lo.result c.node.ensures.block c.lo.ensures c.node.ensures.whole c.node.ensures.stands)) h.1)
    (and_ok c.cut_out.result _ _ c.cut_out.ensures.packs c.cut_out.ensures.few)
