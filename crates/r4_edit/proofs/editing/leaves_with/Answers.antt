use Rattle.std.proofs.Common.{sym, subst}
use Rattle.std.proofs.lemmas.Result.{IfOk-weaker}
use Rattle.r4_base.specs.Cell.{item_units}
use Rattle.r4_base.specs.Key.{rank}
use Rattle.r4_path.specs.r4_leaf.Leaves.{AreApart}
use Rattle.r4_path.specs.r4_leaf.Units.{put_units}
use Rattle.r4_path.specs.r4_node40.View.{view_block, view_items}
use Rattle.r4_edit.proofs.LeafLent.{lent_leaves, lent_stands, lent_units}
use Rattle.r4_path.proofs.Results.{and_ok}
use Rattle.r4_edit.proofs.editing.leaves_with.Goals as goal

pub put_in-requires-clause-apart : goal.put_in-requires-clause-apart
put_in-requires-clause-apart c =
    subst (λ us. AreApart us (item_units (record { key = c.args.key.now; plugin = c.args.plugin; body = c.args.body.now })))
    (sym (lent_units c.args.leaf.now c.requires.level (view_items c.node.result) c.node.ensures.items)) c.requires.apart

pub returns-clause-leaves : goal.returns-clause-leaves
returns-clause-leaves c =
    IfOk-weaker c.put_in.result _ _ (λ v h.
    lent_leaves c.args.leaf.now c.requires.level
    (put_units (item_units (record { key = c.args.key.now; plugin = c.args.plugin; body = c.args.body.now })))
    (view_items c.node.result) c.lo.result v.items c.node.ensures.items c.lo.ensures
    (h.0 (rank c.args.leaf.now.hi) (lent_stands c.args.leaf.now c.requires.level
    (view_block c.node.result).now c.lo.result c.node.ensures.block c.lo.ensures c.node.ensures.whole c.node.ensures.stands) c.requires.to) h.1)
    (and_ok c.put_in.result _ _ c.put_in.ensures.packs c.put_in.ensures.few)
