use Rattle.std.proofs.Common.{◌∙◌}
use Rattle.std.specs.Arc.{arc_value}
use Rattle.std.proofs.lemmas.Result.{IfOk-weaker}
use Rattle.r4_path.specs.r4_node40.View.{view_block}
use Rattle.r4_edit.proofs.NewLeaves.{wide_fits, wide_leaf}
use Rattle.r4_edit.proofs.leaf_parts.widened.Goals as goal

pub new_cell-requires : goal.new_cell-requires
new_cell-requires c =
    wide_fits c.args.leaf.now c.args.hi c.requires.level c.node.ensures.whole c.node.ensures.stands c.requires.to
    c.level-level.result c.lo.result (view_block c.node.result).now c.in_ok-block.block c.level-level.ensures c.node.ensures.block c.lo.ensures
    (c.in_ok-block.ensures ∙ c.block.ensures)

pub returns : goal.returns
returns c =
    IfOk-weaker c.new_cell.result _ _ (λ x is.
    wide_leaf c.args.leaf.now c.args.hi c.requires.level c.node.ensures.whole c.node.ensures.stands c.requires.to
    c.level-level.result c.lo.result (view_block c.node.result).now c.in_ok-block.block c.level-level.ensures c.node.ensures.block c.lo.ensures
    (c.in_ok-block.ensures ∙ c.block.ensures)
    (arc_value x) c.id.result.0 is c.id.ensures)
    c.new_cell.ensures
