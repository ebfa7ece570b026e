use Rattle.std.specs.Arc.{arc_value}
use Rattle.std.proofs.lemmas.Result.{IfOk-weaker}
use Rattle.r4_base.specs.Key.{rank}
use Rattle.r4_build.proofs.r4_edit.NewLeaves.{no_leaf, none_fits}
use Rattle.r4_extent_among.proofs.leaves.empty_leaf.Goals as goal

pub new_cell-requires : goal.new_cell-requires
new_cell-requires c = none_fits (rank c.args.range.now.from) (rank c.args.range.now.to) c.format_leaf.new.block c.format_leaf.ensures.node

pub returns : goal.returns
returns c =
    IfOk-weaker c.new_cell.result _ _ (λ x is.
    no_leaf c.args.id.0 c.args.range.now.from c.args.range.now.to c.args.mkfs_id c.format_leaf.new.block (arc_value x) c.format_leaf.ensures.node c.format_leaf.ensures.mkfs_id is)
    c.new_cell.ensures
