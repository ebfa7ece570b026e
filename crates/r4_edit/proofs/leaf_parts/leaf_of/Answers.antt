use Rattle.std.specs.Arc.{arc_value}
use Rattle.std.proofs.lemmas.Result.{IfOk-weaker}
use Rattle.r4_base.specs.Key.{rank}
use Rattle.r4_edit.specs.Editing.{given_item}
use Rattle.r4_edit.proofs.NewLeaves.{one_fits, one_leaf}
use Rattle.r4_edit.proofs.leaf_parts.leaf_of.Goals as goal

pub new_cell-requires : goal.new_cell-requires
new_cell-requires c = one_fits (given_item c.args.key.now c.args.plugin c.args.body.now) (rank c.args.hi) c.fill_leaf.new.block c.requires.given c.requires.to c.fill_leaf.ensures.node

pub returns : goal.returns
returns c =
    IfOk-weaker c.new_cell.result _ _ (λ x is.
    one_leaf (given_item c.args.key.now c.args.plugin c.args.body.now) c.args.id.0 c.args.hi c.args.mkfs_id c.fill_leaf.new.block (arc_value x)
    c.requires.given c.requires.to c.fill_leaf.ensures.node c.fill_leaf.ensures.mkfs_id is)
    c.new_cell.ensures
