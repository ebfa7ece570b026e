use Rattle.std.proofs.Common.{refl, sym, ◌∙◌}
use Rattle.r4_base.specs.Key.{rank}
use Rattle.r4_edit.proofs.PartedLeaf.{right_fits, right_node, right_none, right_part_is, some_range}
use Rattle.r4_edit.proofs.leaf_parts.right_part.Goals as goal

pub first_key-requires : goal.first_key-requires
first_key-requires c = right_node c.args.leaf.now (rank c.args.key.now) c.in_ok-block.block (some_range c.args.leaf.now c.args.key.now c.requires.from c.requires.to) c.in_ok-block.ensures

pub returns-in_default-clause-right : goal.returns-in_default-clause-right
returns-in_default-clause-right c = right_none c.args.leaf.now (rank c.args.key.now) c.in_ok-block.block
    (some_range c.args.leaf.now c.args.key.now c.requires.from c.requires.to) c.in_ok-block.ensures c.first_key.result c.first_key.ensures c.in_default.is

pub new_cell-requires : goal.new_cell-requires
new_cell-requires c = right_fits c.args.leaf.now (rank c.args.key.now) c.in_ok-block.block
    (some_range c.args.leaf.now c.args.key.now c.requires.from c.requires.to) c.in_ok-block.ensures c.in-Some.lo (sym c.first_key.ensures ∙ c.in-Some.is) c.hi.result c.hi.ensures

pub returns-clause-right : goal.returns-clause-right
returns-clause-right c = right_part_is c.args.leaf.now (rank c.args.key.now) c.in_ok-block.block
    (some_range c.args.leaf.now c.args.key.now c.requires.from c.requires.to) c.in_ok-block.ensures c.in-Some.lo (sym c.first_key.ensures ∙ c.in-Some.is)
    _ c.args.key.now c.number_of_right-id.result.0 _ c.hi.result refl c.in_ok-cell.ensures c.number_of_right-id.ensures.number c.hi.ensures
