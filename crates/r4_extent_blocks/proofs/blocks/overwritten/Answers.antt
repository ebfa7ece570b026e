use Rattle.std.proofs.Common.{refl}
use Rattle.std.proofs.lemmas.Result.{IfOk-weaker}
use Rattle.std.specs.Arc.{arc_value}
use Rattle.r4_base.specs.Cell.{cell_fault}
use Rattle.r4_base.specs.Key.{rank}
use Rattle.r4_content.specs.Held.{edits_of}
use Rattle.r4_extent_blocks.proofs.MadeCells.{old_is, set_at}
use Rattle.r4_extent_blocks.proofs.blocks.overwritten.Goals as goal

pub new_cell-requires : goal.new_cell-requires
unfolding cell_fault
new_cell-requires c = refl

pub returns : goal.returns
returns c =
    IfOk-weaker c.new_cell.result _ _
    (λ x is. old_is (edits_of c.args.edits.now) c.args.block.now c.id.result.0 c.lo-lo.result c.hi.result c.block.result.now c.in_ok-bytes.bytes c.set_all.new.bytes (arc_value x) c.requires c.id.ensures c.lo-lo.ensures c.hi.ensures c.block.ensures
    c.begun.ensures.whole c.bytes_mut.ensures.len c.in_ok-bytes.ensures.begun (set_at (edits_of c.args.edits.now) (rank c.lo-lo.result) _ _ _ c.bytes_mut.ensures.value c.set_all.ensures) is) c.new_cell.ensures
