use Rattle.std.proofs.Common.{refl}
use Rattle.std.proofs.lemmas.Result.{IfOk-weaker}
use Rattle.std.specs.Arc.{arc_value}
use Rattle.r4_base.specs.Cell.{cell_fault}
use Rattle.r4_base.specs.Key.{rank}
use Rattle.r4_content.specs.Held.{edits_of}
use Rattle.r4_extent_blocks.proofs.MadeCells.{new_is, set_at}
use Rattle.r4_extent_blocks.proofs.blocks.new_block.Goals as goal

pub new_cell-requires : goal.new_cell-requires
unfolding cell_fault
new_cell-requires c = refl

pub returns : goal.returns
returns c =
    IfOk-weaker c.new_cell.result _ _
    (λ x is. new_is (edits_of c.args.edits.now) c.args.id.0 c.args.lo c.behind.result c.in_ok-bytes.bytes c.set_all.new.bytes (arc_value x) c.behind.ensures c.in_ok-bytes.ensures (set_at (edits_of c.args.edits.now) (rank c.args.lo) _ _ _ c.bytes_mut.ensures.value c.set_all.ensures) is) c.new_cell.ensures
