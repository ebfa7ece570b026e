use Rattle.std.proofs.Common.{arith, ap, false, sym, ◌∙◌, List, ℕ}
use Rattle.r4_base.specs.Cell.{cell_fault}
use Rattle.r4_base.specs.Key.{rank}
use Rattle.r4_cell.proofs.Faults.{stands}
use Rattle.r4_cell.proofs.reading.read_cell.Goals as goal

pub invariant_of-new : goal.invariant_of-new
invariant_of-new c =
    let block = ap (λ (b : List ℕ). cell_fault false c.args.blocks c.args.level (rank c.args.lo) (rank c.args.hi) b) c.bytes.ensures.value in
    stands false c.args.blocks 18446744073709551616 c.args.level (rank c.args.lo) (rank c.args.hi) c.args.block (omega arith) (sym block ∙ sym c.fault_of_block.ensures ∙ c.in_default.is)
