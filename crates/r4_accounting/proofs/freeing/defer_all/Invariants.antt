use Rattle.std.proofs.Common.{take}
use Rattle.r4_done.specs.r4_buffer.Seen.{cells_of}
use Rattle.r4_accounting.specs.Accounting.{HasDeferred}
use Rattle.r4_accounting.proofs.freeing.defer_all.Given as goal

abbrev pub invariant-loop-cell : goal.invariant-loop-cell
invariant-loop-cell l =
    HasDeferred l.initial.space l.space l.atom (cells_of (take l.cell-index l.old)) (cells_of l.new)
