use Rattle.std.proofs.Common.{take}
use Rattle.r4_done.specs.r4_buffer.Seen.{cells_of}
use Rattle.r4_accounting.specs.Accounting.{HasOwned}
use Rattle.r4_accounting.proofs.owning.own_all.Given as goal

abbrev pub invariant-loop-cell : goal.invariant-loop-cell
invariant-loop-cell l = HasOwned l.initial.atoms l.atoms l.atom.0 (cells_of (take l.cell-index l.cells))
