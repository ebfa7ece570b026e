use Rattle.std.proofs.Common.{◌≤◌, Contains, take}
use Rattle.r4_done.specs.r4_buffer.Seen.{cells_of}
use Rattle.r4_cell.specs.Seen.{CellSeen}
use Rattle.r4_accounting.proofs.levels.levels_law.Given as goal

abbrev pub invariant-loop-cell : goal.invariant-loop-cell
invariant-loop-cell l = (x : CellSeen) → Contains (cells_of (take l.cell-index l.cells)) x → x.level ≤ 8
