use Rattle.std.proofs.Common.{List, drop}
use Rattle.r4_cell.specs.Seen.{CellSeen}
use Rattle.r4_matching.specs.Nearest.{IsFound, IsMerged}
use Rattle.r4_matching.proofs.lists.Lists.nearest.Given as goal

abbrev pub invariant-loop-i : goal.invariant-loop-i
invariant-loop-i l = record {
  found : IsFound l.self.had.now l.self.has.now l.fn.found → IsFound l.self.had.now l.self.has.now l.first;
  merged : (others : List CellSeen)
      → IsMerged l.self.had.now l.self.has.now l.fn.found (drop l.from l.fn.cells) others
      → IsMerged l.self.had.now l.self.has.now l.first (drop l.i l.fn.cells) others;
}
