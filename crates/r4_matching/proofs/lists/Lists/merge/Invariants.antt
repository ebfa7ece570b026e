use Rattle.std.proofs.Common.{◌+◌, ◌-◌, drop, length}
use Rattle.r4_matching.specs.Nearest.{IsFound, IsMerged}
use Rattle.r4_matching.proofs.lists.Lists.merge.Given as goal

abbrev pub invariant-loop-merged : goal.invariant-loop-merged
invariant-loop-merged l = record {
  found : IsFound l.self.had.now l.self.has.now l.merged.first;
  merged : IsMerged l.self.had.now l.self.has.now l.merged.first (drop l.merged.had l.self.had.now)
      (drop l.merged.has l.self.has.now);
}

abbrev pub decreases-loop-merged : goal.decreases-loop-merged
decreases-loop-merged l = length l.had - l.merged.had + (length l.has - l.merged.has)
