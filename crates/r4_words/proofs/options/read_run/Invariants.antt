use Rattle.std.proofs.Common.{length, map, string_bytes}
use Rattle.r4_words.specs.Options.{AreInRange}
use Rattle.r4_words.proofs.Taking.{IsSoFar}
use Rattle.r4_words.proofs.options.read_run.Given as goal

abbrev pub invariant-loop-rest : goal.invariant-loop-rest
invariant-loop-rest l = IsSoFar (map string_bytes l.options) (map string_bytes l.rest) l.numbers
    × AreInRange l.numbers

abbrev pub decreases-loop-rest : goal.decreases-loop-rest
decreases-loop-rest l = length l.rest
