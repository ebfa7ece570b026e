use Rattle.std.proofs.Common.{take}
use Rattle.std.specs.Prelude.{map}
use Rattle.r4_replay.specs.Overlaps.{IsSmallestIn}
use Rattle.r4_replay.proofs.overlap.smallest_in.Given as goal

abbrev pub invariant-loop-original : goal.invariant-loop-original
invariant-loop-original l = IsSmallestIn l.kept (take l.original-index (map (λ p. p.0) l.pairs)) l.fn.before l.smallest
