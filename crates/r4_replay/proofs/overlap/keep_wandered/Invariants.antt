use Rattle.std.proofs.Common.{take}
use Rattle.std.specs.Prelude.{map}
use Rattle.r4_replay.specs.Overlaps.{Adds}
use Rattle.r4_replay.proofs.overlap.keep_wandered.Given as goal

abbrev pub invariant-loop-wandered : goal.invariant-loop-wandered
invariant-loop-wandered l = Adds l.fn.kept (take l.wandered-index (map (λ p. p.1) l.pairs)) l.kept
