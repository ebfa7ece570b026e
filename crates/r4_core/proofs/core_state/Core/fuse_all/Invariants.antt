use Rattle.std.proofs.Common.{length}
use Rattle.r4_others.specs.Others.{pairs_of}
use Rattle.r4_core.proofs.FusingAll.{GoesAlong}
use Rattle.r4_core.proofs.core_state.Core.fuse_all.Given as goal

abbrev pub decreases-loop-rest : goal.decreases-loop-rest
decreases-loop-rest g l = length l.rest

abbrev pub invariant-loop-rest : goal.invariant-loop-rest
invariant-loop-rest g l =
    GoesAlong l.initial.self l.fn.own.0 (pairs_of l.fn.others) l.self l.all.0 (pairs_of l.rest)
