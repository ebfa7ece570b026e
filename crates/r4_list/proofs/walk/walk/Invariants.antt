use Rattle.std.proofs.Common.{length, ◌-◌}
use Rattle.r4_list.proofs.OverWalks.{IsWalk}
use Rattle.r4_list.proofs.walk.walk.Given as goal

abbrev pub invariant-loop-from : goal.invariant-loop-from
invariant-loop-from g l = IsWalk l.root l.path (g.P.Pool.state l.fn.pool) (g.P.Pool.state l.pool) (g.P.Pool.device l.fn.pool) (g.P.Pool.device l.pool) l.from l.object l.attr

abbrev pub decreases-loop-from : goal.decreases-loop-from
decreases-loop-from g l = length l.path - l.from
