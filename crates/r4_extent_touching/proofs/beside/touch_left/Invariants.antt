use Rattle.std.proofs.Common.{ℕ, ◌<◌}
use Rattle.r4_base.specs.Key.{rank}
use Rattle.r4_marking.specs.r4_search.Pool.{Goes, LeavesDevice}
use Rattle.r4_extent_touching.proofs.beside.touch_left.Given as goal
use Rattle.r4_extent_touching.specs.Holding.{AreLeftMetAt, MeetsLeft}

abbrev pub invariant-loop-i : goal.invariant-loop-i
invariant-loop-i g l = LeavesDevice (g.P.Pool.device l.fn.pool) (g.P.Pool.device l.pool)
    × Goes (g.P.Pool.state l.fn.pool) (g.P.Pool.state l.pool)
    × MeetsLeft l.twig (rank l.at) (g.P.Pool.state l.fn.pool) (g.P.Pool.state l.pool)
    × ((place : ℕ) → place < l.i → AreLeftMetAt (g.P.Pool.state l.pool) l.twig place (rank l.at))
