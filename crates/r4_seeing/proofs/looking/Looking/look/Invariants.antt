use Rattle.std.proofs.Common.{◌-◌, ◌≤◌}
use Rattle.r4_base.specs.Key.{least, rank}
use Rattle.r4_search.specs.Pool.{Goes, LeavesDevice}
use Rattle.r4_seeing.specs.Known.{AreKnown}
use Rattle.r4_seeing.specs.Looking.{KnowsBetween, KnowsMore, MeetsBetween}
use Rattle.r4_seeing.proofs.looking.Looking.look.Given as goal

abbrev pub invariant-loop-alloc : goal.invariant-loop-alloc
invariant-loop-alloc g l = (rank l.fn.from ≤ rank l.at) × Goes (g.P.Pool.state l.fn.self.pool)
    (g.P.Pool.state l.self.pool) × LeavesDevice (g.P.Pool.device l.fn.self.pool)
    (g.P.Pool.device l.self.pool) × KnowsMore l.fn.self l.self × AreKnown l.self.known (rank l.fn.from) (rank l.at)
    × MeetsBetween (rank l.fn.from) (rank l.fn.to) (g.P.Pool.state l.fn.self.pool) (g.P.Pool.state l.self.pool)
    × KnowsBetween (rank l.fn.from) (rank l.fn.to) l.fn.self.known l.self.known

abbrev pub decreases-loop-alloc : goal.decreases-loop-alloc
decreases-loop-alloc g l = rank l.fn.to - rank l.at
