use Rattle.std.proofs.Common.{◌≡◌, map, take, true}
use Rattle.std.specs.Arc.{arc_value}
use Rattle.std.specs.Prelude.{Contains}
use Rattle.r4_base.specs.Key.{rank}
use Rattle.r4_extent_commands.specs.r4_cell.Seen.{CellSeen}
use Rattle.r4_extent_reaching.specs.r4_extent_touching.Holding.{AreLeftMet}
use Rattle.r4_extent_asks.specs.r4_search.Pool.{Goes, LeavesDevice}
use Rattle.r4_extent_reach.specs.Meeting.{MeetsBeside, turns_of}
use Rattle.r4_extent_reach.proofs.beside.meet_beside_each.Given as goal

abbrev pub invariant-loop-cell : goal.invariant-loop-cell
invariant-loop-cell g l = LeavesDevice (g.P.Pool.device l.fn.pool) (g.P.Pool.device l.pool)
    × Goes (g.P.Pool.state l.fn.pool) (g.P.Pool.state l.pool)
    × MeetsBeside (turns_of l.demands) (map (λ c. arc_value c) l.cells) (g.P.Pool.state l.fn.pool)
    (g.P.Pool.state l.pool)
    × ((c : CellSeen) → Contains (map (λ x. arc_value x) (take l.cell-index l.cells)) c
    → turns_of l.demands c ≡ true → AreLeftMet (g.P.Pool.state l.pool) c (rank l.at))
