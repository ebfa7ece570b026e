use Rattle.std.proofs.Common.{◌-◌, ◌≤◌}
use Rattle.r4_base.specs.Key.{least, rank}
use Rattle.r4_content.specs.Edited.{is_between}
use Rattle.r4_marking.specs.r4_search.Pool.{LeavesDevice}
use Rattle.r4_touching.specs.Touching.{Touches}
use Rattle.r4_extent_touching.proofs.Held.{AreSoFar}
use Rattle.r4_extent_touching.proofs.touching.touch_keys.Given as goal

abbrev pub invariant-loop-alloc : goal.invariant-loop-alloc
invariant-loop-alloc g l = (least ≤ rank l.at) × (rank l.fn.from ≤ rank l.at)
    × LeavesDevice (g.P.Pool.device l.fn.pool) (g.P.Pool.device l.pool)
    × Touches l.root (is_between (rank l.fn.from) (rank l.fn.to)) (g.P.Pool.state l.fn.pool) (g.P.Pool.state l.pool)
    × AreSoFar (rank l.fn.from) (rank l.at) (g.P.Pool.state l.pool)

abbrev pub decreases-loop-alloc : goal.decreases-loop-alloc
decreases-loop-alloc g l = rank l.fn.to - rank l.at
