use Rattle.std.proofs.Common.{◌≤◌, ◌-◌, ◌^◌}
use Rattle.std.specs.Prelude.{ℕ}
use Rattle.r4_base.specs.Image.{Image}
use Rattle.r4_base.specs.Key.{IsKey, rank}
use Rattle.r4_base.specs.Value.{Content}
use Rattle.r4_base.specs.Volume.{HasContent}
use Rattle.r4_list.specs.Frame.{NoEntries}
use Rattle.r4_list.specs.Over.{IsOver}
use Rattle.r4_list.proofs.Stages.{Moves}
use Rattle.r4_list.proofs.frame.leaf_from.Given as goal

abbrev pub invariant-loop-at : goal.invariant-loop-at
invariant-loop-at g l = Moves (g.P.Pool.state l.fn.pool) (g.P.Pool.state l.pool) (g.P.Pool.device l.fn.pool) (g.P.Pool.device l.pool) × (rank l.key ≤ rank l.at)
    × ((n : ℕ) (image : Image) (m : Content) (c : HasContent n image m) → IsOver c l.fn.root (g.P.Pool.state l.fn.pool) → IsOver c l.fn.root (g.P.Pool.state l.pool) × NoEntries m (rank l.key) (rank l.at))
    × IsKey l.at

abbrev pub decreases-loop-at : goal.decreases-loop-at
decreases-loop-at g l = 2 ^ 256 - rank l.at
