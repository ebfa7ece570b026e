use Rattle.std.proofs.Common.{◌≤◌, ◌-◌, ℕ}
use Rattle.r4_base.specs.Image.{Image}
use Rattle.r4_base.specs.Value.{Content}
use Rattle.r4_base.specs.Volume.{HasContent}
use Rattle.r4_list.proofs.BodyParts.{SoFar}
use Rattle.r4_list.specs.Body.{IsFileTo}
use Rattle.r4_list.specs.Over.{IsOver}
use Rattle.r4_list.proofs.Stages.{Went}
use Rattle.r4_list.proofs.body.print_body.Given as goal

abbrev pub invariant-loop-offset : goal.invariant-loop-offset
invariant-loop-offset g l = Went (g.P.Pool.state l.fn.pool) (g.P.Pool.state l.pool) (g.P.Pool.device l.fn.pool) (g.P.Pool.device l.pool) (g.K.Sink.state l.fn.out) (g.K.Sink.state l.out) × (l.offset ≤ l.end)
    × ((n : ℕ) (image : Image) (m : Content) (c : HasContent n image m) → IsOver c l.root (g.P.Pool.state l.fn.pool) → IsFileTo m l.file l.end → SoFar c l.root l.file l.offset (g.K.Sink.state l.fn.out) (g.P.Pool.state l.pool) (g.K.Sink.state l.out))

abbrev pub decreases-loop-offset : goal.decreases-loop-offset
decreases-loop-offset g l = l.end - l.offset
