use Rattle.std.proofs.Common.{◌≡◌, ℕ, suc, Some}
use Rattle.r4_base.specs.Image.{Image}
use Rattle.r4_base.specs.Value.{Content}
use Rattle.r4_base.specs.Volume.{HasContent, IsReached}
use Rattle.r4_content.specs.Walk.{attr_at}
use Rattle.r4_list.specs.Below.{IsOnward, left_in}
use Rattle.r4_list.specs.Listing.{lines_of}
use Rattle.r4_list.specs.Over.{IsOver}
use Rattle.r4_list.specs.Walking.{IsEnough}
use Rattle.r4_list.proofs.Stages.{Went}
use Rattle.r4_list.proofs.below.print_object.Given as goal

abbrev pub invariant-loop-frame : goal.invariant-loop-frame
invariant-loop-frame g l = Went (g.P.Pool.state l.fn.pool) (g.P.Pool.state l.pool) (g.P.Pool.device l.fn.pool) (g.P.Pool.device l.pool) (g.K.Sink.state l.fn.out) (g.K.Sink.state l.out)
    × ((n : ℕ) (image : Image) (m : Content) (c : HasContent n image m) → IsOver c l.fn.root (g.P.Pool.state l.fn.pool) → (s : ℕ) → IsReached m s l.fn.object → attr_at m l.fn.object ≡ Some l.fn.attr → (steps : ℕ) → IsEnough m steps
    → IsOver c l.fn.root (g.P.Pool.state l.pool) × IsOnward c l.fn.object steps (lines_of m (suc steps) l.fn.object l.fn.path) (g.K.Sink.state l.fn.out) l.below (g.K.Sink.state l.out))

abbrev pub decreases-loop-frame : goal.decreases-loop-frame
decreases-loop-frame g l = left_in l.below
