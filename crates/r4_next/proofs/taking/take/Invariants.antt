use Rattle.std.proofs.Common.{◌<◌, ◌-◌, ◌^◌, length}
use Rattle.std.specs.Prelude.{IfSome}
use Rattle.r4_turns.specs.Turns.{IsScript}
use Rattle.r4_next.specs.Order.{rank_of}
use Rattle.r4_next.proofs.InTurn.{IsOn}
use Rattle.r4_next.proofs.taking.take.Given as goal

abbrev pub invariant-loop-script : goal.invariant-loop-script
invariant-loop-script g l = IsOn g.D.Device.state l.fn.core l.core l.last l.first
    × IfSome l.last (λ s. IsScript l.core.turns s.0)
    × IfSome l.last (λ s. s.0 < 4294967296)
    × (length l.core.atoms.txns < 4294967295)

abbrev pub decreases-loop-script : goal.decreases-loop-script
decreases-loop-script g l = 2 ^ 64 - rank_of l.core.turns l.last
