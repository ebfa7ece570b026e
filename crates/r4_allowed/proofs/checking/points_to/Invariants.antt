use Rattle.std.proofs.Common.{take}
use Rattle.std.specs.Prelude.{All}
use Rattle.r4_base.specs.Node.{Item, items_of}
use Rattle.r4_allowed.specs.Allowing.{IsPointerTo}
use Rattle.r4_allowed.proofs.checking.points_to.Given as goal

abbrev pub invariant-loop-i : goal.invariant-loop-i
invariant-loop-i l = All (λ (it : Item). IsPointerTo it l.id.0 → ⊥) (take l.i (items_of l.node.block))
