use Rattle.std.proofs.Common.{take}
use Rattle.std.specs.Prelude.{All}
use Rattle.r4_closed.specs.Named.{IsCalledFor}
use Rattle.r4_closed.proofs.closed.are_called_for.Given as goal

abbrev pub invariant-loop-id : goal.invariant-loop-id
invariant-loop-id l = All (IsCalledFor l.root.0 l.named) (take l.id-index l.ids)
