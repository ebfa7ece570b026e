use Rattle.r4_patch.proofs.Shared.{NoneBefore}
use Rattle.r4_patch.proofs.joining.first_shared.Given as goal

abbrev pub invariant-loop-id : goal.invariant-loop-id
invariant-loop-id l = NoneBefore l.ids l.others l.id-index
