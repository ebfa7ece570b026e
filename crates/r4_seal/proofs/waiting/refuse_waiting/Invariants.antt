use Rattle.r4_seal.proofs.Refusing.{IsRefusedUpTo}
use Rattle.r4_seal.proofs.waiting.refuse_waiting.Given as goal

abbrev pub invariant-loop-at : goal.invariant-loop-at
invariant-loop-at g l = IsRefusedUpTo l.fn.core l.core l.fn.atom.0 l.at
