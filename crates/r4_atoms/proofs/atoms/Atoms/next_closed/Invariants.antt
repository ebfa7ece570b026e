use Rattle.std.proofs.Common.{ℕ, ◌<◌}
use Rattle.r4_atoms.specs.Atoms.{IsClosedAtom}
use Rattle.r4_atoms.proofs.atoms.Atoms.next_closed.Given as goal

abbrev pub invariant-loop-at : goal.invariant-loop-at
invariant-loop-at l = (a : ℕ) → IsClosedAtom l.self a → l.at < a
