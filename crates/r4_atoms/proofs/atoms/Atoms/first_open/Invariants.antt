use Rattle.std.proofs.Common.{ℕ, ◌<◌}
use Rattle.r4_atoms.specs.Atoms.{IsOpenIn}
use Rattle.r4_atoms.proofs.atoms.Atoms.first_open.Given as goal

abbrev pub invariant-loop-at : goal.invariant-loop-at
invariant-loop-at l = (t : ℕ) → IsOpenIn l.self l.atom.0 t → l.at < t
