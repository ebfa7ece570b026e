use Rattle.std.proofs.Common.{◌≡◌, ℕ, ◌<◌, true}
use Rattle.r4_atoms.specs.Atoms.{atom_of, is_committed, IsBegun, txn_of}
use Rattle.r4_atoms.proofs.AtomLaws.{IsOfScript}
use Rattle.r4_atoms.proofs.atoms.Atoms.all_committed.Given as goal

abbrev pub invariant-loop-at : goal.invariant-loop-at
invariant-loop-at l = record { place : IsOfScript l.self l.script.0 l.at; done : (t : ℕ) → IsBegun l.self t → l.at < t → (txn_of l.self t).script ≡ l.script.0 → is_committed l.self (atom_of l.self t) ≡ true }

abbrev pub decreases-loop-at : goal.decreases-loop-at
decreases-loop-at l = l.at
