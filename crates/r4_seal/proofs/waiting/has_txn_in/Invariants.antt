use Rattle.std.specs.Prelude.{◌≡◌, ◌<◌, ◌≤◌, ℕ}
use Rattle.r4_atoms.specs.Atoms.{atom_of, txn_of}
use Rattle.r4_seal.proofs.waiting.has_txn_in.Given as goal

abbrev pub invariant-loop-at : goal.invariant-loop-at
invariant-loop-at l = (t : ℕ) → 0 < t → t ≤ l.at → (txn_of l.atoms t).script ≡ l.script.0
    → atom_of l.atoms t ≡ l.atom.0 → ⊥
