use Rattle.std.proofs.Common.{◌≡◌, ◌<◌, ◌≤◌, ℕ, length}
use Rattle.r4_atoms.specs.Atoms.{IsBegun, txn_of}
use Rattle.r4_next.proofs.answering.last_of.Given as goal

-- those behind it are of other scripts
abbrev pub invariant-loop-at : goal.invariant-loop-at
invariant-loop-at l = (l.at ≤ length l.fn.atoms.txns)
    × ((t : ℕ) → IsBegun l.fn.atoms t → l.at < t → (txn_of l.fn.atoms t).script ≡ l.fn.script.0 → ⊥)

abbrev pub decreases-loop-at : goal.decreases-loop-at
decreases-loop-at l = l.at
