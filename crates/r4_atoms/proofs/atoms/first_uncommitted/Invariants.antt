use Rattle.std.proofs.Common.{◌≡◌, ℕ, ◌<◌, ◌≤◌, true, get_or}
use Rattle.r4_atoms.specs.Atoms.{state_at}
use Rattle.r4_atoms.proofs.atoms.first_uncommitted.Given as goal

abbrev pub invariant-loop-at : goal.invariant-loop-at
invariant-loop-at l = (i : ℕ) → l.low ≤ i → i < l.at → (state_at l.states (get_or l.forest.names i 0)).committed ≡ true
