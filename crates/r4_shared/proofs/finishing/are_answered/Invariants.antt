use Rattle.std.proofs.Common.{ℕ, ◌<◌, ◌≤◌}
use Rattle.r4_shared.specs.Finishing.{IsAnswered}
use Rattle.r4_shared.proofs.finishing.are_answered.Given as goal

-- the scripts that were looked at
abbrev pub invariant-loop-at : goal.invariant-loop-at
invariant-loop-at l = (s : ℕ) → 0 < s → s ≤ l.at → IsAnswered l.turns s
