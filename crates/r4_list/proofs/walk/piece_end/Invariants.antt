use Rattle.std.proofs.Common.{ℕ, length, ◌-◌, ◌≤◌, ◌<◌, ◌≢◌}
use Rattle.std.specs.Prelude.{slice_index}
use Rattle.r4_list.proofs.walk.piece_end.Given as goal

abbrev pub invariant-loop-end : goal.invariant-loop-end
invariant-loop-end l = (l.from ≤ l.end) × (l.end ≤ length l.path) × ((i : ℕ) → l.from ≤ i → i < l.end → slice_index l.path i ≢ 47)

abbrev pub decreases-loop-end : goal.decreases-loop-end
decreases-loop-end l = length l.path - l.end
