use Rattle.std.proofs.Common.{◌≡◌, ℕ, ◌-◌, ◌<◌, ◌≤◌, true, map}
use Rattle.r4_base.specs.Key.{rank}
use Rattle.r4_content.specs.Edited.{is_in}
use Rattle.r4_content.specs.Held.{interval_of}
use Rattle.r4_grown_tasks.proofs.covering.lies.Given as goal

abbrev pub invariant-loop-to : goal.invariant-loop-to
invariant-loop-to l = record {
  from : rank l.fn.from ≤ rank l.at;
  lie : (k : ℕ) → rank l.fn.from ≤ k → k < rank l.at → is_in (map interval_of l.fn.places) k ≡ true;
}

abbrev pub decreases-loop-to : goal.decreases-loop-to
decreases-loop-to l = rank l.fn.to - rank l.at
