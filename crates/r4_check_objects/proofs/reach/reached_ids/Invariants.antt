use Rattle.std.proofs.Common.{◌+◌, ◌-◌, length}
use Rattle.r4_check_objects.proofs.Walked.{IsWalked}
use Rattle.r4_check_objects.proofs.reach.reached_ids.Given as goal

abbrev pub invariant-loop-i : goal.invariant-loop-i
invariant-loop-i l = IsWalked l.found l.named l.reach l.i

abbrev pub decreases-loop-i : goal.decreases-loop-i
decreases-loop-i l = length l.found + 1 - l.i
