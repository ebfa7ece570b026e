use Rattle.std.proofs.Common.{◌-◌, ◌≤◌}
use Rattle.std.specs.Prelude.{◌^◌}
use Rattle.r4_extent_turned.proofs.leaves.size_before.Given as goal

abbrev pub invariant-loop-low : goal.invariant-loop-low
invariant-loop-low l = record {
  low : l.low ≤ l.fn.body.was;
  high : l.fn.body.was ≤ l.high;
  most : l.high ≤ 2 ^ 30;
}

abbrev pub decreases-loop-low : goal.decreases-loop-low
decreases-loop-low l = l.high - l.low
