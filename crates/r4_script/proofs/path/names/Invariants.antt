use Rattle.std.proofs.Common.{◌≡◌, ◌++◌, ◌≤◌, ◌<◌, ◌+◌, ◌-◌, length, drop}
use Rattle.r4_script.specs.Split.{split}
use Rattle.r4_script.proofs.path.names.Given as goal

abbrev pub invariant-loop-place : goal.invariant-loop-place
invariant-loop-place l = record {
  within : l.place ≤ length l.bytes + 1;
  more : l.place ≤ length l.bytes → l.names.items ++ split 47 (drop l.place l.bytes) ≡ split 47 l.bytes;
  done : length l.bytes < l.place → l.names.items ≡ split 47 l.bytes;
}

abbrev pub decreases-loop-place : goal.decreases-loop-place
decreases-loop-place l = length l.bytes + 1 - l.place
