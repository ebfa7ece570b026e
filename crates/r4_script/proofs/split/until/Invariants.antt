use Rattle.std.proofs.Common.{◌≡◌, ◌++◌, take, drop}
use Rattle.r4_script.specs.Split.{until as until_byte}
use Rattle.r4_script.proofs.split.until.Given as goal

abbrev pub invariant-loop-i : goal.invariant-loop-i
invariant-loop-i l = until_byte l.stop l.bytes ≡ take l.i l.bytes ++ until_byte l.stop (drop l.i l.bytes)
