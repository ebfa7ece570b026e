use Rattle.std.proofs.Common.{◌≤◌, ◌*◌}
use Rattle.r4_path.proofs.row.Row.middle.Given as goal

abbrev pub invariant-loop-i : goal.invariant-loop-i
invariant-loop-i l = l.bytes ≤ 4068 * l.i
