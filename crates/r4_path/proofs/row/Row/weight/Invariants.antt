use Rattle.std.proofs.Common.{◌≡◌, ◌≤◌, ◌*◌, ◌-◌}
use Rattle.r4_path.specs.Nodes.{weight}
use Rattle.r4_path.specs.Rows.{row_part}
use Rattle.r4_path.proofs.row.Row.weight.Given as goal

abbrev pub invariant-loop-i : goal.invariant-loop-i
invariant-loop-i l = (l.bytes ≡ weight (row_part l.self l.from l.i)) × (l.bytes ≤ 4068 * (l.i - l.from))
