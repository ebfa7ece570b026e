use Rattle.std.proofs.Common.{◌≡◌, ◌≤◌, take}
use Rattle.std.specs.Prelude.{count_by}
use Rattle.r4_base.specs.Cell.{is_stat}
use Rattle.r4_node40.specs.View.{view_items}
use Rattle.r4_check.proofs.look.count_stats.Given as goal

abbrev pub invariant-loop-i : goal.invariant-loop-i
invariant-loop-i l = (l.count ≡ count_by is_stat (take l.i (view_items l.node))) × (l.count ≤ l.i)
