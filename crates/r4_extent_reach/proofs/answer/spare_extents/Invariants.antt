use Rattle.std.proofs.Common.{◌≡◌, false, map, take}
use Rattle.std.specs.Prelude.{Contains}
use Rattle.std.specs.Arc.{arc_value}
use Rattle.r4_base.specs.Tree.{Span}
use Rattle.r4_extent_commands.specs.r4_cell.Seen.{CellSeen, node_of}
use Rattle.r4_content.specs.Held.{interval_of}
use Rattle.r4_extent_reaching.specs.r4_touching.r4_reach.Needs.{is_met}
use Rattle.r4_extent_reach.proofs.answer.spare_extents.Given as goal

abbrev pub invariant-loop-cell : goal.invariant-loop-cell
invariant-loop-cell l = (x : CellSeen) (s : Span) → Contains (map (λ c. arc_value c) (take l.cell-index l.fn.cells)) x
    → Contains (node_of x).spans s → is_met (map interval_of l.fn.changes) s.lo s.hi ≡ false
