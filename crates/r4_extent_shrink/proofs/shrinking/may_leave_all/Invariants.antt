use Rattle.std.proofs.Common.{◌≡◌, drop, map}
use Rattle.std.specs.Arc.{arc_value}
use Rattle.std.specs.List.{list_all}
use Rattle.std.specs.Prelude.{Contains}
use Rattle.r4_extent_growth.specs.r4_measure.r4_cell.Seen.{CellSeen}
use Rattle.r4_extent_growth.specs.r4_extent_change.Among.{losing_twigs}
use Rattle.r4_extent_shrink.specs.Going.{IsKnown, may_leave}
use Rattle.r4_extent_shrink.proofs.shrinking.may_leave_all.Given as goal

abbrev pub invariant-loop-cell : goal.invariant-loop-cell
invariant-loop-cell l = record {
  exact : list_all (may_leave l.fn.body (map (λ c. arc_value c) l.fn.cells)) (losing_twigs l.fn.body (map (λ c. arc_value c) l.fn.cells))
      ≡ list_all (may_leave l.fn.body (map (λ c. arc_value c) l.fn.cells)) (losing_twigs l.fn.body (map (λ c. arc_value c) (drop l.cell-index l.fn.cells)));
  known : ((x : CellSeen) → Contains (map (λ c. arc_value c) (drop l.cell-index l.fn.cells)) x → IsKnown l.fn.body x)
      → (x : CellSeen) → Contains (map (λ c. arc_value c) l.fn.cells) x → IsKnown l.fn.body x;
}
