use Rattle.std.proofs.Common.{map, take}
use Rattle.std.specs.Arc.{arc_value}
use Rattle.r4_search.specs.r4_cell.Patch.{by_name}
use Rattle.r4_marking.specs.Marks.{AreAsks, asks_seen}
use Rattle.r4_marking.proofs.asking.asked_up.Given as goal

abbrev pub invariant-loop-cell : goal.invariant-loop-cell
invariant-loop-cell g l = AreAsks (g.D.Demands.demand l.demands) (by_name (map (λ c. arc_value c) l.met)) (take l.cell-index (map (λ c. arc_value c) l.met)) (asks_seen l.asks.entries)
