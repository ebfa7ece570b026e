use Rattle.std.proofs.Common.{◌≡◌, map, take}
use Rattle.std.specs.Arc.{arc_value}
use Rattle.std.specs.Option.{option_map}
use Rattle.r4_marking.specs.Marks.{ask_seen, asks_seen}
use Rattle.r4_marking.proofs.Marked.{AreMarking}
use Rattle.r4_marking.proofs.marking.mark.Given as goal

abbrev pub invariant-loop-cell : goal.invariant-loop-cell
invariant-loop-cell g l = (option_map ask_seen l.marks.rises ≡ asks_seen l.asks.entries l.root.id.0) × AreMarking (g.D.Demands.demand l.demands) (asks_seen l.asks.entries) l.beside.items (take l.cell-index (map (λ c. arc_value c) l.met)) (map (λ c. arc_value c) l.marks.reads.items) (map (λ c. arc_value c) l.marks.writes.items)
