use Rattle.std.proofs.Common.{map}
use Rattle.r4_marking.specs.Marks.{asks_seen, heard_seen}
use Rattle.r4_marking.proofs.Children.{HeardFrom}
use Rattle.r4_marking.proofs.hearing.heard_by.Given as goal

abbrev pub invariant-loop-i : goal.invariant-loop-i
invariant-loop-i l = HeardFrom l.cell (asks_seen l.asks.entries) l.i (map heard_seen l.heard.items)
