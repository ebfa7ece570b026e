use Rattle.r4_leaf.proofs.EntryPieces.{Added}
use Rattle.r4_leaf.proofs.reading.add_entries.Given as goal

abbrev pub invariant-loop-i : goal.invariant-loop-i
invariant-loop-i l = Added l.key l.body l.i l.initial.pieces.items l.pieces.items
