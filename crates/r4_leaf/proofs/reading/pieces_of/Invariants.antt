use Rattle.r4_node40.specs.View.{view_items}
use Rattle.r4_leaf.proofs.Lying.{HasRead}
use Rattle.r4_leaf.proofs.reading.pieces_of.Given as goal

abbrev pub invariant-loop-i : goal.invariant-loop-i
invariant-loop-i l = HasRead (view_items l.leaf) l.i l.pieces.items
