use Rattle.r4_base.specs.Key.{rank}
use Rattle.r4_extent_asks.proofs.Named.{LeftFrom}
use Rattle.r4_extent_asks.proofs.left.leaves_to.Given as goal

abbrev pub invariant-loop-i : goal.invariant-loop-i
invariant-loop-i l = LeftFrom l.twig (rank l.key) l.i l.ids.items
