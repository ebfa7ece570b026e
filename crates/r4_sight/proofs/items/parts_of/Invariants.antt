use Rattle.r4_base.specs.Key.{rank}
use Rattle.r4_node40.specs.View.{view_items}
use Rattle.r4_sight.proofs.Adding.{HasRead}
use Rattle.r4_sight.proofs.items.parts_of.Given as goal

abbrev pub invariant-loop-i : goal.invariant-loop-i
invariant-loop-i l = HasRead (rank l.within.from) (rank l.within.to) (view_items l.node) l.i l.parts.items
