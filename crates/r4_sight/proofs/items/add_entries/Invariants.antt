use Rattle.r4_base.specs.Dir.{entries_of}
use Rattle.r4_base.specs.Key.{rank}
use Rattle.r4_sight.proofs.Adding.{HasAdded}
use Rattle.r4_sight.proofs.items.add_entries.Given as goal

abbrev pub invariant-loop-i : goal.invariant-loop-i
invariant-loop-i l = HasAdded (rank l.within.from) (rank l.within.to) (entries_of l.item.key l.item.body.now) l.i l.initial.parts.items l.parts.items
