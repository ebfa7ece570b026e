use Rattle.std.proofs.Common.{take}
use Rattle.r4_check_objects.specs.Reach.{Grows}
use Rattle.r4_check_objects.proofs.reach.Reach.add_all.Given as goal

abbrev pub invariant-loop-id : goal.invariant-loop-id
invariant-loop-id l = Grows (take l.id-index l.ids) l.fn.self l.self
