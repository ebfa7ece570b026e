use Rattle.std.proofs.Common.{take}
use Rattle.r4_check_objects.specs.Reach.{AreNamed}
use Rattle.r4_check_objects.proofs.reach.named_ids.Given as goal

abbrev pub invariant-loop-held : goal.invariant-loop-held
invariant-loop-held l = AreNamed (take l.held-index l.found) l.named
