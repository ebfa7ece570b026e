use Rattle.std.proofs.Common.{take}
use Rattle.r4_check_objects.specs.Known.{AreFirsts}
use Rattle.r4_check_objects.proofs.heads.firsts_of.Given as goal

abbrev pub invariant-loop-held : goal.invariant-loop-held
invariant-loop-held l = AreFirsts (take l.held-index l.found) l.firsts
