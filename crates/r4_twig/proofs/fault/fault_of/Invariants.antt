use Rattle.std.proofs.Common.{◌≡◌}
use Rattle.r4_base.specs.Extents.{body_fault}
use Rattle.r4_twig.proofs.Faults.{fault_from}
use Rattle.r4_twig.proofs.fault.fault_of.Given as goal

abbrev pub invariant-loop-i : goal.invariant-loop-i
invariant-loop-i l = body_fault l.in_memory l.blocks l.body ≡ fault_from l.in_memory l.blocks l.i l.body
