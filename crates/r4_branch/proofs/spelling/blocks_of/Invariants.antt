use Rattle.std.proofs.Common.{◌≡◌, take}
use Rattle.r4_base.specs.Extents.{blocks_in, units_of}
use Rattle.r4_branch.proofs.spelling.blocks_of.Given as goal

abbrev pub invariant-loop-i : goal.invariant-loop-i
invariant-loop-i l = l.blocks ≡ blocks_in (take l.i (units_of l.body))
