use Rattle.std.proofs.Common.{◌≡◌, take}
use Rattle.r4_base.specs.Extents.{blocks_in}
use Rattle.r4_twig.specs.View.{view_units}
use Rattle.r4_check_objects.specs.Held.{counted}
use Rattle.r4_check_gather.proofs.gather.blocks_of.Given as goal

abbrev pub invariant-loop-i : goal.invariant-loop-i
invariant-loop-i l = l.blocks ≡ counted (blocks_in (take l.i (view_units l.extent)))
