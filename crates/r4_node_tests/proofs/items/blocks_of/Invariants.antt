use Rattle.std.proofs.Common.{◌≡◌, take}
use Rattle.r4_base.specs.Extents.{blocks_in}
use Rattle.r4_twig.specs.View.{view_units}
use Rattle.r4_node_tests.proofs.items.blocks_of.Given as goal

abbrev pub invariant-loop-i : goal.invariant-loop-i
invariant-loop-i l = l.blocks ≡ blocks_in (take l.i (view_units l.view))
