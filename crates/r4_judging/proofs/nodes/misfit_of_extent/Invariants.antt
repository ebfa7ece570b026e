use Rattle.std.proofs.Common.{◌≡◌, map, take}
use Rattle.std.specs.Arc.{arc_value}
use Rattle.r4_base.specs.Extents.{blocks_in}
use Rattle.r4_base.specs.Key.{rank}
use Rattle.r4_twig.specs.View.{view_units}
use Rattle.r4_judging.proofs.Walked.{AreUnitsWalked}
use Rattle.r4_judging.proofs.nodes.misfit_of_extent.Given as goal

abbrev pub invariant-loop-i : goal.invariant-loop-i
invariant-loop-i l = (l.behind ≡ blocks_in (take l.i (view_units l.extent))) × AreUnitsWalked (rank l.item.key)
    (view_units l.extent) l.i (map (λ c. arc_value c) l.cells) l.found
