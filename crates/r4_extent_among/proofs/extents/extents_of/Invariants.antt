use Rattle.std.proofs.Common.{◌≡◌, ◌++◌, map}
use Rattle.std.specs.Prelude.{drop}
use Rattle.r4_base.specs.Cell.{spans_in}
use Rattle.r4_base.specs.Key.{rank}
use Rattle.r4_base.specs.Node.{items_of}
use Rattle.r4_extent_build.specs.r4_leaf_demands.Touching.{span_of}
use Rattle.r4_extent_among.proofs.extents.extents_of.Given as goal

abbrev pub invariant-loop-i : goal.invariant-loop-i
invariant-loop-i l = map span_of l.ranges.items ++ spans_in (rank l.twig.hi) (drop l.i (items_of l.twig.block))
    ≡ spans_in (rank l.twig.hi) (items_of l.twig.block)
