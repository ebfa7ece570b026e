use Rattle.std.proofs.Common.{arith}
use Rattle.r4_twig.specs.View.{view_units}
use Rattle.r4_node_tests.proofs.Sums.{blocks_more}
use Rattle.r4_node_tests.proofs.items.blocks_of.Goals as goal

pub loop-i-preserved : goal.loop-i-preserved
loop-i-preserved c =
    let more = blocks_more (view_units c.args.view.now) c.loop-i.i c.unit.result c.unit.ensures in
    let so_far = c.loop-i.invariant in
    let sum = c.in_ok-blocks.ensures in
    omega (arith, more, so_far, sum)
