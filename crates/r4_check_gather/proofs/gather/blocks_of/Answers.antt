use Rattle.std.proofs.Common.{◌∙◌, ap, arith}
use Rattle.r4_cell.proofs.BodyEnds.{blocks_more, whole_sum}
use Rattle.r4_twig.specs.View.{view_units}
use Rattle.r4_check_objects.specs.Held.{counted}
use Rattle.r4_check_gather.proofs.gather.blocks_of.Goals as goal

pub loop-i-preserved : goal.loop-i-preserved
loop-i-preserved c =
    let more = blocks_more (view_units c.args.extent.now) c.loop-i.i c.unit.result c.unit.ensures in
    let so_far = c.loop-i.invariant in
    let sum = c.saturating_add-blocks.ensures in
    omega (arith, more, so_far, sum)

pub returns : goal.returns
returns c = let past = c.loop-i-test.false in let end = c.len-i-end.ensures.units in c.loop-i.invariant ∙ ap counted (whole_sum (view_units c.args.extent.now) c.loop-i.i (omega (arith, past, end)))
