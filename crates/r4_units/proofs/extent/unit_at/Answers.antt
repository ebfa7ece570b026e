use Rattle.r4_twig.specs.View.{view_units}
use Rattle.r4_units.proofs.ExtentUnits.{lawful_at, left_next, unit_here}
use Rattle.r4_units.proofs.extent.unit_at.Goals as goal

pub one_block-requires-clause-lawful : goal.one_block-requires-clause-lawful
one_block-requires-clause-lawful c = lawful_at (view_units c.args.extent.now) c.loop-i.i c.unit-unit.result c.requires c.unit-unit.ensures

pub returns-then-left-unit-clause-some : goal.returns-then-left-unit-clause-some
returns-then-left-unit-clause-some c = unit_here (view_units c.args.extent.now) c.loop-i.i c.args.block c.loop-i.left c.loop-i.invariant c.unit-unit.result c.unit-unit.ensures c.one_block.result c.if-left-unit.true c.one_block.ensures.start c.one_block.ensures.width

pub loop-i-preserved : goal.loop-i-preserved
loop-i-preserved c = left_next (view_units c.args.extent.now) c.loop-i.i c.args.block c.loop-i.left c.loop-i.invariant c.unit-unit.result c.unit-unit.ensures c.if-left-unit.false
