use Rattle.std.proofs.Common.{arith, sym, ◌∙◌, ap, refl, ◌+◌, ℕ}
use Rattle.r4_twig.specs.View.{view_units}
use Rattle.r4_cell.proofs.BodyEnds.{blocks_more, whole_sum}
use Rattle.r4_cell.proofs.body.blocks_of.Goals as goal

pub loop-i-init : goal.loop-i-init
loop-i-init c = record { sum = refl; small = omega arith }

pub overflow_add-blocks : goal.overflow_add-blocks
overflow_add-blocks c = let small = c.loop-i.invariant.small in omega (arith, small)

pub loop-i-preserved : goal.loop-i-preserved
loop-i-preserved c = let small = c.loop-i.invariant.small in record {
  sum = ap (λ (n : ℕ). n + c.unit.result.width) c.loop-i.invariant.sum ∙ sym (blocks_more (view_units c.args.extent.now) c.loop-i.i c.unit.result c.unit.ensures);
  small = omega (arith, small);
}

pub returns-clause-sum : goal.returns-clause-sum
returns-clause-sum c = c.loop-i.invariant.sum ∙ whole_sum (view_units c.args.extent.now) c.loop-i.i (omega (arith, c.len-i-end.ensures.units))

pub returns-clause-small : goal.returns-clause-small
returns-clause-small c = let small = c.loop-i.invariant.small in omega (arith, small)
