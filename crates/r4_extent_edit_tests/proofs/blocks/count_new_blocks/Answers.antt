use Rattle.std.proofs.Common.{◌^◌, ◌+◌, length, ap, sym, subst, ◌∙◌, arith}
use Rattle.r4_extent_edit_tests.specs.Blocks.{CountBlocks}
use Rattle.r4_extent_edit_tests.proofs.NewBlocks.{from_each}
use Rattle.r4_twig.specs.View.{view_units}
use Rattle.r4_extent_edit_tests.proofs.blocks.count_new_blocks.Goals as goal

pub returns : goal.returns
returns c =
    let bytes = c.len.ensures.bytes in
    let counted = c.len.ensures.units in
    let stops = c.len-i-end.ensures.units in
    let lent = ap (λ b. length b.now) c.in-Ok.ensures.lent in
    let short = c.if-body-gt4030.false in
    let done = c.loop-i-test.false in
    record {
      some = c.len.ensures.some;
      few = omega (arith, bytes, lent, short);
      long = omega (arith, bytes, lent);
      counted = ap length (sym c.in-Ok.ensures.units) ∙ sym counted;
      blocks = subst (CountBlocks (2 ^ 63 + 2000)) c.in-Ok.ensures.units
          (from_each (2 ^ 63 + 2000) (view_units c.in-Ok.extent)
          (λ k less. c.loop-i.invariant k (omega (arith, less, done, stops))));
    }
