use Rattle.std.proofs.Common.{◌≡◌, sym, subst, ◌∙◌, arith, ap, ◌+◌}
use Rattle.std.specs.Prelude.{slice_get, Some}
use Rattle.r4_base.specs.Extents.{units_of}
use Rattle.r4_branch.proofs.UnitPieces.{blocks_more, blocks_within}
use Rattle.r4_branch.proofs.spelling.blocks_of.Goals as goal

pub overflow_add-blocks : goal.overflow_add-blocks
overflow_add-blocks c =
    let shown = subst (λ us. slice_get us c.loop-i.i ≡ Some c.unit-blocks.result) c.of_item-extent.ensures.units c.unit-blocks.ensures in
    let within = blocks_within c.loop-i.i (units_of c.args.body.now) c.unit-blocks.result shown in
    let fits = c.requires.fits in
    let at = c.loop-i.invariant in
    omega (arith, within, fits, at)

pub loop-i-preserved : goal.loop-i-preserved
loop-i-preserved c =
    let shown = subst (λ us. slice_get us c.loop-i.i ≡ Some c.unit-blocks.result) c.of_item-extent.ensures.units c.unit-blocks.ensures in
    ap (λ n. n + c.unit-blocks.result.width) c.loop-i.invariant ∙ sym (blocks_more c.loop-i.i (units_of c.args.body.now) c.unit-blocks.result shown)
