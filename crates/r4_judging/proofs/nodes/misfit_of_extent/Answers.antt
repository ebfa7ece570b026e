use Rattle.std.proofs.Common.{◌≡◌, ◌+◌, ◌*◌, ◌≤◌, ◌^◌, ℕ, [], List, map, take, drop, true, ap, refl, sym, subst, ◌∙◌}
use Rattle.std.proofs.Common.{arith}
use Rattle.std.specs.Prelude.{if◌then◌else◌, None, Some, slice_get}
use Rattle.std.specs.Arc.{arc_value}
use Rattle.r4_base.specs.Cell.{block_names, run_names}
use Rattle.r4_base.specs.Extents.{AreLawfulUnits, body_fault, blocks_in, is_hole, units_of}
use Rattle.r4_base.specs.Key.{offset_of, rank}
use Rattle.r4_base.specs.declared.items.Unit.{Unit as ExtentUnit}
use Rattle.r4_marking.proofs.r4_branch.UnitPieces.{lawful_at, some_width}
use Rattle.r4_marking.proofs.r4_graft.Halves.{later_offset, later_rank}
use Rattle.r4_twig.specs.View.{view_units}
use Rattle.r4_twig.proofs.Faults.{body_lawful}
use Rattle.r4_judging.specs.Judging.{IsJudged}
use Rattle.r4_judging.proofs.Walked.{AreJudged, all_judged, more_judged, no_units_left, none_judged, units_next}
use Rattle.r4_judging.proofs.Walked.{units_within}
use Rattle.r4_judging.proofs.nodes.misfit_of_extent.Goals as goal

-- the unit lies within the extent, and has a block
fits : (body : List ℕ) (us : List ExtentUnit) (i behind : ℕ) (u : ExtentUnit) → us ≡ units_of body
    → body_fault true (2 ^ 64) body ≡ None
    → behind ≡ blocks_in (take i us) → slice_get us i ≡ Some u → (behind + u.width ≤ blocks_in (units_of body)) ×
    (1 ≤ u.width)
fits body us i behind u same good at is =
    let within = units_within us i u is in
    let all = ap blocks_in same in
    let lawful = subst (AreLawfulUnits true (2 ^ 64)) (sym same) (body_lawful true (2 ^ 64) body good).2 in
    (omega (arith, at, within, all), some_width u (lawful_at i us u is lawful))

pub overflow_mul-behind : goal.overflow_mul-behind
overflow_mul-behind c =
    let (le, some) = fits c.args.item.now.body.now (view_units c.of_item-extent.result) c.loop-i.i c.loop-i.behind
    c.unit-unit.result c.of_item-extent.ensures.units c.requires.good c.loop-i.invariant.0 c.unit-unit.ensures in
    let end = c.requires.fits in
    omega (arith, le, some, end)

pub behind-lo-requires : goal.behind-lo-requires
behind-lo-requires c =
    let (le, some) = fits c.args.item.now.body.now (view_units c.of_item-extent.result) c.loop-i.i c.loop-i.behind
    c.unit-unit.result c.of_item-extent.ensures.units c.requires.good c.loop-i.invariant.0 c.unit-unit.ensures in
    let end = c.requires.fits in
    omega (arith, le, some, end)

pub misfit_of_unit-requires-clause-fits : goal.misfit_of_unit-requires-clause-fits
misfit_of_unit-requires-clause-fits c =
    let (le, some) = fits c.args.item.now.body.now (view_units c.of_item-extent.result) c.loop-i.i c.loop-i.behind
    c.unit-unit.result c.of_item-extent.ensures.units c.requires.good c.loop-i.invariant.0 c.unit-unit.ensures in
    let end = c.requires.fits in
    let lo = ap offset_of c.behind-lo.ensures ∙ later_offset c.args.item.now.key _ in
    omega (arith, le, some, end, lo)

pub misfit_of_unit-requires-clause-below : goal.misfit_of_unit-requires-clause-below
misfit_of_unit-requires-clause-below c =
    let (le, some) = fits c.args.item.now.body.now (view_units c.of_item-extent.result) c.loop-i.i c.loop-i.behind
    c.unit-unit.result c.of_item-extent.ensures.units c.requires.good c.loop-i.invariant.0 c.unit-unit.ensures in
    let end = c.requires.below in
    let lo = ap rank c.behind-lo.ensures ∙ later_rank c.args.item.now.key _ in
    omega (arith, le, some, end, lo)

pub overflow_add-behind : goal.overflow_add-behind
overflow_add-behind c =
    let (le, some) = fits c.args.item.now.body.now (view_units c.of_item-extent.result) c.loop-i.i c.loop-i.behind
    c.unit-unit.result c.of_item-extent.ensures.units c.requires.good c.loop-i.invariant.0 c.unit-unit.ensures in
    let end = c.requires.fits in
    omega (arith, le, some, end)

pub loop-i-preserved : goal.loop-i-preserved
loop-i-preserved c =
    let us = view_units c.of_item-extent.result in
    let key = rank c.args.item.now.key in
    let cells = map (λ x. arc_value x) c.args.cells.now in
    let u = c.unit-unit.result in
    let i = c.loop-i.i in
    let at = c.loop-i.invariant.0 in
    let (count, names) = units_next key us i u c.unit-unit.ensures in
    let lo : rank c.behind-lo.result ≡ key + 4096 * blocks_in (take i us) =
    (let r = ap rank c.behind-lo.ensures ∙ later_rank c.args.item.now.key _ in omega (arith, r, at)) in
    let judged = subst
    (λ k. IsJudged (if is_hole u then [] else run_names k u.start u.width) cells c.misfit_of_unit.result) lo
    c.misfit_of_unit.ensures in
    let more = more_judged (block_names key us)
    (if is_hole u then [] else run_names (key + 4096 * blocks_in (take i us)) u.start u.width)
    (block_names (key + 4096 * blocks_in (take i us)) (drop i us))
    (block_names (key + 4096 * blocks_in (take (i + 1) us)) (drop (i + 1) us)) cells c.loop-i.found
    c.misfit_of_unit.result names c.loop-i.invariant.1 judged in (
      omega (arith, at, count),
      subst (AreJudged (block_names key us) (block_names (key + 4096 * blocks_in (take (i + 1) us)) (drop (i + 1) us))
          cells) (sym c.first_of-found.ensures) more,
    )

pub loop-i-init : goal.loop-i-init
loop-i-init c =
    let us = view_units c.of_item-extent.result in
    let key = rank c.args.item.now.key in
    let cells = map (λ x. arc_value x) c.args.cells.now in
    let same : key ≡ key + 0 = omega arith in (
      refl,
      subst (λ k. AreJudged (block_names key us) (block_names k us) cells None) same
          (none_judged (block_names key us) cells),
    )

pub returns : goal.returns
returns c =
    let us = view_units c.of_item-extent.result in
    let key = rank c.args.item.now.key in
    let cells = map (λ x. arc_value x) c.args.cells.now in
    let past = c.loop-i-test.false in
    let count = c.len-i-end.ensures.units in
    subst (λ zs. IsJudged (block_names key zs) cells c.loop-i.found) c.of_item-extent.ensures.units
    (all_judged (block_names key us) (block_names (key + 4096 * blocks_in (take c.loop-i.i us)) (drop c.loop-i.i us))
    cells c.loop-i.found
    (no_units_left key c.loop-i.i us (omega (arith, past, count))) c.loop-i.invariant.1)
