use Rattle.std.proofs.Common.{drop, ◌+◌, ap, sym, arith}
use Rattle.r4_base.specs.Cell.{block_names}
use Rattle.r4_twig.specs.View.{view_units}
use Rattle.r4_check.specs.Walk.{look_at}
use Rattle.r4_check.proofs.Items.{lawful_at, same_steps, unit_key, unit_on, units_after, units_all, units_before, units_none}
use Rattle.r4_check.proofs.Steps.{steps_as, steps_ended, steps_same, tells_same, tells_then}
use Rattle.r4_check.proofs.Walks.{rest_extends}
use Rattle.r4_check.proofs.look.look_at_extent.Goals as goal

pub loop-i-init : goal.loop-i-init
loop-i-init g c =
    let blocks = c.args.settled.now.found.super40.block_count in (
      tells_same _ _ (tt {0}),
      λ image levels key bitmaps. steps_as blocks _ _ _ _ _ (λ w. w) (λ w. look_at levels blocks image w (units_before key (view_units c.args.extent.now) 0)) (λ w h. ap (look_at levels blocks image w) (sym (units_none key (view_units c.args.extent.now)))) (steps_same blocks _ _ (tt {0})),
    )

pub look_at_unit-requires-clause-lawful : goal.look_at_unit-requires-clause-lawful
look_at_unit-requires-clause-lawful g c = lawful_at c.args.settled.now.found.super40.block_count (view_units c.args.extent.now) c.loop-i.i _ c.requires.lawful c.unit.ensures

pub returns-in_err-look_at_unit-clause-steps : goal.returns-in_err-look_at_unit-clause-steps
returns-in_err-look_at_unit-clause-steps g c image levels key bitmaps =
    let blocks = c.args.settled.now.found.super40.block_count in
    let units = view_units c.args.extent.now in
    let lt = c.loop-i-test.true in
    let end = c.len-i-end.ensures.units in
    steps_ended blocks _ _ _ _ _ c.from_residual.result _ _ c.from_residual.ensures.1 (λ w. rest_extends levels blocks image w (block_names key units) (units_before key units (c.loop-i.i + 1)) (block_names (unit_key key units (c.loop-i.i + 1)) (drop (c.loop-i.i + 1) units)) (units_after key units (c.loop-i.i + 1) (omega (arith, lt, end))))
    (unit_on levels blocks image _ _ _ _ _ _ _ key units c.loop-i.i _ c.unit.ensures (c.loop-i.invariant.1 image levels key bitmaps) (c.in_err-look_at_unit.ensures.steps image levels (unit_key key units c.loop-i.i) bitmaps))

pub loop-i-preserved : goal.loop-i-preserved
loop-i-preserved g c =
    let blocks = c.args.settled.now.found.super40.block_count in
    let units = view_units c.args.extent.now in (
      tells_then _ _ _ _ _ _ _ _ c.loop-i.invariant.0 c.in_ok-look_at_unit.ensures.tells,
      λ image levels key bitmaps. unit_on levels blocks image _ _ _ _ _ _ _ key units c.loop-i.i _ c.unit.ensures (c.loop-i.invariant.1 image levels key bitmaps) (c.in_ok-look_at_unit.ensures.steps image levels (unit_key key units c.loop-i.i) bitmaps),
    )

pub returns-clause-steps : goal.returns-clause-steps
returns-clause-steps g c image levels key bitmaps =
    let blocks = c.args.settled.now.found.super40.block_count in
    let units = view_units c.args.extent.now in
    let past = c.loop-i-test.false in
    let most = c.loop-i.auto.i-end in
    let end = c.len-i-end.ensures.units in
    same_steps levels blocks image _ _ _ _ _ _ _ (units_all key units c.loop-i.i (omega (arith, past, most, end))) (c.loop-i.invariant.1 image levels key bitmaps)
