use Rattle.std.proofs.Common.{◌≡◌, ◌+◌, ℕ, refl, ap, arith}
use Rattle.r4_base.specs.Cell.{run_names}
use Rattle.r4_check.specs.Walk.{look_at}
use Rattle.r4_check.proofs.Steps.{steps_as, steps_ended, tells_then}
use Rattle.r4_check.proofs.Walks.{block_name, rest_extends, run_on, run_part}
use Rattle.r4_check.proofs.look.look_at_run.Goals as goal

pub returns-in_err-look_at_block-clause-steps : goal.returns-in_err-look_at_block-clause-steps
returns-in_err-look_at_block-clause-steps g c image levels key bitmaps =
    let blocks = c.args.settled.now.found.super40.block_count in
    let lt = c.loop-i-test.true in
    let part = run_part key c.args.start c.args.width (c.loop-i.i + 1) (omega (arith, lt)) in
    steps_ended blocks _ _ _ _ _ c.from_residual.result _ _ c.from_residual.ensures.1 (λ w. rest_extends levels blocks image w _ _ part.0 part.1)
    (run_on levels blocks image key c.args.start c.loop-i.i _ _ _ _ _ _ _ (c.loop-i.invariant.1 image levels key bitmaps) (c.in_err-look_at_block.ensures.steps image (block_name key c.args.start c.loop-i.i) bitmaps refl refl))

pub loop-i-preserved : goal.loop-i-preserved
loop-i-preserved g c =
    let blocks = c.args.settled.now.found.super40.block_count in (
      tells_then _ _ _ _ _ _ _ _ c.loop-i.invariant.0 c.in_ok-look_at_block.ensures.tells,
      λ image levels key bitmaps. run_on levels blocks image key c.args.start c.loop-i.i _ _ _ _ _ _ _ (c.loop-i.invariant.1 image levels key bitmaps) (c.in_ok-look_at_block.ensures.steps image (block_name key c.args.start c.loop-i.i) bitmaps refl refl),
    )

pub returns-clause-steps : goal.returns-clause-steps
returns-clause-steps g c image levels key bitmaps =
    let blocks = c.args.settled.now.found.super40.block_count in
    let past = c.loop-i-test.false in
    let end = c.loop-i.auto.i-end in
    let is : c.loop-i.i ≡ c.args.width = omega (arith, past, end) in
    steps_as blocks _ _ _ _ _ (λ w. look_at levels blocks image w (run_names key c.args.start c.loop-i.i)) (λ w. look_at levels blocks image w (run_names key c.args.start c.args.width))
    (λ w h. ap (λ (n : ℕ). look_at levels blocks image w (run_names key c.args.start n)) is) (c.loop-i.invariant.1 image levels key bitmaps)
