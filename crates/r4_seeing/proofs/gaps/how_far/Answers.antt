use Rattle.std.proofs.Common.{◌≡◌, ◌+◌, ◌<◌, ◌≤◌, sym, ◌∙◌, arith}
use Rattle.r4_base.specs.Key.{rank}
use Rattle.r4_seeing.proofs.AskedOn.{known_from, next_gap}
use Rattle.r4_seeing.proofs.gaps.how_far.Goals as goal

pub returns-then-has : goal.returns-then-has
returns-then-has c = known_from c.args.known.now c.loop-interval.interval-index _
    (rank c.args.from) c.loop-interval-test.true (sym c.has.ensures ∙ c.if-has.true)

pub loop-interval-preserved : goal.loop-interval-preserved
loop-interval-preserved c =
    let end = c.loop-interval.invariant.1 in
    let within = c.nearer-end.ensures.within in (
      c.nearer-end.ensures.onward,
      omega (arith, end, within),
      next_gap c.args.known.now c.loop-interval.interval-index _ (rank c.args.from) (rank c.loop-interval.end)
          (rank c.nearer-end.result) c.loop-interval-test.true c.loop-interval.invariant.2 within
          (sym c.has.ensures ∙ c.if-has.false) c.nearer-end.ensures.before,
    )
