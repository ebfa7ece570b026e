use Rattle.std.proofs.Common.{◌≤◌, inl, inr, arith, map, sym, ◌∙◌}
use Rattle.std.proofs.lemmas.Bool.{cases_lt, ltb-false, ltb-true}
use Rattle.r4_base.specs.Key.{rank}
use Rattle.r4_content.specs.Edited.{Intervals}
use Rattle.r4_content.specs.Held.{interval_of}
use Rattle.r4_grown_tasks.proofs.LyingBytes.{goes_in, goes_low, goes_stuck, lies_off, lies_on}
use Rattle.r4_grown_tasks.proofs.covering.lies.Goals as goal

pub returns-then-not-is_below : goal.returns-then-not-is_below
returns-then-not-is_below c =
    let rs : Intervals = map interval_of c.args.places.now in
    let at = rank c.loop-to.at in
    let stuck : rank c.goes_on-next.result ≤ at = ltb-false at (rank c.goes_on-next.result)
    (sym c.is_below-in-loop-to.ensures ∙ c.if-not-is_below.true) in
    let is = c.goes_on-next.ensures in
    sym (lies_off rs (rank c.args.from) (rank c.args.to) at c.loop-to.invariant.from
    (ltb-true at (rank c.args.to) (sym c.is_below.ensures ∙ c.loop-to-test.true)) (goes_stuck rs at (omega (arith, stuck, is))))

pub loop-to-preserved : goal.loop-to-preserved
loop-to-preserved c =
    let rs : Intervals = map interval_of c.args.places.now in
    let at = rank c.loop-to.at in
    let is = c.goes_on-next.ensures in
    let low = goes_low rs at in
    let from = c.loop-to.invariant.from in
    record {
      from = omega (arith, from, is, low);
      lie = λ k start end. elim (cases_lt k at) [
        | inl before ↦ c.loop-to.invariant.lie k start before
        | inr behind ↦ goes_in rs at k behind (omega (arith, end, is))
      ];
    }

pub returns : goal.returns
returns c =
    let at = rank c.loop-to.at in
    let past : rank c.args.to ≤ at = ltb-false at (rank c.args.to) (sym c.is_below.ensures ∙ c.loop-to-test.false) in
    sym (lies_on (map interval_of c.args.places.now) (rank c.args.from) (rank c.args.to)
    (λ k low high. c.loop-to.invariant.lie k low (omega (arith, high, past))))
