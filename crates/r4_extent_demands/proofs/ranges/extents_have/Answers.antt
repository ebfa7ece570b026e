use Rattle.std.proofs.Common.{false, length, ap, refl, arith}
use Rattle.std.proofs.lemmas.Bool.{both_ways}
use Rattle.r4_extent_demands.proofs.Ahead.{ahead_next, all_ahead, holds_in, none_ahead}
use Rattle.r4_extent_demands.proofs.ranges.extents_have.Goals as goal

pub loop-i-init : goal.loop-i-init
loop-i-init c = all_ahead c.args.way c.args.node.now c.requires.node

pub returns-then-extent_has : goal.returns-then-extent_has
returns-then-extent_has c =
    let found = holds_in c.args.way c.args.node.now c.requires.node c.loop-i.i
    (c.extent_has.ensures.0 c.if-extent_has.true) in
    ((λ t. found), (λ h. refl))

pub loop-i-preserved : goal.loop-i-preserved
loop-i-preserved c =
    let within = c.loop-i-test.true in
    let count = c.len-i-end.ensures in
    let same = ap length c.node-view.ensures.items in
    ahead_next c.args.way c.args.node.now c.requires.node c.loop-i.i
    (omega (arith, within, count, same)) c.loop-i.invariant
    (λ h. both_ways c.extent_has.result c.if-extent_has.false (c.extent_has.ensures.1 h))

pub returns : goal.returns
returns c =
    let past = c.loop-i-test.false in
    let count = c.len-i-end.ensures in
    let same = ap length c.node-view.ensures.items in (
      (λ t. absurd (both_ways false refl t)),
      (λ h. absurd
          (none_ahead c.args.way c.args.node.now c.requires.node c.loop-i.i
          (omega (arith, past, count, same)) c.loop-i.invariant h)),
    )
