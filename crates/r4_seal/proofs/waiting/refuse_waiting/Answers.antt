use Rattle.std.proofs.Common.{◌∙◌, arith}
use Rattle.r4_seal.proofs.Refusing.{all_are, broken_now, count_now, none_refused, one_more}
use Rattle.r4_seal.proofs.waiting.refuse_waiting.Goals as goal

pub loop-at-init : goal.loop-at-init
loop-at-init g c = none_refused c.args.core.now c.args.atom.0

pub loop-at-preserved : goal.loop-at-preserved
loop-at-preserved g c = one_more _ _ _ c.args.atom.0 c.loop-at.at c.loop-at.invariant c.refuse_if_waiting.ensures

pub refuse_if_waiting-requires-clause-sound : goal.refuse_if_waiting-requires-clause-sound
refuse_if_waiting-requires-clause-sound g c κs within =
    broken_now _ _ c.args.atom.0 c.loop-at.at c.loop-at.invariant ∙ c.requires

pub refuse_if_waiting-requires-clause-script : goal.refuse_if_waiting-requires-clause-script
refuse_if_waiting-requires-clause-script g c κs within =
    let many = count_now _ _ c.args.atom.0 c.loop-at.at c.loop-at.invariant in
    let count = rw c.turns.ensures at c.count-at-end.ensures.turns in
    let more = c.loop-at-test.true in
    (omega arith, omega (arith, many, count, more))

pub returns : goal.returns
returns g c =
    let count = rw c.turns.ensures at c.count-at-end.ensures.turns in
    let end = c.loop-at-test.false in
    all_are _ _ c.args.atom.0 c.loop-at.at c.loop-at.invariant (omega (arith, count, end))
