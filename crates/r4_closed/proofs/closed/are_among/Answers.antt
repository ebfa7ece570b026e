use Rattle.std.proofs.Common.{refl}
use Rattle.std.specs.Prelude.{Contains}
use Rattle.std.proofs.lemmas.List.Elements.{All-more}
use Rattle.r4_closed.proofs.Taken.{all_there}
use Rattle.r4_closed.proofs.closed.are_among.Goals as goal

pub loop-number-preserved : goal.loop-number-preserved
loop-number-preserved c = All-more (Contains c.args.these.now) c.args.numbers.now c.loop-number.number-index 0
    c.loop-number-test.true c.loop-number.invariant (c.is_among.ensures.0 c.if-not-is_among.false)

pub returns : goal.returns
returns c = (
  λ yes. all_there (Contains c.args.these.now) c.args.numbers.now c.loop-number.number-index c.loop-number-test.false
      c.loop-number.invariant,
  λ all. refl,
)
