use Rattle.std.proofs.Common.{refl}
use Rattle.std.proofs.lemmas.List.Elements.{All-more}
use Rattle.r4_closed.specs.Named.{IsCalledFor}
use Rattle.r4_closed.proofs.Taken.{all_there}
use Rattle.r4_closed.proofs.closed.are_called_for.Goals as goal

pub loop-id-preserved : goal.loop-id-preserved
loop-id-preserved c = All-more (IsCalledFor c.args.root.0 c.args.named.now) c.args.ids.now c.loop-id.id-index 0
    c.loop-id-test.true c.loop-id.invariant (c.is_called_for.ensures.0 c.if-not-is_called_for.false)

pub returns : goal.returns
returns c = (
  λ yes. all_there (IsCalledFor c.args.root.0 c.args.named.now) c.args.ids.now c.loop-id.id-index
      c.loop-id-test.false c.loop-id.invariant,
  λ all. refl,
)
