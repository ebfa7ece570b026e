use Rattle.std.proofs.Common.{subst}
use Rattle.std.proofs.lemmas.List.Elements.{All-more}
use Rattle.r4_seal.proofs.Taken.{all_there}
use Rattle.r4_seal.specs.Checked.{GetsClear}
use Rattle.r4_seal.proofs.checking.names_are_clear.Goals as goal

pub loop-one-preserved : goal.loop-one-preserved
loop-one-preserved g c =
    All-more (GetsClear c.args.core.now) c.args.renamed.now c.loop-one.one-index c.one-item.result
    c.loop-one-test.true c.loop-one.invariant
    (subst (GetsClear c.args.core.now) c.one-item.is (c.gets_clear.ensures c.if-not-gets_clear.false))

pub returns : goal.returns
returns g c ok =
    all_there (GetsClear c.args.core.now) c.args.renamed.now c.loop-one.one-index c.loop-one-test.false
    c.loop-one.invariant
