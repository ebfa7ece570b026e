use Rattle.std.proofs.lemmas.List.Elements.{All-more}
use Rattle.r4_base.specs.declared.things.BlockNo.{BlockNo}
use Rattle.r4_seal.proofs.Taken.{all_there}
use Rattle.r4_core.specs.r4_flushing.Sealable.{IsClear}
use Rattle.r4_seal.proofs.checking.are_clear.Goals as goal

pub loop-block-preserved : goal.loop-block-preserved
loop-block-preserved g c =
    All-more (λ (b : BlockNo). IsClear c.args.core.now b.0) c.args.blocks.now c.loop-block.block-index
    (record { 0 = 0 })
    c.loop-block-test.true c.loop-block.invariant (c.is_clear.ensures c.if-not-is_clear.false)

pub returns : goal.returns
returns g c ok =
    all_there (λ (b : BlockNo). IsClear c.args.core.now b.0) c.args.blocks.now c.loop-block.block-index
    c.loop-block-test.false c.loop-block.invariant
