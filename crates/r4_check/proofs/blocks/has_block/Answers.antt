use Rattle.std.proofs.Common.{◌∙◌, ◌%◌, ◌/◌, arith}
use Rattle.r4_check.proofs.BlockSets.{element, read_bit}
use Rattle.r4_check.proofs.blocks.has_block.Goals as goal

pub returns : goal.returns
returns c = read_bit c.new.result.block.now _ (c.args.b % 32736) c.get.result (omega arith) c.get.ensures
    (c.new.ensures ∙ c.bytes.ensures.value ∙ element c.args.bitmaps.now (c.args.b / 32736) c.index-bitmaps-b.result c.requires c.index-bitmaps-b.is)
