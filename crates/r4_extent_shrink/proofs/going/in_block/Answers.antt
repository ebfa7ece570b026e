use Rattle.r4_extent_shrink.proofs.Names.{in_block}
use Rattle.r4_extent_shrink.proofs.going.in_block.Goals as goal

pub returns : goal.returns
returns c = in_block c.args.key.now
