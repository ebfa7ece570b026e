use Rattle.std.proofs.Common.{refl}
use Rattle.r4_branch.proofs.SoundItems.{extent_item}
use Rattle.r4_branch.proofs.spelling.key_behind.Goals as goal

pub blocks_of-blocks-requires-clause-good : goal.blocks_of-blocks-requires-clause-good
blocks_of-blocks-requires-clause-good c = (extent_item _ refl c.requires).body
