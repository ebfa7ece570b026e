use Rattle.r4_extent_change.proofs.GoneKeys.{gone_is}
use Rattle.r4_extent_change.proofs.laws.keys_of_blocks_go.Goals as goal

pub returns : goal.returns
returns c = λ b cells k. gone_is b cells k
