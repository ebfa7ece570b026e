use Rattle.r4_base.proofs.Keys.{below, equal}
use Rattle.r4_base.proofs.key.key_law.Goals as goal

pub returns : goal.returns
returns c = record { order = below; equal = equal }
