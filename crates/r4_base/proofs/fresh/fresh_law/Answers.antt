use Rattle.r4_base.proofs.FreshVolume.{fresh_volume, fresh_super_is, fresh_lost}
use Rattle.r4_base.proofs.fresh.fresh_law.Goals as goal

pub returns : goal.returns
returns c n label image long low high f = (fresh_volume n label image long low high f, fresh_super_is n label image long low high f, fresh_lost n label image long low high f)
