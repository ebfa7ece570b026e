use Rattle.std.proofs.Common.{ap, arith}
use Rattle.r4_base.proofs.FreshVolume.{fresh_volume, fresh_super_is, fresh_lost}
use Rattle.r4_base.specs.declared.superblock.Super40.{Super40}
use Rattle.r4_trace.proofs.safety.fresh_images_are_empty.Goals as goal

pub returns : goal.returns
returns c n count label image long low high f =
    let is = ap (λ (s : Super40). s.oid) (fresh_super_is n label image long low high f) in
    record {
      volume = fresh_volume n label image long low high f;
      least = omega (arith, is);
      most = omega (arith, is);
      none_lost = fresh_lost n label image long low high f;
    }
