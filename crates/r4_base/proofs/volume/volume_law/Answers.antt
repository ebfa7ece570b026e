use Rattle.r4_base.proofs.Images.{one_volume}
use Rattle.r4_base.proofs.Needed.{lost_alike, need_alike, replayed_volume}
use Rattle.r4_base.proofs.Spare.{same_volume}
use Rattle.r4_base.proofs.Twice.{settles_again}
use Rattle.r4_base.proofs.volume.volume_law.Goals as goal

pub returns : goal.returns
returns c = record {
  one = one_volume;
  spare = same_volume;
  settled = settles_again;
  replayed = replayed_volume;
  lost = lost_alike;
  needed = need_alike;
}
