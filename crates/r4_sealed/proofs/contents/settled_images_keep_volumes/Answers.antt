use Rattle.r4_sealed.proofs.Kept.{from_footer, id_alike, lost_alike}
use Rattle.r4_sealed.proofs.contents.settled_images_keep_volumes.Goals as goal

pub returns : goal.returns
returns g = record {
  volume = from_footer;
  alike = λ n target image m c v. (id_alike n target image m c v, lost_alike n target image m c v);
}
