use Rattle.r4_sets_told.proofs.Volumes.{base_volume, under_volume}
use Rattle.r4_sets_told.proofs.images.layers_are_volumes.Goals as goal

pub returns : goal.returns
returns g = record {
  alone = λ limit next_id job c n image super lt sets run stands counts. base_volume limit lt next_id job c run n image
      super sets stands counts;
  under = λ limit next_id job c n image super lt sets run stands counts. under_volume limit lt next_id job c run n
      image super sets stands counts;
}
