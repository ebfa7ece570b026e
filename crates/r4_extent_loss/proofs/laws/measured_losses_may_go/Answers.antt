use Rattle.r4_extent_loss.proofs.AllReady.{few_left, may_lose}
use Rattle.r4_extent_loss.proofs.laws.measured_losses_may_go.Goals as goal

pub returns : goal.returns
returns c = record {
  can = λ b first e t r xs f w u m. may_lose b first e t r xs f w u m;
  few = λ b first e t r xs f w u m. few_left b first e t r xs f w u m;
}
