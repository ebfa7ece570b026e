use Rattle.r4_extent_loss.proofs.InParts.{loss_of_part}
use Rattle.r4_extent_loss.proofs.laws.losses_of_parts.Goals as goal

pub returns : goal.returns
returns c = λ t r f w b x working is. loss_of_part t r f w working b x is
