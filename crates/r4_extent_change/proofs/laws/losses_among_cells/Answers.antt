use Rattle.r4_extent_change.proofs.LossAmong.{loss_in}
use Rattle.r4_extent_change.proofs.laws.losses_among_cells.Goals as goal

pub returns : goal.returns
returns c = λ t r f w b cells twig working names stand sound at has. loss_in t r f w working b cells names stand sound twig at has
