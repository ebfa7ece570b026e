use Rattle.r4_sealed.proofs.NewCells.{stand}
use Rattle.r4_sealed.proofs.contents.cells_stand_in_the_new_image.Goals as goal

pub returns : goal.returns
returns g = λ n work t ok w. stand n work ok t w
