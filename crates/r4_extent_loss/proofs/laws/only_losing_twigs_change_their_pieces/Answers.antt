use Rattle.r4_extent_loss.proofs.LossChanges.{loses_blocks}
use Rattle.r4_extent_loss.proofs.laws.only_losing_twigs_change_their_pieces.Goals as goal

pub returns : goal.returns
returns c = λ b first e twig losing pieces nothing change. loses_blocks b first e losing twig pieces nothing change
