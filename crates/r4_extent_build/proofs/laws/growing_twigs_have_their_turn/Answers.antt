use Rattle.r4_extent_build.proofs.GrowingTurns.{turn_of}
use Rattle.r4_extent_build.proofs.laws.growing_twigs_have_their_turn.Goals as goal

pub returns : goal.returns
returns c = λ b first e twig next growing clear small high. turn_of b first e twig growing clear small next high
