use Rattle.r4_extent_among.proofs.TurnOf.{turn_of}
use Rattle.r4_extent_among.proofs.laws.among_twigs_have_their_turn.Goals as goal

pub returns : goal.returns
returns c = λ b e twig cells next is are small high. turn_of b e twig cells is are next high small
