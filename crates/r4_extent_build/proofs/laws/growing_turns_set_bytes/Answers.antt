use Rattle.r4_extent_build.proofs.TurnSets.{sets_below}
use Rattle.r4_extent_build.proofs.laws.growing_turns_set_bytes.Goals as goal

pub returns : goal.returns
returns c = λ b first e twig at next growing clear keys some. sets_below b first e twig growing clear at keys next some
