use Rattle.r4_extent_build.proofs.PackedTwigs.{may_be_packed}
use Rattle.r4_extent_build.proofs.laws.pieces_of_growing_bodies_may_be_packed.Goals as goal

pub returns : goal.returns
returns c = λ b first e twig next growing clear high. may_be_packed b first e twig growing clear next high
