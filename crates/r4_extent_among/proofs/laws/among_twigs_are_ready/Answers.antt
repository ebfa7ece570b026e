use Rattle.r4_extent_among.proofs.Ready.{is_ready}
use Rattle.r4_extent_among.proofs.laws.among_twigs_are_ready.Goals as goal

pub returns : goal.returns
returns c = λ b e t r f w u twig cells working is are small few. is_ready b e t r f w u twig cells working is are small few
