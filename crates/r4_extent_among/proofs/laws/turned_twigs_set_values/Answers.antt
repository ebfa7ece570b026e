use Rattle.r4_extent_among.proofs.Ready.{set_among}
use Rattle.r4_extent_among.proofs.laws.turned_twigs_set_values.Goals as goal

pub returns : goal.returns
returns c = λ b e t r twig cells f w now can are turned. set_among b e t r twig cells f w now can are turned
