use Rattle.r4_build.proofs.Contents.{edits_made}
use Rattle.r4_build.proofs.laws.edits_are_made.Goals as goal

pub returns : goal.returns
returns c = λ p t root e m affects units. edits_made p t root e m affects.part affects.meets affects.effect units
