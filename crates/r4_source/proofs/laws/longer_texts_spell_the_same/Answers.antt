use Rattle.r4_source.proofs.Cut.{job_alike}
use Rattle.r4_source.proofs.laws.longer_texts_spell_the_same.Goals as goal

pub returns : goal.returns
returns c = job_alike
