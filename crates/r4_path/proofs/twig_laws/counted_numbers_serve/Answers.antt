use Rattle.r4_path.proofs.Counted.{have_numbers}
use Rattle.r4_path.proofs.twig_laws.counted_numbers_serve.Goals as goal

pub returns : goal.returns
returns c = have_numbers
