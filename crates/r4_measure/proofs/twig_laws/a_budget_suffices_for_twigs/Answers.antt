use Rattle.r4_measure.proofs.TwigTurn.{twig_enough}
use Rattle.r4_measure.proofs.twig_laws.a_budget_suffices_for_twigs.Goals as goal

pub returns : goal.returns
returns g t r f w b k twig ups qs is path fits = twig_enough t r f w b is k twig ups path qs fits
