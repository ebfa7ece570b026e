use Rattle.r4_measure.proofs.TwigTurn.{twig_turn_kept}
use Rattle.r4_measure.proofs.twig_laws.twig_turns_keep_the_measure.Goals as goal

pub returns : goal.returns
returns g t r before after w now b k qs x made is quiet unplaced fits =
    twig_turn_kept t r before after w now b is quiet k qs x made fits unplaced.0 unplaced.1
