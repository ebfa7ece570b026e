use Rattle.r4_rows.proofs.PathRows.{path_rows}
use Rattle.r4_rows.proofs.TwigRows.{twig_change_rows}
use Rattle.r4_rows.proofs.laws.steps_are_rows.Goals as goal

pub returns : goal.returns
returns c = record { path = path_rows; twig = twig_change_rows }
