use Rattle.r4_summary.proofs.KeptEdits.{edits_kept}
use Rattle.r4_summary.proofs.laws.edits_of_what_is_kept.Goals as goal

pub returns : goal.returns
returns g = λ e s r. edits_kept e s r
