use Rattle.std.proofs.Common.{⊎_elim}
use Rattle.r4_base.proofs.Numbers.{number_at-overwrite, length-overwrite, get_or-overwrite_below, get_or-overwrite_above}
use Rattle.r4_base.proofs.laws.number_law.Goals as goal

pub returns : goal.returns
returns c = record {
  read = number_at-overwrite;
  length = λ at ys xs h. length-overwrite at ys xs h;
  elsewhere = λ at ys xs k h which. ⊎_elim (λ lt. get_or-overwrite_below at ys xs k 0 h lt) (λ ge. get_or-overwrite_above at ys xs k 0 h ge) which;
}
