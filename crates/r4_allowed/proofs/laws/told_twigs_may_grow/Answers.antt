use Rattle.std.proofs.Common.{◌≤◌, subst, sym}
use Rattle.r4_allowed.proofs.Raised.{told_least}
use Rattle.r4_allowed.proofs.laws.told_twigs_may_grow.Goals as goal

pub returns : goal.returns
returns c top cells twigs table raised i n are = subst (λ k. n ≤ k) (sym (raised.twigs i)) (told_least twigs i n are.told are.least)
