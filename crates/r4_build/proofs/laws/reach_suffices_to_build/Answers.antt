use Rattle.r4_build.proofs.Turns.{can_make, few_made}
use Rattle.r4_build.proofs.laws.reach_suffices_to_build.Goals as goal

pub returns : goal.returns
returns c = record {
  can = λ b e reads t r f cells w can start. can_make b e reads t r f cells can w start;
  few = λ b e reads t r f cells w can start. few_made b e reads t r f cells can w start;
}
