use Rattle.r4_check_objects.proofs.Summed.{no_sums}
use Rattle.r4_check_objects.proofs.totals.Totals.new.Goals as goal

pub returns : goal.returns
returns c found = record {
  entries = no_sums _ found _ c.in_ok-new.ensures;
  directories = no_sums _ found _ c.in_ok-new-2.ensures;
  links = no_sums _ found _ c.in_ok-new-3.ensures;
  reached = no_sums _ found _ c.in_ok-new-4.ensures;
  tails = no_sums _ found _ c.in_ok-new-5.ensures;
  blocks = no_sums _ found _ c.in_ok-new-6.ensures;
  past = no_sums _ found _ c.in_ok-new-7.ensures;
  strays = no_sums _ found _ c.in_ok-new-8.ensures;
}
