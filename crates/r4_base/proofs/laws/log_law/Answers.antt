use Rattle.r4_base.proofs.Logs.{log_has, has_log, one_log, not_refused}
use Rattle.r4_base.proofs.laws.log_law.Goals as goal

pub returns : goal.returns
returns c = record {
  found = λ n image chain. ((λ has. (log_has n image chain has, has.apart)), (λ both. has_log n image chain both.0 both.1));
  one = one_log;
  refused = not_refused;
}
