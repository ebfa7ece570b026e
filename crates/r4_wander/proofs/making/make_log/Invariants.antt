use Rattle.std.proofs.Common.{◌≡◌, ℕ, ◌<◌, map}
use Rattle.std.specs.Prelude.{Some}
use Rattle.std.specs.List.{range_with_len}
use Rattle.r4_base.specs.Log.{record_of, record_block}
use Rattle.r4_wander.specs.LogPlan.{record_says, record_write}
use Rattle.r4_wander.proofs.making.make_log.Given as goal

abbrev pub invariant-loop-k : goal.invariant-loop-k
invariant-loop-k l = record {
  made : l.log.items ≡ map (record_write l.plan) (range_with_len 0 l.k);
  again : (j : ℕ) → j < l.k → record_of (record_block (record_says l.plan j)) ≡ Some (record_says l.plan j);
}
