use Rattle.std.proofs.Common.{refl}
use Rattle.r4_sets_rows.specs.Small.{small_store}
use Rattle.r4_sets_rows.proofs.InOrder.{in_order}
use Rattle.r4_sets_rows.proofs.WorkedThrough.{captured_sets, committed_now, in_committed, in_committed_later, in_memory}
use Rattle.r4_sets_rows.proofs.WorkedThrough.{in_sealed}
use Rattle.r4_sets_rows.proofs.worked.three_layers.Goals as goal

pub returns : goal.returns
unfolding small_store
returns c = record {
  sets = captured_sets;
  later = λ limit clock b. committed_now limit b clock;
  order = λ limit clock b. in_order limit b clock;
  free = λ limit b. refl;
  captured = λ limit b. refl;
  leaf = λ limit b. refl;
  sealed_leaf = λ limit b. refl;
  own_leaf = λ limit b. refl;
  committed = in_committed;
  sealed = in_sealed;
  memory = in_memory;
  committed_later = λ limit clock b. in_committed_later limit b clock;
}
