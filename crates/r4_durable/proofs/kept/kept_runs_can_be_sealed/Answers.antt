use Rattle.r4_durable.proofs.Flushes.{id_may_be, is_sealing, means_now, same_lost, still_owned}
use Rattle.r4_durable.proofs.kept.kept_runs_can_be_sealed.Goals as goal

pub returns : goal.returns
returns g = record {
  now = means_now;
  sealed = λ limit b job c work plan kept can. (
    is_sealing limit b job c work plan kept can,
    id_may_be limit b job c work plan kept can,
    same_lost limit b job c work plan kept can,
  );
  owns = still_owned;
}
