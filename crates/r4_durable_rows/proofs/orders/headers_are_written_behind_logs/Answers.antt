use Rattle.std.proofs.Common.{inl}
use Rattle.r4_durable_rows.proofs.Atomic.{early, early_left, early_volume, not_early}
use Rattle.r4_durable_rows.proofs.orders.headers_are_written_behind_logs.Goals as goal

pub returns : goal.returns
returns g = record {
  no_volume = λ n base p safe reads none. (
    early n base p safe reads,
    inl (early_left n base p safe reads),
    early_volume n base p safe reads none,
  );
  not_atomic = not_early;
}
