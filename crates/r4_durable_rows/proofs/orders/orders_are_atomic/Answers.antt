use Rattle.r4_durable_rows.proofs.Atomic.{right_order}
use Rattle.r4_durable_rows.proofs.orders.orders_are_atomic.Goals as goal

pub returns : goal.returns
returns g = record { in_order = right_order }
