use Rattle.r4_durable_rows.proofs.Atomic.{not_homes}
use Rattle.r4_durable_rows.proofs.OneHome.{home_left, not_new, not_old, one_home}
use Rattle.r4_durable_rows.proofs.orders.homes_are_written_behind_headers.Goals as goal

pub returns : goal.returns
returns g = record {
  neither = λ n base p v w safe reads one two apart new_v new_w. (
    one_home n base p safe reads v w one two apart new_v new_w,
    home_left n base p safe reads v w one two apart new_v new_w,
    not_old n base p safe reads v w one two apart new_v new_w,
    not_new n base p safe reads v w one two apart new_v new_w,
  );
  not_atomic = not_homes;
}
