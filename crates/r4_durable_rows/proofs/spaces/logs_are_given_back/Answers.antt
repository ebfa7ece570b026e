use Rattle.r4_durable_rows.proofs.GivenBack.{fewer, log_free, log_kept, log_unmarked, placed_is_lost, still_held}
use Rattle.r4_durable_rows.proofs.spaces.logs_are_given_back.Goals as goal

pub returns : goal.returns
returns g = record {
  unused = λ n work ok b one. log_free n work ok b one;
  gone = λ n work ok b one. (log_unmarked n work ok b one, log_kept n work ok b one);
  stays = λ s atom other b apart held. still_held s atom other b apart held;
  fewer = λ n work ok. fewer n work ok;
  placed = λ n image m d s atom b count long unused marked none.
      placed_is_lost n image m d s atom b count long unused marked none;
}
