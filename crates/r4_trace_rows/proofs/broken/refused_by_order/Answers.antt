use Rattle.r4_trace_rows.proofs.Refused.{another_committed, broken_committed, clock_fell, done_for_another, early_acked, gone_kept, larger_kept, none_sealed, not_following, open_sealed, third_begun, too_late, twice_begun, twice_ended, two_sealed}
use Rattle.r4_trace_rows.proofs.broken.refused_by_order.Goals as goal

pub returns : goal.returns
returns c = record {
  begins_twice = twice_begun;
  begins_the_third = third_begun;
  does_for_another = done_for_another;
  ends_twice = twice_ended;
  keeps_the_larger = larger_kept;
  keeps_the_gone = gone_kept;
  seals_open = open_sealed;
  seals_none = none_sealed;
  seals_two = two_sealed;
  commits_another = another_committed;
  acks_early = early_acked;
  clock_falls = clock_fell;
  commits_broken = broken_committed;
  not_legal = not_following;
  not_legal_now = too_late;
}
