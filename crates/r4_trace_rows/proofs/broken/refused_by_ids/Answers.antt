use Rattle.std.proofs.Common.{inl, refl, reverse, lit<}
use Rattle.r4_trace_rows.specs.Examples.{draws_twice}
use Rattle.r4_trace_rows.proofs.Refused.{twice_answered, twice_replied}
use Rattle.r4_trace_rows.proofs.Checked.{ordered_true}
use Rattle.r4_trace_rows.proofs.broken.refused_by_ids.Goals as goal

pub returns : goal.returns
returns c = record {
  draws_twice = (
    ordered_true (reverse draws_twice) refl,
    twice_replied,
    twice_answered,
    λ start job h. (h.0 65536 refl).once (lit< tt) (inl refl),
  );
}
