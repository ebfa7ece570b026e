use Rattle.std.proofs.Common.{refl, reverse, arith}
use Rattle.r4_trace_rows.specs.Examples.{skips}
use Rattle.r4_trace_rows.proofs.Refused.{open_so_far, skips_ids, skips_replies}
use Rattle.r4_trace_rows.proofs.Checked.{ordered_true}
use Rattle.r4_trace_rows.proofs.broken.refused_by_the_job.Goals as goal

pub returns : goal.returns
returns c = record {
  skips = (ordered_true (reverse skips) refl, skips_replies, skips_ids, λ h. absurd (omega (arith, h.1.0.0)));
  stays_open = (open_so_far, λ h. h 1 1 refl);
}
