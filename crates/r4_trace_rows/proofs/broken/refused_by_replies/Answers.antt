use Rattle.std.proofs.Common.{refl, reverse}
use Rattle.r4_trace_rows.specs.Examples.{other_reply}
use Rattle.r4_trace_rows.proofs.Refused.{no_other_reply, other_answered, other_ids}
use Rattle.r4_trace_rows.proofs.Checked.{ordered_true}
use Rattle.r4_trace_rows.proofs.broken.refused_by_replies.Goals as goal

pub returns : goal.returns
returns c = record {
  other_reply = (ordered_true (reverse other_reply) refl, other_answered, other_ids, no_other_reply);
}
