use Rattle.r4_content_rows.proofs.Exchanged.{below_spares, not_exchanged, reply_before, reply_then}
use Rattle.r4_content_rows.proofs.premises.both_have_to_spare.Goals as goal

pub returns : goal.returns
returns c = record {
  spares = below_spares;
  contents = not_exchanged;
  reply = reply_before;
  other_reply = reply_then;
}
