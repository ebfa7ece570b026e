use Rattle.r4_content_rows.proofs.Exchanged.{agree, rising_reply, seen_reply}
use Rattle.r4_content_rows.proofs.premises.what_was_seen_has_to_rise.Goals as goal

pub returns : goal.returns
returns c = record { agrees = agree; seen = seen_reply; reply = rising_reply }
