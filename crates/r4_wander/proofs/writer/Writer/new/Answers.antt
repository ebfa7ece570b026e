use Rattle.r4_wander.proofs.Written.{is_encoded}
use Rattle.r4_wander.proofs.writer.Writer.new.Goals as goal

pub returns-clause-encoded : goal.returns-clause-encoded
returns-clause-encoded c = is_encoded c.args.plan c.requires c.in_ok-log.ensures.again c.in_ok-log.ensures.head c.in_ok-header.ensures.again c.in_ok-header.ensures.whole c.in_ok-footer.ensures.again c.in_ok-footer.ensures.whole c.in_ok-first.ensures.whole c.in_ok-shared.ensures.whole
