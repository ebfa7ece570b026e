use Rattle.std.proofs.Common.{◌∙◌, sym}
use Rattle.r4_replay.proofs.Found.{finds_record, record_out, record_read}
use Rattle.r4_replay.proofs.txn.read_record_at.Goals as goal

pub returns-then-not-is_in_log-clause-finds : goal.returns-then-not-is_in_log-clause-finds
returns-then-not-is_in_log-clause-finds g c = λ tells. record_out _ _ _ _ _ _ _ (sym c.is_in_log.ensures ∙ c.if-not-is_in_log.true)

pub returns-clause-finds : goal.returns-clause-finds
returns-clause-finds g c = finds_record (g.D.Device.state c.args.dev.now) (g.D.Device.state c.read.new.self) _ _ _ _ _ c.judge_record.ensures.judges
    (λ tells. record_read _ _ _ _ _ _ _ _ (sym c.is_in_log.ensures ∙ c.if-not-is_in_log.false) (c.bytes.ensures.value ∙ c.in_ok-read.ensures.content tells))
