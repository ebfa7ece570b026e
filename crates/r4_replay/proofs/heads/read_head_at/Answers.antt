use Rattle.std.proofs.Common.{◌∙◌, sym}
use Rattle.r4_replay.proofs.Found.{finds_judged, head_out, head_read}
use Rattle.r4_replay.proofs.heads.read_head_at.Goals as goal

pub returns-then-not-is_in_log-clause-finds : goal.returns-then-not-is_in_log-clause-finds
returns-then-not-is_in_log-clause-finds g c = λ tells. head_out _ _ _ _ (sym c.is_in_log.ensures ∙ c.if-not-is_in_log.true)

pub returns-clause-finds : goal.returns-clause-finds
returns-clause-finds g c = finds_judged (g.D.Device.state c.args.dev.now) (g.D.Device.state c.read.new.self) _ _ _ c.judge_head.ensures
    (λ tells. head_read _ _ _ _ _ (sym c.is_in_log.ensures ∙ c.if-not-is_in_log.false) (c.bytes.ensures.value ∙ c.in_ok-read.ensures.content tells))
