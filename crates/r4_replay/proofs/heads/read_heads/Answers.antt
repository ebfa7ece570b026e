use Rattle.std.proofs.Common.{◌∙◌, ◌≡◌, Ok, ap, sym, List, ◌-◌, ◌+◌}
use Rattle.r4_base.specs.Refusal.{Head, head_at, heads_from}
use Rattle.r4_replay.specs.Heads.{heads_shown}
use Rattle.r4_replay.proofs.Found.{idles_both, found_at, handed, stops, heads_end, heads_more, heads_fault, heads_long, after_heads, push_shown}
use Rattle.r4_replay.proofs.heads.read_heads.Goals as goal

pub returns-then-at-footer-clause-finds : goal.returns-then-at-footer-clause-finds
returns-then-at-footer-clause-finds g c = λ tells. c.loop.invariant.so_far tells ∙ heads_end _ _ _ _ _ _ _ c.if-at-footer.true

pub returns-in_err-says-clause-finds : goal.returns-in_err-says-clause-finds
returns-in_err-says-clause-finds g c = stops (λ h. h) heads_shown (g.D.Device.state c.args.dev.now) (g.D.Device.state c.loop.dev) (g.D.Device.state c.read_head_at.new.dev)
    (λ i. head_at c.args.blocks i c.loop.holder c.loop.at) _ c.in_err-says.field-0.0 c.from_residual.result c.loop.invariant.idles
    (λ tells r e. c.loop.invariant.so_far tells ∙ heads_fault _ _ _ _ _ _ _ r c.if-at-footer.false e)
    c.in_err-says.ensures.finds (handed _ _ c.from_residual.ensures.1)

pub loop-preserved : goal.loop-preserved
loop-preserved g c = record {
  idles = idles_both _ _ _ c.loop.invariant.idles c.read_head_at.ensures.idles;
  so_far = λ tells.
      let read = found_at (λ i. head_at c.args.blocks i c.loop.holder c.loop.at ≡ Ok c.in_ok-says.says) (g.D.Device.state c.args.dev.now) (g.D.Device.state c.loop.dev) c.loop.invariant.idles tells c.in_ok-says.ensures.finds in
      c.loop.invariant.so_far tells ∙ heads_more _ _ _ _ _ _ c.loop.counter c.in_ok-says.says c.loop-test.true c.if-at-footer.false read
      ∙ ap (λ (hs : List Head). after_heads hs (heads_from (8 - (c.loop.counter + 1)) c.args.blocks (g.D.Device.state c.args.dev.now).seen c.args.footer c.loop.at c.in_ok-says.says.prev_tx)) (sym (push_shown c.loop.heads c.push.new.self _ _ c.in_ok-push.ensures.items));
}

pub returns-then-at-footer-2-clause-finds : goal.returns-then-at-footer-2-clause-finds
returns-then-at-footer-2-clause-finds g c = λ tells. c.loop.invariant.so_far tells ∙ heads_end _ _ _ _ _ _ _ c.if-at-footer-2.true

pub returns-in_err-read_head_at-clause-finds : goal.returns-in_err-read_head_at-clause-finds
returns-in_err-read_head_at-clause-finds g c = stops (λ h. h) heads_shown (g.D.Device.state c.args.dev.now) (g.D.Device.state c.loop.dev) (g.D.Device.state c.read_head_at-2.new.dev)
    (λ i. head_at c.args.blocks i c.loop.holder c.loop.at) _ c.in_err-read_head_at.field-0.0 c.from_residual-in_err-read_head_at.result c.loop.invariant.idles
    (λ tells r e. c.loop.invariant.so_far tells ∙ heads_fault _ _ _ _ _ _ _ r c.if-at-footer-2.false e)
    c.in_err-read_head_at.ensures.finds (handed _ _ c.from_residual-in_err-read_head_at.ensures.1)

pub returns-clause-finds : goal.returns-clause-finds
returns-clause-finds g c = λ tells.
    let read = found_at (λ i. head_at c.args.blocks i c.loop.holder c.loop.at ≡ Ok c.in_ok-read_head_at.field-0) (g.D.Device.state c.args.dev.now) (g.D.Device.state c.loop.dev) c.loop.invariant.idles tells c.in_ok-read_head_at.ensures.finds in
    c.loop.invariant.so_far tells ∙ heads_long _ _ _ _ _ _ c.loop.counter c.in_ok-read_head_at.field-0 c.loop-test.false c.if-at-footer-2.false read
