use Rattle.std.proofs.Common.{◌∙◌, length}
use Rattle.r4_base.specs.Log.{Record}
use Rattle.r4_base.specs.Refusal.{record_at}
use Rattle.r4_replay.specs.Heads.{head_shown}
use Rattle.r4_replay.specs.Txns.{txn_shown, HasTaken}
use Rattle.r4_replay.proofs.Found.{idles_both, found_at, handed, stops, records_step, records_fault, records_end, records_circle, txn_found, txn_refused}
use Rattle.r4_replay.proofs.txn.read_txn.Goals as goal

pub returns-in_err-next-clause-finds : goal.returns-in_err-next-clause-finds
returns-in_err-next-clause-finds g c = stops (λ (r : Record). r) txn_shown (g.D.Device.state c.args.dev.now) (g.D.Device.state c.loop-serial.dev) (g.D.Device.state c.read_record_at.new.dev)
    (λ i. record_at c.args.blocks i c.args.head.says.id c.loop-serial.serial (length c.loop-serial.pairs.items) c.loop-serial.holder c.loop-serial.at) _ c.in_err-next.field-0.0 c.from_residual.result c.loop-serial.invariant.idles
    (λ tells r e. txn_refused _ _ (head_shown c.args.head) r (c.loop-serial.invariant.so_far tells ∙ records_fault _ _ _ _ _ _ _ _ _ _ _ r c.loop-serial-test.true e))
    c.in_err-next.ensures.finds (handed _ _ c.from_residual.ensures.1)

pub loop-serial-preserved : goal.loop-serial-preserved
loop-serial-preserved g c = record {
  idles = idles_both _ _ _ c.loop-serial.invariant.idles c.read_record_at.ensures.idles;
  in_range = c.in_ok-next.ensures.in_range c.loop-serial.invariant.in_range;
  so_far = λ tells.
      let taken = found_at (λ i. HasTaken (record_at c.args.blocks i c.args.head.says.id c.loop-serial.serial (length c.loop-serial.pairs.items) c.loop-serial.holder c.loop-serial.at) c.loop-serial.pairs.items c.read_record_at.new.pairs.items c.in_ok-next.next)
      (g.D.Device.state c.args.dev.now) (g.D.Device.state c.loop-serial.dev) c.loop-serial.invariant.idles tells c.in_ok-next.ensures.finds in
      c.loop-serial.invariant.so_far tells ∙ records_step _ _ _ _ _ _ _ _ _ _ _ _ _ c.loop-serial-test.true c.in_ok-push.ensures.items taken;
}

pub returns-then-at-head-clause-finds : goal.returns-then-at-head-clause-finds
returns-then-at-head-clause-finds g c = λ tells. txn_refused _ _ (head_shown c.args.head) _ (c.loop-serial.invariant.so_far tells ∙ records_circle _ _ _ _ _ _ _ _ _ _ _ c.loop-serial-test.false c.if-at-head.true)

pub returns-clause-finds : goal.returns-clause-finds
returns-clause-finds g c = λ tells. txn_found _ _ (head_shown c.args.head) _ (c.loop-serial.invariant.so_far tells ∙ records_end _ _ _ _ _ _ _ _ _ _ _ c.loop-serial-test.false c.if-at-head.false)
