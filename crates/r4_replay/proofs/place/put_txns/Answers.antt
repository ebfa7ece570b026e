use Rattle.std.proofs.Common.{refl, drop, take, ◌+◌}
use Rattle.r4_outside.specs.Device.{TellsReads}
use Rattle.r4_outside.proofs.Moments.{goes_same, goes_both}
use Rattle.r4_replay.specs.Txns.{txn_shown, chain_shown}
use Rattle.r4_replay.proofs.Chaining.{rest_one, done_one, turn_under_way, turn_always, begins, safe_at_first, rest_is, done_is, never_zero}
use Rattle.r4_replay.proofs.place.put_txns.Goals as goal

pub loop-txn-init : goal.loop-txn-init
loop-txn-init g c = record {
  goes = goes_same _;
  idle = λ none. record { seen = refl; clock = refl };
  under_way = λ tells. begins _ _ _;
  safe = λ quiet. safe_at_first _ _ quiet;
}

pub returns-in_err-put_txn-clause-any_moment : goal.returns-in_err-put_txn-clause-any_moment
returns-in_err-put_txn-clause-any_moment g c = λ quiet. turn_always (g.D.Device.state c.args.dev.now) (g.D.Device.state c.loop-txn.dev) (g.D.Device.state c.put_txn.new.dev) (chain_shown c.args.txns.now) c.args.footer.now
    (chain_shown (drop (c.loop-txn.txn-index + 1) c.args.txns.now)) (txn_shown c.txn-item.result) (chain_shown (take c.loop-txn.txn-index c.args.txns.now)) c.loop-txn.footer c.put_txn.new.footer
    c.loop-txn.invariant.goes c.put_txn.ensures.goes c.requires.more c.put_txn.ensures.spelled c.put_txn.ensures.named
    (λ tells. rest_is _ _ _ _ _ _ _ _ (rest_one c.args.txns.now c.loop-txn.txn-index c.txn-item.result c.loop-txn-test.true c.txn-item.is) (c.loop-txn.invariant.under_way tells))
    quiet (c.loop-txn.invariant.safe quiet) c.put_txn.ensures.any_moment

pub loop-txn-preserved : goal.loop-txn-preserved
loop-txn-preserved g c =
    let under = λ (tells : TellsReads (g.D.Device.state c.args.dev.now)). rest_is _ _ _ _ _ _ _ _ (rest_one c.args.txns.now c.loop-txn.txn-index c.txn-item.result c.loop-txn-test.true c.txn-item.is) (c.loop-txn.invariant.under_way tells) in
    record {
      goes = goes_both _ _ _ c.loop-txn.invariant.goes c.put_txn.ensures.goes;
      idle = λ none. never_zero c.loop-txn.txn-index none;
      under_way = λ tells. done_is _ _ _ _ _ _ _ _ (done_one c.args.txns.now c.loop-txn.txn-index c.txn-item.result c.loop-txn-test.true c.txn-item.is)
          (turn_under_way (g.D.Device.state c.args.dev.now) (g.D.Device.state c.loop-txn.dev) (g.D.Device.state c.put_txn.new.dev) (chain_shown c.args.txns.now) c.args.footer.now
          (chain_shown (drop (c.loop-txn.txn-index + 1) c.args.txns.now)) (txn_shown c.txn-item.result) (chain_shown (take c.loop-txn.txn-index c.args.txns.now)) c.loop-txn.footer c.put_txn.new.footer
          c.loop-txn.invariant.goes c.put_txn.ensures.goes c.requires.more c.put_txn.ensures.spelled c.put_txn.ensures.named under c.in_ok-put_txn.ensures.placed tells);
      safe = λ quiet. record {
        quiet = c.in_ok-put_txn.ensures.quiet (c.loop-txn.invariant.safe quiet).quiet;
        always = turn_always (g.D.Device.state c.args.dev.now) (g.D.Device.state c.loop-txn.dev) (g.D.Device.state c.put_txn.new.dev) (chain_shown c.args.txns.now) c.args.footer.now
            (chain_shown (drop (c.loop-txn.txn-index + 1) c.args.txns.now)) (txn_shown c.txn-item.result) (chain_shown (take c.loop-txn.txn-index c.args.txns.now)) c.loop-txn.footer c.put_txn.new.footer
            c.loop-txn.invariant.goes c.put_txn.ensures.goes c.requires.more c.put_txn.ensures.spelled c.put_txn.ensures.named under quiet (c.loop-txn.invariant.safe quiet) c.put_txn.ensures.any_moment;
      };
    }
