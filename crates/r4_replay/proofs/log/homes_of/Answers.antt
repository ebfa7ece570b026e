use Rattle.std.proofs.Common.{take, ℕ, List, ◌∙◌, ap}
use Rattle.r4_base.specs.Chain.{home_from}
use Rattle.r4_replay.specs.Txns.{txn_shown, chain_shown}
use Rattle.r4_replay.specs.Homes.{home_in}
use Rattle.r4_replay.proofs.Chaining.{done_one}
use Rattle.r4_replay.proofs.Homes.{home_later}
use Rattle.r4_replay.proofs.log.homes_of.Goals as goal

pub loop-txn-preserved : goal.loop-txn-preserved
loop-txn-preserved c = λ b. home_later _ (chain_shown (take c.loop-txn.txn-index c.args.txns.now)) (txn_shown c.txn-item.result) c.loop-txn.homes c.add_homes.new.homes b
    (done_one c.args.txns.now c.loop-txn.txn-index c.txn-item.result c.loop-txn-test.true c.txn-item.is) (c.loop-txn.invariant b)
    (c.in_ok-add_homes.ensures b ∙ ap (λ (ps : List (ℕ × ℕ)). home_from ps b (home_in c.loop-txn.homes b)) c.deref.ensures.value)
