use Rattle.std.proofs.Common.{subst, List}
use Rattle.r4_base.specs.Chain.{Txn}
use Rattle.r4_replay.specs.Txns.{txn_shown}
use Rattle.r4_replay.proofs.Overlaps.{HasKeptOf, kept_step, more_taken, all_taken, kept_of_chain}
use Rattle.r4_replay.proofs.overlap.kept_blocks.Goals as goal

pub loop-txn-preserved : goal.loop-txn-preserved
loop-txn-preserved c = kept_step _ _ (txn_shown c.txn-item.result) _ _ _ _ _ _ (more_taken txn_shown c.args.txns.now c.loop-txn.txn-index c.txn-item.result c.loop-txn-test.true c.txn-item.is)
    c.deref.ensures.value c.deref-in-loop-txn.ensures.value c.loop-txn.invariant c.in_ok-insert.ensures.updates c.in_ok-keep.ensures c.in_ok-keep_wandered.ensures

pub returns : goal.returns
returns c = kept_of_chain _ _ (subst (λ (l : List Txn). HasKeptOf l c.loop-txn.kept) (all_taken txn_shown c.args.txns.now c.loop-txn.txn-index c.loop-txn-test.false) c.loop-txn.invariant)
