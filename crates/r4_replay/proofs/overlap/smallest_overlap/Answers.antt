use Rattle.std.proofs.Common.{subst, List}
use Rattle.r4_base.specs.Chain.{Txn}
use Rattle.r4_replay.specs.Txns.{txn_shown}
use Rattle.r4_replay.proofs.Overlaps.{IsSmallestOf, smallest_step, more_taken, all_taken, smallest_of_chain}
use Rattle.r4_replay.proofs.overlap.smallest_overlap.Goals as goal

pub loop-txn-preserved : goal.loop-txn-preserved
loop-txn-preserved c = smallest_step _ _ _ (txn_shown c.txn-item.result) c.loop-txn.smallest c.smallest_in-smallest.result _ (more_taken txn_shown c.args.txns.now c.loop-txn.txn-index c.txn-item.result c.loop-txn-test.true c.txn-item.is)
    c.deref.ensures.value c.loop-txn.invariant c.smallest_in-smallest.ensures

pub returns : goal.returns
returns c = smallest_of_chain c.in_ok-kept.kept _ c.loop-txn.smallest c.in_ok-kept.ensures (subst (λ (l : List Txn). IsSmallestOf c.in_ok-kept.kept l c.loop-txn.smallest) (all_taken txn_shown c.args.txns.now c.loop-txn.txn-index c.loop-txn-test.false) c.loop-txn.invariant)
