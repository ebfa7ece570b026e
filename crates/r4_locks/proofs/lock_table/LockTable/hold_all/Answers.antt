use Rattle.std.proofs.Common.{◌∙◌, sym, arith}
use Rattle.r4_locks.proofs.CallLaws.{mode_with_more}
use Rattle.r4_locks.proofs.lock_table.LockTable.hold_all.Goals as goal

pub loop-node-preserved : goal.loop-node-preserved
loop-node-preserved c =
    let inv = c.loop-node.invariant in (
      c.hold.ensures.stands,
      (λ k ne. c.hold.ensures.others k ne ∙ inv.1 k ne),
      (λ n. c.hold.ensures.mine n ∙ rw (inv.2 n) (sym (mode_with_more c.args.wanted c.args.names.now c.loop-node.node-index n _ _ c.loop-node-test.true))),
      (λ k. (let a = c.hold.ensures.room k in let b = inv.3 k in omega arith)),
    )
