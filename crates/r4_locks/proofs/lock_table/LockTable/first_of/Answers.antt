use Rattle.std.proofs.Common.{sym, ◌∙◌, add-one}
use Rattle.r4_locks.proofs.CallLaws.{first_beyond}
use Rattle.r4_locks.proofs.lock_table.LockTable.first_of.Goals as goal

pub loop-node-preserved : goal.loop-node-preserved
loop-node-preserved c =
    rw add-one (first_beyond c.args.self.now c.args.mine c.args.wanted c.args.names.now c.loop-node.node-index (record { 0 = 0 }) c.loop-node-test.true (sym c.holder.ensures ∙ c.in_default.is) ∙ c.loop-node.invariant)
