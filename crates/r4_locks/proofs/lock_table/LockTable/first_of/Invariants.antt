use Rattle.std.proofs.Common.{◌≡◌, drop}
use Rattle.r4_locks.specs.Locks.{first_conflict}
use Rattle.r4_locks.proofs.lock_table.LockTable.first_of.Given as goal

abbrev pub invariant-loop-node : goal.invariant-loop-node
invariant-loop-node l = first_conflict l.self l.mine l.wanted (drop l.node-index l.names) ≡ first_conflict l.self l.mine l.wanted l.names
