use Rattle.std.proofs.Common.{◌≡◌, ℕ, ◌<◌, slice_index_or, None, false}
use Rattle.r4_locks.specs.Modes.{conflicts}
use Rattle.r4_locks.specs.Locks.{mode_in, others}
use Rattle.r4_locks.proofs.lock_table.LockTable.holder.Given as goal

abbrev pub invariant-loop-key : goal.invariant-loop-key
invariant-loop-key l = (j : ℕ) → j < l.key → conflicts l.wanted (mode_in (slice_index_or (others l.mine l.self.tasks) j None) l.node.0) ≡ false
