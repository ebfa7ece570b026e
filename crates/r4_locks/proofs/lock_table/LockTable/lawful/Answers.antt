use Rattle.r4_locks.proofs.HoldLaws.{holds_apart}
use Rattle.r4_locks.proofs.lock_table.LockTable.lawful.Goals as goal

pub returns : goal.returns
returns c node j k ne writes = rw (← c.self.view_is) (holds_apart c.self.inside.tasks.slots j k node _ (c.self.invariant.told node) ne (rw (← c.self.view_is) at writes))
