use Rattle.std.proofs.Common.{◌≡◌, ◌<◌, ap, arith}
use Rattle.slab.specs.Slab.{Slab}
use Rattle.r4_locks.specs.Locks.{TaskSeen}
use Rattle.r4_locks.proofs.HoldLaws.{holds_nothing, kept_new}
use Rattle.r4_locks.proofs.lock_table.LockTable.task.Goals as goal
use Rattle.r4_locks.proofs.lock_table.LockTable.task.Goals.{in-Ok, in-Err}

pub invariant_of-self : goal.invariant_of-self
invariant_of-self c = elim c.match-insert.branch [
  | in-Ok w ↦ (let key = w.in-Ok.ensures.key in
      let vacant = c.vacant_key-key.ensures.value in
      let few = c.if-key.false in
      let small : w.in-Ok.key < 4294967295 = omega arith in
      kept_new c.self.inside.tasks.slots c.insert.new.self.slots c.self.inside.nodes.holders w.in-Ok.key c.new.result c.self.invariant small (λ n. holds_nothing c.new.result n c.new.ensures) w.in-Ok.ensures.was_vacant w.in-Ok.ensures.updates.changed w.in-Ok.ensures.updates.others)
  | in-Err w ↦ (let same : c.insert.new.self.slots ≡ c.self.inside.tasks.slots = ap (λ (s : Slab TaskSeen). s.slots) w.in-Err.ensures.err in
      rw same c.self.invariant)
]
