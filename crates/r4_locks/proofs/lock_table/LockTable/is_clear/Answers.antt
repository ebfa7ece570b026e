use Rattle.r4_locks.specs.Locks.{IsHeld}
use Rattle.std.proofs.Common.{◌≡◌, refl, ◌∙◌}
use Rattle.std.specs.Prelude.{Some}
use Rattle.r4_locks.specs.declared.things.Held.TheVariants.{Free, Read, Write}
use Rattle.r4_locks.specs.declared.things.Mode.TheVariants.{Reads}
use Rattle.r4_locks.proofs.CallLaws.{smallest_none}
use Rattle.r4_locks.proofs.HoldLaws.{clear_free, clear_own, clear_read, clear_write}
use Rattle.r4_locks.proofs.lock_table.LockTable.is_clear.Goals as goal

pub returns-then-tasks-eq1 : goal.returns-then-tasks-eq1
returns-then-tasks-eq1 c on =
    let own = c.is_held_by.ensures on in
    let one : c.held.result ≡ Read 1 = c.in-Writes-Read.is-1 ∙ rw c.if-tasks-eq1.true refl in
    let is : IsHeld c.args.self.now c.args.node.0 (Read 1) = rw one at c.held.ensures in
    rw own.1 (smallest_none c.args.self.now (Some own.0) c.args.wanted c.args.node.0 (clear_own own.0 c.args.self.now.tasks c.args.node.0 c.args.wanted own.2 is))

pub returns-in_default-Write : goal.returns-in_default-Write
returns-in_default-Write c on =
    let is : IsHeld c.args.self.now c.args.node.0 (Write c.in_default-Write.by) = rw c.in_default-Write.is-1 at c.held.ensures in
    rw (c.is_mine.ensures on) (smallest_none c.args.self.now (Some c.in_default-Write.by) c.args.wanted c.args.node.0 (clear_write c.in_default-Write.by c.args.self.now.tasks c.args.node.0 c.args.wanted is))

pub returns-in_default-Free : goal.returns-in_default-Free
returns-in_default-Free c on =
    let is : IsHeld c.args.self.now c.args.node.0 Free = rw c.in_default-Free.is-1 at c.held.ensures in
    smallest_none c.args.self.now c.args.mine c.args.wanted c.args.node.0 (clear_free c.args.mine c.args.self.now.tasks c.args.node.0 c.args.wanted is)

pub returns-in_default-Free-2 : goal.returns-in_default-Free-2
returns-in_default-Free-2 c on =
    let is : IsHeld c.args.self.now c.args.node.0 (Read c.in_default-Free.field-0-1) = rw c.in_default-Free.is-1 at c.held.ensures in
    rw c.in_default-Free.is-0 (smallest_none c.args.self.now c.args.mine Reads c.args.node.0 (clear_read c.args.mine c.args.self.now.tasks c.args.node.0 c.in_default-Free.field-0-1 is))
