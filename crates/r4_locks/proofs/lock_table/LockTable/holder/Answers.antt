use Rattle.std.proofs.Common.{◌≤◌, length, ap, sym, arith}
use Rattle.r4_locks.specs.Locks.{LocksSeen}
use Rattle.r4_locks.proofs.CallLaws.{smallest_is, smallest_none_up_to}
use Rattle.r4_locks.proofs.lock_table.LockTable.holder.Goals as goal

pub returns-then-is_in_the_way : goal.returns-then-is_in_the_way
returns-then-is_in_the_way c = sym (smallest_is c.args.self.now c.args.mine c.args.wanted c.args.node.0 c.loop-key.key c.loop-key.invariant (sym c.if-is_in_the_way.ensures.way))

pub returns : goal.returns
returns c =
    let tasks = ap (λ (t : LocksSeen). length t.tasks) c.self.view_is in
    let most = c.capacity-key-end.ensures.slots in
    let over = c.loop-key-test.false in
    let at_end = c.loop-key.auto.key-end in
    let covers : length c.args.self.now.tasks ≤ c.loop-key.key = omega arith in
    sym (smallest_none_up_to c.args.self.now c.args.mine c.args.wanted c.args.node.0 c.loop-key.key covers c.loop-key.invariant)
