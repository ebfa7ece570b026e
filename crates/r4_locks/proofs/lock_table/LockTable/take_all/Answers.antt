use Rattle.std.proofs.Common.{sym, ◌∙◌}
use Rattle.r4_locks.proofs.CallLaws.{clear_reads, clear_writes}
use Rattle.r4_locks.proofs.lock_table.LockTable.take_all.Goals as goal

pub hold_all-requires-clause-clear : goal.hold_all-requires-clause-clear
hold_all-requires-clause-clear c n named k ne =
    rw (c.room.ensures.others k ne) (clear_writes c.args.self.now c.args.who c.args.reads.now c.args.writes.now n (sym c.first_of_all.ensures ∙ c.in_default.is) named k ne)

pub hold_all-requires-2-clause-clear : goal.hold_all-requires-2-clause-clear
hold_all-requires-2-clause-clear c n named k ne =
    rw (c.hold_all.ensures.others k ne, c.room.ensures.others k ne) (clear_reads c.args.self.now c.args.who c.args.reads.now c.args.writes.now n (sym c.first_of_all.ensures ∙ c.in_default.is) named k ne)
