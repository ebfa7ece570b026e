use Rattle.r4_locks.proofs.Alone.{none_in_the_way}
use Rattle.r4_locks.proofs.CallLaws.{clear_reads, clear_writes}
use Rattle.r4_locks.proofs.lock_table.LockTable.let_in.Goals as goal

pub hold_all-requires-clause-clear : goal.hold_all-requires-clause-clear
hold_all-requires-clause-clear c n named =
    let new = c.admit-who.ensures in
    clear_writes c.admit-who.new.self c.admit-who.result c.args.reads.now c.args.writes.now n
    (none_in_the_way c.args.self.now c.admit-who.new.self c.admit-who.result new.unused new.holds new.others
    c.args.reads.now c.args.writes.now c.requires.clear) named

pub hold_all-requires-2-clause-clear : goal.hold_all-requires-2-clause-clear
hold_all-requires-2-clause-clear c n named k ne =
    let new = c.admit-who.ensures in
    rw (c.hold_all.ensures.others k ne)
    (clear_reads c.admit-who.new.self c.admit-who.result c.args.reads.now c.args.writes.now n
    (none_in_the_way c.args.self.now c.admit-who.new.self c.admit-who.result new.unused new.holds new.others
    c.args.reads.now c.args.writes.now c.requires.clear) named k ne)
