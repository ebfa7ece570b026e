use Rattle.std.proofs.Common.{◌≡◌, ◌<◌, true, arith, nat_lt}
use Rattle.std.proofs.lemmas.Bool.{and_parts}
use Rattle.std.proofs.lemmas.Bool.Decides.{nat_tests}
use Rattle.slab.specs.Slab.{slab_len}
use Rattle.r4_locks.proofs.HoldLaws.{kept_new}
use Rattle.r4_locks.proofs.lock_table.LockTable.admit.Goals as goal

pub invariant_of-self : goal.invariant_of-self
invariant_of-self c =
    let lets_in = rw (← c.self.view_is) at c.requires in
    let both = and_parts (nat_lt (slab_len c.self.inside.tasks) c.self.inside.tasks.capacity)
    (nat_lt c.self.inside.tasks.vacant_key 4294967295) lets_in in
    let last = both.1 in
    let few : c.self.inside.tasks.vacant_key < 4294967295 = grind (arith, nat_tests) in
    let added = c.insert_reserved.ensures in
    kept_new c.self.inside.tasks.slots c.insert_reserved.new.self.slots c.self.inside.nodes.holders
    c.insert_reserved.result c.new.inside.holds c.self.invariant (rw (← added.key) at few) c.new.invariant
    added.was_vacant added.updates.changed added.updates.others
