use Rattle.std.proofs.Common.{◌≡◌, get_or, refl, sym}
use Rattle.std.specs.Prelude.{Some, None, IsSome}
use Rattle.r4_locks.specs.Locks.{mode_in}
use Rattle.r4_locks.proofs.HoldLaws.{countable, kept_hold, lt_from_some}
use Rattle.r4_locks.proofs.lock_table.LockTable.hold.Goals as goal

pub held_with-requires : goal.held_with-requires
held_with-requires c =
    let slots = c.self.inside.tasks.slots in
    let v : get_or slots c.args.who.0 None ≡ Some c.in-Some.task.now = sym c.in-Some.ensures.value in
    let stands : IsSome (get_or slots c.args.who.0 None) = rw v refl in
    let m : mode_in (get_or slots c.args.who.0 None) c.args.node.0 ≡ c.mode-mode.result = rw v (sym c.mode-mode.ensures) in
    rw c.held-held.ensures (countable slots c.args.who.0 c.args.node.0 _ c.mode-mode.result (lt_from_some slots c.args.who.0 stands) (c.self.invariant.small c.args.who.0 stands) c.self.invariant.small m (c.self.invariant.told c.args.node.0))

pub invariant_of-self : goal.invariant_of-self
invariant_of-self c =
    let slots = c.self.inside.tasks.slots in
    let v : get_or slots c.args.who.0 None ≡ Some c.in-Some.task.now = sym c.in-Some.ensures.value in
    let stands : IsSome (get_or slots c.args.who.0 None) = rw v refl in
    kept_hold slots c.self.inside.nodes.holders c.put-2.new.self.holders c.args.who (Some c.put.new.self) c.args.node.0 c.args.wanted c.self.invariant stands
    (rw (← c.self.view_is) at c.requires.clear)
    (rw (v, ← c.mode-mode.ensures, ← c.joined.ensures) c.put.ensures.holds)
    (rw (v, ← c.mode-mode.ensures, ← c.held-held.ensures, ← c.held_with.ensures) c.put-2.ensures.held)
