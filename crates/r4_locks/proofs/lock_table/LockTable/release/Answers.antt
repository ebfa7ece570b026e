use Rattle.std.proofs.Common.{◌≡◌, get_or, refl, sym}
use Rattle.std.specs.Prelude.{Some, None, IsSome}
use Rattle.r4_locks.proofs.HoldLaws.{kept_gone}
use Rattle.r4_locks.proofs.lock_table.LockTable.release.Goals as goal

pub invariant_of-self : goal.invariant_of-self
invariant_of-self c =
    let slots = c.self.inside.tasks.slots in
    let v : get_or slots c.args.who.0 None ≡ Some c.in-Some.task = sym c.in-Some.ensures.value in
    let stands : IsSome (get_or slots c.args.who.0 None) = rw v refl in
    rw c.in-Some.ensures.slots (kept_gone slots c.self.inside.nodes.holders c.let_all_go.new.nodes.holders c.args.who.0 c.self.invariant stands (rw v c.let_all_go.ensures.held))
