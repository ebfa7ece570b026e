use Rattle.std.proofs.Common.{refl}
use Rattle.r4_flushing.proofs.Keeping.{keeps_may_seal}
use Rattle.r4_flushing.proofs.Renames.{can_rename}
use Rattle.r4_ready.proofs.KeepsRoom.{keeps_roomier}
use Rattle.r4_core.proofs.SealedCells.{has_sealed, more_room, on_err}
use Rattle.r4_core.proofs.core_state.Core.seal.Goals as goal

pub rename_atom-named-requires : goal.rename_atom-named-requires
rename_atom-named-requires g c =
    let may = rw (← c.self.view_is) at c.requires.may in
    can_rename _ _ _ c.args.atom may.0 c.args.prepared c.self.invariant may.1 c.lawful.ensures c.lawful-2.ensures

pub invariant_of-self : goal.invariant_of-self
invariant_of-self g c =
    keeps_roomier _ _ _ _ c.self.invariant c.lawful-2.ensures c.lawful-4.ensures c.lawful.ensures
    (more_room _ c.rename_atom-named.new.buffer c.rename_atom-named.new.atoms c.rename_atom-named.new.turns
    c.in_err-nodes.ensures.err)

pub invariant_of-self-2 : goal.invariant_of-self-2
invariant_of-self-2 g c =
    let may = rw (← c.self.view_is) at c.requires.may in
    keeps_may_seal c.on_disk_law.ensures _ _ _ _ c.args.atom may.0 c.args.prepared c.self.invariant may.1
    (has_sealed _ c.args.atom may.0 c.args.prepared may.1 c.rename_atom-named.new.buffer
    c.rename_atom-named.new.atoms c.rename_atom-named.new.turns c.in_ok-nodes.nodes c.in_ok-nodes.ensures.ok
    c.seal.new.self c.in-Ok.ensures.sealed c.seal-2.new.self c.seal-2.ensures _ (rw c.deref.ensures.value at c.new_name-id.ensures) refl
    c.push.new.self c.push.ensures)
    c.lawful.ensures c.lawful-2.ensures c.lawful-4.ensures c.lawful-3.ensures.owners

pub returns-clause-ok : goal.returns-clause-ok
returns-clause-ok g c cells given =
    let may = rw (← c.self.view_is) at given in
    rw (← c.self.view_is)
    (has_sealed _ c.args.atom cells c.args.prepared may c.rename_atom-named.new.buffer
    c.rename_atom-named.new.atoms c.rename_atom-named.new.turns c.in_ok-nodes.nodes c.in_ok-nodes.ensures.ok
    c.seal.new.self c.in-Ok.ensures.sealed c.seal-2.new.self c.seal-2.ensures _ (rw c.deref.ensures.value at c.new_name-id.ensures) refl
    c.push.new.self c.push.ensures)

pub returns-in_err-nodes-clause-err : goal.returns-in_err-nodes-clause-err
returns-in_err-nodes-clause-err g c =
    on_err c.from_residual.result _
    (rw (← c.self.view_is)
    (more_room _ c.rename_atom-named.new.buffer c.rename_atom-named.new.atoms c.rename_atom-named.new.turns
    c.in_err-nodes.ensures.err))
