use Rattle.std.proofs.Common.{◌≡◌, ◌<◌, ◌∙◌, sym, ap, length, inl, inr, arith}
use Rattle.std.proofs.lemmas.Bool.{cases_Bool}
use Rattle.std.proofs.lemmas.List.{get_or_read}
use Rattle.r4_atoms.specs.declared.things.AtomState.{AtomState}
use Rattle.r4_atoms.specs.Atoms.{atom_of, is_committed, new_atom, state_at, txn_of}
use Rattle.r4_atoms.proofs.AtomLaws.{name_within, state_by, begun_within}
use Rattle.r4_atoms.proofs.atoms.Atoms.is_uncommitted.Goals as goal

pub name-name-requires : goal.name-name-requires
name-name-requires c = begun_within _ _ _ _ _ _ _ c.self.invariant.0 _ c.self.view_is c.args.txn.0 c.requires

pub returns-then-script : goal.returns-then-script
returns-then-script c =
    let i = c.self.inside in
    let inside : c.name-name.result < length i.states.items = rw c.name-name.ensures (let h = name_within _ _ _ _ _ _ _ c.self.invariant.0 _ c.self.view_is c.args.txn.0 c.requires in omega (arith, c.self.invariant.0.same_states)) in
    let read = get_or_read i.states.items c.name-name.result c.index.result.now inside c.index.ensures new_atom in
    let state = state_by _ _ _ _ _ _ _ c.self.invariant.0 _ c.self.view_is c.args.txn.0 c.requires in
    let done : is_committed c.args.self.now (atom_of c.args.self.now c.args.txn.0) ≡ c.index.result.now.committed = ap (λ (x : AtomState). x.committed) (state ∙ ap (state_at i.states.items) (sym c.name-name.ensures) ∙ sym read) in
    let script : (txn_of c.args.self.now c.args.txn.0).script ≡ c.args.script.0 = sym c.script.ensures ∙ c.if-script.true in
    elim (cases_Bool c.index.result.now.committed) [
      | inl aye ↦ rw aye (λ _. done ∙ aye)
      | inr nay ↦ rw nay (script, done ∙ nay)
    ]
