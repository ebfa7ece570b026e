use Rattle.std.proofs.Common.{◌≡◌, ℕ, ◌+◌, ◌-◌, ◌<◌, ◌∙◌, refl, sym, ap, true, length, arith, get_or}
use Rattle.std.proofs.lemmas.List.{get_or_read, length-set}
use Rattle.r4_atoms.specs.declared.things.AtomState.{AtomState}
use Rattle.r4_atoms.specs.Atoms.{AtomsSeen, IsBegun, new_atom, no_txn, state_at, txn_of, txns_of, TxnSeen}
use Rattle.r4_atoms.proofs.AtomLaws.{begun_within, length-seen}
use Rattle.r4_atoms.proofs.KeptLaws.{kept_sealed}
use Rattle.r4_atoms.proofs.atoms.Atoms.seal.Goals as goal

pub index_mut-requires : goal.index_mut-requires
index_mut-requires c =
    let within = begun_within _ _ _ _ _ _ _ c.self.invariant.0 _ c.self.view_is c.args.atom.0 c.requires.atom.begun in
    omega (arith, c.self.invariant.0.same_states, c.self.inside.states.ok)

pub invariant_of-self : goal.invariant_of-self
invariant_of-self c =
    let i = c.self.inside in
    let k = c.self.invariant.0 in
    let within = begun_within _ _ _ _ _ _ _ c.self.invariant.0 _ c.self.view_is c.args.atom.0 c.requires.atom.begun in
    let some = c.requires.atom.begun.some in
    let long = length-seen _ _ _ _ _ _ _ c.self.invariant.0 _ c.self.view_is in
    let inside : c.args.atom.0 - 1 < length i.states.items = omega (arith, k.same_states) in
    let read : c.index_mut.result.now ≡ state_at i.states.items (c.args.atom.0 - 1) = get_or_read i.states.items (c.args.atom.0 - 1) c.index_mut.result.now inside c.index_mut.ensures.value new_atom in
    let none : (j : ℕ) → j < length i.forest.names → (get_or (txns_of i.rows.items i.forest.names) j no_txn).atom ≡ c.args.atom.0 - 1 + 1 → (get_or (txns_of i.rows.items i.forest.names) j no_txn).is_open ≡ true → ⊥ =
    λ j below mine opened.
    let minus : j + 1 - 1 ≡ j = omega arith in
    let seen : txn_of c.args.self.now (j + 1) ≡ get_or (txns_of i.rows.items i.forest.names) j no_txn = ap (λ (a : AtomsSeen). txn_of a (j + 1)) (sym c.self.view_is) ∙ ap (λ (x : ℕ). get_or (txns_of i.rows.items i.forest.names) x no_txn) minus in
    let begun : IsBegun c.args.self.now (j + 1) = record { some = omega arith; within = omega arith } in
    c.in-None.ensures (j + 1) record { begun = begun; atom = ap (λ (x : TxnSeen). x.atom) seen ∙ mine ∙ (let e : c.args.atom.0 - 1 + 1 ≡ c.args.atom.0 = omega arith in e); opened = ap (λ (x : TxnSeen). x.is_open) seen ∙ opened }
    in
    let st : AtomState = record { sealed = true; committed = c.index_mut.result.now.committed; cleaned = c.index_mut.result.now.cleaned; account = c.index_mut.result.now.account } in (
      kept_sealed i.forest.names i.rows.items i.states.items i.owners.entries i.low k (c.args.atom.0 - 1) within none st refl (ap (λ (x : AtomState). x.committed) read),
      record { rows_fit = c.self.invariant.1.rows_fit; states_fit = rw (length-set i.states.items (c.args.atom.0 - 1) st) c.self.invariant.1.states_fit },
      c.self.invariant.2,
    )
