use Rattle.std.proofs.Common.{◌≡◌, ℕ, ◌+◌, ◌-◌, ◌<◌, ◌∙◌, refl, sym, ap, true, length, arith, get_or}
use Rattle.std.proofs.lemmas.List.{get_or_read}
use Rattle.r4_atoms.specs.declared.things.AtomState.{AtomState}
use Rattle.r4_atoms.specs.Owned.{label_of}
use Rattle.r4_atoms.specs.Atoms.{without_owner, new_atom, no_txn, state_at, txns_of}
use Rattle.r4_atoms.proofs.AtomLaws.{begun_within, owner_raw, raw_cleaned, raw_owner, state_is}
use Rattle.r4_atoms.proofs.KeptLaws.{kept_sealed, none_open}
use Rattle.r4_atoms.proofs.atoms.Atoms.clean.Goals as goal

pub returns-clause-owners : goal.returns-clause-owners
returns-clause-owners c n =
    let i = c.self.inside in
    let k = c.self.invariant.0 in
    let within = begun_within _ _ _ _ _ _ _ c.self.invariant.0 _ c.self.view_is c.args.atom.0 c.requires.atom.begun in
    let some = c.requires.atom.begun.some in
    let old = owner_raw _ _ _ _ _ _ _ c.self.invariant.0 _ c.self.view_is n in
    let inside : c.args.atom.0 - 1 < length i.states.items = omega (arith, k.same_states) in
    let plus : c.args.atom.0 - 1 + 1 ≡ c.args.atom.0 = omega arith in
    let none : (j : ℕ) → j < length i.forest.names → (get_or (txns_of i.rows.items i.forest.names) j no_txn).atom ≡ c.args.atom.0 - 1 + 1 → (get_or (txns_of i.rows.items i.forest.names) j no_txn).is_open ≡ true → ⊥ =
    none_open i.forest.names i.rows.items i.states.items i.owners.entries i.low k (c.args.atom.0 - 1) within (k.closed (c.args.atom.0 - 1) within (ap (λ (x : AtomState). x.sealed) (sym (state_is _ _ _ _ _ _ _ c.self.invariant.0 _ c.self.view_is c.args.atom.0)) ∙ c.requires.sealed)) in
    let read : c.index_mut.result.now ≡ state_at i.states.items (c.args.atom.0 - 1) = get_or_read i.states.items (c.args.atom.0 - 1) c.index_mut.result.now inside c.index_mut.ensures.value new_atom in
    let st : AtomState = record { sealed = c.index_mut.result.now.sealed; committed = c.index_mut.result.now.committed; cleaned = true; account = c.index_mut.result.now.account } in
    let sealed : st.sealed ≡ true = ap (λ (x : AtomState). x.sealed) read ∙ ap (λ (x : AtomState). x.sealed) (sym (state_is _ _ _ _ _ _ _ c.self.invariant.0 _ c.self.view_is c.args.atom.0)) ∙ c.requires.sealed in
    let committed : st.committed ≡ (state_at i.states.items (c.args.atom.0 - 1)).committed = ap (λ (x : AtomState). x.committed) read in
    let cleaned = kept_sealed i.forest.names i.rows.items i.states.items i.owners.entries i.low k (c.args.atom.0 - 1) within none st sealed committed in
    let new = owner_raw _ _ _ _ _ i.owners.spare i.forest.spare cleaned _ refl n in
    new ∙ raw_cleaned i.forest.names i.states.items (c.args.atom.0 - 1) st (label_of n i.owners.entries) inside refl
    ∙ ap (λ (x : ℕ). without_owner x (raw_owner i.forest.names i.states.items (label_of n i.owners.entries))) plus ∙ ap (without_owner c.args.atom.0) (sym old)
