use Rattle.std.proofs.Common.{◌≡◌, ℕ, ◌+◌, ◌-◌, ◌<◌, ◌∙◌, refl, sym, ap, false, inl, inr, arith, map}
use Rattle.std.proofs.lemmas.Bool.{cases_Bool}
use Rattle.std.specs.Option.{option_map}
use Rattle.r4_atoms.specs.Names.{renamed}
use Rattle.r4_atoms.specs.Owned.{label_of}
use Rattle.r4_atoms.specs.Atoms.{AtomsSeen, joined, renamed_txn, state_at, txns_of}
use Rattle.r4_atoms.proofs.AtomLaws.{begun_within, own_name, owner_raw, raw_joined, raw_owner, unsealed_at}
use Rattle.r4_atoms.proofs.KeptLaws.{scripts_joined, cleaned_joined, kept_joined, length-joined, length-joined_rows, sum_fits, txns_joined}
use Rattle.r4_atoms.proofs.atoms.Atoms.join.Goals as goal

pub join-requires-clause-within : goal.join-requires-clause-within
join-requires-clause-within c =
    let i = c.self.inside in
    let k = c.self.invariant.0 in
    let one = begun_within _ _ _ _ _ _ _ c.self.invariant.0 _ c.self.view_is c.args.kept.0 c.requires.kept.atom.begun in
    let two = begun_within _ _ _ _ _ _ _ c.self.invariant.0 _ c.self.view_is c.args.gone.0 c.requires.gone.atom.begun in
    let some = c.requires.kept.atom.begun.some in
    let less : c.args.kept.0 - 1 < c.args.gone.0 - 1 = omega (arith, c.requires.less) in
    let own_to = own_name _ _ _ _ _ _ _ c.self.invariant.0 _ c.self.view_is c.args.kept.0 c.requires.kept.atom in
    let own_from = own_name _ _ _ _ _ _ _ c.self.invariant.0 _ c.self.view_is c.args.gone.0 c.requires.gone.atom in
    let open_to = unsealed_at _ _ _ _ _ _ _ c.self.invariant.0 _ c.self.view_is c.args.kept.0 c.requires.kept.unsealed in
    let open_from = unsealed_at _ _ _ _ _ _ _ c.self.invariant.0 _ c.self.view_is c.args.gone.0 c.requires.gone.unsealed in
    two

pub join-requires-clause-kept : goal.join-requires-clause-kept
join-requires-clause-kept c =
    let i = c.self.inside in
    let k = c.self.invariant.0 in
    let one = begun_within _ _ _ _ _ _ _ c.self.invariant.0 _ c.self.view_is c.args.kept.0 c.requires.kept.atom.begun in
    let two = begun_within _ _ _ _ _ _ _ c.self.invariant.0 _ c.self.view_is c.args.gone.0 c.requires.gone.atom.begun in
    let some = c.requires.kept.atom.begun.some in
    let less : c.args.kept.0 - 1 < c.args.gone.0 - 1 = omega (arith, c.requires.less) in
    let own_to = own_name _ _ _ _ _ _ _ c.self.invariant.0 _ c.self.view_is c.args.kept.0 c.requires.kept.atom in
    let own_from = own_name _ _ _ _ _ _ _ c.self.invariant.0 _ c.self.view_is c.args.gone.0 c.requires.gone.atom in
    let open_to = unsealed_at _ _ _ _ _ _ _ c.self.invariant.0 _ c.self.view_is c.args.kept.0 c.requires.kept.unsealed in
    let open_from = unsealed_at _ _ _ _ _ _ _ c.self.invariant.0 _ c.self.view_is c.args.gone.0 c.requires.gone.unsealed in
    own_to

pub join-requires-clause-gone : goal.join-requires-clause-gone
join-requires-clause-gone c =
    let i = c.self.inside in
    let k = c.self.invariant.0 in
    let one = begun_within _ _ _ _ _ _ _ c.self.invariant.0 _ c.self.view_is c.args.kept.0 c.requires.kept.atom.begun in
    let two = begun_within _ _ _ _ _ _ _ c.self.invariant.0 _ c.self.view_is c.args.gone.0 c.requires.gone.atom.begun in
    let some = c.requires.kept.atom.begun.some in
    let less : c.args.kept.0 - 1 < c.args.gone.0 - 1 = omega (arith, c.requires.less) in
    let own_to = own_name _ _ _ _ _ _ _ c.self.invariant.0 _ c.self.view_is c.args.kept.0 c.requires.kept.atom in
    let own_from = own_name _ _ _ _ _ _ _ c.self.invariant.0 _ c.self.view_is c.args.gone.0 c.requires.gone.atom in
    let open_to = unsealed_at _ _ _ _ _ _ _ c.self.invariant.0 _ c.self.view_is c.args.kept.0 c.requires.kept.unsealed in
    let open_from = unsealed_at _ _ _ _ _ _ _ c.self.invariant.0 _ c.self.view_is c.args.gone.0 c.requires.gone.unsealed in
    own_from

pub join_rows-requires-clause-to : goal.join_rows-requires-clause-to
join_rows-requires-clause-to c =
    let i = c.self.inside in
    let k = c.self.invariant.0 in
    let one = begun_within _ _ _ _ _ _ _ c.self.invariant.0 _ c.self.view_is c.args.kept.0 c.requires.kept.atom.begun in
    let two = begun_within _ _ _ _ _ _ _ c.self.invariant.0 _ c.self.view_is c.args.gone.0 c.requires.gone.atom.begun in
    let some = c.requires.kept.atom.begun.some in
    let less : c.args.kept.0 - 1 < c.args.gone.0 - 1 = omega (arith, c.requires.less) in
    let own_to = own_name _ _ _ _ _ _ _ c.self.invariant.0 _ c.self.view_is c.args.kept.0 c.requires.kept.atom in
    let own_from = own_name _ _ _ _ _ _ _ c.self.invariant.0 _ c.self.view_is c.args.gone.0 c.requires.gone.atom in
    let open_to = unsealed_at _ _ _ _ _ _ _ c.self.invariant.0 _ c.self.view_is c.args.kept.0 c.requires.kept.unsealed in
    let open_from = unsealed_at _ _ _ _ _ _ _ c.self.invariant.0 _ c.self.view_is c.args.gone.0 c.requires.gone.unsealed in
    omega (arith, k.same_rows)

pub join_rows-requires-clause-from : goal.join_rows-requires-clause-from
join_rows-requires-clause-from c =
    let i = c.self.inside in
    let k = c.self.invariant.0 in
    let one = begun_within _ _ _ _ _ _ _ c.self.invariant.0 _ c.self.view_is c.args.kept.0 c.requires.kept.atom.begun in
    let two = begun_within _ _ _ _ _ _ _ c.self.invariant.0 _ c.self.view_is c.args.gone.0 c.requires.gone.atom.begun in
    let some = c.requires.kept.atom.begun.some in
    let less : c.args.kept.0 - 1 < c.args.gone.0 - 1 = omega (arith, c.requires.less) in
    let own_to = own_name _ _ _ _ _ _ _ c.self.invariant.0 _ c.self.view_is c.args.kept.0 c.requires.kept.atom in
    let own_from = own_name _ _ _ _ _ _ _ c.self.invariant.0 _ c.self.view_is c.args.gone.0 c.requires.gone.atom in
    let open_to = unsealed_at _ _ _ _ _ _ _ c.self.invariant.0 _ c.self.view_is c.args.kept.0 c.requires.kept.unsealed in
    let open_from = unsealed_at _ _ _ _ _ _ _ c.self.invariant.0 _ c.self.view_is c.args.gone.0 c.requires.gone.unsealed in
    omega (arith, k.same_rows)

pub join_rows-requires-clause-sum : goal.join_rows-requires-clause-sum
join_rows-requires-clause-sum c =
    let i = c.self.inside in
    let k = c.self.invariant.0 in
    let one = begun_within _ _ _ _ _ _ _ c.self.invariant.0 _ c.self.view_is c.args.kept.0 c.requires.kept.atom.begun in
    let two = begun_within _ _ _ _ _ _ _ c.self.invariant.0 _ c.self.view_is c.args.gone.0 c.requires.gone.atom.begun in
    let some = c.requires.kept.atom.begun.some in
    let less : c.args.kept.0 - 1 < c.args.gone.0 - 1 = omega (arith, c.requires.less) in
    let own_to = own_name _ _ _ _ _ _ _ c.self.invariant.0 _ c.self.view_is c.args.kept.0 c.requires.kept.atom in
    let own_from = own_name _ _ _ _ _ _ _ c.self.invariant.0 _ c.self.view_is c.args.gone.0 c.requires.gone.atom in
    let open_to = unsealed_at _ _ _ _ _ _ _ c.self.invariant.0 _ c.self.view_is c.args.kept.0 c.requires.kept.unsealed in
    let open_from = unsealed_at _ _ _ _ _ _ _ c.self.invariant.0 _ c.self.view_is c.args.gone.0 c.requires.gone.unsealed in
    sum_fits i.forest.names i.rows.items i.states.items i.owners.entries i.low k (c.args.kept.0 - 1) (c.args.gone.0 - 1) less two own_to own_from open_to open_from

pub join_states-requires-clause-to : goal.join_states-requires-clause-to
join_states-requires-clause-to c =
    let i = c.self.inside in
    let k = c.self.invariant.0 in
    let one = begun_within _ _ _ _ _ _ _ c.self.invariant.0 _ c.self.view_is c.args.kept.0 c.requires.kept.atom.begun in
    let two = begun_within _ _ _ _ _ _ _ c.self.invariant.0 _ c.self.view_is c.args.gone.0 c.requires.gone.atom.begun in
    let some = c.requires.kept.atom.begun.some in
    let less : c.args.kept.0 - 1 < c.args.gone.0 - 1 = omega (arith, c.requires.less) in
    let own_to = own_name _ _ _ _ _ _ _ c.self.invariant.0 _ c.self.view_is c.args.kept.0 c.requires.kept.atom in
    let own_from = own_name _ _ _ _ _ _ _ c.self.invariant.0 _ c.self.view_is c.args.gone.0 c.requires.gone.atom in
    let open_to = unsealed_at _ _ _ _ _ _ _ c.self.invariant.0 _ c.self.view_is c.args.kept.0 c.requires.kept.unsealed in
    let open_from = unsealed_at _ _ _ _ _ _ _ c.self.invariant.0 _ c.self.view_is c.args.gone.0 c.requires.gone.unsealed in
    omega (arith, k.same_states)

pub join_states-requires-clause-from : goal.join_states-requires-clause-from
join_states-requires-clause-from c =
    let i = c.self.inside in
    let k = c.self.invariant.0 in
    let one = begun_within _ _ _ _ _ _ _ c.self.invariant.0 _ c.self.view_is c.args.kept.0 c.requires.kept.atom.begun in
    let two = begun_within _ _ _ _ _ _ _ c.self.invariant.0 _ c.self.view_is c.args.gone.0 c.requires.gone.atom.begun in
    let some = c.requires.kept.atom.begun.some in
    let less : c.args.kept.0 - 1 < c.args.gone.0 - 1 = omega (arith, c.requires.less) in
    let own_to = own_name _ _ _ _ _ _ _ c.self.invariant.0 _ c.self.view_is c.args.kept.0 c.requires.kept.atom in
    let own_from = own_name _ _ _ _ _ _ _ c.self.invariant.0 _ c.self.view_is c.args.gone.0 c.requires.gone.atom in
    let open_to = unsealed_at _ _ _ _ _ _ _ c.self.invariant.0 _ c.self.view_is c.args.kept.0 c.requires.kept.unsealed in
    let open_from = unsealed_at _ _ _ _ _ _ _ c.self.invariant.0 _ c.self.view_is c.args.gone.0 c.requires.gone.unsealed in
    omega (arith, k.same_states)

pub invariant_of-self : goal.invariant_of-self
invariant_of-self c =
    let i = c.self.inside in
    let k = c.self.invariant.0 in
    let one = begun_within _ _ _ _ _ _ _ c.self.invariant.0 _ c.self.view_is c.args.kept.0 c.requires.kept.atom.begun in
    let two = begun_within _ _ _ _ _ _ _ c.self.invariant.0 _ c.self.view_is c.args.gone.0 c.requires.gone.atom.begun in
    let some = c.requires.kept.atom.begun.some in
    let less : c.args.kept.0 - 1 < c.args.gone.0 - 1 = omega (arith, c.requires.less) in
    let own_to = own_name _ _ _ _ _ _ _ c.self.invariant.0 _ c.self.view_is c.args.kept.0 c.requires.kept.atom in
    let own_from = own_name _ _ _ _ _ _ _ c.self.invariant.0 _ c.self.view_is c.args.gone.0 c.requires.gone.atom in
    let open_to = unsealed_at _ _ _ _ _ _ _ c.self.invariant.0 _ c.self.view_is c.args.kept.0 c.requires.kept.unsealed in
    let open_from = unsealed_at _ _ _ _ _ _ _ c.self.invariant.0 _ c.self.view_is c.args.gone.0 c.requires.gone.unsealed in
    let long_rows = length-joined_rows i.forest.names i.rows.items i.states.items i.owners.entries i.low k (c.args.kept.0 - 1) (c.args.gone.0 - 1) less two own_to own_from open_to open_from in
    let long_states = length-joined i.forest.names i.rows.items i.states.items i.owners.entries i.low k (c.args.kept.0 - 1) (c.args.gone.0 - 1) less two own_to own_from open_to open_from in
    rw (c.join_rows.ensures.items, c.join_rows.ensures.capacity, c.join_states.ensures.items, c.join_states.ensures.capacity, c.join.ensures.names, c.join.ensures.spare) (
      kept_joined i.forest.names i.rows.items i.states.items i.owners.entries i.low k (c.args.kept.0 - 1) (c.args.gone.0 - 1) less two own_to own_from open_to open_from,
      record { rows_fit = rw long_rows c.self.invariant.1.rows_fit; states_fit = rw long_states c.self.invariant.1.states_fit },
      record { same = c.self.invariant.2.same ∙ sym (scripts_joined i.rows.items (c.args.kept.0 - 1) (c.args.gone.0 - 1) (λ e. absurd (omega arith))); room = c.self.invariant.2.room },
    )

pub returns-clause-txns : goal.returns-clause-txns
returns-clause-txns c =
    let i = c.self.inside in
    let k = c.self.invariant.0 in
    let one = begun_within _ _ _ _ _ _ _ c.self.invariant.0 _ c.self.view_is c.args.kept.0 c.requires.kept.atom.begun in
    let two = begun_within _ _ _ _ _ _ _ c.self.invariant.0 _ c.self.view_is c.args.gone.0 c.requires.gone.atom.begun in
    let some = c.requires.kept.atom.begun.some in
    let less : c.args.kept.0 - 1 < c.args.gone.0 - 1 = omega (arith, c.requires.less) in
    let own_to = own_name _ _ _ _ _ _ _ c.self.invariant.0 _ c.self.view_is c.args.kept.0 c.requires.kept.atom in
    let own_from = own_name _ _ _ _ _ _ _ c.self.invariant.0 _ c.self.view_is c.args.gone.0 c.requires.gone.atom in
    let open_to = unsealed_at _ _ _ _ _ _ _ c.self.invariant.0 _ c.self.view_is c.args.kept.0 c.requires.kept.unsealed in
    let open_from = unsealed_at _ _ _ _ _ _ _ c.self.invariant.0 _ c.self.view_is c.args.gone.0 c.requires.gone.unsealed in
    let to : c.args.kept.0 - 1 + 1 ≡ c.args.kept.0 = omega arith in
    let from : c.args.gone.0 - 1 + 1 ≡ c.args.gone.0 = omega arith in
    rw (c.join_rows.ensures.items, c.join.ensures.names) (txns_joined i.forest.names i.rows.items i.states.items i.owners.entries i.low k (c.args.kept.0 - 1) (c.args.gone.0 - 1) less two own_to own_from open_to open_from ∙ ap (λ (x : ℕ). map (renamed_txn x (c.args.gone.0 - 1 + 1)) (txns_of i.rows.items i.forest.names)) to
    ∙ ap (λ (x : ℕ). map (renamed_txn c.args.kept.0 x) (txns_of i.rows.items i.forest.names)) from ∙ ap (λ (a : AtomsSeen). map (renamed_txn c.args.kept.0 c.args.gone.0) a.txns) c.self.view_is)

pub returns-clause-owners : goal.returns-clause-owners
returns-clause-owners c n =
    let i = c.self.inside in
    let k = c.self.invariant.0 in
    let one = begun_within _ _ _ _ _ _ _ c.self.invariant.0 _ c.self.view_is c.args.kept.0 c.requires.kept.atom.begun in
    let two = begun_within _ _ _ _ _ _ _ c.self.invariant.0 _ c.self.view_is c.args.gone.0 c.requires.gone.atom.begun in
    let some = c.requires.kept.atom.begun.some in
    let less : c.args.kept.0 - 1 < c.args.gone.0 - 1 = omega (arith, c.requires.less) in
    let own_to = own_name _ _ _ _ _ _ _ c.self.invariant.0 _ c.self.view_is c.args.kept.0 c.requires.kept.atom in
    let own_from = own_name _ _ _ _ _ _ _ c.self.invariant.0 _ c.self.view_is c.args.gone.0 c.requires.gone.atom in
    let open_to = unsealed_at _ _ _ _ _ _ _ c.self.invariant.0 _ c.self.view_is c.args.kept.0 c.requires.kept.unsealed in
    let open_from = unsealed_at _ _ _ _ _ _ _ c.self.invariant.0 _ c.self.view_is c.args.gone.0 c.requires.gone.unsealed in
    let to : c.args.kept.0 - 1 + 1 ≡ c.args.kept.0 = omega arith in
    let from : c.args.gone.0 - 1 + 1 ≡ c.args.gone.0 = omega arith in
    let clean_to : (state_at i.states.items (c.args.kept.0 - 1)).cleaned ≡ false = elim (cases_Bool (state_at i.states.items (c.args.kept.0 - 1)).cleaned) [
      | inl was ↦ let h = k.sound_clean (c.args.kept.0 - 1) one was in absurd (cc)
      | inr not_yet ↦ not_yet
    ] in
    let clean_from : (state_at i.states.items (c.args.gone.0 - 1)).cleaned ≡ false = elim (cases_Bool (state_at i.states.items (c.args.gone.0 - 1)).cleaned) [
      | inl was ↦ let h = k.sound_clean (c.args.gone.0 - 1) two was in absurd (cc)
      | inr not_yet ↦ not_yet
    ] in
    let old = owner_raw _ _ _ _ _ _ _ c.self.invariant.0 _ c.self.view_is n in
    let new = owner_raw _ _ _ _ _ i.owners.spare i.forest.spare (kept_joined i.forest.names i.rows.items i.states.items i.owners.entries i.low k (c.args.kept.0 - 1) (c.args.gone.0 - 1) less two own_to own_from open_to open_from) _ refl n in
    rw (c.join_rows.ensures.items, c.join_states.ensures.items, c.join.ensures.names, c.join.ensures.spare) (new
    ∙ raw_joined i.forest.names i.states.items (joined i.states.items (c.args.kept.0 - 1) (c.args.gone.0 - 1)) (c.args.kept.0 - 1) (c.args.gone.0 - 1) (label_of n i.owners.entries) (cleaned_joined i.forest.names i.rows.items i.states.items i.owners.entries i.low k (c.args.kept.0 - 1) (c.args.gone.0 - 1) less two own_to own_from open_to open_from) clean_to clean_from (λ t found. k.begun n t found)
    ∙ ap (λ (x : ℕ). option_map (renamed x (c.args.gone.0 - 1 + 1)) (raw_owner i.forest.names i.states.items (label_of n i.owners.entries))) to
    ∙ ap (λ (x : ℕ). option_map (renamed c.args.kept.0 x) (raw_owner i.forest.names i.states.items (label_of n i.owners.entries))) from
    ∙ ap (option_map (renamed c.args.kept.0 c.args.gone.0)) (sym old))
