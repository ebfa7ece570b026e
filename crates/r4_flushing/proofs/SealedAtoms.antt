-- An atom is sealed, and the nodes that it owns have their new names: what the table of atoms says.
use Rattle.std.proofs.Common.{◌≡◌, ◌≢◌, ◌⊎◌, inl, inr, ℕ, ◌^◌, ◌<◌, ◌≤◌, ◌==◌, ◌-◌, Bool, true, false, cond, List}
use Rattle.std.proofs.Common.{Option, Some, None, get_or, length, refl, sym, ◌∙◌, ap, subst, true≢false}
use Rattle.std.specs.Prelude.{nat_le}
use Rattle.std.proofs.lemmas.Bool.{cases_Bool, cases_eq, cases_lt, cond-false, cond-true, eq-eqb, le-leb, lt-leb}
use Rattle.std.proofs.lemmas.Bool.{ne_eqb}
use Rattle.r4_atoms.specs.Atoms.{AtomsSeen, IsBegun, IsOpenAtom, TxnSeen, account_of, atom_of, is_committed, is_sealed}
use Rattle.r4_atoms.specs.Atoms.{new_atom, no_txn, state_of, without_owner}
use Rattle.r4_atoms.specs.declared.things.AtomState.{AtomState}
use Rattle.r4_renaming.specs.r4_buffer.Changed.{has_name}
use Rattle.r4_renaming.specs.r4_flush.Prepared.{cells_of}
use Rattle.r4_renaming.specs.r4_flush.declared.cells.RenamedCell.{RenamedCell}
use Rattle.r4_accounting.specs.r4_history.Tables.{with_sealed}
use Rattle.r4_accounting.proofs.r4_kept.States.{state_others, state_same, state_there}
use Rattle.r4_renaming.specs.Renaming.{owner_then}

-- ---- the states of atoms

module _ (old new : AtomsSeen) (a : ℕ) (txns : new.txns ≡ old.txns)
    (states : new.atoms ≡ (with_sealed old a).atoms) (count : length old.atoms ≡ length old.txns)
    (begun : IsBegun old a) where
  abbrev sealed : AtomState
  sealed = record (state_of old a) { sealed = true }

  state_is : (n : ℕ) → state_of new n ≡ state_of (with_sealed old a) n
  state_is n = ap (λ (l : List AtomState). get_or l (n - 1) new_atom) states

  pub begun_before : (n : ℕ) → IsBegun new n → IsBegun old n
  begun_before n is = record {
    some = is.some;
    within = subst (λ (l : List TxnSeen). n ≤ length l) txns is.within;
  }

  pub begun_then : (n : ℕ) → IsBegun old n → IsBegun new n
  begun_then n is = record {
    some = is.some;
    within = subst (λ (l : List TxnSeen). n ≤ length l) (sym txns) is.within;
  }

  pub atom_then : (t : ℕ) → atom_of new t ≡ atom_of old t
  atom_then t = ap (λ (l : List TxnSeen). (get_or l (t - 1) no_txn).atom) txns

  pub account_then : (n : ℕ) → account_of new n ≡ account_of old n
  account_then n =
      ap (λ (x : AtomState). x.account) (state_is n)
      ∙ state_same old a sealed (λ (x : AtomState). x.account) refl n

  pub committed_then : (n : ℕ) → is_committed new n ≡ is_committed old n
  committed_then n =
      ap (λ (x : AtomState). x.committed) (state_is n)
      ∙ state_same old a sealed (λ (x : AtomState). x.committed) refl n

  pub is_sealed_then : is_sealed new a ≡ true
  is_sealed_then =
      ap (λ (x : AtomState). x.sealed) (state_is a)
      ∙ ap (λ (x : AtomState). x.sealed) (state_there old a sealed begun count)

  pub others_sealed : (n : ℕ) → 0 < n → n ≢ a → is_sealed new n ≡ is_sealed old n
  others_sealed n some other =
      ap (λ (x : AtomState). x.sealed) (state_is n)
      ∙ ap (λ (x : AtomState). x.sealed) (state_others old a sealed begun n some other)

  -- an atom that is open then is another one, and was open
  pub another : (n : ℕ) → IsOpenAtom new n → n ≢ a
  another n opened same =
      true≢false (sym (ap (is_sealed new) same ∙ is_sealed_then) ∙ opened.unsealed)

  pub open_before : (n : ℕ) → IsOpenAtom new n → IsOpenAtom old n
  open_before n is = record {
    atom = record {
      begun = begun_before n is.atom.begun;
      own = sym (atom_then n) ∙ is.atom.own;
    };
    unsealed = sym (others_sealed n is.atom.begun.some (another n is)) ∙ is.unsealed;
  }

-- ---- owners

module _ (a : ℕ) (rs : List RenamedCell) where
  module _ (i : ℕ) (was : Option ℕ) where
    abbrev moved : Bool
    moved = has_name (cells_of rs) i

    pub owner_named : moved ≡ true → owner_then a rs i was ≡ Some a
    owner_named hit = cond-true moved (Some a) (cond (nat_le (2 ^ 63) i) (without_owner a was) was) hit

    pub owner_low : moved ≡ false → i < 2 ^ 63 → owner_then a rs i was ≡ was
    owner_low miss low =
        cond-false moved (Some a) (cond (nat_le (2 ^ 63) i) (without_owner a was) was) miss
        ∙ cond-false (nat_le (2 ^ 63) i) (without_owner a was) was (lt-leb (2 ^ 63) i low)

    pub owner_high : moved ≡ false → 2 ^ 63 ≤ i → owner_then a rs i was ≡ without_owner a was
    owner_high miss high =
        cond-false moved (Some a) (cond (nat_le (2 ^ 63) i) (without_owner a was) was) miss
        ∙ cond-true (nat_le (2 ^ 63) i) (without_owner a was) was (le-leb (2 ^ 63) i high)

  without_other : (o : Option ℕ) → (o ≡ Some a → ⊥) → without_owner a o ≡ o
  without_other None not = refl
  without_other (Some n) not =
      cond-false (n == a) None (Some n) (ne_eqb n a (λ same. not (ap (λ (j : ℕ). Some j) same)))

  -- a node of another atom, or of none, stays whose it is
  pub owner_other : (i : ℕ) (was : Option ℕ) → has_name (cells_of rs) i ≡ false → (was ≡ Some a → ⊥)
      → owner_then a rs i was ≡ was
  owner_other i was miss not = elim (cases_Bool (nat_le (2 ^ 63) i)) [
    | inl high ↦
        cond-false (has_name (cells_of rs) i) (Some a) (cond (nat_le (2 ^ 63) i) (without_owner a was) was) miss
        ∙ cond-true (nat_le (2 ^ 63) i) (without_owner a was) was high ∙ without_other was not
    | inr low ↦
        cond-false (has_name (cells_of rs) i) (Some a) (cond (nat_le (2 ^ 63) i) (without_owner a was) was) miss
        ∙ cond-false (nat_le (2 ^ 63) i) (without_owner a was) was low
  ]

  without_mine : (o : Option ℕ) (n : ℕ) → without_owner a o ≡ Some n → (o ≡ Some n) × (n ≢ a)
  without_mine None n is = absurd (cc is)
  without_mine (Some m) n is = elim (cases_eq m a) [
    | inl same ↦ absurd (cc (sym (cond-true (m == a) None (Some m) (eq-eqb m a same)) ∙ is))
    | inr other ↦
        (let at : Some m ≡ Some n = sym (cond-false (m == a) None (Some m) (ne_eqb m a other)) ∙ is in
        (at, λ same. other (cc (at, same))))
  ]

  -- who owns a node then and is another atom owned it
  pub owner_before : (i : ℕ) (was : Option ℕ) (n : ℕ) → n ≢ a → owner_then a rs i was ≡ Some n
      → (was ≡ Some n) × (has_name (cells_of rs) i ≡ false)
  owner_before i was n other is = elim (cases_Bool (has_name (cells_of rs) i)) [
    | inl hit ↦ absurd (other (cc (sym (owner_named i was hit) ∙ is)))
    | inr miss ↦ elim (cases_Bool (nat_le (2 ^ 63) i)) [
      | inl high ↦ (
        (without_mine was n (sym (cond-false (has_name (cells_of rs) i) (Some a)
            (cond (nat_le (2 ^ 63) i) (without_owner a was) was) miss
            ∙ cond-true (nat_le (2 ^ 63) i) (without_owner a was) was high) ∙ is)).0,
        miss,
      )
      | inr low ↦ (
        sym (cond-false (has_name (cells_of rs) i) (Some a) (cond (nat_le (2 ^ 63) i) (without_owner a was) was) miss
            ∙ cond-false (nat_le (2 ^ 63) i) (without_owner a was) was low) ∙ is,
        miss,
      )
    ]
  ]

  -- what the atom owns then is a block: one that a cell of it got, or one that it owned
  pub owner_mine : (i : ℕ) (was : Option ℕ) → owner_then a rs i was ≡ Some a
      → (has_name (cells_of rs) i ≡ true) ⊎ ((i < 2 ^ 63) × (was ≡ Some a))
  owner_mine i was is = elim (cases_Bool (has_name (cells_of rs) i)) [
    | inl hit ↦ inl hit
    | inr miss ↦ elim (cases_lt i (2 ^ 63)) [
      | inl low ↦ inr (low, sym (owner_low i was miss low) ∙ is)
      | inr high ↦ absurd ((without_mine was a (sym (owner_high i was miss high) ∙ is)).1 refl)
    ]
  ]
