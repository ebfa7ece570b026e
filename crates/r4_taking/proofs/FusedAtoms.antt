-- The table of atoms where two atoms become one.
use Rattle.std.proofs.Common.{◌≡◌, ◌≢◌, ◌⊎◌, inl, inr, ℕ, zero, suc, ◌-◌, ◌<◌, ◌==◌, List, [], ◌∷◌}
use Rattle.std.proofs.Common.{map, get_or, set, length, refl, sym, ◌∙◌, ap, arith}
use Rattle.std.proofs.lemmas.Bool.{cases_eq, cond-false, cond-true, eq-eqb, ne_eqb}
use Rattle.std.proofs.lemmas.List.{get_or-set_other, get_or-set_same, length-set}
use Rattle.r4_atoms.specs.Atoms.{AtomsSeen, IsOpenAtom, TxnSeen, account_of, atom_of, is_sealed, new_atom, no_account}
use Rattle.r4_atoms.specs.Atoms.{no_txn, renamed_txn, sum_of, with_account}
use Rattle.r4_atoms.specs.Names.{renamed}
use Rattle.r4_atoms.specs.declared.things.AtomState.{AtomState}
use Rattle.r4_kept.specs.r4_history.Tables.{Fuses}
use Rattle.r4_kept.proofs.r4_history.AtomSteps.{fused_count, fused_states}

module _ (old new : AtomsSeen) (k g : ℕ) (less : k < g) (f : Fuses old new k g) where
  named : (xs : List TxnSeen) (i : ℕ)
      → (get_or (map (renamed_txn k g) xs) i no_txn).atom ≡ renamed k g (get_or xs i no_txn).atom
  named [] i = sym (cond-false (0 == g) k 0 (ne_eqb 0 g (λ e. omega (arith, e, less))))
  named (x ∷ xs) zero = refl
  named (x ∷ xs) (suc i) = named xs i

  -- the atom of each transaction
  pub atom_after : (t : ℕ) → atom_of new t ≡ renamed k g (atom_of old t)
  atom_after t = ap (λ (xs : List TxnSeen). (get_or xs (t - 1) no_txn).atom) f.txns ∙ named old.txns (t - 1)

  pub sealed_after : (a : ℕ) → is_sealed new a ≡ is_sealed old a
  sealed_after a = fused_states old new k g f (λ (x : AtomState). x.sealed) (λ x y. refl) a

  -- ---- accounts

  abbrev states : List AtomState
  states = old.atoms

  abbrev first : AtomState
  first = with_account (get_or states (g - 1) new_atom) no_account

  abbrev second : AtomState
  second =
      let had = get_or states (k - 1) new_atom in
      with_account had (sum_of had.account (get_or states (g - 1) new_atom).account)

  module _ (some : 0 < k) (within : k - 1 < length states) where
    pub account_both : account_of new k ≡ sum_of (account_of old k) (account_of old g)
    account_both =
        ap (λ (xs : List AtomState). (get_or xs (k - 1) new_atom).account) f.atoms
        ∙ ap (λ (x : AtomState). x.account)
        (let size = length-set states (g - 1) first in
        get_or-set_same (set states (g - 1) first) (k - 1) second new_atom (omega (arith, size, within)))

    pub account_other : (a : ℕ) → 0 < a → a ≢ k → a ≢ g → account_of new a ≡ account_of old a
    account_other a also not_k not_g =
        ap (λ (xs : List AtomState). (get_or xs (a - 1) new_atom).account) f.atoms
        ∙ ap (λ (x : AtomState). x.account)
        (get_or-set_other (set states (g - 1) first) (k - 1) (a - 1) second new_atom
        (λ e. not_k (omega (arith, e, some, also)))
        ∙ get_or-set_other states (g - 1) (a - 1) first new_atom (λ e. not_g (omega (arith, e, some, less, also))))

  -- ---- open atoms

  -- an open atom is that which was kept, or neither of both
  pub record IsOther (a : ℕ) : Type 0 where
    pub not_kept : a ≢ k
    pub not_gone : a ≢ g
    pub was : IsOpenAtom old a

  pub open_cases : (a : ℕ) → IsOpenAtom new a → (a ≡ k) ⊎ IsOther a
  open_cases a is =
      let own : renamed k g (atom_of old a) ≡ a = sym (atom_after a) ∙ is.atom.own in
      elim (cases_eq a k) [
        | inl same ↦ inl same
        | inr not_k ↦ elim (cases_eq (atom_of old a) g) [
          | inl hit ↦
              absurd (not_k (sym own ∙ cond-true (atom_of old a == g) k (atom_of old a) (eq-eqb (atom_of old a) g hit)))
          | inr miss ↦
              let at : atom_of old a ≡ a =
              sym (cond-false (atom_of old a == g) k (atom_of old a) (ne_eqb (atom_of old a) g miss)) ∙ own in
              let count = fused_count old new k g f in
              let le = is.atom.begun.within in
              inr (record {
                not_kept = not_k;
                not_gone = λ e. miss (at ∙ e);
                was = record {
                  atom = record {
                    begun = record { some = is.atom.begun.some; within = omega (arith, le, count) };
                    own = at;
                  };
                  unsealed = sym (sealed_after a) ∙ is.unsealed;
                };
              })
        ]
      ]
