-- What a filter keeps of a list of nodes.
use Rattle.std.proofs.Common.{◌≡◌, ℕ, zero, suc, ◌+◌, ◌<◌, Bool, true, List, [], ◌∷◌, length, get_or, filter, refl, sym, ap, ◌∙◌, inl, inr, arith, Option, Some, None}
use Rattle.std.proofs.lemmas.Bool.{cases_Bool, eqb-true, eq-eqb}
use Rattle.std.proofs.lemmas.Map.Keys.{sorted_from_strictly_increasing, below_from_sorted}
use Rattle.std.proofs.lemmas.List.Kept.{IsStrictlySortedBy-filter}
use Rattle.std.specs.List.{Contains}
use Rattle.std.specs.List.Sorted.{IsStrictlyIncreasing}
use Rattle.std.specs.Ordering.{nat_cmp}
use Rattle.r4_atoms.specs.Atoms.{is_atom}

pub rising_kept : (p : ℕ → Bool) (xs : List ℕ) → IsStrictlyIncreasing xs → IsStrictlyIncreasing (filter p xs)
rising_kept p xs rising k within = below_from_sorted (filter p xs) k (k + 1) 0 (IsStrictlySortedBy-filter nat_cmp p xs (sorted_from_strictly_increasing xs rising)) (omega arith) within

kept_at : (p : ℕ → Bool) (xs : List ℕ) (x k : ℕ) → k < length xs → get_or xs k x ≡ x → p x ≡ true → Contains (filter p xs) x
kept_at p [] x k within e pass = absurd (omega arith)
kept_at p (y ∷ ys) x zero within e pass = let hit : p y ≡ true = ap p e ∙ pass in rw hit (0, omega arith, e)
kept_at p (y ∷ ys) x (suc k) within e pass =
    let later = kept_at p ys x k (omega arith) e pass in
    elim (cases_Bool (p y)) [
      | inl aye ↦ rw aye (suc later.0, omega (arith, later.1), later.2)
      | inr nay ↦ rw nay later
    ]

pub contains_kept : (p : ℕ → Bool) (xs : List ℕ) (x : ℕ) → Contains xs x → p x ≡ true → Contains (filter p xs) x
contains_kept p xs x listed pass = kept_at p xs x listed.0 listed.1 listed.2 pass

passes_at : (p : ℕ → Bool) (xs : List ℕ) (x k : ℕ) → k < length (filter p xs) → get_or (filter p xs) k x ≡ x → p x ≡ true
passes_at p [] x k within e = absurd (omega arith)
passes_at p (y ∷ ys) x k within e = elim (cases_Bool (p y)) [
  | inl aye ↦
      let lt : k < length (y ∷ filter p ys) = rw aye at within in
      let same : get_or (y ∷ filter p ys) k x ≡ x = rw aye at e in
      by_place (λ j below there. passes_at p ys x j below there) k aye lt same
  | inr nay ↦
      let lt : k < length (filter p ys) = rw nay at within in
      let same : get_or (filter p ys) k x ≡ x = rw nay at e in
      passes_at p ys x k lt same
]
  where
    by_place : ((j : ℕ) → j < length (filter p ys) → get_or (filter p ys) j x ≡ x → p x ≡ true) → (k : ℕ) → p y ≡ true → k < length (y ∷ filter p ys) → get_or (y ∷ filter p ys) k x ≡ x → p x ≡ true
    by_place later zero aye lt same = ap p (sym same) ∙ aye
    by_place later (suc k) aye lt same = later k (omega arith) same

pub kept_passes : (p : ℕ → Bool) (xs : List ℕ) (x : ℕ) → Contains (filter p xs) x → p x ≡ true
kept_passes p xs x listed = passes_at p xs x listed.0 listed.1 listed.2

pub is_atom-true : (atom : ℕ) (o : Option ℕ) → is_atom atom o ≡ true → o ≡ Some atom
is_atom-true atom None pass = absurd (cc)
is_atom-true atom (Some by) pass = ap (λ (a : ℕ). Some a) (eqb-true by atom pass)

pub is_atom-some : (atom : ℕ) (o : Option ℕ) → o ≡ Some atom → is_atom atom o ≡ true
is_atom-some atom o is = rw is (eq-eqb atom atom refl)
