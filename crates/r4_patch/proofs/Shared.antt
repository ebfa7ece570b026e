-- The least number that two rising lists share.
use Rattle.std.proofs.Common.{◌≡◌, ◌∙◌, ℕ, ◌+◌, ◌<◌, ◌≤◌, List, length, get_or, Contains, IsPermutation, subst, sym, inl, inr, arith}
use Rattle.std.specs.List.Sorted.{IsNonDecreasing}
use Rattle.std.proofs.lemmas.Bool.{cases_lt}
use Rattle.std.proofs.lemmas.Grind.{get_or_default_zero}
use Rattle.std.proofs.lemmas.List.Elements.{Contains-get_or}
use Rattle.std.proofs.lemmas.List.Sorted.{Contains-permutation, IsPermutation-sym}
use Rattle.r4_patch.specs.Joining.{IsFirstShared}

-- no number before the n-th is among the others
abbrev pub NoneBefore : (ids others : List ℕ) → ℕ → Type 0
NoneBefore ids others n = (k : ℕ) → k < n → Contains others (get_or ids k 0) → ⊥

found : (ids : List ℕ) (k j : ℕ) → k < length ids → get_or ids k j ≡ j → get_or ids k 0 ≡ j
found ids k j l e = sym (get_or_default_zero ids k j l) ∙ e

pub shared_here : (ids others : List ℕ) (n : ℕ) → IsNonDecreasing ids → NoneBefore ids others n → n < length ids → Contains others (get_or ids n 0) → IsFirstShared ids others (get_or ids n 0)
shared_here ids others n up before l here = record {
  one = Contains-get_or ids n 0 l;
  other = here;
  least = λ j (k, inside, is) other.
      let at = found ids k j inside is in
      elim (cases_lt k n) [
        | inl less ↦ absurd (before k less (subst (Contains others) (sym at) other))
        | inr more ↦ subst (λ x. get_or ids n 0 ≤ x) at (up n k 0 more inside)
      ];
}

pub none_shared : (ids others : List ℕ) (n : ℕ) → NoneBefore ids others n → length ids ≤ n → (i : ℕ) → Contains ids i → Contains others i → ⊥
none_shared ids others n before all i (k, inside, is) other = before k (omega (arith, inside, all)) (subst (Contains others) (sym (found ids k i inside is)) other)

pub none_before_more : (ids others : List ℕ) (n : ℕ) → NoneBefore ids others n → (Contains others (get_or ids n 0) → ⊥) → NoneBefore ids others (n + 1)
none_before_more ids others n before here k l other = elim (cases_lt k n) [
  | inl less ↦ before k less other
  | inr more ↦ here (subst (λ m. Contains others (get_or ids m 0)) (omega (arith, l, more)) other)
]

-- the same of lists in another order
module _ (ids others rising rising_others : List ℕ) (p : IsPermutation ids rising) (q : IsPermutation others rising_others) where
  pub shared_unsorted : (i : ℕ) → IsFirstShared rising rising_others i → IsFirstShared ids others i
  shared_unsorted i h = record {
    one = Contains-permutation rising ids i (IsPermutation-sym ids rising p) h.one;
    other = Contains-permutation rising_others others i (IsPermutation-sym others rising_others q) h.other;
    least = λ j a b. h.least j (Contains-permutation ids rising j p a) (Contains-permutation others rising_others j q b);
  }

  pub apart_unsorted : ((i : ℕ) → Contains rising i → Contains rising_others i → ⊥) → (i : ℕ) → Contains ids i → Contains others i → ⊥
  apart_unsorted none i a b = none i (Contains-permutation ids rising i p a) (Contains-permutation others rising_others i q b)
