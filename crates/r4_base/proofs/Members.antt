-- Members of lists of blocks.
use Rattle.std.proofs.Common.{◌≡◌, ◌⊎◌, inl, inr, ⊎_elim, ℕ, zero, suc, List, [], ◌∷◌, sym, arith}
use Rattle.std.specs.Prelude.{Contains}
use Rattle.std.proofs.lemmas.Bool.{cases_eq}

pub member_cases : (x : ℕ) (xs : List ℕ) (b : ℕ) → Contains (x ∷ xs) b → (b ≡ x) ⊎ Contains xs b
member_cases x xs b (zero, lt, is) = inl (sym is)
member_cases x xs b (suc k, lt, is) = inr (k, omega arith, is)

pub member_here : (x : ℕ) (xs : List ℕ) (b : ℕ) → b ≡ x → Contains (x ∷ xs) b
member_here x xs b is = (0, omega arith, sym is)

pub member_later : (x : ℕ) (xs : List ℕ) (b : ℕ) → Contains xs b → Contains (x ∷ xs) b
member_later x xs b (k, lt, is) = (suc k, omega arith, is)

pub no_member : (b : ℕ) → Contains [] b → ⊥
no_member b (k, lt, is) = absurd (omega arith)

pub member_or_not : (xs : List ℕ) (b : ℕ) → Contains xs b ⊎ (Contains xs b → ⊥)
member_or_not [] b = inr (no_member b)
member_or_not (x ∷ xs) b = elim (cases_eq b x) [
  | inl is ↦ inl (member_here x xs b is)
  | inr other ↦ ⊎_elim (λ h. inl (member_later x xs b h)) (λ out. inr (λ h. ⊎_elim other out (member_cases x xs b h))) (member_or_not xs b)
]
