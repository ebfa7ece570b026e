-- Lists of which no two members have one number.
use Rattle.std.proofs.Common.{◌≡◌, ◌⊎◌, inl, inr, ⊎_elim, ℕ, zero, suc, ◌<◌, ◌==◌, true, false}
use Rattle.std.proofs.Common.{List, [], ◌∷◌, map, take, length, get_or, refl, sym, ap, arith}
use Rattle.std.specs.Prelude.{Contains, nat_eq}
use Rattle.std.specs.List.{AllByRecursion, IsDistinct, list_any}
use Rattle.std.proofs.lemmas.Bool.{cases_Bool, eq-eqb, eqb-true, or_from, or_left, or_right}
use Rattle.std.proofs.lemmas.Map.Keys.{IsDistinct-head, IsDistinct-tail}
use Rattle.r4_base.proofs.Choices.{nothing_in}

pub any_cases : {X : Type 0} (x : X) (xs : List X) (b : X) → Contains (x ∷ xs) b → (b ≡ x) ⊎ Contains xs b
any_cases x xs b (zero, lt, is) = inl (sym is)
any_cases x xs b (suc k, lt, is) = inr (k, omega arith, is)

pub any_here : {X : Type 0} (x : X) (xs : List X) (b : X) → b ≡ x → Contains (x ∷ xs) b
any_here x xs b is = (0, omega arith, sym is)

pub any_later : {X : Type 0} (x : X) (xs : List X) (b : X) → Contains xs b → Contains (x ∷ xs) b
any_later x xs b (k, lt, is) = (suc k, omega arith, is)

module _ {X : Type 0} (g : X → ℕ) where
  apart_at : (x : ℕ) (xs : List X) (k : ℕ) (d : X) → k < length xs
      → AllByRecursion (λ (z : ℕ). nat_eq x z ≡ false) (map g xs) → (x == g (get_or xs k d)) ≡ false
  apart_at x [] k d lt all = absurd (omega arith)
  apart_at x (y ∷ ys) zero d lt all = all.0
  apart_at x (y ∷ ys) (suc k) d lt all = apart_at x ys k d (omega arith) all.1

  -- no member before place k has the number of that at place k
  pub none_before : (xs : List X) (k : ℕ) (d : X) → k < length xs → IsDistinct nat_eq (map g xs)
      → list_any (λ (y : X). g y == g (get_or xs k d)) (take k xs) ≡ false
  none_before [] k d lt once = absurd (omega arith)
  none_before (x ∷ xs) zero d lt once = refl
  none_before (x ∷ xs) (suc k) d lt once =
      or_from (g x == g (get_or xs k d)) (list_any (λ (y : X). g y == g (get_or xs k d)) (take k xs))
      (apart_at (g x) xs k d (omega arith) (IsDistinct-head nat_eq (g x) (map g xs) once))
      (none_before xs k d (omega arith) (IsDistinct-tail nat_eq (g x) (map g xs) once))

  pub any_one : (i : ℕ) (xs : List X) → list_any (λ (y : X). g y == i) xs ≡ true
      → (x : X) × Contains xs x × (g x ≡ i)
  any_one i [] is = absurd (cc is)
  any_one i (x ∷ xs) is = elim (cases_Bool (g x == i)) [
    | inl here ↦ (x, any_here x xs x refl, eqb-true (g x) i here)
    | inr not ↦ (let (y, has, at) = any_one i xs (rw not at is) in (y, any_later x xs y has, at))
  ]

  pub one_any : (xs : List X) (x : X) → Contains xs x → list_any (λ (y : X). g y == g x) xs ≡ true
  one_any [] x has = absurd (nothing_in x has)
  one_any (y ∷ ys) x has = ⊎_elim
      (λ is. or_left (g y == g x) (list_any (λ (z : X). g z == g x) ys) (eq-eqb (g y) (g x) (ap g (sym is))))
      (λ later. or_right (g y == g x) (list_any (λ (z : X). g z == g x) ys) (one_any ys x later))
      (any_cases y ys x has)

pub in_map : {X Y : Type 0} (f : X → Y) (xs : List X) (x : X) → Contains xs x → Contains (map f xs) (f x)
in_map f [] x has = absurd (nothing_in x has)
in_map f (y ∷ ys) x has = ⊎_elim
    (λ is. any_here (f y) (map f ys) (f x) (ap f is))
    (λ later. any_later (f y) (map f ys) (f x) (in_map f ys x later))
    (any_cases y ys x has)

pub from_map : {X Y : Type 0} (f : X → Y) (xs : List X) (y : Y) → Contains (map f xs) y
    → (x : X) × Contains xs x × (y ≡ f x)
from_map f [] y has = absurd (nothing_in y has)
from_map f (x ∷ xs) y has = ⊎_elim
    (λ is. (x, any_here x xs x refl, is))
    (λ later. let (z, there, is) = from_map f xs y later in (z, any_later x xs z there, is))
    (any_cases (f x) (map f xs) y has)
