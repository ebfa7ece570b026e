-- Sums over the numbers below a bound: intervals that lie apart and are as long as what they lie in cover it.
use Rattle.std.proofs.Common.{◌≡◌, ◌⊎◌, inl, inr, ℕ, zero, suc, ◌+◌, ◌-◌, ◌<◌, ◌≤◌, min, Bool, true, false, List, [], ◌∷◌, refl, ap, ◌∙◌, arith}
use Rattle.std.specs.Prelude.{sum_by, nat_le, nat_lt, ◌&&◌}
use Rattle.std.proofs.lemmas.Bool.Decides.{nat_tests}
use Rattle.std.proofs.lemmas.List.Sums.{sum_by-cons}
use Rattle.r4_check_objects.specs.Objects.{once}

abbrev pub total : (ℕ → ℕ) → ℕ → ℕ
total f zero = 0
total f (suc n) = total f n + f n

pub totals_alike : (f g : ℕ → ℕ) (n : ℕ) → ((y : ℕ) → y < n → f y ≡ g y) → total f n ≡ total g n
totals_alike f g zero same = refl
totals_alike f g (suc n) same = let rest = totals_alike f g n (λ y lt. same y (omega (arith, lt))) in let last = same n (omega arith) in omega (arith, rest, last)

pub totals_both : (f g : ℕ → ℕ) (n : ℕ) → total (λ y. f y + g y) n ≡ total f n + total g n
totals_both f g zero = refl
totals_both f g (suc n) = let rest = totals_both f g n in omega (arith, rest)

totals_none : (f : ℕ → ℕ) (n : ℕ) → ((y : ℕ) → f y ≡ 0) → total f n ≡ 0
totals_none f zero none = refl
totals_none f (suc n) none = let rest = totals_none f n none in let last = none n in omega (arith, rest, last)

totals_few : (f : ℕ → ℕ) (n : ℕ) → ((y : ℕ) → y < n → f y ≤ 1) → total f n ≤ n
totals_few f zero few = omega arith
totals_few f (suc n) few = let rest = totals_few f n (λ y lt. few y (omega (arith, lt))) in let last = few n (omega arith) in omega (arith, rest, last)

-- where no term is above 1 and all are as many as the numbers, each is 1
pub each_one : (f : ℕ → ℕ) (n : ℕ) → ((y : ℕ) → y < n → f y ≤ 1) → total f n ≡ n → (y : ℕ) → y < n → f y ≡ 1
each_one f zero few all y lt = absurd (omega (arith, lt))
each_one f (suc n) few all y lt =
    let rest = totals_few f n (λ z le. few z (omega (arith, le))) in
    let last = few n (omega arith) in
    let now : f n ≡ 1 = omega (arith, rest, last, all) in
    elim (up_to y n lt) [
      | inl below ↦ each_one f n (λ z le. few z (omega (arith, le))) (omega (arith, now, all)) y below
      | inr is ↦ ap f is ∙ now
    ]
  where
    up_to : (a b : ℕ) → a < suc b → (a < b) ⊎ (a ≡ b)
    up_to a b le = grind (arith, nat_tests)

-- ---- intervals

abbrev pub lies_in : (from long y : ℕ) → Bool
lies_in from long y = nat_le from y && nat_lt y (from + long)

one_more : (from long n m : ℕ) → m ≡ min n (from + long) - from → m + once (lies_in from long n) ≡ min (suc n) (from + long) - from
one_more from long n m e = by (nat_le from n) (nat_lt n (from + long)) refl refl
  where
    by : (a b : Bool) → nat_le from n ≡ a → nat_lt n (from + long) ≡ b → m + once (a && b) ≡ min (suc n) (from + long) - from
    by true true p q = grind (arith, nat_tests)
    by true false p q = grind (arith, nat_tests)
    by false b p q = grind (arith, nat_tests)

pub interval_by : (from long n : ℕ) → total (λ y. once (lies_in from long y)) n ≡ min n (from + long) - from
interval_by from long zero = omega arith
interval_by from long (suc n) = one_more from long n (total (λ y. once (lies_in from long y)) n) (interval_by from long n)

pub interval : (from long n : ℕ) → from + long ≤ n → total (λ y. once (lies_in from long y)) n ≡ long
interval from long n within = let all = interval_by from long n in omega (arith, all, within)

-- ---- sums of lists

module _ {X : Type 0} (f : X → ℕ → ℕ) where
  pub totals_of : (xs : List X) (n : ℕ) → total (λ y. sum_by (λ x. f x y) xs) n ≡ sum_by (λ x. total (f x) n) xs
  totals_of [] n = totals_none (λ y. sum_by (λ x. f x y) []) n (λ y. refl)
  totals_of (x ∷ xs) n =
      let split = totals_alike (λ y. sum_by (λ x. f x y) (x ∷ xs)) (λ y. f x y + sum_by (λ x. f x y) xs) n (λ y lt. sum_by-cons (λ x. f x y) x xs) in
      let both = totals_both (f x) (λ y. sum_by (λ x. f x y) xs) n in
      let rest = totals_of xs n in
      let sum = sum_by-cons (λ x. total (f x) n) x xs in
      omega (arith, split, both, rest, sum)
