-- Members of lists, and sums over them.
use Rattle.std.proofs.Common.{◌≡◌, ◌⊎◌, inl, inr, ℕ, zero, suc, ◌+◌, ◌≤◌, List, [], ◌∷◌, ◌++◌, refl, ap, subst, arith}
use Rattle.std.specs.Prelude.{Contains, sum_by}
use Rattle.std.proofs.lemmas.List.Sums.{sum_by-cons}

pub none_in : {X : Type 0} (x : X) → Contains [] x → ⊥
none_in x (k, lt, e) = omega (arith, lt)

pub here : {X : Type 0} (x : X) (xs : List X) → Contains (x ∷ xs) x
here x xs = (zero, omega arith, refl)

pub later : {X : Type 0} (x : X) (xs : List X) (y : X) → Contains xs y → Contains (x ∷ xs) y
later x xs y (k, lt, e) = (suc k, omega (arith, lt), e)

pub one_of : {X : Type 0} (x : X) (xs : List X) (y : X) → Contains (x ∷ xs) y → (x ≡ y) ⊎ Contains xs y
one_of x xs y (zero, lt, e) = inl e
one_of x xs y (suc j, lt, e) = inr (j, omega (arith, lt), e)

pub in_front : {X : Type 0} (xs ys : List X) (y : X) → Contains xs y → Contains (xs ++ ys) y
in_front [] ys y h = absurd (none_in y h)
in_front (x ∷ xs) ys y h = elim (one_of x xs y h) [
  | inl e ↦ subst (Contains (x ∷ (xs ++ ys))) e (here x (xs ++ ys))
  | inr more ↦ later x (xs ++ ys) y (in_front xs ys y more)
]

pub in_back : {X : Type 0} (xs ys : List X) (y : X) → Contains ys y → Contains (xs ++ ys) y
in_back [] ys y h = h
in_back (x ∷ xs) ys y h = later x (xs ++ ys) y (in_back xs ys y h)

pub either_in : {X : Type 0} (xs ys : List X) (y : X) → Contains (xs ++ ys) y → Contains xs y ⊎ Contains ys y
either_in [] ys y h = inr h
either_in (x ∷ xs) ys y h = elim (one_of x (xs ++ ys) y h) [
  | inl e ↦ inl (subst (Contains (x ∷ xs)) e (here x xs))
  | inr more ↦ elim (either_in xs ys y more) [
    | inl front ↦ inl (later x xs y front)
    | inr back ↦ inr back
  ]
]

-- ---- sums

module _ {X : Type 0} (f g : X → ℕ) where
  pub sums_alike : (xs : List X) → ((x : X) → Contains xs x → f x ≡ g x) → sum_by f xs ≡ sum_by g xs
  sums_alike [] same = refl
  sums_alike (x ∷ xs) same =
      let first = same x (here x xs) in
      let rest = sums_alike xs (λ y at. same y (later x xs y at)) in
      let a = sum_by-cons f x xs in
      let b = sum_by-cons g x xs in
      omega (arith, first, rest, a, b)

  pub sums_below : (xs : List X) → ((x : X) → Contains xs x → f x ≤ g x) → sum_by f xs ≤ sum_by g xs
  sums_below [] low = omega arith
  sums_below (x ∷ xs) low =
      let first = low x (here x xs) in
      let rest = sums_below xs (λ y at. low y (later x xs y at)) in
      let a = sum_by-cons f x xs in
      let b = sum_by-cons g x xs in
      omega (arith, first, rest, a, b)

  pub sums_both : (xs : List X) → sum_by (λ x. f x + g x) xs ≡ sum_by f xs + sum_by g xs
  sums_both [] = refl
  sums_both (x ∷ xs) =
      let rest = sums_both xs in
      let a = sum_by-cons f x xs in
      let b = sum_by-cons g x xs in
      let c = sum_by-cons (λ (y : X). f y + g y) x xs in
      omega (arith, rest, a, b, c)

module _ {X : Type 0} (f : X → ℕ) where
  pub one_adds : (xs : List X) (x : X) → Contains xs x → f x ≤ sum_by f xs
  one_adds [] x at = absurd (none_in x at)
  one_adds (y ∷ ys) x at =
      let a = sum_by-cons f y ys in
      elim (one_of y ys x at) [
        | inl e ↦ let same = ap f e in omega (arith, a, same)
        | inr more ↦ let rest = one_adds ys x more in omega (arith, a, rest)
      ]

  -- a sum that is not 0 has a term that is not
  pub some_term : (xs : List X) → 1 ≤ sum_by f xs → (x : X) × Contains xs x × (1 ≤ f x)
  some_term [] some = absurd (omega (arith, some))
  some_term (x ∷ xs) some = by (f x) refl (some_term xs)
    where
      by : (n : ℕ) → f x ≡ n → (1 ≤ sum_by f xs → (y : X) × Contains xs y × (1 ≤ f y)) → (y : X) × Contains (x ∷ xs) y × (1 ≤ f y)
      by zero e more = let a = sum_by-cons f x xs in let rest = more (omega (arith, a, e, some)) in (rest.0, later x xs rest.0 rest.1, rest.2)
      by (suc n) e more = (x, here x xs, omega (arith, e))

  pub no_terms : (xs : List X) → ((x : X) → Contains xs x → f x ≡ 0) → sum_by f xs ≡ 0
  no_terms [] all = refl
  no_terms (x ∷ xs) all =
      let first = all x (here x xs) in
      let rest = no_terms xs (λ y at. all y (later x xs y at)) in
      let a = sum_by-cons f x xs in
      omega (arith, first, rest, a)
