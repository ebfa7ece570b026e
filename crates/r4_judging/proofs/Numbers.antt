-- Cells by their numbers, and those with some numbers.
use Rattle.std.proofs.Common.{◌≡◌, ◌⊎◌, inl, inr, ℕ, zero, suc, ◌+◌, ◌-◌, ◌<◌, ◌≤◌, Bool, true, false, List, [], ◌∷◌}
use Rattle.std.proofs.Common.{length, take, drop, get_or, map, refl, sym, ap, subst, ◌∙◌, arith}
use Rattle.std.specs.Prelude.{Contains, nat_lt}
use denote.Param.Members.{Mut}
use denote.Ref.{Bor}
use Rattle.std.specs.Fn.{Called, ComputesKey}
use Rattle.std.specs.List.Sorted.{IsNonDecreasingBy, IsPartitionPoint, IsPartitionedBy}
use Rattle.std.proofs.lemmas.Bool.Decides.{nat_tests}
use Rattle.std.proofs.lemmas.List.Sorted.{IsPartitionPoint-from_clause, IsPartitionedBy-ltb}
use Rattle.std.proofs.lemmas.List.{get_or-map}
use Rattle.r4_cell.specs.Seen.{CellSeen}

abbrev pub number : CellSeen → ℕ
number c = c.id

length_map : {A : Type 0} (h : A → CellSeen) (xs : List A) → length (map h xs) ≡ length xs
length_map h [] = refl
length_map h (x ∷ xs) = let e = length_map h xs in omega (arith, e)

pub order_shown : {A : Type 0} (h : A → CellSeen) (xs : List A) → IsNonDecreasingBy (λ x. (h x).id) xs
    → IsNonDecreasingBy (λ c. c.id) (map h xs)
order_shown h [] up i j d low lt = absurd (omega (arith, lt))
order_shown h (x ∷ xs) up i j d low lt =
    let long = length_map h (x ∷ xs) in
    subst (λ c. c.id ≤ (get_or (map h (x ∷ xs)) j d).id)
    (sym (get_or-map h (x ∷ xs) i x d (omega (arith, low, lt, long))))
    (subst (λ c. (h (get_or (x ∷ xs) i x)).id ≤ c.id) (sym (get_or-map h (x ∷ xs) j x d (omega (arith, lt, long))))
    (up i j x low (omega (arith, lt, long))))

pub order_hidden : {A : Type 0} (h : A → CellSeen) (xs : List A) → IsNonDecreasingBy (λ c. c.id) (map h xs)
    → IsNonDecreasingBy (λ x. (h x).id) xs
order_hidden h xs up i j d low lt =
    let long = length_map h xs in
    subst (λ c. c.id ≤ (h (get_or xs j d)).id) (get_or-map h xs i d (h d) (omega (arith, low, lt)))
    (subst (λ c. (get_or (map h xs) i (h d)).id ≤ c.id) (get_or-map h xs j d (h d) lt)
    (up i j (h d) low (omega (arith, lt, long))))

-- the first of them whose number is not below an end
abbrev pub EndsBefore : {A : Type 0} → (A → CellSeen) → ℕ → List A → ℕ → Type 0
EndsBefore h n = IsPartitionPoint (λ y. nat_lt (h y).id n ≡ true) (λ y. nat_lt (h y).id n ≡ false)

pub ends_before : {A : Type 0} (h : A → CellSeen) (n : ℕ) {F : Type 0} {g : Mut F (Bor A × Unit {0}) Bool} {f : F}
    (xs : List A) (i : ℕ) → IsNonDecreasingBy (λ x. (h x).id) xs
    → ((q : A → Bool) → ComputesKey g q f → IsPartitionedBy q xs
    → IsPartitionPoint (λ y. q y ≡ true) (λ y. q y ≡ false) xs i)
    → ((a : Bor A × Unit {0}) (r : Bool) (f' : F) → Called g f a r f' → (r ≡ nat_lt (h a.0.now).id n) × (f' ≡ f))
    → EndsBefore h n xs i
ends_before h n xs i order clause calls =
    IsPartitionPoint-from_clause (λ y. nat_lt (h y).id n) xs i clause
    (IsPartitionedBy-ltb (λ y. (h y).id) xs n order) calls

-- the order of those from a place on
pub rest_in_order : {A : Type 0} (f : A → ℕ) (k : ℕ) (xs : List A) → IsNonDecreasingBy f xs
    → IsNonDecreasingBy f (drop k xs)
rest_in_order f zero xs up = up
rest_in_order f (suc k) [] up = up
rest_in_order f (suc k) (x ∷ xs) up = rest_in_order f k xs
    (λ i j d le lt. up (suc i) (suc j) d (omega (arith, le)) (omega (arith, lt)))

-- ---- what has the numbers from one on

at_place : {A : Type 0} (h : A → CellSeen) (xs : List A) (c : CellSeen) (d : A) → Contains (map h xs) c
    → (i : ℕ) × (i < length xs) × (h (get_or xs i d) ≡ c)
at_place h [] c d (i, l, e) = absurd (omega (arith, l))
at_place h (x ∷ xs) c d (zero, l, e) = (zero, omega arith, e)
at_place h (x ∷ xs) c d (suc i, l, e) = let (j, lt, is) = at_place h xs c d (i, omega (arith, l), e) in
    (suc j, omega (arith, lt), is)

has_place : {A : Type 0} (h : A → CellSeen) (xs : List A) (i : ℕ) (d : A) → i < length xs
    → Contains (map h xs) (h (get_or xs i d))
has_place h [] i d lt = absurd (omega (arith, lt))
has_place h (x ∷ xs) zero d lt = (zero, omega arith, refl)
has_place h (x ∷ xs) (suc i) d lt = let (j, l, e) = has_place h xs i d (omega (arith, lt)) in
    (suc j, omega (arith, l), e)

drop_at : {A : Type 0} (k : ℕ) (xs : List A) (i : ℕ) (d : A) → get_or (drop k xs) i d ≡ get_or xs (k + i) d
drop_at zero xs i d = let e : i ≡ 0 + i = omega arith in ap (λ (n : ℕ). get_or xs n d) e
drop_at (suc k) [] i d = refl
drop_at (suc k) (x ∷ xs) i d = let e : suc (k + i) ≡ suc k + i = omega arith in drop_at k xs i d
    ∙ ap (λ (n : ℕ). get_or (x ∷ xs) n d) e

drop_long : {A : Type 0} (k : ℕ) (xs : List A) → length (drop k xs) ≡ length xs - k
drop_long zero xs = omega arith
drop_long (suc k) [] = omega arith
drop_long (suc k) (x ∷ xs) = let e = drop_long k xs in omega (arith, e)

take_at : {A : Type 0} (k : ℕ) (xs : List A) (i : ℕ) (d : A) → i < k → get_or (take k xs) i d ≡ get_or xs i d
take_at zero xs i d lt = absurd (omega (arith, lt))
take_at (suc k) [] i d lt = refl
take_at (suc k) (x ∷ xs) zero d lt = refl
take_at (suc k) (x ∷ xs) (suc i) d lt = take_at k xs i d (omega (arith, lt))

take_long : {A : Type 0} (k : ℕ) (xs : List A) → k ≤ length xs → length (take k xs) ≡ k
take_long zero xs le = refl
take_long (suc k) [] le = absurd (omega (arith, le))
take_long (suc k) (x ∷ xs) le = let e = take_long k xs (omega (arith, le)) in omega (arith, e)

module _ {A : Type 0} (h : A → CellSeen) (from count a b : ℕ) (xs : List A) (low : EndsBefore h from xs a)
    (within : a ≤ length xs) (short : b ≤ length (drop a xs)) (high : EndsBefore h (from + count) (drop a xs) b) where
  abbrev pub near : List A
  near = take b (drop a xs)

  compare : (m n : ℕ) → (m < n) ⊎ (n ≤ m)
  compare m n = grind (arith, nat_tests)

  pub near_has : (c : CellSeen) → Contains (map h near) c
      → Contains (map h xs) c × (from ≤ c.id) × (c.id < from + count)
  near_has c at = by xs refl
    where
      by : (ys : List A) → ys ≡ xs → Contains (map h xs) c × (from ≤ c.id) × (c.id < from + count)
      by [] none =
          let z : length xs ≡ 0 = ap length (sym none) in
          let l = drop_long a xs in
          let zero_b : b ≡ 0 = omega (arith, short, l, z) in
          absurd (nothing b zero_b (drop a xs) at)
        where
          nothing : (n : ℕ) → n ≡ 0 → (zs : List A) → Contains (map h (take n zs)) c → ⊥
          nothing zero e zs (i, l, is) = omega (arith, l)
          nothing (suc n) e zs h2 = absurd (omega (arith, e))
      by (d ∷ ys) e =
          let (i, lt, is) = at_place h near c d at in
          let long = take_long b (drop a xs) short in
          let below : i < b = omega (arith, lt, long) in
          let same : get_or near i d ≡ get_or xs (a + i) d = take_at b (drop a xs) i d below ∙ drop_at a xs i d in
          let l = drop_long a xs in
          let inside : a + i < length xs = omega (arith, below, short, l) in
          let x_is : h (get_or xs (a + i) d) ≡ c = ap h (sym same) ∙ is in
          let lo = low.1 (a + i) d (omega arith) inside in
          let hi = high.0 i d (omega arith) below in
          let from_le : from ≤ (h (get_or xs (a + i) d)).id = grind (arith, nat_tests, lo) in
          let below_end : (h (get_or (drop a xs) i d)).id < from + count = grind (arith, nat_tests, hi) in (
            subst (Contains (map h xs)) x_is (has_place h xs (a + i) d inside),
            subst (λ (y : CellSeen). from ≤ y.id) x_is from_le,
            subst (λ (y : CellSeen). y.id < from + count) (ap h (drop_at a xs i d) ∙ x_is) below_end,
          )

  pub has_near : (c : CellSeen) → Contains (map h xs) c → from ≤ c.id → c.id < from + count → Contains (map h near) c
  has_near c at from_c below_c = by xs refl
    where
      by : (ys : List A) → ys ≡ xs → Contains (map h near) c
      by [] none = absurd
          (let (i, l, is) = subst (λ (zs : List A). Contains (map h zs) c) (sym none) at in omega (arith, l))
      by (d ∷ ys) e =
          let (i, lt, is) = at_place h xs c d at in
          let l = drop_long a xs in
          let from_i : from ≤ (h (get_or xs i d)).id = subst (λ (y : CellSeen). from ≤ y.id) (sym is) from_c in
          let below_i : (h (get_or xs i d)).id < from + count = subst (λ (y : CellSeen). y.id < from + count)
          (sym is) below_c in
          let past : a ≤ i = elim (compare i a) [
            | inl less ↦ absurd
                (let t = low.0 i d (omega arith) less in let bad : (h (get_or xs i d)).id < from = grind
                (arith, nat_tests, t) in omega (arith, bad, from_i))
            | inr le ↦ le
          ] in
          let k = i - a in
          let place : a + (i - a) ≡ i = omega (arith, past) in
          let inside : i - a < length (drop a xs) = omega (arith, l, lt, past) in
          let same : get_or (drop a xs) (i - a) d ≡ get_or xs i d = drop_at a xs (i - a) d
          ∙ ap (λ (n : ℕ). get_or xs n d) place in
          let below_b : i - a < b = elim (compare (i - a) b) [
            | inl less ↦ less
            | inr le ↦ absurd
                (let t = high.1 (i - a) d le inside in let bad : from + count ≤
                (h (get_or (drop a xs) (i - a) d)).id = grind (arith, nat_tests, t) in let there : from + count ≤
                (h (get_or xs i d)).id = subst (λ (y : A). from + count ≤ (h y).id) same bad in omega
                (arith, there, below_i))
          ] in
          let long = take_long b (drop a xs) short in
          subst (Contains (map h near)) (ap h (take_at b (drop a xs) (i - a) d below_b ∙ same) ∙ is)
          (has_place h near (i - a) d (omega (arith, below_b, long)))
