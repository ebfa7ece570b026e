-- Pairs that are put among others.
use Rattle.std.proofs.Common.{◌≡◌, ◌≢◌, ◌⊎◌, inl, inr, ℕ, suc, ◌+◌, ◌<◌, ◌≤◌, Bool, true, false, ◌&&◌, cond, List, []}
use Rattle.std.proofs.Common.{◌∷◌, ◌++◌, length, refl, sym, ap, subst, ◌∙◌, arith, append_assoc}
use Rattle.std.specs.Prelude.{Option, Some, None, T, All, ◌==◌}
use Rattle.std.specs.FinMap.{find, is_sorted}
use Rattle.std.specs.FinMap.Entries.{below_all}
use Rattle.std.specs.Ordering.{is_lt, nat_cmp, eq_by_cmp}
use Rattle.std.specs.Cmp.{nat_cmp_is, unsigned_tied}
use Rattle.std.proofs.Common.{Less}
use Rattle.std.proofs.lemmas.Bool.{eq-eqb, ne_eqb}
use Rattle.std.proofs.lemmas.List.Elements.{All-append, All-cons, All-head, All-nil, All-tail, All-weaker}
use Rattle.r4_base.specs.Value.{Value}
use Rattle.r4_content.specs.Edited.{Pairs}
use Rattle.r4_content.specs.Seen.{Rises}
use Rattle.r4_content.proofs.Counting.{below_lt, both_hold, first_holds, second_holds}

-- ---- what is found in lists one behind the other

pub find_first : (k : ℕ) (xs ys : Pairs) (v : Value) → find nat_cmp k xs ≡ Some v → find nat_cmp k (xs ++ ys) ≡ Some v
find_first k [] ys v h = absurd cc
find_first k (e ∷ xs) ys v h = by (find_first k xs ys v) (eq_by_cmp nat_cmp k e.0) h
  where
    by : (find nat_cmp k xs ≡ Some v → find nat_cmp k (xs ++ ys) ≡ Some v) → (b : Bool)
        → cond b (Some e.1) (find nat_cmp k xs) ≡ Some v → cond b (Some e.1) (find nat_cmp k (xs ++ ys)) ≡ Some v
    by more true h = h
    by more false h = more h

pub find_behind : (k : ℕ) (xs ys : Pairs) → find nat_cmp k xs ≡ None → find nat_cmp k (xs ++ ys) ≡ find nat_cmp k ys
find_behind k [] ys h = refl
find_behind k (e ∷ xs) ys h = by (find_behind k xs ys) (eq_by_cmp nat_cmp k e.0) h
  where
    by : (find nat_cmp k xs ≡ None → find nat_cmp k (xs ++ ys) ≡ find nat_cmp k ys) → (b : Bool)
        → cond b (Some e.1) (find nat_cmp k xs) ≡ None → cond b (Some e.1) (find nat_cmp k (xs ++ ys))
        ≡ find nat_cmp k ys
    by more true h = absurd cc
    by more false h = more h

-- nothing stands at a key that no pair has
pub find_none : (k : ℕ) (xs : Pairs) → All (λ (e : ℕ × Value). k ≢ e.0) xs → find nat_cmp k xs ≡ None
find_none k [] h = refl
find_none k (e ∷ xs) h =
    ap (λ (b : Bool). cond b (Some e.1) (find nat_cmp k xs))
    (unsigned_tied k e.0 ∙ ne_eqb k e.0 (All-head (λ (e : ℕ × Value). k ≢ e.0) e xs h))
    ∙ find_none k xs (All-tail (λ (e : ℕ × Value). k ≢ e.0) e xs h)

-- a pair's key is one at which something stands
pub find_there : (xs : Pairs) (e : ℕ × Value) (ys : Pairs) → find nat_cmp e.0 (xs ++ e ∷ ys) ≢ None
find_there [] e ys h = by (eq_by_cmp nat_cmp e.0 e.0) (unsigned_tied e.0 e.0) h
  where
    by : (b : Bool) → b ≡ (e.0 == e.0) → cond b (Some e.1) (find nat_cmp e.0 ys) ≡ None → ⊥
    by true is h = cc
    by false is h = let same = eq-eqb e.0 e.0 refl in cc
find_there (x ∷ xs) e ys h = by (find_there xs e ys) (eq_by_cmp nat_cmp e.0 x.0) h
  where
    by : (find nat_cmp e.0 (xs ++ e ∷ ys) ≢ None) → (b : Bool) → cond b (Some x.1) (find nat_cmp e.0 (xs ++ e ∷ ys))
        ≡ None → ⊥
    by more true h = cc
    by more false h = more h

pub all_there : (xs ys : Pairs) → All (λ (e : ℕ × Value). find nat_cmp e.0 (xs ++ ys) ≢ None) ys
all_there xs [] = All-nil (λ (d : ℕ × Value). find nat_cmp d.0 (xs ++ []) ≢ None)
all_there xs (e ∷ ys) = All-cons (λ (d : ℕ × Value). find nat_cmp d.0 (xs ++ e ∷ ys) ≢ None) e ys (find_there xs e ys)
    (subst (λ (s : Pairs). All (λ (d : ℕ × Value). find nat_cmp d.0 s ≢ None) ys) (append_assoc xs (e ∷ []) ys)
    (all_there (xs ++ e ∷ []) ys))

-- both hold of each
pub all_both : {A : Type 0} (P Q R : A → Type 0) (xs : List A) → ((x : A) → P x → Q x → R x) → All P xs → All Q xs
    → All R xs
all_both P Q R [] f p q = All-nil R
all_both P Q R (x ∷ xs) f p q = All-cons R x xs (f x (All-head P x xs p) (All-head Q x xs q))
    (all_both P Q R xs f (All-tail P x xs p) (All-tail Q x xs q))

-- ---- rising lists one behind the other

lower : (x y : ℕ) → x < y → T (is_lt (nat_cmp x y))
lower x y lt = subst (λ r. T (is_lt r)) (nat_cmp_is x y Less lt) tt

below_append : (x : ℕ) (xs ys : Pairs) → T (below_all nat_cmp x xs) → All (λ (e : ℕ × Value). x < e.0) ys
    → T (below_all nat_cmp x (xs ++ ys))
below_append x [] [] h above = tt
below_append x [] (e ∷ ys) h above =
    both_hold (is_lt (nat_cmp x e.0)) (below_all nat_cmp x ys)
    (lower x e.0 (All-head (λ (e : ℕ × Value). x < e.0) e ys above))
    (below_append x [] ys tt (All-tail (λ (e : ℕ × Value). x < e.0) e ys above))
below_append x (d ∷ xs) ys h above =
    both_hold (is_lt (nat_cmp x d.0)) (below_all nat_cmp x (xs ++ ys))
    (first_holds (is_lt (nat_cmp x d.0)) (below_all nat_cmp x xs) h)
    (below_append x xs ys (second_holds (is_lt (nat_cmp x d.0)) (below_all nat_cmp x xs) h) above)

pub rises_append : (m : ℕ) (xs ys : Pairs) → Rises xs → Rises ys → All (λ (e : ℕ × Value). e.0 < m) xs
    → All (λ (e : ℕ × Value). m ≤ e.0) ys → Rises (xs ++ ys)
rises_append m [] ys r s low high = s
rises_append m (e ∷ xs) ys r s low high =
    let first = All-head (λ (e : ℕ × Value). e.0 < m) e xs low in
    both_hold (below_all nat_cmp e.0 (xs ++ ys)) (is_sorted nat_cmp (xs ++ ys))
    (below_append e.0 xs ys (first_holds (below_all nat_cmp e.0 xs) (is_sorted nat_cmp xs) r)
    (All-weaker (λ (d : ℕ × Value). m ≤ d.0) (λ (d : ℕ × Value). e.0 < d.0)
    (λ d le. omega (arith, le, first)) ys high))
    (rises_append m xs ys (second_holds (below_all nat_cmp e.0 xs) (is_sorted nat_cmp xs) r) s
    (All-tail (λ (e : ℕ × Value). e.0 < m) e xs low) high)

pub rises_first : (xs ys : Pairs) → Rises (xs ++ ys) → Rises xs
rises_first [] ys r = tt
rises_first (e ∷ xs) ys r = both_hold (below_all nat_cmp e.0 xs) (is_sorted nat_cmp xs)
    (below_first e.0 xs ys (first_holds (below_all nat_cmp e.0 (xs ++ ys)) (is_sorted nat_cmp (xs ++ ys)) r))
    (rises_first xs ys (second_holds (below_all nat_cmp e.0 (xs ++ ys)) (is_sorted nat_cmp (xs ++ ys)) r))
  where
    below_first : (x : ℕ) (xs ys : Pairs) → T (below_all nat_cmp x (xs ++ ys)) → T (below_all nat_cmp x xs)
    below_first x [] ys h = tt
    below_first x (d ∷ xs) ys h = both_hold (is_lt (nat_cmp x d.0)) (below_all nat_cmp x xs)
        (first_holds (is_lt (nat_cmp x d.0)) (below_all nat_cmp x (xs ++ ys)) h)
        (below_first x xs ys (second_holds (is_lt (nat_cmp x d.0)) (below_all nat_cmp x (xs ++ ys)) h))

pub rises_rest : (xs ys : Pairs) → Rises (xs ++ ys) → Rises ys
rises_rest [] ys r = r
rises_rest (e ∷ xs) ys r = rises_rest xs ys
    (second_holds (below_all nat_cmp e.0 (xs ++ ys)) (is_sorted nat_cmp (xs ++ ys)) r)

-- ---- put between

module _ (xs zs ys : Pairs) (from to : ℕ) (order : from ≤ to) (r : Rises (xs ++ ys)) (s : Rises zs)
    (low : All (λ (e : ℕ × Value). e.0 < from) xs) (mid : All (λ (e : ℕ × Value). (from ≤ e.0) × (e.0 < to)) zs)
    (high : All (λ (e : ℕ × Value). to ≤ e.0) ys) where
  mid_below : All (λ (e : ℕ × Value). e.0 < to) zs
  mid_below = All-weaker (λ (e : ℕ × Value). (from ≤ e.0) × (e.0 < to)) (λ (e : ℕ × Value). e.0 < to)
      (λ e h. h.1) zs mid

  from_on : All (λ (e : ℕ × Value). from ≤ e.0) (zs ++ ys)
  from_on = All-append (λ (e : ℕ × Value). from ≤ e.0) zs ys
      (All-weaker (λ (e : ℕ × Value). (from ≤ e.0) × (e.0 < to)) (λ (e : ℕ × Value). from ≤ e.0) (λ e h. h.0) zs mid)
      (All-weaker (λ (e : ℕ × Value). to ≤ e.0) (λ (e : ℕ × Value). from ≤ e.0)
      (λ e h. omega (arith, order, h)) ys high)

  pub inserted_rise : Rises (xs ++ (zs ++ ys))
  inserted_rise = rises_append from xs (zs ++ ys) (rises_first xs ys r)
      (rises_append to zs ys s (rises_rest xs ys r) mid_below high) low from_on

  none_low : (k : ℕ) → from ≤ k → find nat_cmp k xs ≡ None
  none_low k le = find_none k xs
      (All-weaker (λ (e : ℕ × Value). e.0 < from) (λ (e : ℕ × Value). k ≢ e.0)
      (λ e lt same. absurd (omega (arith, lt, le, same))) xs low)

  none_high : (k : ℕ) → k < to → find nat_cmp k ys ≡ None
  none_high k lt = find_none k ys
      (All-weaker (λ (e : ℕ × Value). to ≤ e.0) (λ (e : ℕ × Value). k ≢ e.0)
      (λ e le same. absurd (omega (arith, lt, le, same))) ys high)

  none_mid : (k : ℕ) → (k < from) ⊎ (to ≤ k) → find nat_cmp k zs ≡ None
  none_mid k out = find_none k zs
      (All-weaker (λ (e : ℕ × Value). (from ≤ e.0) × (e.0 < to)) (λ (e : ℕ × Value). k ≢ e.0)
      (λ e h same. apart e h same out) zs mid)
    where
      apart : (e : ℕ × Value) → (from ≤ e.0) × (e.0 < to) → k ≡ e.0 → (k < from) ⊎ (to ≤ k) → ⊥
      apart e h same (inl lt) = let low = h.0 in absurd (omega (arith, low, lt, same))
      apart e h same (inr le) = let up = h.1 in absurd (omega (arith, up, le, same))

  none_both : (k : ℕ) → find nat_cmp k zs ≡ None → find nat_cmp k ys ≡ None → find nat_cmp k (zs ++ ys) ≡ None
  none_both k a b = find_behind k zs ys a ∙ b

  -- in the interval just what was put is found
  pub inserted_in : (k : ℕ) → from ≤ k → k < to → find nat_cmp k (xs ++ (zs ++ ys)) ≡ find nat_cmp k zs
  inserted_in k le lt = find_behind k xs (zs ++ ys) (none_low k le) ∙ by (find nat_cmp k zs) refl
    where
      by : (o : Option Value) → find nat_cmp k zs ≡ o → find nat_cmp k (zs ++ ys) ≡ o
      by (Some v) is = find_first k zs ys v is
      by None is = none_both k is (none_high k lt)

  -- and elsewhere what was found before
  pub inserted_out : (k : ℕ) → (k < from) ⊎ (to ≤ k) → find nat_cmp k (xs ++ (zs ++ ys)) ≡ find nat_cmp k (xs ++ ys)
  inserted_out k out = by (find nat_cmp k xs) refl
    where
      by : (o : Option Value) → find nat_cmp k xs ≡ o → find nat_cmp k (xs ++ (zs ++ ys)) ≡ find nat_cmp k (xs ++ ys)
      by (Some v) is = find_first k xs (zs ++ ys) v is ∙ sym (find_first k xs ys v is)
      by None is = find_behind k xs (zs ++ ys) is
          ∙ (find_behind k zs ys (none_mid k out) ∙ sym (find_behind k xs ys is))
