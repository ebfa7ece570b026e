-- What pairs have at the keys of an interval.
use Rattle.std.proofs.Common.{◌≡◌, ◌⊎◌, inl, inr, ℕ, zero, suc, ◌+◌, ◌-◌, ◌<◌, ◌≤◌, Bool, true, false, cond, List, [], ◌∷◌, ◌++◌, length, take, drop, refl, sym, ap, ◌∙◌, arith}
use Rattle.std.specs.Prelude.{min, Contains, T}
use Rattle.std.specs.FinMap.{is_sorted}
use Rattle.std.specs.FinMap.Entries.{below_all}
use Rattle.std.specs.Ordering.{is_lt, nat_cmp}
use Rattle.std.specs.Cmp.{nat_cmp_is}
use Rattle.std.proofs.Common.{Less, subst}
use Rattle.std.proofs.lemmas.Bool.Decides.{nat_tests}
use Rattle.std.proofs.lemmas.List.Elements.{Contains-append_right, filter-append}
use Rattle.r4_base.specs.Cell.{bytes_from}
use Rattle.r4_base.specs.Value.{Value, Byte}
use Rattle.r4_content.specs.Edited.{Pairs, is_between}
use Rattle.r4_content.specs.Objects.{byte_pairs}
use Rattle.r4_content.specs.Seen.{Rises, pairs_in}
use Rattle.r4_content.proofs.Counting.{both_hold}
use Rattle.r4_leaf.proofs.Rising.{Rise, bytes_rise}

pub both_in : (a b : ℕ) (xs ys : Pairs) → pairs_in (xs ++ ys) a b ≡ pairs_in xs a b ++ pairs_in ys a b
both_in a b xs ys = filter-append (λ (e : ℕ × Value). is_between a b e.0) xs ys

pub one_in : (a b : ℕ) (e : ℕ × Value) → is_between a b e.0 ≡ true → pairs_in (e ∷ []) a b ≡ e ∷ []
one_in a b e is = ap (λ (t : Bool). cond t (e ∷ []) []) is

pub one_out : (a b : ℕ) (e : ℕ × Value) → is_between a b e.0 ≡ false → pairs_in (e ∷ []) a b ≡ []
one_out a b e is = ap (λ (t : Bool). cond t (e ∷ []) []) is

first_in : (a b : ℕ) (e : ℕ × Value) (es : Pairs) → is_between a b e.0 ≡ true → pairs_in (e ∷ es) a b ≡ e ∷ pairs_in es a b
first_in a b e es is = ap (λ (t : Bool). cond t (e ∷ pairs_in es a b) (pairs_in es a b)) is

first_out : (a b : ℕ) (e : ℕ × Value) (es : Pairs) → is_between a b e.0 ≡ false → pairs_in (e ∷ es) a b ≡ pairs_in es a b
first_out a b e es is = ap (λ (t : Bool). cond t (e ∷ pairs_in es a b) (pairs_in es a b)) is

is_in : (a b k : ℕ) → a ≤ k → k < b → is_between a b k ≡ true
is_in a b k le lt = grind (arith, nat_tests, le, lt)

is_low : (a b k : ℕ) → k < a → is_between a b k ≡ false
is_low a b k lt = grind (arith, nat_tests, lt)

is_high : (a b k : ℕ) → b ≤ k → is_between a b k ≡ false
is_high a b k le = grind (arith, nat_tests, le)

-- bytes one after another, as pairs and as units
pub same_bytes : (k : ℕ) (xs : List ℕ) → byte_pairs k xs ≡ bytes_from k xs
same_bytes k [] = refl
same_bytes k (x ∷ xs) = ap (λ (es : Pairs). (k, Byte x) ∷ es) (same_bytes (k + 1) xs)

none_high : (a b k : ℕ) (xs : List ℕ) → b ≤ k → pairs_in (bytes_from k xs) a b ≡ []
none_high a b k [] le = refl
none_high a b k (x ∷ xs) le = first_out a b (k, Byte x) (bytes_from (k + 1) xs) (is_high a b k le) ∙ none_high a b (k + 1) xs (omega (arith, le))

-- the bytes from place f up to place t
abbrev part : (f t : ℕ) → List ℕ → List ℕ
part f t xs = take (t - f) (drop f xs)

abbrev none : List ℕ
none = []

drop_none : (f : ℕ) → drop f none ≡ none
drop_none zero = refl
drop_none (suc f) = refl

take_none : (n : ℕ) → take n none ≡ none
take_none zero = refl
take_none (suc n) = refl

no_part : (f t : ℕ) → part f t none ≡ none
no_part f t = ap (λ (xs : List ℕ). take (t - f) xs) (drop_none f) ∙ take_none (t - f)

compare : (m n : ℕ) → (m < n) ⊎ (n ≤ m)
compare m n = grind (arith, nat_tests)

-- what is said of bytes from a key on
abbrev StandIn : (a b k : ℕ) → List ℕ → Type 0
StandIn a b k xs = pairs_in (bytes_from k xs) a b ≡ bytes_from (k + min (length xs) (a - k)) (part (min (length xs) (a - k)) (min (length xs) (b - k)) xs)

-- of bytes from a key on, those in an interval stand from one place up to another
pub bytes_in : (a b k : ℕ) (xs : List ℕ) → pairs_in (bytes_from k xs) a b ≡ bytes_from (k + min (length xs) (a - k)) (part (min (length xs) (a - k)) (min (length xs) (b - k)) xs)
bytes_in a b k [] = sym (ap (λ (xs : List ℕ). bytes_from (k + min 0 (a - k)) xs) (no_part (min 0 (a - k)) (min 0 (b - k))))
bytes_in a b k (x ∷ xs) = elim (compare k b) [
  | inr high ↦ none_high a b k (x ∷ xs) high ∙ sym (ends high)
  | inl below ↦ elim (compare k a) [ inl low ↦ before below low (bytes_in a b (k + 1) xs) | inr from ↦ inside below from (bytes_in a b (k + 1) xs) ]
]
  where
    ends : b ≤ k → bytes_from (k + min (length (x ∷ xs)) (a - k)) (part (min (length (x ∷ xs)) (a - k)) (min (length (x ∷ xs)) (b - k)) (x ∷ xs)) ≡ []
    ends high =
        let t : min (length (x ∷ xs)) (b - k) ≡ 0 = omega (arith, high) in
        let none : min (length (x ∷ xs)) (b - k) - min (length (x ∷ xs)) (a - k) ≡ 0 = omega (arith, t) in
        ap (λ (n : ℕ). bytes_from (k + min (length (x ∷ xs)) (a - k)) (take n (drop (min (length (x ∷ xs)) (a - k)) (x ∷ xs)))) none

    before : k < b → k < a → StandIn a b (k + 1) xs → StandIn a b k (x ∷ xs)
    before below low rest =
        let g = min (length xs) (a - (k + 1)) in
        let u = min (length xs) (b - (k + 1)) in
        let f : min (length (x ∷ xs)) (a - k) ≡ suc g = omega (arith, low) in
        let t : min (length (x ∷ xs)) (b - k) ≡ suc u = omega (arith, below) in
        let at : k + 1 + g ≡ k + suc g = omega arith in
        let less : u - g ≡ suc u - suc g = omega arith in
        first_out a b (k, Byte x) (bytes_from (k + 1) xs) (is_low a b k low)
        ∙ (rest
        ∙ (ap (λ (j : ℕ). bytes_from j (take (u - g) (drop g xs))) at
        ∙ (ap (λ (n : ℕ). bytes_from (k + suc g) (take n (drop (suc g) (x ∷ xs)))) less
        ∙ (ap (λ (n : ℕ). bytes_from (k + n) (take (suc u - n) (drop n (x ∷ xs)))) (sym f)
        ∙ ap (λ (n : ℕ). bytes_from (k + min (length (x ∷ xs)) (a - k)) (take (n - min (length (x ∷ xs)) (a - k)) (drop (min (length (x ∷ xs)) (a - k)) (x ∷ xs)))) (sym t)))))

    inside : k < b → a ≤ k → StandIn a b (k + 1) xs → StandIn a b k (x ∷ xs)
    inside below from behind =
        let u = min (length xs) (b - (k + 1)) in
        let f : min (length (x ∷ xs)) (a - k) ≡ 0 = omega (arith, from) in
        let g : min (length xs) (a - (k + 1)) ≡ 0 = omega (arith, from) in
        let t : min (length (x ∷ xs)) (b - k) ≡ suc u = omega (arith, below) in
        let zero_on : k + 1 + 0 ≡ k + 1 = omega arith in
        let zero_at : k + 0 ≡ k = omega arith in
        let all : u - 0 ≡ u = omega arith in
        let all_more : suc u - 0 ≡ suc u = omega arith in
        let rest : pairs_in (bytes_from (k + 1) xs) a b ≡ bytes_from (k + 1) (take u xs) =
        behind
        ∙ (ap (λ (n : ℕ). bytes_from (k + 1 + n) (take (u - n) (drop n xs))) g
        ∙ (ap (λ (n : ℕ). bytes_from (k + 1 + 0) (take n xs)) all
        ∙ ap (λ (j : ℕ). bytes_from j (take u xs)) zero_on)) in
        first_in a b (k, Byte x) (bytes_from (k + 1) xs) (is_in a b k from below)
        ∙ (ap (λ (es : Pairs). (k, Byte x) ∷ es) rest
        ∙ (ap (λ (j : ℕ). bytes_from j (take (suc u) (x ∷ xs))) (sym zero_at)
        ∙ (ap (λ (n : ℕ). bytes_from (k + 0) (take n (x ∷ xs))) (sym all_more)
        ∙ (ap (λ (n : ℕ). bytes_from (k + n) (take (suc u - n) (drop n (x ∷ xs)))) (sym f)
        ∙ ap (λ (n : ℕ). bytes_from (k + min (length (x ∷ xs)) (a - k)) (take (n - min (length (x ∷ xs)) (a - k)) (drop (min (length (x ∷ xs)) (a - k)) (x ∷ xs)))) (sym t)))))

-- ---- pairs beside an interval

first_member : (e : ℕ × Value) (es : Pairs) → Contains (e ∷ es) e
first_member e es = (zero, omega arith, refl)

later_member : (e : ℕ × Value) (es : Pairs) (d : ℕ × Value) → Contains es d → Contains (e ∷ es) d
later_member e es d at = Contains-append_right (e ∷ []) es d at

pub pairs_high : (a b : ℕ) (es : Pairs) → ((k : ℕ) (v : Value) → Contains es (k, v) → b ≤ k) → pairs_in es a b ≡ []
pairs_high a b [] h = refl
pairs_high a b (e ∷ es) h =
    first_out a b e es (is_high a b e.0 (h e.0 e.1 (first_member e es))) ∙ pairs_high a b es (λ k v at. h k v (later_member e es (k, v) at))

pub pairs_low : (a b : ℕ) (es : Pairs) → ((k : ℕ) (v : Value) → Contains es (k, v) → k < a) → pairs_in es a b ≡ []
pairs_low a b [] h = refl
pairs_low a b (e ∷ es) h =
    first_out a b e es (is_low a b e.0 (h e.0 e.1 (first_member e es))) ∙ pairs_low a b es (λ k v at. h k v (later_member e es (k, v) at))

-- ---- pairs that rise

lower : (x y : ℕ) → x < y → T (is_lt (nat_cmp x y))
lower x y lt = subst (λ r. T (is_lt r)) (nat_cmp_is x y Less lt) tt

below_in : (a b x from to : ℕ) (us : Pairs) → x < from → Rise from to us → T (below_all nat_cmp x (pairs_in us a b))
below_in a b x from to [] lt rise = tt
below_in a b x from to (u ∷ us) lt rise = by (is_between a b u.0) (below_in a b x (u.0 + 1) to us (let low = rise.0 in omega (arith, lt, low)) rise.1)
  where
    by : (t : Bool) → T (below_all nat_cmp x (pairs_in us a b)) → T (below_all nat_cmp x (cond t (u ∷ pairs_in us a b) (pairs_in us a b)))
    by true rest = both_hold (is_lt (nat_cmp x u.0)) (below_all nat_cmp x (pairs_in us a b)) (let low = rise.0 in lower x u.0 (omega (arith, lt, low))) rest
    by false rest = rest

-- what rising units have in an interval rises
pub rises_in : (a b from to : ℕ) (us : Pairs) → Rise from to us → Rises (pairs_in us a b)
rises_in a b from to [] rise = tt
rises_in a b from to (u ∷ us) rise = by (is_between a b u.0) (rises_in a b (u.0 + 1) to us rise.1)
  where
    by : (t : Bool) → Rises (pairs_in us a b) → Rises (cond t (u ∷ pairs_in us a b) (pairs_in us a b))
    by true rest = both_hold (below_all nat_cmp u.0 (pairs_in us a b)) (is_sorted nat_cmp (pairs_in us a b)) (below_in a b u.0 (u.0 + 1) to us (omega arith) rise.1) rest
    by false rest = rest

pub bytes_rise_in : (a b k : ℕ) (xs : List ℕ) → Rises (pairs_in (bytes_from k xs) a b)
bytes_rise_in a b k xs = rises_in a b k (k + length xs) (bytes_from k xs) (bytes_rise k xs)
