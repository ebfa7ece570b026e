-- The order of keys that code computes is that of their ranks.
use Rattle.std.proofs.Common.{Ordering, Less, Equal, Greater, ◌≡◌, ◌↔◌, ℕ, zero, suc, ◌+◌, ◌*◌, ◌^◌, ◌<◌, List, [], ◌∷◌, length, get_or, refl, sym, ap, ◌∙◌, arith, inl, inr}
use Rattle.std.specs.Prelude.{nat_lt, IsTrue}
use Rattle.std.specs.Ordering.{nat_cmp, is_lt, ordering_then}
use Rattle.std.specs.Cmp.{nat_cmp_is}
use Rattle.std.specs.Cmp.Lexicographic.{slice_cmp}
use Rattle.std.proofs.lemmas.Bool.{cases_lt, cases_eq, ltb-true, lt-ltb, le-ltb}
use Rattle.r4_base.specs.declared.key.Key.{Key}
use Rattle.r4_base.specs.Key.{IsKey, IsBelow, rank}

-- the first digit decides, unless the digits are the same
digit : (x y a b : ℕ) (o : Ordering) → (x < y → a < b) → (y < x → b < a) → (x ≡ y → is_lt o ≡ nat_lt a b) → is_lt (ordering_then (nat_cmp x y) o) ≡ nat_lt a b
digit x y a b o less more same = elim (cases_lt x y) [
  | inl lt ↦ let e : nat_cmp x y ≡ Less = sym (nat_cmp_is x y Less lt) in rw e (sym (lt-ltb a b (less lt)))
  | inr ge ↦
      elim (cases_eq x y) [
        | inl is ↦ let e : nat_cmp x y ≡ Equal = sym (nat_cmp_is x y Equal is) in rw e (same is)
        | inr other ↦
            let gt : y < x = omega arith in
            let e : nat_cmp x y ≡ Greater = sym (nat_cmp_is x y Greater gt) in
            let above = more gt in
            rw e (sym (le-ltb a b (omega arith)))
      ]
]

ends : (a b : ℕ) → b ≡ a → is_lt Equal ≡ nat_lt a b
ends a b e = sym (le-ltb a b (omega arith))

four_digits : (x0 x1 x2 x3 y0 y1 y2 y3 : ℕ) → x1 < 2 ^ 64 → x2 < 2 ^ 64 → x3 < 2 ^ 64 → y1 < 2 ^ 64 → y2 < 2 ^ 64 → y3 < 2 ^ 64
    → is_lt (ordering_then (nat_cmp x0 y0) (ordering_then (nat_cmp x1 y1) (ordering_then (nat_cmp x2 y2) (ordering_then (nat_cmp x3 y3) Equal))))
    ≡ nat_lt (x0 * 2 ^ 192 + (x1 * 2 ^ 128 + (x2 * 2 ^ 64 + x3))) (y0 * 2 ^ 192 + (y1 * 2 ^ 128 + (y2 * 2 ^ 64 + y3)))
four_digits x0 x1 x2 x3 y0 y1 y2 y3 h1 h2 h3 g1 g2 g3 =
    let a : ℕ = x0 * 2 ^ 192 + (x1 * 2 ^ 128 + (x2 * 2 ^ 64 + x3)) in
    let b : ℕ = y0 * 2 ^ 192 + (y1 * 2 ^ 128 + (y2 * 2 ^ 64 + y3)) in
    digit x0 y0 a b _ (λ h. omega arith) (λ h. omega arith) (λ e0.
    digit x1 y1 a b _ (λ h. omega arith) (λ h. omega arith) (λ e1.
    digit x2 y2 a b _ (λ h. omega arith) (λ h. omega arith) (λ e2.
    digit x3 y3 a b Equal (λ h. omega arith) (λ h. omega arith) (λ e3. ends a b (omega arith)))))

lists : (xs ys : List ℕ) → length xs ≡ 4 → length ys ≡ 4 → ((i : ℕ) → get_or xs i 0 < 2 ^ 64) → ((i : ℕ) → get_or ys i 0 < 2 ^ 64)
    → is_lt (slice_cmp nat_cmp xs ys) ≡ nat_lt (get_or xs 0 0 * 2 ^ 192 + (get_or xs 1 0 * 2 ^ 128 + (get_or xs 2 0 * 2 ^ 64 + get_or xs 3 0))) (get_or ys 0 0 * 2 ^ 192 + (get_or ys 1 0 * 2 ^ 128 + (get_or ys 2 0 * 2 ^ 64 + get_or ys 3 0)))
lists (x0 ∷ x1 ∷ x2 ∷ x3 ∷ []) (y0 ∷ y1 ∷ y2 ∷ y3 ∷ []) m n h g = four_digits x0 x1 x2 x3 y0 y1 y2 y3 (h 1) (h 2) (h 3) (g 1) (g 2) (g 3)
lists _ _ m n h g = absurd (omega arith)

-- the comparison that code computes
pub compared : (a b : Key) → IsKey a → IsKey b → is_lt (slice_cmp nat_cmp a.el b.el) ≡ nat_lt (rank a) (rank b)
unfolding rank
compared a b h g = lists a.el b.el h.four g.four h.small g.small

pub below : (a b : Key) → IsKey a → IsKey b → IsTrue (is_lt (slice_cmp nat_cmp a.el b.el)) ↔ IsBelow a b
below a b h g =
    let e = compared a b h g in
    ((λ t. ltb-true (rank a) (rank b) (sym e ∙ t)), (λ lt. e ∙ lt-ltb (rank a) (rank b) lt))

-- ---- which keys are four numbers of 64 bits, and that their ranks tell them apart

small_digits : (xs : List ℕ) → length xs ≡ 4 → get_or xs 0 0 < 2 ^ 64 → get_or xs 1 0 < 2 ^ 64 → get_or xs 2 0 < 2 ^ 64 → get_or xs 3 0 < 2 ^ 64 → (i : ℕ) → get_or xs i 0 < 2 ^ 64
small_digits (w ∷ x ∷ y ∷ z ∷ []) e a b c d zero = a
small_digits (w ∷ x ∷ y ∷ z ∷ []) e a b c d (suc zero) = b
small_digits (w ∷ x ∷ y ∷ z ∷ []) e a b c d (suc (suc zero)) = c
small_digits (w ∷ x ∷ y ∷ z ∷ []) e a b c d (suc (suc (suc zero))) = d
small_digits (w ∷ x ∷ y ∷ z ∷ []) e a b c d (suc (suc (suc (suc i)))) = omega arith
small_digits _ e a b c d i = absurd (omega arith)

pub is_key : (k : Key) → length k.el ≡ 4 → get_or k.el 0 0 < 2 ^ 64 → get_or k.el 1 0 < 2 ^ 64 → get_or k.el 2 0 < 2 ^ 64 → get_or k.el 3 0 < 2 ^ 64 → IsKey k
is_key k e a b c d = record { four = e; small = small_digits k.el e a b c d }

same_lists : (xs ys : List ℕ) → length xs ≡ 4 → length ys ≡ 4 → ((i : ℕ) → get_or xs i 0 < 2 ^ 64) → ((i : ℕ) → get_or ys i 0 < 2 ^ 64)
    → get_or xs 0 0 * 2 ^ 192 + (get_or xs 1 0 * 2 ^ 128 + (get_or xs 2 0 * 2 ^ 64 + get_or xs 3 0)) ≡ get_or ys 0 0 * 2 ^ 192 + (get_or ys 1 0 * 2 ^ 128 + (get_or ys 2 0 * 2 ^ 64 + get_or ys 3 0)) → xs ≡ ys
same_lists (x0 ∷ x1 ∷ x2 ∷ x3 ∷ []) (y0 ∷ y1 ∷ y2 ∷ y3 ∷ []) m n h g e =
    let h1 : x1 < 2 ^ 64 = h 1 in
    let h2 : x2 < 2 ^ 64 = h 2 in
    let h3 : x3 < 2 ^ 64 = h 3 in
    let g1 : y1 < 2 ^ 64 = g 1 in
    let g2 : y2 < 2 ^ 64 = g 2 in
    let g3 : y3 < 2 ^ 64 = g 3 in
    let e0 : x0 ≡ y0 = omega arith in
    let e1 : x1 ≡ y1 = omega arith in
    let e2 : x2 ≡ y2 = omega arith in
    let e3 : x3 ≡ y3 = omega arith in
    rw (e0, e1, e2, e3) refl
same_lists _ _ m n h g e = absurd (omega arith)

pub equal : (a b : Key) → IsKey a → IsKey b → rank a ≡ rank b → a ≡ b
unfolding rank
equal a b h g e = ap (λ (xs : List ℕ). let k : Key = record { el = xs } in k) (same_lists a.el b.el h.four g.four h.small g.small e)
