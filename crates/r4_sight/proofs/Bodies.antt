-- Keys of one body: how far they are apart, and where they are not.
use Rattle.std.proofs.Common.{◌≡◌, ◌⊎◌, inl, inr, ℕ, ◌+◌, ◌-◌, ◌*◌, ◌^◌, ◌<◌, ◌≤◌, true, ◌&&◌, refl, sym, ap, subst, ◌∙◌, arith}
use Rattle.std.specs.Prelude.{◌==◌, slice_index}
use Rattle.std.proofs.lemmas.Bool.{eq-eqb}
use Rattle.std.proofs.lemmas.Bool.Decides.{nat_tests}
use Rattle.r4_base.specs.Key.{IsKey, offset_of, rank, top}
use Rattle.r4_base.specs.declared.key.Key.{Key}
use Rattle.r4_units.proofs.ExtentUnits.{AreOneBody}

pub cases_lt : (m n : ℕ) → (m < n) ⊎ (n ≤ m)
cases_lt m n = grind (arith, nat_tests)

near : (x y e k n : ℕ) → x * 2 ^ 64 + k ≤ y * 2 ^ 64 + e → y * 2 ^ 64 + e < x * 2 ^ 64 + k + n → k + n ≤ 2 ^ 64 → e < 2 ^ 64 → x ≡ y
near x y e k n a b c d = omega arith

record AreSame (a b c x y z : ℕ) : Type 0 where
  first : a ≡ x
  second : b ≡ y
  third : c ≡ z

digits : (a b c x y z : ℕ) → b < 2 ^ 64 → c < 2 ^ 64 → y < 2 ^ 64 → z < 2 ^ 64 → a * 2 ^ 128 + (b * 2 ^ 64 + c) ≡ x * 2 ^ 128 + (y * 2 ^ 64 + z) → AreSame a b c x y z
digits a b c x y z lb lc ly lz e =
    let first : a ≡ x = omega (arith, lb, lc, ly, lz, e) in
    let second : b ≡ y = omega (arith, lb, lc, ly, lz, e, first) in
    record { first = first; second = second; third = omega (arith, e, first, second) }

abbrev upper : Key → ℕ
upper k = slice_index k.el 0 * 2 ^ 128 + (slice_index k.el 1 * 2 ^ 64 + slice_index k.el 2)

rank_is : (k : Key) → rank k ≡ upper k * 2 ^ 64 + offset_of k
unfolding rank
rank_is k = omega arith

-- a key within so many bytes of another, whose offsets all fit, is of its body
pub near_keys : (a b : Key) (n : ℕ) → IsKey a → IsKey b → rank a ≤ rank b → rank b < rank a + n → offset_of a + n ≤ 2 ^ 64 → AreOneBody a b
near_keys a b n is js low high fits =
    let ra = rank_is a in
    let rb = rank_is b in
    let small = js.small 3 in
    let same = near (upper a) (upper b) (offset_of b) (offset_of a) n (omega (arith, ra, rb, low)) (omega (arith, ra, rb, high)) fits small in
    let d = digits (slice_index a.el 0) (slice_index a.el 1) (slice_index a.el 2) (slice_index b.el 0) (slice_index b.el 1) (slice_index b.el 2) (is.small 1) (is.small 2) (js.small 1) (js.small 2) same in
    record { first = d.first; second = d.second; third = d.third }

-- and is tested so
pub body_tested : (a b : Key) → AreOneBody a b → (slice_index a.el 0 == slice_index b.el 0 && slice_index a.el 1 == slice_index b.el 1 && slice_index a.el 2 == slice_index b.el 2) ≡ true
body_tested a b h =
    let x = eq-eqb _ _ h.first in
    let y = eq-eqb _ _ h.second in
    let z = eq-eqb _ _ h.third in
    rw (x, y, z) refl

all_below : (a b c d : ℕ) → a < 2 ^ 64 → b < 2 ^ 64 → c < 2 ^ 64 → d < 2 ^ 64 → a * 2 ^ 192 + (b * 2 ^ 128 + (c * 2 ^ 64 + d)) ≤ 2 ^ 256 - 1
all_below a b c d la lb lc ld = omega (arith, la, lb, lc, ld)

-- no key is above the end of all
pub up_to_top : (k : Key) → IsKey k → rank k ≤ top
unfolding rank top
up_to_top k is = all_below (slice_index k.el 0) (slice_index k.el 1) (slice_index k.el 2) (slice_index k.el 3) (is.small 0) (is.small 1) (is.small 2) (is.small 3)

-- the lesser of two keys above a third
pub lesser_above : (from : ℕ) (x y z : Key) → from < rank x → from < rank y → (z ≡ x) ⊎ (z ≡ y) → from < rank z
lesser_above from x y z a b (inl is) = subst (λ (k : Key). from < rank k) (sym is) a
lesser_above from x y z a b (inr is) = subst (λ (k : Key). from < rank k) (sym is) b

pub above_leaf : (level read : ℕ) → 1 ≤ level → read ≡ level → (read ≡ 1 → ⊥) → 2 ≤ level
above_leaf level read some is not = elim (cases_lt level 2) [
  | inl lt ↦ absurd (not (omega (arith, some, lt, is)))
  | inr le ↦ le
]

-- the lesser of two keys is one of them
pub end_of : (x y z : Key) (hi : ℕ) → rank y ≡ hi → (z ≡ x) ⊎ (z ≡ y) → (rank z ≡ rank x) ⊎ (rank z ≡ hi)
end_of x y z hi up (inl is) = inl (ap rank is)
end_of x y z hi up (inr is) = inr (ap rank is ∙ up)

pub end_at : (t z : Key) (to hi : ℕ) → rank t ≡ rank z → (rank z ≡ to) ⊎ (rank z ≡ hi) → (rank t ≡ to) ⊎ (rank t ≡ hi)
end_at t z to hi same (inl is) = inl (same ∙ is)
end_at t z to hi same (inr is) = inr (same ∙ is)
