-- Keys of bodies, and of none, in ranges and in intervals.
use Rattle.std.specs.Prelude.{◌≡◌, ◌≢◌, ◌⊎◌, ◌↔◌, ℕ, ◌+◌, ◌-◌, ◌*◌, ◌/◌, ◌%◌, ◌^◌, ◌<◌, ◌≤◌, ◌==◌, [], ◌∷◌, ◌++◌}
use Rattle.std.specs.Prelude.{Bool, true, false, nat_lt, slice_index}
use Rattle.std.proofs.Common.{arith, inl, inr, refl, sym, ap, subst, ◌∙◌}
use Rattle.std.proofs.lemmas.Bool.{both_ways, eq-eqb, eqb-true, lt-ltb, ltb-true, or_cases, or_left, or_right}
use Rattle.std.proofs.lemmas.Grind.{common_steps}
use Rattle.r4_base.specs.Key.{IsKey, key_of_rank, rank}
use Rattle.r4_base.specs.declared.key.Key.{Key}
use Rattle.r4_content.specs.Bodies.{larger, smaller}
use Rattle.r4_content.specs.Edited.{Intervals, is_between, is_in}
use Rattle.r4_content.proofs.EditLaws.{in_append}
use Rattle.r4_suited.proofs.r4_leaf_edits.KeyRanks.{key_again}
use Rattle.r4_marking.specs.r4_reach.Reach.{is_body}
use Rattle.r4_leaf_demands.specs.Touching.{HasKind, MeetsKind}

-- ---- tests

pub then_iff : (t : Bool) (P R : Type 0) → (t ≡ true) ↔ P → t ≡ true → (P → R) → (t ≡ true) ↔ R
then_iff t P R h is f = ((λ e. f (h.0 e)), (λ r. is))

pub else_iff : (t u : Bool) (P Q R : Type 0) → (t ≡ true) ↔ P → t ≡ false → (u ≡ true) ↔ Q → (Q → R) → (R → P ⊎ Q)
    → (u ≡ true) ↔ R
else_iff t u P Q R h is g f back = (
  (λ e. f (g.0 e)),
  (λ r. elim (back r) [ inl p ↦ absurd (both_ways t is (h.1 p)) | inr q ↦ g.1 q ]),
)

-- ---- first numbers of keys

pub first_number : (k : Key) → IsKey k → slice_index k.el 0 ≡ rank k / 2 ^ 192
unfolding key_of_rank
first_number k is = ap (λ (j : Key). slice_index j.el 0) (sym (key_again k is))

pub body_number : (k : ℕ) → is_body k ≡ (k / 2 ^ 192 % 16 == 4)
unfolding key_of_rank
body_number k = refl

pub of_body : (k : ℕ) → is_body k ≡ true → k / 2 ^ 192 % 16 ≡ 4
of_body k e = eqb-true (k / 2 ^ 192 % 16) 4 (sym (body_number k) ∙ e)

pub of_none : (k : ℕ) → is_body k ≡ false → k / 2 ^ 192 % 16 ≢ 4
of_none k e = λ is. both_ways (is_body k) e (body_number k ∙ eq-eqb (k / 2 ^ 192 % 16) 4 is)

is_of_body : (k : ℕ) → k / 2 ^ 192 % 16 ≡ 4 → is_body k ≡ true
is_of_body k e = body_number k ∙ eq-eqb (k / 2 ^ 192 % 16) 4 e

is_of_none : (k : ℕ) → k / 2 ^ 192 % 16 ≢ 4 → is_body k ≡ false
is_of_none k other = by_test (is_body k) refl
  where
    by_test : (b : Bool) → is_body k ≡ b → b ≡ false
    by_test false e = refl
    by_test true e = absurd (other (of_body k e))

back : (n : ℕ) → n * 2 ^ 192 / 2 ^ 192 ≡ n
back n = omega arith

above : (a n : ℕ) → a / 2 ^ 192 < n → a ≤ n * 2 ^ 192
above a n lt = omega (arith, lt)

lower : (n k : ℕ) → n ≤ k / 2 ^ 192 → n * 2 ^ 192 ≤ k
lower n k le = omega (arith, le)

raised : (a k : ℕ) → a ≤ k → a / 2 ^ 192 ≤ k / 2 ^ 192
raised a k le = omega (arith, le)

-- the next number of a body's keys
next_is : (n : ℕ) → (n + (20 - n % 16) % 16) % 16 ≡ 4
next_is n = omega arith

next_later : (n : ℕ) → n % 16 ≢ 4 → n < n + (20 - n % 16) % 16
next_later n other = omega (arith, other)

next_first : (n q : ℕ) → n ≤ q → q % 16 ≡ 4 → n + (20 - n % 16) % 16 ≤ q
next_first n q le e = omega (arith, le, e)

module _ (a b next : ℕ) where
  pub body_next : is_body a ≡ false → next ≡ a / 2 ^ 192 + (20 - a / 2 ^ 192 % 16) % 16
      → (nat_lt (next * 2 ^ 192) b ≡ true) ↔ HasKind true a b
  body_next none is = (
    (λ e.
        let later = next_later (a / 2 ^ 192) (of_none a none) in
        let lt = ltb-true (next * 2 ^ 192) b e in (
          next * 2 ^ 192,
          above a next (omega (arith, later, is)),
          lt,
          is_of_body (next * 2 ^ 192) (ap (λ (n : ℕ). n % 16) (back next ∙ is) ∙ next_is (a / 2 ^ 192)),
        )),
    (λ h.
        let (k, low, high, body) = h in
        let first = next_first (a / 2 ^ 192) (k / 2 ^ 192) (raised a k low) (of_body k body) in
        let le = lower next k (omega (arith, first, is)) in
        lt-ltb (next * 2 ^ 192) b (omega (arith, le, high))),
  )

  pub none_next : b < 2 ^ 256 → 2 ^ 64 ≤ a / 2 ^ 192 + (20 - a / 2 ^ 192 % 16) % 16 → HasKind true a b → ⊥
  none_next small big h =
      let (k, low, high, body) = h in
      let first = next_first (a / 2 ^ 192) (k / 2 ^ 192) (raised a k low) (of_body k body) in
      omega (arith, first, big, small, high)

  pub other_next : is_body a ≡ true → next ≡ a / 2 ^ 192 + 1 → (nat_lt (next * 2 ^ 192) b ≡ true) ↔ HasKind false a b
  other_next body is =
      let four = of_body a body in (
        (λ e.
            let lt = ltb-true (next * 2 ^ 192) b e in (
              next * 2 ^ 192,
              above a next (omega (arith, is)),
              lt,
              is_of_none (next * 2 ^ 192) (λ same. let at = back next in omega (arith, same, at, is, four)),
            )),
        (λ h.
            let (k, low, high, none) = h in
            let other = of_none k none in
            let up = raised a k low in
            let le = lower next k (omega (arith, other, up, is, four)) in
            lt-ltb (next * 2 ^ 192) b (omega (arith, le, high))),
      )

-- the first key of the range
pub here : (body : Bool) (a b : ℕ) → a < b → is_body a ≡ body → HasKind body a b
here body a b lt is = (a, omega arith, lt, is)

pub below_all : (k : Key) → IsKey k → rank k < 2 ^ 256
unfolding rank
below_all k is =
    let a = is.small 0 in
    let b = is.small 1 in
    let c = is.small 2 in
    let d = is.small 3 in
    omega (arith, a, b, c, d)

-- ---- in intervals

module _ (body : Bool) (rs ss : Intervals) (lo hi : ℕ) where
  pub meets_first : MeetsKind body rs lo hi → MeetsKind body (rs ++ ss) lo hi
  meets_first (k, at, kind, low, high) = (k, in_append rs ss k ∙ or_left (is_in rs k) (is_in ss k) at, kind, low, high)

  pub meets_rest : MeetsKind body ss lo hi → MeetsKind body (rs ++ ss) lo hi
  meets_rest (k, at, kind, low, high) = (k, in_append rs ss k ∙ or_right (is_in rs k) (is_in ss k) at, kind, low, high)

  pub meets_cases : MeetsKind body (rs ++ ss) lo hi → MeetsKind body rs lo hi ⊎ MeetsKind body ss lo hi
  meets_cases (k, at, kind, low, high) = elim (or_cases (is_in rs k) (is_in ss k) (sym (in_append rs ss k) ∙ at)) [
    | inl first ↦ inl (k, first, kind, low, high)
    | inr rest ↦ inr (k, rest, kind, low, high)
  ]

pub clip_in : (lo hi a b k : ℕ) → larger lo a ≤ k → k < smaller hi b → (lo ≤ k) × (k < hi) × (is_between a b k ≡ true)
clip_in lo hi a b k low high = (grind (arith, common_steps), grind (arith, common_steps), grind (arith, common_steps))

pub clip_out : (lo hi a b k : ℕ) → lo ≤ k → k < hi → is_between a b k ≡ true → (larger lo a ≤ k) × (k < smaller hi b)
clip_out lo hi a b k low high at = (grind (arith, common_steps), grind (arith, common_steps))

one_in : (a b k : ℕ) → is_in ((a, b) ∷ []) k ≡ true → is_between a b k ≡ true
one_in a b k e = elim (or_cases (is_between a b k) false e) [ inl at ↦ at | inr h ↦ absurd (both_ways false refl h) ]

module _ (body : Bool) (lo hi a b : ℕ) where
  pub clipped : (from to : ℕ) → from ≡ larger lo a → to ≡ smaller hi b → HasKind body from to
      → MeetsKind body ((a, b) ∷ []) lo hi
  clipped from to f t (k, low, high, kind) =
      let (down, up, at) = clip_in lo hi a b k (omega (arith, f, low)) (omega (arith, t, high)) in
      (k, or_left (is_between a b k) false at, kind, down, up)

  pub unclipped : (from to : ℕ) → from ≡ larger lo a → to ≡ smaller hi b → MeetsKind body ((a, b) ∷ []) lo hi
      → HasKind body from to
  unclipped from to f t (k, at, kind, low, high) =
      let (down, up) = clip_out lo hi a b k low high (one_in a b k at) in
      (k, omega (arith, f, down), omega (arith, t, up), kind)

  pub no_clip : smaller hi b ≤ larger lo a → MeetsKind body ((a, b) ∷ []) lo hi → ⊥
  no_clip le (k, at, kind, low, high) =
      let (down, up) = clip_out lo hi a b k low high (one_in a b k at) in
      omega (arith, le, down, up)

none_in : (body : Bool) (lo hi : ℕ) → MeetsKind body [] lo hi → ⊥
none_in body lo hi (k, at, kind, low, high) = both_ways false refl at

pub no_meets : (body : Bool) (rs : Intervals) (lo hi : ℕ) → rs ≡ [] → (false ≡ true) ↔ MeetsKind body rs lo hi
no_meets body rs lo hi is = (
  (λ e. absurd (both_ways false refl e)),
  (λ h. absurd (none_in body lo hi (subst (λ (xs : Intervals). MeetsKind body xs lo hi) is h))),
)
