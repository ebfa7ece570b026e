-- The places of cells in their order.
use Rattle.std.specs.Prelude.{◌≡◌, ◌≢◌, ℕ, ◌^◌, ◌<◌, ◌≤◌, ◌==◌, nat_lt, true, false}
use mathlib.Core.Path.{sym, ◌∙◌}
use native.Mathlib.Omega.{arith}
use Rattle.std.proofs.Math.Decide.{dec_le}
use Rattle.std.proofs.Math.Nat.{lt_of_not-le}
use Rattle.std.proofs.lemmas.Bool.{ne_eqb}
use Rattle.r4_base.specs.Key.{IsKey, rank, top}
use Rattle.r4_base.specs.declared.key.Key.{Key}
use Rattle.r4_work.specs.Order.{place_of}

pub rank_small : (k : Key) → IsKey k → rank k < 2 ^ 256
unfolding rank
rank_small k is =
    let a = is.small 0 in
    let b = is.small 1 in
    let c = is.small 2 in
    let d = is.small 3 in
    omega (arith, a, b, c, d)

pub top_small : (n : ℕ) → n ≤ top → n < 2 ^ 256
unfolding top
top_small n h = omega (arith, h)

-- at a lower level, or at the same level with a lower key
pub lower_level : (l m a b : ℕ) → a < 2 ^ 256 → l < m → place_of l a < place_of m b
unfolding place_of
lower_level l m a b small h = omega (arith, small, h)

pub lower_key : (l m a b : ℕ) → l ≡ m → a < b → place_of l a < place_of m b
unfolding place_of
lower_key l m a b same h = omega (arith, same, h)

pub no_higher : (l m a b : ℕ) → l ≡ m → a ≤ b → place_of l a ≤ place_of m b
unfolding place_of
no_higher l m a b same h = omega (arith, same, h)

-- what lies between two places of one level has the level
pub between : (l m a b c : ℕ) → b < 2 ^ 256 → c < 2 ^ 256 → place_of l a ≤ place_of m b → place_of m b ≤ place_of l c
    → (m ≡ l) × (a ≤ b) × (b ≤ c)
unfolding place_of
between l m a b c small_b small_c from to = (
  omega (arith, small_b, small_c, from, to),
  omega (arith, small_b, small_c, from, to),
  omega (arith, small_b, small_c, from, to),
)

pub same_place : (l m a b : ℕ) → a < 2 ^ 256 → b < 2 ^ 256 → place_of l a ≡ place_of m b → (l ≡ m) × (a ≡ b)
unfolding place_of
same_place l m a b small_a small_b e = (omega (arith, small_a, small_b, e), omega (arith, small_a, small_b, e))

-- ---- the same by tests

lt_true : (a b : ℕ) → a < b → nat_lt a b ≡ true
lt_true a b h = grind (arith, h)

lt_false : (a b : ℕ) → b ≤ a → nat_lt a b ≡ false
lt_false a b h = grind (arith, h)

module _ (l m a b : ℕ) (small_a : a < 2 ^ 256) (small_b : b < 2 ^ 256) where
  pub by_level : l < m → nat_lt l m ≡ nat_lt (place_of l a) (place_of m b)
  by_level h = lt_true l m h ∙ sym (lt_true (place_of l a) (place_of m b) (lower_level l m a b small_a h))

  pub by_key : l ≡ m → nat_lt a b ≡ nat_lt (place_of l a) (place_of m b)
  by_key h = elim (dec_le b a) [
    | yes from ↦ lt_false a b from ∙ sym (lt_false (place_of l a) (place_of m b) (no_higher m l b a (sym h) from))
    | no before ↦
        let less = lt_of_not-le before in
        lt_true a b less ∙ sym (lt_true (place_of l a) (place_of m b) (lower_key l m a b h less))
  ]

  pub by_neither : m ≤ l → l ≢ m → (l == m) ≡ nat_lt (place_of l a) (place_of m b)
  by_neither h ne =
      let higher = lower_level m l b a small_b (omega (arith, h, ne)) in
      ne_eqb l m (λ e. absurd (ne e)) ∙ sym (lt_false (place_of l a) (place_of m b) (omega (arith, higher)))
