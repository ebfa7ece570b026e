-- Keys of intervals that lie in a range.
use Rattle.std.proofs.Common.{◌≡◌, inl, inr, ℕ, ◌<◌, ◌≤◌, Bool, true, false, [], ◌∷◌, refl, arith}
use Rattle.std.specs.Prelude.{◌||◌, nat_lt}
use Rattle.std.proofs.lemmas.Grind.{common_steps}
use Rattle.r4_content.specs.Bodies.{larger, smaller}
use Rattle.r4_content.specs.Edited.{Intervals, is_between, is_in}
use Rattle.r4_measure.specs.r4_reach.Needs.{is_met, meets}
use Rattle.r4_measure.proofs.r4_work.Remade.{or_true}

first_in : (lo hi a b : ℕ) → nat_lt (larger lo a) (smaller hi b) ≡ true → is_between a b (larger lo a) ≡ true
first_in lo hi a b h = grind (arith, common_steps, h)

first_low : (lo a : ℕ) → lo ≤ larger lo a
first_low lo a = grind (arith, common_steps)

first_high : (lo hi a b : ℕ) → nat_lt (larger lo a) (smaller hi b) ≡ true → larger lo a < hi
first_high lo hi a b h = grind (arith, common_steps, h)

one_met : (lo hi a b k : ℕ) → is_between a b k ≡ true → lo ≤ k → k < hi → nat_lt (larger lo a) (smaller hi b) ≡ true
one_met lo hi a b k h low high = grind (arith, common_steps, h, low, high)

left : (a b : Bool) → a ≡ true → a || b ≡ true
left true b h = refl
left false b h = absurd cc

right : (a b : Bool) → b ≡ true → a || b ≡ true
right true b h = refl
right false b h = h

-- one of them lies in the range
pub met_key : (rs : Intervals) (lo hi : ℕ) → is_met rs lo hi ≡ true → (k : ℕ) × (is_in rs k ≡ true) × (lo ≤ k) × (k < hi)
met_key [] lo hi h = absurd cc
met_key (r ∷ rs) lo hi h = elim (or_true (meets lo hi r) (is_met rs lo hi) h) [
  | inl m ↦ (larger lo r.0, left (is_between r.0 r.1 (larger lo r.0)) (is_in rs (larger lo r.0)) (first_in lo hi r.0 r.1 m), first_low lo r.0, first_high lo hi r.0 r.1 m)
  | inr more ↦ let (k, at, low, high) = met_key rs lo hi more in (k, right (is_between r.0 r.1 k) (is_in rs k) at, low, high)
]

pub key_met : (rs : Intervals) (lo hi k : ℕ) → is_in rs k ≡ true → lo ≤ k → k < hi → is_met rs lo hi ≡ true
key_met [] lo hi k h low high = absurd cc
key_met (r ∷ rs) lo hi k h low high = elim (or_true (is_between r.0 r.1 k) (is_in rs k) h) [
  | inl at ↦ left (meets lo hi r) (is_met rs lo hi) (one_met lo hi r.0 r.1 k at low high)
  | inr more ↦ right (meets lo hi r) (is_met rs lo hi) (key_met rs lo hi k more low high)
]
