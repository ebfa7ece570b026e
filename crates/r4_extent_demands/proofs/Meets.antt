-- Keys at which intervals meet a range.
use Rattle.std.specs.Prelude.{◌≡◌, ℕ, ◌<◌, ◌≤◌, [], ◌∷◌, Bool, true, false, nat_lt, if◌then◌else◌}
use Rattle.std.proofs.Common.{arith, inl, inr, refl}
use Rattle.std.proofs.lemmas.Bool.{both_ways, or_cases, or_left, or_right}
use Rattle.std.proofs.lemmas.Bool.Decides.{nat_tests}
use Rattle.r4_content.specs.Bodies.{larger}
use Rattle.r4_content.specs.Edited.{Intervals, is_between, is_in}
use Rattle.r4_bodies.specs.r4_leaf_edits.r4_reach.Needs.{is_met, meets}

-- an interval has a key of the range
abbrev pub HasOf : Intervals → (lo hi : ℕ) → Type 0
HasOf rs lo hi = (k : ℕ) × (is_in rs k ≡ true) × (lo ≤ k) × (k < hi)

met_key : (lo hi : ℕ) (r : ℕ × ℕ) → meets lo hi r ≡ true
    → (lo ≤ larger lo r.0) × (larger lo r.0 < hi) × (is_between r.0 r.1 (larger lo r.0) ≡ true)
met_key lo hi r e = by_low (nat_lt lo r.0) (nat_lt hi r.1) refl refl e
  where
    by_low : (x y : Bool) → nat_lt lo r.0 ≡ x → nat_lt hi r.1 ≡ y
        → nat_lt (if x then r.0 else lo) (if y then hi else r.1) ≡ true
        → (lo ≤ (if x then r.0 else lo)) × ((if x then r.0 else lo) < hi)
        × (is_between r.0 r.1 (if x then r.0 else lo) ≡ true)
    by_low true true f g e = (grind (arith, f), grind (arith, e), grind (arith, e, g))
    by_low true false f g e = (grind (arith, f), grind (arith, e, g), grind (arith, e))
    by_low false true f g e = (omega arith, grind (arith, e), grind (arith, f, e, g))
    by_low false false f g e = (omega arith, grind (arith, e, g), grind (arith, e, f))

pub met_keys : (rs : Intervals) (lo hi : ℕ) → is_met rs lo hi ≡ true → HasOf rs lo hi
met_keys [] lo hi e = absurd (both_ways false refl e)
met_keys (r ∷ rs) lo hi e = elim (or_cases (meets lo hi r) (is_met rs lo hi) e) [
  | inl first ↦
      let (low, high, at) = met_key lo hi r first in
      (larger lo r.0, or_left (is_between r.0 r.1 (larger lo r.0)) (is_in rs (larger lo r.0)) at, low, high)
  | inr rest ↦
      let (k, at, low, high) = met_keys rs lo hi rest in
      (k, or_right (is_between r.0 r.1 k) (is_in rs k) at, low, high)
]

key_met : (lo hi k : ℕ) (r : ℕ × ℕ) → lo ≤ k → k < hi → is_between r.0 r.1 k ≡ true → meets lo hi r ≡ true
key_met lo hi k r low high at = by_low (nat_lt lo r.0) (nat_lt hi r.1)
  where
    by_low : (x y : Bool) → nat_lt (if x then r.0 else lo) (if y then hi else r.1) ≡ true
    by_low true true = grind (arith, nat_tests, low, high, at)
    by_low true false = grind (arith, nat_tests, low, high, at)
    by_low false true = grind (arith, nat_tests, low, high, at)
    by_low false false = grind (arith, nat_tests, low, high, at)

pub keys_meet : (rs : Intervals) (lo hi : ℕ) → HasOf rs lo hi → is_met rs lo hi ≡ true
keys_meet [] lo hi (k, at, low, high) = absurd (both_ways false refl at)
keys_meet (r ∷ rs) lo hi (k, at, low, high) = elim (or_cases (is_between r.0 r.1 k) (is_in rs k) at) [
  | inl first ↦ or_left (meets lo hi r) (is_met rs lo hi) (key_met lo hi k r low high first)
  | inr rest ↦ or_right (meets lo hi r) (is_met rs lo hi) (keys_meet rs lo hi (k, rest, low, high))
]
