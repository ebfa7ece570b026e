-- The sectors of a block that go back.
use Rattle.std.proofs.Common.{◌≡◌, ◌≢◌, inl, inr, ℕ, ◌+◌, ◌*◌, ◌/◌, ◌%◌, ◌^◌, ◌<◌, ◌≤◌, true, false, eqb, refl, sym, ◌∙◌, ap, arith, add-one}
use Rattle.std.specs.Prelude.{bit_and, bit_or}
use Rattle.std.specs.Int.{bit_at}
use Rattle.std.proofs.lemmas.Bool.{cases_eq, eq-eqb, ne_eqb, lt-ltb, le-ltb}
use Rattle.std.proofs.lemmas.Nat.Bits.{bit_at-zero, bit_at-lt, bit_at_or, bit_at-pow_same, bit_at-pow_other, shr_and_one}
use Rattle.std.proofs.Math.Nat.{mod-eq_of_lt}
use Rattle.std.proofs.Math.Pow.{pow-lt}
use Rattle.r4_outside.specs.Crash.{next_number, number_after}
use Rattle.r4_outside.specs.Mix.{is_marked}
use Rattle.r4_devices.specs.Picks.{looked, IsPickedTo}

pub none_picked : (skip first : ℕ) → IsPickedTo 0 skip first 0 first
unfolding looked number_after
none_picked skip first = record {
  before = λ s lt. absurd (omega (arith, lt));
  behind = λ s le. ap (λ (n : ℕ). eqb n 1) (bit_at-zero s);
  number = refl;
}

pub marked_by : (mask s : ℕ) → bit_and (mask / 2 ^ s) 1 ≡ 1 → is_marked mask s ≡ true
marked_by mask s is = eq-eqb (bit_at mask s) 1 (sym (shr_and_one mask s) ∙ is)

pub unmarked_by : (mask s : ℕ) → bit_and (mask / 2 ^ s) 1 ≢ 1 → is_marked mask s ≡ false
unmarked_by mask s other = ne_eqb (bit_at mask s) 1 (λ e. other (shr_and_one mask s ∙ e))

skips_one : (skip n : ℕ) → is_marked skip n ≡ true → looked skip (n + 1) ≡ looked skip n
unfolding looked
skips_one skip n marked = rw (add-one n, marked) (omega arith)

looks_at : (skip n : ℕ) → is_marked skip n ≡ false → looked skip (n + 1) ≡ looked skip n + 1
unfolding looked
looks_at skip n unmarked = rw (add-one n, unmarked) refl

next_after : (first k : ℕ) → number_after first (k + 1) ≡ next_number (number_after first k)
unfolding number_after
next_after first k = rw (add-one k) refl

module _ (n skip first mask x : ℕ) (p : IsPickedTo n skip first mask x) where
  pub skip_more : is_marked skip n ≡ true → IsPickedTo (n + 1) skip first mask x
  skip_more marked = record {
    before = λ s lt. elim (cases_eq s n) [
      | inl is ↦ rw (is, p.behind n (omega arith), marked) refl
      | inr other ↦ p.before s (omega (arith, lt, other))
    ];
    behind = λ s le. p.behind s (omega (arith, le));
    number = p.number ∙ ap (number_after first) (sym (skips_one skip n marked));
  }

  -- the number of the sector that is looked at
  its_number : (y : ℕ) → y ≡ next_number x → number_after first (looked skip n + 1) ≡ y
  its_number y is = next_after first (looked skip n) ∙ ap next_number (sym p.number) ∙ sym is

  number_on : (y : ℕ) → y ≡ next_number x → is_marked skip n ≡ false → y ≡ number_after first (looked skip (n + 1))
  number_on y is unmarked = sym (ap (number_after first) (looks_at skip n unmarked) ∙ its_number y is)

  pub keep_more : (y : ℕ) → y ≡ next_number x → is_marked skip n ≡ false → 2 ^ 63 ≤ y → IsPickedTo (n + 1) skip first mask y
  keep_more y is unmarked high = record {
    before = λ s lt. elim (cases_eq s n) [
      | inl here ↦ rw (here, p.behind n (omega arith), unmarked, its_number y is) (sym (le-ltb y (2 ^ 63) high))
      | inr other ↦ p.before s (omega (arith, lt, other))
    ];
    behind = λ s le. p.behind s (omega (arith, le));
    number = number_on y is unmarked;
  }

  one_bit : n < 8 → 1 * 2 ^ n % 256 ≡ 2 ^ n
  one_bit lt = let small : 2 ^ n < 2 ^ 8 = pow-lt lt in let one : 1 * 2 ^ n ≡ 2 ^ n = omega arith in rw (one, mod-eq_of_lt small) refl

  other_bits : (s : ℕ) → s ≢ n → is_marked (bit_or mask (2 ^ n)) s ≡ is_marked mask s
  other_bits s other =
      let small = bit_at-lt mask s in
      ap (λ (k : ℕ). eqb k 1) (bit_at_or mask (2 ^ n) s ∙ rw (bit_at-pow_other n s other) (omega arith))

  this_bit : is_marked (bit_or mask (2 ^ n)) n ≡ true
  this_bit =
      let small = bit_at-lt mask n in
      eq-eqb (bit_at (bit_or mask (2 ^ n)) n) 1 (bit_at_or mask (2 ^ n) n ∙ rw (bit_at-pow_same n) (omega arith))

  pub pick_more : (y : ℕ) → y ≡ next_number x → is_marked skip n ≡ false → y < 2 ^ 63 → n < 8 → IsPickedTo (n + 1) skip first (bit_or mask (1 * 2 ^ n % 256)) y
  pick_more y is unmarked low lt8 = rw (one_bit lt8) (record {
    before = λ s lt. elim (cases_eq s n) [
      | inl here ↦ rw (here, this_bit, unmarked, its_number y is) (sym (lt-ltb y (2 ^ 63) low))
      | inr other ↦ other_bits s other ∙ p.before s (omega (arith, lt, other))
    ];
    behind = λ s le. other_bits s (λ e. omega (arith, le, e)) ∙ p.behind s (omega (arith, le));
    number = number_on y is unmarked;
  })
