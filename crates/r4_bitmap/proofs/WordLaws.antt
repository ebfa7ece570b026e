-- The words of a bitmap block, and the first 0 that they show.
use Rattle.std.proofs.Common.{◌≡◌, ◌≢◌, ℕ, zero, suc, ◌+◌, ◌-◌, ◌*◌, ◌/◌, ◌%◌, ◌^◌, ◌<◌, ◌≤◌, true, eqb, List, get_or, refl, sym, ap, ◌∙◌, arith, inl, inr}
use Rattle.std.specs.Prelude.{bit_or}
use Rattle.std.specs.Int.{w64, bit_at, trailing_ones}
use Rattle.std.proofs.lemmas.Bool.{eq-eqb, cases_lt}
use Rattle.std.proofs.lemmas.Nat.Bits.{bit_at-lt, bit_at_or, bit_at_ones, bit_at_ones_above, bit_at_cat_low, bit_at_cat_high, bit_at-trailing_ones}
use Rattle.std.proofs.Math.Nat.{mod-eq_of_lt}
use Rattle.std.proofs.Math.Pow.{pow-lt}
use Rattle.r4_base.specs.Bytes.{number_at}
use Rattle.r4_base.specs.Bitmap.{is_used, IsFirstFree}
use Rattle.r4_bitmap.specs.Words.{IsSeenFrom}

-- ---- a bit of a number that stands in bytes

low_bit : (x m j : ℕ) → j < 8 → bit_at (x % 256 + 256 * m) j ≡ bit_at x j
low_bit x m j lt =
    let sum : x % 256 + 256 * m ≡ m * 2 ^ 8 + x % 256 = omega arith in
    let whole : x / 256 * 2 ^ 8 + x % 256 ≡ x = omega arith in
    ap (λ (n : ℕ). bit_at n j) sum ∙ bit_at_cat_low m 8 (x % 256) j lt ∙ sym (bit_at_cat_low (x / 256) 8 (x % 256) j lt) ∙ ap (λ (n : ℕ). bit_at n j) whole

high_bit : (x m j : ℕ) → 8 ≤ j → bit_at (x % 256 + 256 * m) j ≡ bit_at m (j - 8)
high_bit x m j le =
    let sum : x % 256 + 256 * m ≡ m * 2 ^ 8 + x % 256 = omega arith in
    ap (λ (n : ℕ). bit_at n j) sum ∙ bit_at_cat_high m 8 (x % 256) j (omega arith) le

pub bit_at-number_at : (n at j : ℕ) (b : List ℕ) → j < 8 * n → bit_at (number_at n at b) j ≡ bit_at (get_or b (at + j / 8) 0) (j % 8)
unfolding number_at
bit_at-number_at zero at j b lt = absurd (omega arith)
bit_at-number_at (suc n) at j b lt =
    elim (cases_lt j 8) [
      | inl low ↦
          let byte : at ≡ at + j / 8 = omega arith in
          let place : j ≡ j % 8 = omega arith in
          low_bit (get_or b at 0) (number_at n (suc at) b) j low ∙ ap (λ (k : ℕ). bit_at (get_or b k 0) j) byte ∙ ap (bit_at (get_or b (at + j / 8) 0)) place
      | inr high ↦
          let byte : suc at + (j - 8) / 8 ≡ at + j / 8 = omega arith in
          let place : (j - 8) % 8 ≡ j % 8 = omega arith in
          high_bit (get_or b at 0) (number_at n (suc at) b) j high ∙ bit_at-number_at n (suc at) (j - 8) b (omega arith) ∙ ap (λ (k : ℕ). bit_at (get_or b k 0) ((j - 8) % 8)) byte ∙ ap (bit_at (get_or b (at + j / 8) 0)) place
    ]

-- ---- a word, its first bits set

mask_is : (k : ℕ) → k < 64 → 1 * 2 ^ k % 18446744073709551616 - 1 ≡ 2 ^ k - 1
mask_is k lt =
    let small : 2 ^ k < 2 ^ 64 = pow-lt lt in
    let one : 1 * 2 ^ k ≡ 2 ^ k = omega arith in
    rw (one, mod-eq_of_lt small) refl

pub seen_from : (b : List ℕ) (w from word before : ℕ) → from + 32 < 64 * w + 64 → before ≡ from + 32 - 64 * w → word ≡ number_at 8 (8 * w) b → IsSeenFrom b w from (bit_or word (1 * 2 ^ before % 18446744073709551616 - 1))
seen_from b w from word before lt is read =
    rw (mask_is before (omega arith)) (record {
      before = λ j small early.
          let one = bit_at_ones before j (omega arith) in
          let two = bit_at-lt word j in
          bit_at_or word (2 ^ before - 1) j ∙ omega arith;
      from_on = λ j small late.
          let none = bit_at_ones_above before j (omega arith) in
          bit_at_or word (2 ^ before - 1) j ∙ rw none (omega arith) ∙ ap (λ (n : ℕ). bit_at n j) read ∙ bit_at-number_at 8 (8 * w) j b (omega arith);
    })

-- ---- what a word shows of the bitmap

used_in : (b : List ℕ) (w from word j k : ℕ) → IsSeenFrom b w from word → j < 64 → 64 * w + j ≡ k + 32 → from ≤ k → is_used b k ≡ eqb (bit_at word j) 1
unfolding is_used
used_in b w from word j k seen lt is le =
    let byte : 8 * w + j / 8 ≡ 4 + k / 8 = omega arith in
    let place : j % 8 ≡ k % 8 = omega arith in
    let same = seen.from_on j lt (omega arith) in
    rw (same, byte, place) refl

-- a word of ones
pub full_word : (b : List ℕ) (from w word : ℕ) → IsSeenFrom b w from word → word ≡ 18446744073709551615 → ((k : ℕ) → from ≤ k → k + 32 < 64 * w → is_used b k ≡ true) → (k : ℕ) → from ≤ k → k + 32 < 64 * (w + 1) → is_used b k ≡ true
full_word b from w word seen full so_far k le lt =
    elim (cases_lt (k + 32) (64 * w)) [
      | inl early ↦ so_far k le early
      | inr here ↦
          let j = k + 32 - 64 * w in
          let one : bit_at word j ≡ 1 = ap (λ (n : ℕ). bit_at n j) full ∙ bit_at_ones 64 j (omega arith) in
          used_in b w from word j k seen (omega arith) (omega arith) le ∙ eq-eqb _ _ one
    ]

-- where the first 0 of a word stands
pub record ShowsFirst (b : List ℕ) (from w t : ℕ) : Type 0 where
  pub inside : t < 64
  pub past_front : 32 ≤ 64 * w + t
  pub first : IsFirstFree b from (64 * w + t - 32)

pub shows_first : (b : List ℕ) (from w word : ℕ) → from < 32736 → w < 512 → (from + 32) / 64 ≤ w → word < 2 ^ 64 → word ≢ 18446744073709551615 → IsSeenFrom b w from word → ((k : ℕ) → from ≤ k → k + 32 < 64 * w → is_used b k ≡ true) → ShowsFirst b from w (trailing_ones w64 word)
shows_first b from w word from_in w_in reached small ne seen so_far =
    let ones = bit_at-trailing_ones w64 word (omega arith) in
    shown b from w word (trailing_ones w64 word) from_in w_in reached seen so_far ones.0 ones.1 ones.2
  where
    shown : (b : List ℕ) (from w word t : ℕ) → from < 32736 → w < 512 → (from + 32) / 64 ≤ w → IsSeenFrom b w from word → ((k : ℕ) → from ≤ k → k + 32 < 64 * w → is_used b k ≡ true) → t < 64 → bit_at word t ≡ 0 → ((i : ℕ) → i < t → bit_at word i ≡ 1) → ShowsFirst b from w t
    shown b from w word t from_in w_in reached seen so_far lt free ones =
        let past : from + 32 ≤ 64 * w + t = elim (cases_lt (64 * w + t) (from + 32)) [
          | inl early ↦ let one = seen.before t lt early in absurd (omega arith)
          | inr late ↦ late
        ] in
        record {
          inside = lt;
          past_front = omega arith;
          first = record {
            from_on = omega arith;
            within = omega arith;
            free = used_in b w from word t (64 * w + t - 32) seen lt (omega arith) (omega arith) ∙ rw free refl;
            before = λ k le sooner. elim (cases_lt (k + 32) (64 * w)) [
              | inl early ↦ so_far k le early
              | inr here ↦ used_in b w from word (k + 32 - 64 * w) k seen (omega arith) (omega arith) le ∙ eq-eqb _ _ (ones (k + 32 - 64 * w) (omega arith))
            ];
          };
        }
