-- The bitmaps of a fresh volume: what is free, and that nothing is wrong with them.
use Rattle.std.proofs.Common.{◌≡◌, ℕ, zero, suc, ◌+◌, ◌-◌, ◌*◌, ◌/◌, ◌%◌, ◌<◌, ◌≤◌, ◌⊎◌, min, max, Bool, true, false, not, cond, List, ◌∷◌, refl, ap, ◌∙◌, arith, inl, inr}
use Rattle.std.specs.Prelude.{count_by, None}
use Rattle.std.proofs.lemmas.Bool.{cases_lt, cases_eq}
use Rattle.std.proofs.lemmas.List.Sums.{sum_by-cons}
use Rattle.std.proofs.lemmas.Bool.Decides.{nat_tests}
use Rattle.r4_base.specs.Image.{Image, block_at}
use Rattle.r4_base.specs.Bitmap.{is_used, is_fixed, is_always_used, is_marked, bits_from, bits_of, bitmap_block, bitmap_count, bitmap_fault, free_below}
use Rattle.r4_base.specs.Fresh.{is_taken, fresh_free}
use Rattle.r4_base.proofs.Bitmaps.{without_fault, free_below-suc, free_below-zero}

-- a bit that is 0 from a to below e alone
pub record IsFreeIn (block : List ℕ) (a e : ℕ) : Type 0 where
  pub low : (j : ℕ) → j < a → j < 32736 → is_used block j ≡ true
  pub free : (j : ℕ) → a ≤ j → j < e → is_used block j ≡ false
  pub high : (j : ℕ) → e ≤ j → j < 32736 → is_used block j ≡ true

count_cons : (used : Bool) (bits : List Bool) → count_by not (used ∷ bits) ≡ cond (not used) 1 0 + count_by not bits
count_cons used bits = sum_by-cons (λ (x : Bool). cond (not x) 1 0) used bits

-- so many bits are 0 among n from i on
count_free : (n i a e : ℕ) (block : List ℕ) → IsFreeIn block a e → a ≤ e → e ≤ 32736 → i + n ≤ 32736 → count_by not (bits_from n i block) + max a i ≡ max (min e (i + n)) (max a i)
unfolding bits_from
count_free zero i a e block f le long within = omega arith
count_free (suc n) i a e block f le long within =
    let rest = count_free n (i + 1) a e block f le long (omega arith) in
    let head = count_cons (is_used block i) (bits_from n (i + 1) block) in
    elim (cases_lt i a) [
      | inl below ↦ let now = head ∙ ap (λ (u : Bool). cond (not u) 1 0 + count_by not (bits_from n (i + 1) block)) (f.low i below (omega arith)) in omega (arith, now, rest, below)
      | inr from ↦ elim (cases_lt i e) [
        | inl inside ↦ let now = head ∙ ap (λ (u : Bool). cond (not u) 1 0 + count_by not (bits_from n (i + 1) block)) (f.free i from inside) in omega (arith, now, rest, from, inside)
        | inr past ↦ let now = head ∙ ap (λ (u : Bool). cond (not u) 1 0 + count_by not (bits_from n (i + 1) block)) (f.high i past (omega arith)) in omega (arith, now, rest, from, past)
      ]
    ]

pub free_bits : (a e : ℕ) (block : List ℕ) → IsFreeIn block a e → a ≤ e → e ≤ 32736 → count_by not (bits_of block) + a ≡ e
unfolding bits_of
free_bits a e block f le long = let h = count_free 32736 0 a e block f le long (omega arith) in omega (arith, h)

-- ---- what is taken

pub taken_fixed : (n b : ℕ) → is_always_used n b ≡ true → is_taken n b ≡ true
taken_fixed n b e = rw e refl

pub taken_low : (n b : ℕ) → b < 24 → is_taken n b ≡ true
taken_low n b lt = grind (arith, nat_tests)

pub taken_past : (n b : ℕ) → n ≤ b → is_taken n b ≡ true
taken_past n b le = grind (arith, nat_tests)

pub taken_first : (n k : ℕ) → 0 < k → k * 32736 < n → is_taken n (k * 32736) ≡ true
taken_first n k some lt = let e : k * 32736 % 32736 ≡ 0 = omega arith in let pos : 0 < k * 32736 = omega arith in grind (arith, nat_tests, e, pos)

pub not_taken : (n b : ℕ) → 24 ≤ b → b < n → 0 < b % 32736 → is_taken n b ≡ false
not_taken n b from lt place = grind (arith, nat_tests)

-- ---- the bitmaps of an image that mark what is taken, and nothing else

module _ (n : ℕ) (image : Image) (low : 64 ≤ n) (bits : (k i : ℕ) → k < bitmap_count n → i < 32736 → is_used (block_at image (bitmap_block k)) i ≡ is_taken n (k * 32736 + i)) where
  first_bitmap : IsFreeIn (block_at image (bitmap_block 0)) 24 (min n 32736)
  first_bitmap = record {
    low = λ j lt within. bits 0 j (omega arith) within ∙ taken_low n (0 * 32736 + j) (omega arith);
    free = λ j from lt. bits 0 j (omega arith) (omega arith) ∙ not_taken n (0 * 32736 + j) (omega arith) (omega arith) (omega arith);
    high = λ j past within. bits 0 j (omega arith) within ∙ taken_past n (0 * 32736 + j) (omega arith);
  }

  later_bitmap : (k : ℕ) → 0 < k → k < bitmap_count n → IsFreeIn (block_at image (bitmap_block k)) 1 (min (n - k * 32736) 32736)
  later_bitmap k some lt = record {
    low = λ j first within. let e : k * 32736 + j ≡ k * 32736 = omega arith in bits k j lt within ∙ ap (is_taken n) e ∙ taken_first n k some (omega arith);
    free = λ j from inside. bits k j lt (omega arith) ∙ not_taken n (k * 32736 + j) (omega arith) (omega arith) (omega arith);
    high = λ j past within. bits k j lt within ∙ taken_past n (k * 32736 + j) (omega arith);
  }

  free_sum : (k : ℕ) → k < bitmap_count n → free_below (suc k) image + (24 + k) ≡ min n (32736 * suc k)
  free_sum zero lt =
      let here = free_bits 24 (min n 32736) (block_at image (bitmap_block 0)) first_bitmap (omega arith) (omega arith) in
      let step = free_below-suc 0 image in
      let none = free_below-zero image in
      omega (arith, here, step, none)
  free_sum (suc k) lt =
      let before = free_sum k (omega arith) in
      let here = free_bits 1 (min (n - suc k * 32736) 32736) (block_at image (bitmap_block (suc k))) (later_bitmap (suc k) (omega arith) lt) (omega arith) (omega arith) in
      let step = free_below-suc (suc k) image in
      omega (arith, before, here, step)

  free_all : (c : ℕ) → c ≡ bitmap_count n → free_below c image ≡ fresh_free n
  free_all zero is = absurd (omega (arith, is, low))
  free_all (suc k) is = let h = free_sum k (omega arith) in omega (arith, h, is)

  marks : (b : ℕ) → b < bitmap_count n * 32736 → is_marked image b ≡ is_taken n b
  marks b lt =
      let whole : b / 32736 * 32736 + b % 32736 ≡ b = omega arith in
      bits (b / 32736) (b % 32736) (omega arith) (omega arith) ∙ ap (is_taken n) whole

  pub fresh_marks : (b : ℕ) → b < n → is_marked image b ≡ is_taken n b
  fresh_marks b lt = marks b (omega arith)

  pub fresh_fault : bitmap_fault n (fresh_free n) image ≡ None
  fresh_fault = without_fault n (fresh_free n) image (record { marked = λ b lt always. marks b lt ∙ taken_fixed n b always }) (free_all (bitmap_count n) refl)

-- a taken block below the block count is fixed, or one of the two
pub taken_cases : (n b : ℕ) → b < n → is_taken n b ≡ true → is_fixed n b ≡ false → (b ≡ 22) ⊎ (b ≡ 23)
taken_cases n b lt taken free = elim (cases_eq b 22) [
  | inl is ↦ inl is
  | inr other ↦ elim (cases_eq b 23) [
    | inl is ↦ inr is
    | inr another ↦ absurd (grind (arith, nat_tests))
  ]
]
