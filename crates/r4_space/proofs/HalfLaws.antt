-- The bits of a bitmap, 32 at a time.
use Rattle.std.proofs.Common.{◌≡◌, ◌⊎◌, ℕ, zero, suc, ◌+◌, ◌-◌, ◌*◌, ◌/◌, ◌%◌, ◌^◌, ◌<◌, ◌≤◌, Bool, true, false, not, ◌||◌, cond, eqb, List, [], ◌∷◌, ◌++◌, length, take, map, get_or, refl, sym, ap, ◌∙◌, arith, inl, inr}
use Rattle.std.specs.Prelude.{bit_or, nat_le, count_by, count_ones}
use Rattle.std.specs.Int.{bit_at}
use Rattle.std.proofs.lemmas.Bool.{cases_lt, le-leb, lt-leb}
use Rattle.std.specs.List.{range_with_len}
use Rattle.std.proofs.lemmas.List.{get_or_append_left, get_or_at, length-append, take-append-le, take-take, length-take-le}
use Rattle.std.proofs.lemmas.List.FromFn.{fill_by_all}
use Rattle.std.proofs.lemmas.Nat.{mod-pow-add, one_shl, pow_pos, mod_below}
use Rattle.std.proofs.lemmas.Nat.Bits.{bit_at-lt, bit_at-zero, bit_at_ones, bit_at_mask_inside, bit_at_mask_below, bit_at_cat_low, bit_at_cat_high}
use lib.Count.{ones_cat, ones-ones}
use Rattle.r4_base.specs.Bytes.{number_at, number_bytes, overwrite}
use Rattle.r4_base.specs.Bitmap.{is_used, bits_of}
use Rattle.r4_base.proofs.Numbers.{length-number_bytes, get_or-overwrite_below, number_at-overwrite}
use Rattle.r4_bitmap.proofs.WordLaws.{bit_at-number_at}
use Rattle.r4_space.specs.Bitmaps.{marks}
use Rattle.r4_space.specs.Words.{first_bits, is_set}
use Rattle.r4_space.proofs.TakenLaws.{get_or-first_bits, length-first_bits}
use Rattle.r4_space.proofs.WordLaws.{at_bit, or_bit}
use Rattle.r4_space.proofs.BitmapLaws.{count_more}

-- ---- ones from a bit on

pub no_ones : (from j : ℕ) → 32 ≤ from → j < 32 → eqb (bit_at 0 j) 1 ≡ nat_le from j
no_ones from j le lt = ap (λ (n : ℕ). eqb n 1) (bit_at-zero j) ∙ sym (lt-leb from j (omega arith))

pub some_ones : (from j : ℕ) → from < 32 → j < 32 → eqb (bit_at (4294967295 - (1 * 2 ^ from % 4294967296 - 1)) j) 1 ≡ nat_le from j
some_ones from j lt within =
    let one : 1 * 2 ^ from % 4294967296 ≡ 2 ^ from = one_shl from 32 lt in
    let mask : 4294967295 - (1 * 2 ^ from % 4294967296 - 1) ≡ 2 ^ 32 - 2 ^ from = omega (arith, one, pow_pos from) in
    ap (λ (n : ℕ). eqb (bit_at n j) 1) mask ∙ elim (cases_lt j from) [
      | inl below ↦ ap (λ (n : ℕ). eqb n 1) (bit_at_mask_below from 32 j below) ∙ sym (lt-leb from j (omega arith))
      | inr on ↦ ap (λ (n : ℕ). eqb n 1) (bit_at_mask_inside from 32 j on within) ∙ sym (le-leb from j on)
    ]

-- ---- which of 32 blocks are kept

or_true : (a : Bool) → (a || true) ≡ true
or_true true = refl
or_true false = refl

or_false : (a : Bool) → (a || false) ≡ a
or_false true = refl
or_false false = refl

pub all_past : (n h j : ℕ) (rest : Bool) → n ≤ 32 * h → j < 32 → eqb (bit_at 4294967295 j) 1 ≡ (nat_le n (32 * h + j) || rest)
all_past n h j rest le lt = ap (λ (b : ℕ). eqb b 1) (bit_at_ones 32 j lt) ∙ sym (rw (le-leb n (32 * h + j) (omega arith)) refl)

pub kept_bits : (n h j a b c : ℕ) (marked placed : List Bool) → j < 32 → (32 * h + j < n → eqb (bit_at a j) 1 ≡ get_or marked (32 * h + j) false) → (32 * h + j < n → eqb (bit_at b j) 1 ≡ get_or placed (32 * h + j) false)
    → eqb (bit_at c j) 1 ≡ nat_le (n - 32 * h) j → eqb (bit_at (bit_or (bit_or a b) c) j) 1 ≡ (nat_le n (32 * h + j) || (get_or marked (32 * h + j) false || get_or placed (32 * h + j) false))
kept_bits n h j a b c marked placed lt one two past =
    or_bit (bit_or a b) c j ∙ ap (λ (x : Bool). x || eqb (bit_at c j) 1) (or_bit a b j) ∙ elim (cases_lt (32 * h + j) n) [
      | inl within ↦
          let none : nat_le (n - 32 * h) j ≡ false = lt-leb (n - 32 * h) j (omega arith) in
          let none_too : nat_le n (32 * h + j) ≡ false = lt-leb n (32 * h + j) (omega arith) in
          rw (past, none, none_too, one within, two within) (or_false (get_or marked (32 * h + j) false || get_or placed (32 * h + j) false))
      | inr over ↦
          let some : nat_le (n - 32 * h) j ≡ true = le-leb (n - 32 * h) j (omega arith) in
          let some_too : nat_le n (32 * h + j) ≡ true = le-leb n (32 * h + j) (omega arith) in
          rw (past, some, some_too) (or_true (eqb (bit_at a j) 1 || eqb (bit_at b j) 1))
    ]

-- ---- 32 bits are written

module _ (block new : List ℕ) (j : ℕ) where
  pub half_before : (i v : ℕ) → length block ≡ 4096 → j < 1023 → new ≡ overwrite (4 + 4 * j) (number_bytes 4 v) block → i < 32 * j → is_used new i ≡ is_used block i
  unfolding is_used
  half_before i v long lt is early =
      let size = length-number_bytes 4 v in
      ap (λ (xs : List ℕ). eqb (bit_at (get_or xs (4 + i / 8) 0) (i % 8)) 1) is ∙ ap (λ (y : ℕ). eqb (bit_at y (i % 8)) 1) (get_or-overwrite_below (4 + 4 * j) (number_bytes 4 v) block (4 + i / 8) 0 (omega arith) (omega arith))

  pub half_put : (i v : ℕ) → length block ≡ 4096 → j < 1023 → v < 2 ^ 32 → new ≡ overwrite (4 + 4 * j) (number_bytes 4 v) block → i / 32 ≡ j → is_used new i ≡ eqb (bit_at v (i % 32)) 1
  unfolding is_used
  half_put i v long lt small is at =
      let byte : 4 + 4 * j + i % 32 / 8 ≡ 4 + i / 8 = omega arith in
      let place : i % 32 % 8 ≡ i % 8 = omega arith in
      let number : number_at 4 (4 + 4 * j) new ≡ v = ap (number_at 4 (4 + 4 * j)) is ∙ number_at-overwrite 4 (4 + 4 * j) v block (omega arith) (omega arith) in
      let bit : bit_at v (i % 32) ≡ bit_at (get_or new (4 + i / 8) 0) (i % 8) =
      ap (λ (n : ℕ). bit_at n (i % 32)) (sym number) ∙ bit_at-number_at 4 (4 + 4 * j) (i % 32) new (omega arith) ∙ ap (λ (k : ℕ). bit_at (get_or new k 0) (i % 32 % 8)) byte ∙ ap (bit_at (get_or new (4 + i / 8) 0)) place in
      ap (λ (n : ℕ). eqb n 1) (sym bit)

  pub half_front : (v : ℕ) → length block ≡ 4096 → j < 1023 → new ≡ overwrite (4 + 4 * j) (number_bytes 4 v) block → take 4 new ≡ take 4 block
  unfolding overwrite
  half_front v long lt is =
      let size : length (take (4 + 4 * j) block) ≡ 4 + 4 * j = length-take-le (4 + 4 * j) block (omega arith) in
      ap (take 4) is ∙ take-append-le 4 (take (4 + 4 * j) block) _ (omega arith) ∙ take-take 4 (4 + 4 * j) block (omega arith)

-- ---- the zeros of 32 bits are counted

bit_count : (b : ℕ) → b < 2 → count_ones b ≡ b
bit_count zero lt = ones-ones 0
bit_count (suc zero) lt = ones-ones 1
bit_count (suc (suc b)) lt = absurd (omega arith)

ones_more : (x k : ℕ) → count_ones (x % 2 ^ (1 + k)) ≡ bit_at x k + count_ones (x % 2 ^ k)
ones_more x k =
    let split : x % 2 ^ (1 + k) ≡ bit_at x k * 2 ^ k + x % 2 ^ k = mod-pow-add x 1 k in
    ap (λ (n : ℕ). count_ones n) split ∙ ones_cat k (bit_at x k) (x % 2 ^ k) (mod_below x (2 ^ k) (pow_pos k)) ∙ ap (λ (n : ℕ). n + count_ones (x % 2 ^ k)) (bit_count (bit_at x k) (bit_at-lt x k))

zero_or_one : (b c m : ℕ) → b < 2 → m ≡ c + cond (not (eqb b 1)) 1 0 → m + b ≡ c + 1
zero_or_one zero c m lt is = omega (arith, is)
zero_or_one (suc zero) c m lt is = omega (arith, is)
zero_or_one (suc (suc b)) c m lt is = absurd (omega arith)

below_next : (k : ℕ) → k < suc k
below_next k = omega arith

count_run : (k i x : ℕ) (block : List ℕ) → i + k ≤ 32736 → ((t : ℕ) → t < k → is_used block (i + t) ≡ eqb (bit_at x t) 1)
    → count_by not (take (i + k) (bits_of block)) + count_ones (x % 2 ^ k) ≡ count_by not (take i (bits_of block)) + k
count_run zero i x block le each =
    let at : i + 0 ≡ i = omega arith in
    let one : x % 2 ^ 0 ≡ 2 ^ 0 - 1 = omega arith in
    let none : count_ones (x % 2 ^ 0) ≡ 0 = ap (λ (n : ℕ). count_ones n) one ∙ ones-ones 0 in
    rw at (omega (arith, none))
count_run (suc k) i x block le each =
    let ih = count_run k i x block (omega arith) (λ t lt. each t (omega arith)) in
    let more = count_more (i + k) block (omega arith) in
    let here : is_used block (i + k) ≡ eqb (bit_at x k) 1 = each k (below_next k) in
    let bit : cond (not (is_used block (i + k))) 1 0 ≡ cond (not (eqb (bit_at x k) 1)) 1 0 = ap (λ (u : Bool). cond {A = ℕ} (not u) 1 0) here in
    let ones : count_ones (x % 2 ^ (1 + k)) ≡ bit_at x k + count_ones (x % 2 ^ k) = ones_more x k in
    let next : i + suc k ≡ i + k + 1 = omega arith in
    let same : suc k ≡ 1 + k = omega arith in
    let step = zero_or_one (bit_at x k) (count_by not (take (i + k) (bits_of block))) (count_by not (take (i + k + 1) (bits_of block))) (bit_at-lt x k) (more ∙ ap (λ (m : ℕ). count_by not (take (i + k) (bits_of block)) + m) bit) in
    rw (next, same) (omega (arith, ih, ones, step))

pub used_bit : (j t x : ℕ) (block : List ℕ) → t < 32 → x ≡ number_at 4 (4 + 4 * j) block → is_used block (32 * j + t) ≡ eqb (bit_at x t) 1
unfolding is_used
used_bit j t x block below is =
    let byte : 4 + 4 * j + t / 8 ≡ 4 + (32 * j + t) / 8 = omega arith in
    let place : t % 8 ≡ (32 * j + t) % 8 = omega arith in
    ap (λ (n : ℕ). eqb n 1) (sym (ap (λ (n : ℕ). bit_at n t) is ∙ bit_at-number_at 4 (4 + 4 * j) t block (omega arith) ∙ ap (λ (k : ℕ). bit_at (get_or block k 0) (t % 8)) byte ∙ ap (bit_at (get_or block (4 + (32 * j + t) / 8) 0)) place))

pub count_half : (j x : ℕ) (block : List ℕ) → j < 1023 → x < 2 ^ 32 → x ≡ number_at 4 (4 + 4 * j) block
    → count_by not (take (32 * (j + 1)) (bits_of block)) + count_ones x ≡ count_by not (take (32 * j) (bits_of block)) + 32
count_half j x block lt small is =
    let whole : x % 2 ^ 32 ≡ x = omega arith in
    let run = count_run 32 (32 * j) x block (omega arith) (λ t below. used_bit j t x block below is) in
    let next : 32 * (j + 1) ≡ 32 * j + 32 = omega arith in
    rw next (ap (λ (n : ℕ). count_by not (take (32 * j + 32) (bits_of block)) + count_ones n) (sym whole) ∙ run)

-- ---- 32 bits that are 1

pub all_used : (j k x : ℕ) (block : List ℕ) → x ≡ number_at 4 (4 + 4 * j) block → x ≡ 4294967295 → 32 * j ≤ k
    → k < 32 * j + 32 → is_used block k ≡ true
all_used j k x block is ones from to =
    let at : 32 * j + (k - 32 * j) ≡ k = omega (arith, from) in
    let within : k - 32 * j < 32 = omega (arith, from, to) in
    let bit : bit_at x (k - 32 * j) ≡ 1 = ap (λ (n : ℕ). bit_at n (k - 32 * j)) ones ∙ bit_at_ones 32 (k - 32 * j) within in
    ap (is_used block) (sym at) ∙ used_bit j (k - 32 * j) x block within is ∙ ap (λ (n : ℕ). eqb n 1) bit

pub marks_half : (bitmaps : List (List ℕ)) (h j x : ℕ) (block : List ℕ) → get_or bitmaps (h / 1023) [] ≡ block → j < 32
    → x ≡ number_at 4 (4 + 4 * (h % 1023)) block → eqb (bit_at x j) 1 ≡ marks bitmaps (32 * h + j)
marks_half bitmaps h j x block at lt is =
    let q : (32 * h + j) / 32736 ≡ h / 1023 = omega (arith, lt) in
    let r : (32 * h + j) % 32736 ≡ 32 * (h % 1023) + j = omega (arith, lt) in
    sym (used_bit (h % 1023) j x block lt is) ∙ ap (λ (b : List ℕ). is_used b (32 * (h % 1023) + j)) (sym at)
    ∙ ap (λ (n : ℕ). is_used (get_or bitmaps n []) (32 * (h % 1023) + j)) (sym q)
    ∙ ap (is_used (get_or bitmaps ((32 * h + j) / 32736) [])) (sym r)

-- ---- words of two times 32 bits

-- one word more, of the halves behind those that stand
module _ (words : List ℕ) (low high : ℕ) (small : low < 2 ^ 32) (w : ℕ) (size : length words ≡ w) where
  abbrev word : ℕ
  word = high * 4294967296 + low

  pub word_before : (k : ℕ) → k < 64 * w → is_set (words ++ word ∷ []) k ≡ is_set words k
  unfolding is_set
  word_before k lt =
      ap (λ (x : ℕ). eqb (bit_at x (k % 64)) 1) (get_or_append_left words (word ∷ []) 0 (k / 64) (omega (arith, lt, size)))

  last : get_or (words ++ word ∷ []) w 0 ≡ word
  last = get_or_at words word [] 0 w size

  pub word_low : (j : ℕ) → j < 32 → is_set (words ++ word ∷ []) (64 * w + j) ≡ eqb (bit_at low j) 1
  word_low j lt =
      at_bit (words ++ word ∷ []) w j (64 * w + j) (omega (arith, lt)) refl
      ∙ ap (λ (x : ℕ). eqb (bit_at x j) 1) last ∙ ap (λ (b : ℕ). eqb b 1) (bit_at_cat_low high 32 low j lt)

  pub word_high : (j : ℕ) → j < 32 → is_set (words ++ word ∷ []) (64 * w + (32 + j)) ≡ eqb (bit_at high j) 1
  word_high j lt =
      let back : 32 + j - 32 ≡ j = omega arith in
      at_bit (words ++ word ∷ []) w (32 + j) (64 * w + (32 + j)) (omega (arith, lt)) refl
      ∙ ap (λ (x : ℕ). eqb (bit_at x (32 + j)) 1) last
      ∙ ap (λ (b : ℕ). eqb b 1) (bit_at_cat_high high 32 low (32 + j) small (omega arith) ∙ ap (bit_at high) back)

-- ---- what bitmaps mark, in words

-- The first words tell what bitmaps mark.
pub record AreRead (bitmaps : List (List ℕ)) (words : List ℕ) (w : ℕ) : Type 0 where
  pub size : length words ≡ w
  pub done : (k : ℕ) → k < 64 * w → k < 32736 * length bitmaps → is_set words k ≡ marks bitmaps k

pub none_read : (bitmaps : List (List ℕ)) (words : List ℕ) → words ≡ [] → AreRead bitmaps words 0
none_read bitmaps words none = record { size = ap (length {A = ℕ}) none; done = λ k lt within. absurd (omega (arith, lt)) }

pub read_more : (bitmaps : List (List ℕ)) (words new : List ℕ) (w low high : ℕ) → AreRead bitmaps words w → low < 2 ^ 32
    → new ≡ words ++ (high * 4294967296 + low) ∷ []
    → ((j : ℕ) → j < 32 → 32 * (2 * w) + j < 32736 * length bitmaps → eqb (bit_at low j) 1 ≡ marks bitmaps (32 * (2 * w) + j))
    → ((j : ℕ) → j < 32 → 32 * (2 * w + 1) + j < 32736 * length bitmaps
    → eqb (bit_at high j) 1 ≡ marks bitmaps (32 * (2 * w + 1) + j)) → AreRead bitmaps new (w + 1)
read_more bitmaps words new w low high are small is one two = record {
  size = let long = length-append words ((high * 4294967296 + low) ∷ []) in omega (arith, ap (length {A = ℕ}) is, long, are.size);
  done = λ k lt within. ap (λ (xs : List ℕ). is_set xs k) is ∙ by k lt within (cases_lt k (64 * w)) (cases_lt k (64 * w + 32));
}
  where
    by : (k : ℕ) → k < 64 * (w + 1) → k < 32736 * length bitmaps → (k < 64 * w) ⊎ (64 * w ≤ k)
        → (k < 64 * w + 32) ⊎ (64 * w + 32 ≤ k) → is_set (words ++ (high * 4294967296 + low) ∷ []) k ≡ marks bitmaps k
    by k lt within (inl old) _ = word_before words low high small w are.size k old ∙ are.done k old within
    by k lt within (inr new) (inl first) =
        let at : 64 * w + (k - 64 * w) ≡ k = omega (arith, new) in
        let from : 32 * (2 * w) + (k - 64 * w) ≡ k = omega (arith, new) in
        let j_lt : k - 64 * w < 32 = omega (arith, new, first) in
        ap (is_set (words ++ (high * 4294967296 + low) ∷ [])) (sym at) ∙ word_low words low high small w are.size (k - 64 * w) j_lt
        ∙ one (k - 64 * w) j_lt (omega (arith, from, within)) ∙ ap (marks bitmaps) from
    by k lt within (inr new) (inr second) =
        let at : 64 * w + (32 + (k - (64 * w + 32))) ≡ k = omega (arith, second) in
        let from : 32 * (2 * w + 1) + (k - (64 * w + 32)) ≡ k = omega (arith, second) in
        let j_lt : k - (64 * w + 32) < 32 = omega (arith, second, lt) in
        ap (is_set (words ++ (high * 4294967296 + low) ∷ [])) (sym at)
        ∙ word_high words low high small w are.size (k - (64 * w + 32)) j_lt
        ∙ two (k - (64 * w + 32)) j_lt (omega (arith, from, within)) ∙ ap (marks bitmaps) from

pub read_all : (bitmaps : List (List ℕ)) (words : List ℕ) (w blocks : ℕ) → AreRead bitmaps words w → blocks ≤ 64 * w
    → blocks ≤ 32736 * length bitmaps → first_bits blocks words ≡ map (marks bitmaps) (range_with_len 0 blocks)
read_all bitmaps words w blocks are covers within =
    fill_by_all (marks bitmaps) (first_bits blocks words) blocks false (length-first_bits blocks words)
    (λ k lt. get_or-first_bits blocks k false words lt ∙ are.done k (omega (arith, lt, covers)) (omega (arith, lt, within)))
