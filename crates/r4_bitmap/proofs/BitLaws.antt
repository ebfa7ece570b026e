-- One bit of a block is set or cleared.
use Rattle.std.proofs.Common.{◌≡◌, ◌≢◌, ℕ, ◌+◌, ◌-◌, ◌*◌, ◌/◌, ◌%◌, ◌^◌, ◌<◌, Bool, true, false, eqb, List, length, get_or, set, sym, ap, ◌∙◌, arith, inl, inr}
use Rattle.std.specs.Prelude.{bit_and, bit_or}
use Rattle.std.specs.Int.{w8, bit_at}
use mir.Val.{bits}
use Rattle.std.proofs.lemmas.Bool.{cases_eq}
use Rattle.std.proofs.lemmas.List.{same_lists, length-set, get_or-set_same, get_or-set_other}
use Rattle.std.proofs.lemmas.Nat.Bits.{bit_at_set_same, bit_at_set_other, bit_at_clear_same, bit_at_clear_other}
use Rattle.r4_base.specs.Bitmap.{is_used, bits_of}
use Rattle.r4_base.proofs.Bits.{length-bits_of, get_or-bits_of}

-- a byte is written that differs in one bit
pub one_bit : (b : List ℕ) (i x : ℕ) (v : Bool) → length b ≡ 4096 → i < 32736 → eqb (bit_at x (i % 8)) 1 ≡ v → ((k : ℕ) → k < 8 → k ≢ i % 8 → bit_at x k ≡ bit_at (get_or b (4 + i / 8) 0) k)
    → bits_of (set b (4 + i / 8) x) ≡ set (bits_of b) i v
unfolding is_used
one_bit b i x v whole lt here others =
    let n = length-bits_of b in
    let m = length-bits_of (set b (4 + i / 8) x) in
    let l = length-set (bits_of b) i v in
    let at : 4 + i / 8 < length b = omega arith in
    same_lists (bits_of (set b (4 + i / 8) x)) (set (bits_of b) i v) (omega arith) (λ k d h.
    let within : k < 32736 = omega arith in
    elim (cases_eq k i) [
      | inl is ↦ rw is (get_or-bits_of i d (set b (4 + i / 8) x) lt ∙ ap (λ (y : ℕ). eqb (bit_at y (i % 8)) 1) (get_or-set_same b (4 + i / 8) x 0 at) ∙ here ∙ sym (get_or-set_same (bits_of b) i v d (omega arith)))
      | inr other ↦
          let same : get_or (set (bits_of b) i v) k d ≡ eqb (bit_at (get_or b (4 + k / 8) 0) (k % 8)) 1 = get_or-set_other (bits_of b) i k v d other ∙ get_or-bits_of k d b within in
          let byte : bit_at (get_or (set b (4 + i / 8) x) (4 + k / 8) 0) (k % 8) ≡ bit_at (get_or b (4 + k / 8) 0) (k % 8) = elim (cases_eq (k / 8) (i / 8)) [
            | inl near ↦
                let ne : k % 8 ≢ i % 8 = λ e. other (omega arith) in
                let place : 4 + k / 8 ≡ 4 + i / 8 = omega arith in
                ap (λ (p : ℕ). bit_at (get_or (set b (4 + i / 8) x) p 0) (k % 8)) place ∙ ap (λ (y : ℕ). bit_at y (k % 8)) (get_or-set_same b (4 + i / 8) x 0 at) ∙ others (k % 8) (omega arith) ne ∙ ap (λ (p : ℕ). bit_at (get_or b p 0) (k % 8)) (sym place)
            | inr far ↦ ap (λ (y : ℕ). bit_at y (k % 8)) (get_or-set_other b (4 + i / 8) (4 + k / 8) x 0 (λ e. far (omega arith)))
          ] in
          get_or-bits_of k d (set b (4 + i / 8) x) within ∙ ap (λ (y : ℕ). eqb y 1) byte ∙ sym same
    ])

pub set_one : (b : List ℕ) (i : ℕ) → length b ≡ 4096 → i < 32736 → bits_of (set b (4 + i / 8) (bit_or (get_or b (4 + i / 8) 0) (1 * 2 ^ (i % 8) % 256))) ≡ set (bits_of b) i true
set_one b i whole lt =
    let n = get_or b (4 + i / 8) 0 in
    let within : i % 8 < bits w8 = omega arith in
    one_bit b i (bit_or n (1 * 2 ^ (i % 8) % 256)) true whole lt (ap (λ (y : ℕ). eqb y 1) (bit_at_set_same w8 n (i % 8) within)) (λ k h ne. bit_at_set_other w8 n (i % 8) within k ne)

pub clear_one : (b : List ℕ) (i : ℕ) → length b ≡ 4096 → i < 32736 → bits_of (set b (4 + i / 8) (bit_and (get_or b (4 + i / 8) 0) (255 - 1 * 2 ^ (i % 8) % 256))) ≡ set (bits_of b) i false
clear_one b i whole lt =
    let n = get_or b (4 + i / 8) 0 in
    let within : i % 8 < bits w8 = omega arith in
    one_bit b i (bit_and n (255 - 1 * 2 ^ (i % 8) % 256)) false whole lt (ap (λ (y : ℕ). eqb y 1) (bit_at_clear_same w8 n (i % 8) within)) (λ k h ne. bit_at_clear_other w8 n (i % 8) within k h ne)
