-- Sets of blocks, kept as bitmaps: what one bit more changes.
use Rattle.std.proofs.Common.{◌≡◌, ◌≢◌, inl, inr, ℕ, zero, suc, ◌+◌, ◌/◌, ◌%◌, ◌<◌, Bool, true, false, List, [], ◌∷◌, length, get_or, get_or-set_other, get_or-set_same, length-set, refl, sym, ap, ◌∙◌, arith}
use Rattle.std.specs.Prelude.{Some, replicate, slice_get, slice_index_or, slice_set, ◌==◌, ◌||◌}
use Rattle.std.specs.Int.{bit_at}
use Rattle.std.proofs.lemmas.Bool.{cases_eq, eq-eqb}
use Rattle.std.proofs.lemmas.List.{get_or_default}
use Rattle.std.proofs.lemmas.Bool.Decides.{nat_tests}
use Rattle.std.proofs.lemmas.Nat.Bits.{bit_at-zero}
use Rattle.std.proofs.lemmas.Option.{same_Some}
use Rattle.r4_base.specs.Bitmap.{bitmap_count, bits_of, is_used}
use Rattle.r4_base.specs.Lending.{refilled}
use Rattle.r4_base.proofs.Bits.{get-bits_of, get_or-bits_of, length-bits_of}
use Rattle.r4_base.proofs.Lent.{refilled_is}
use Rattle.r4_space.specs.Bitmaps.{marks}
use Rattle.r4_check.specs.Blocks.{MarksOneMore}

pub element : (bitmaps : List (List ℕ)) (i : ℕ) (e : List ℕ) → i < length bitmaps → e ≡ slice_index_or bitmaps i e → e ≡ slice_index_or bitmaps i []
element bitmaps i e lt is = is ∙ get_or_default bitmaps i e [] lt

pub read_bit : (block other : List ℕ) (i : ℕ) (bit : Bool) → i < 32736 → slice_get (bits_of block) i ≡ Some bit → block ≡ other → bit ≡ is_used other i
read_bit block other i bit lt at is = sym (same_Some (is_used block i) bit (sym (get-bits_of i block lt) ∙ at)) ∙ ap (λ (b : List ℕ). is_used b i) is

one_used : (old new : List ℕ) (i k : ℕ) → i < 32736 → k < 32736 → bits_of new ≡ slice_set (bits_of old) i true → is_used new k ≡ (i == k || is_used old k)
one_used old new i k lt less e = elim (cases_eq i k) [
  | inl same ↦
      let long = length-bits_of old in
      let t : (i == k) ≡ true = eq-eqb i k same in
      sym (get_or-bits_of k false new less) ∙ ap (λ (b : List Bool). get_or b k false) e ∙ ap (λ (j : ℕ). get_or (slice_set (bits_of old) j true) k false) same
      ∙ get_or-set_same (bits_of old) k true false (omega (arith, less, long)) ∙ sym (ap (λ (b : Bool). b || is_used old k) t)
  | inr other ↦
      let t : (i == k) ≡ false = grind (arith, nat_tests) in
      sym (get_or-bits_of k false new less) ∙ ap (λ (b : List Bool). get_or b k false) e ∙ get_or-set_other (bits_of old) i k true false (λ is. other (sym is)) ∙ get_or-bits_of k false old less
      ∙ sym (ap (λ (b : Bool). b || is_used old k) t)
]

pub within : (blocks i : ℕ) → i < blocks → i / 32736 < bitmap_count blocks
within blocks i lt = omega arith

pub within_of : (blocks i n : ℕ) → i < blocks → n ≡ bitmap_count blocks → i / 32736 < n
within_of blocks i n lt is = let h = within blocks i lt in omega (arith, h, is)

same_block : (b i : ℕ) → b / 32736 ≡ i / 32736 → (b % 32736 == i % 32736) ≡ (b == i)
same_block b i q = elim (cases_eq b i) [
  | inl is ↦ eq-eqb (b % 32736) (i % 32736) (ap (λ (n : ℕ). n % 32736) is) ∙ sym (eq-eqb b i is)
  | inr other ↦
      let apart : b % 32736 ≢ i % 32736 = λ r. other (omega (arith, q, r)) in
      let a : (b % 32736 == i % 32736) ≡ false = grind (arith, nat_tests) in
      let c : (b == i) ≡ false = grind (arith, nat_tests) in
      a ∙ sym c
]

pub put_marks : (blocks b : ℕ) (bitmaps : List (List ℕ)) (e w : List ℕ) → b / 32736 < length bitmaps → bitmap_count blocks ≡ length bitmaps → e ≡ slice_index_or bitmaps (b / 32736) [] → length e ≡ 4096 → (x : List ℕ) → x ≡ e → bits_of w ≡ slice_set (bits_of x) (b % 32736) true → length w ≡ length x
    → MarksOneMore blocks b bitmaps (slice_set bitmaps (b / 32736) (refilled e w))
put_marks blocks b bitmaps e w lt size is whole x same bits long = record {
  size = length-set bitmaps (b / 32736) (refilled e w);
  each = λ i less. each i less;
}
  where
    now : refilled e w ≡ w
    now = refilled_is e w (long ∙ ap length same)

    each : (i : ℕ) → i < blocks → marks (slice_set bitmaps (b / 32736) (refilled e w)) i ≡ (b == i || marks bitmaps i)
    each i less = elim (cases_eq (b / 32736) (i / 32736)) [
      | inl q ↦
          let at : get_or (slice_set bitmaps (b / 32736) (refilled e w)) (i / 32736) [] ≡ w =
          ap (λ (j : ℕ). get_or (slice_set bitmaps (b / 32736) (refilled e w)) j []) (sym q) ∙ get_or-set_same bitmaps (b / 32736) (refilled e w) [] lt ∙ now in
          let old : x ≡ get_or bitmaps (i / 32736) [] = same ∙ is ∙ ap (λ (j : ℕ). get_or bitmaps j []) q in
          ap (λ (l : List ℕ). is_used l (i % 32736)) at ∙ one_used x w (b % 32736) (i % 32736) (omega arith) (omega arith) bits
          ∙ ap (λ (t : Bool). t || is_used x (i % 32736)) (same_block b i q) ∙ ap (λ (l : List ℕ). b == i || is_used l (i % 32736)) old
      | inr other ↦
          let apart : b ≢ i = λ same. other (ap (λ (n : ℕ). n / 32736) same) in
          let t : (b == i) ≡ false = grind (arith, nat_tests) in
          ap (λ (l : List ℕ). is_used l (i % 32736)) (get_or-set_other bitmaps (b / 32736) (i / 32736) (refilled e w) [] (λ is. other (sym is)))
          ∙ sym (ap (λ (u : Bool). u || marks bitmaps i) t)
    ]

-- ---- no block

no_bit : (x i : ℕ) → x ≡ 0 → (bit_at x i == 1) ≡ false
no_bit x i is = ap (λ (y : ℕ). bit_at y i == 1) is ∙ ap (λ (n : ℕ). n == 1) (bit_at-zero i)

zero_bits : (n i : ℕ) → is_used (replicate n 0) i ≡ false
unfolding is_used
zero_bits n i = no_bit (get_or (replicate n 0) (4 + i / 8) 0) (i % 8) (zero_at n (4 + i / 8))
  where
    zero_at : (n k : ℕ) → let z : ℕ = 0 in get_or (replicate n z) k z ≡ z
    zero_at zero k = refl
    zero_at (suc n) zero = refl
    zero_at (suc n) (suc k) = zero_at n k

pub none_marked : (blocks b : ℕ) (bitmaps : List (List ℕ)) → ((i : ℕ) → i < bitmap_count blocks → slice_index_or bitmaps i [] ≡ replicate 4096 0) → b < blocks → marks bitmaps b ≡ false
none_marked blocks b bitmaps zeros lt = ap (λ (l : List ℕ). is_used l (b % 32736)) (zeros (b / 32736) (within blocks b lt)) ∙ zero_bits 4096 (b % 32736)
