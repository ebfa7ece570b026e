-- One bit of a bitmap made 1, and many.
use Rattle.std.proofs.Common.{◌≡◌, ◌≢◌, ◌⊎◌, inl, inr, ⊎_elim, ℕ, zero, suc, ◌+◌, ◌-◌, ◌*◌, ◌/◌, ◌%◌, ◌<◌, ◌≤◌, min, Bool, true, false, List, slice_set, get_or, get_or-set_same, get_or-set_other, refl, sym, ap, ◌∙◌, arith}
use Rattle.std.proofs.lemmas.Bool.{cases_eq, cases_lt}
use Rattle.std.proofs.lemmas.Bool.Decides.{nat_tests}
use Rattle.r4_base.specs.Bitmap.{bits_of, is_used}
use Rattle.std.proofs.lemmas.Nat.Bits.{bit_at-zero}
use Rattle.std.specs.Int.{bit_at}
use Rattle.std.specs.Prelude.{replicate, ◌==◌, if◌then◌else◌}
use Rattle.std.proofs.lemmas.List.{get_or-replicate}
use Rattle.r4_base.specs.Image.{IsLawful}
use Rattle.r4_base.specs.Bitmap.{bitmap_count}
use Rattle.r4_base.specs.Fresh.{is_taken}
use Rattle.r4_base.proofs.FreshBits.{taken_first, taken_low, taken_past, not_taken}
use Rattle.r4_base.proofs.Bits.{length-bits_of, get_or-bits_of}

pub is_set : (old new : List ℕ) (i : ℕ) → i < 32736 → bits_of new ≡ slice_set (bits_of old) i true → is_used new i ≡ true
is_set old new i lt e = let long = length-bits_of old in sym (get_or-bits_of i false new lt) ∙ ap (λ (b : List Bool). get_or b i false) e ∙ get_or-set_same (bits_of old) i true false (omega (arith, lt, long))

pub is_kept : (old new : List ℕ) (i k : ℕ) → k < 32736 → k ≢ i → bits_of new ≡ slice_set (bits_of old) i true → is_used new k ≡ is_used old k
is_kept old new i k lt other e = sym (get_or-bits_of k false new lt) ∙ ap (λ (b : List Bool). get_or b k false) e ∙ get_or-set_other (bits_of old) i k true false other ∙ get_or-bits_of k false old lt

-- the bits from one place up to another are 1, and the others are what they were
pub record IsMarked (from to : ℕ) (old new : List ℕ) : Type 0 where
  pub inside : (k : ℕ) → from ≤ k → k < to → k < 32736 → is_used new k ≡ true
  pub outside : (k : ℕ) → k < 32736 → (k < from) ⊎ (to ≤ k) → is_used new k ≡ is_used old k

pub none_marked : (from : ℕ) (old : List ℕ) → IsMarked from from old old
none_marked from old = record { inside = λ k a b lt. absurd (omega (arith, a, b)); outside = λ k lt out. refl }

pub one_more : (from to : ℕ) (old now new : List ℕ) → from ≤ to → to < 32736 → IsMarked from to old now → bits_of new ≡ slice_set (bits_of now) to true → IsMarked from (to + 1) old new
one_more from to old now new le within m e = record {
  inside = λ k a b lt. elim (cases_eq k to) [
    | inl is ↦ ap (is_used new) is ∙ is_set now new to within e
    | inr other ↦ is_kept now new to k lt other e ∙ m.inside k a (omega (arith, b, other)) lt
  ];
  outside = λ k lt out. ⊎_elim
      (λ below. is_kept now new to k lt (λ is. omega (arith, is, below, le)) e ∙ m.outside k lt (inl below))
      (λ past. is_kept now new to k lt (λ is. omega (arith, is, past)) e ∙ m.outside k lt (inr (omega (arith, past)))) out;
}

-- no bit of a block of zeros is 1
pub none_used : (i : ℕ) → i < 32736 → is_used (replicate 4096 0) i ≡ false
unfolding is_used
none_used i lt = let zero_byte : get_or (replicate 4096 0) (4 + i / 8) 0 ≡ 0 = get_or-replicate 4096 (4 + i / 8) 0 0 (omega (arith, lt)) in ap (λ (b : ℕ). bit_at b (i % 8) == 1) zero_byte ∙ ap (λ (x : ℕ). x == 1) (bit_at-zero (i % 8))

one_of : (n : ℕ) → ◌≡◌ {A = ℕ} (if suc n == 0 then 24 else 1) 1
one_of n = grind (arith, nat_tests)

-- the bits below the first free one and those past the volume's end are the ones that a fresh volume takes
pub marks_taken : (blocks n i first last : ℕ) (b c d : List ℕ) → IsLawful blocks → n < bitmap_count blocks → i < 32736 → first ≡ (if n == 0 then 24 else 1) → last ≡ min 32736 (blocks - n * 32736) → b ≡ replicate 4096 0
    → ((k : ℕ) → 0 ≤ k → k < first → is_used c k ≡ true) → ((k : ℕ) → k < 32736 → (k < 0) ⊎ (first ≤ k) → is_used c k ≡ is_used b k)
    → ((k : ℕ) → last ≤ k → k < 32736 → is_used d k ≡ true) → ((k : ℕ) → k < 32736 → (k < last) ⊎ (32736 ≤ k) → is_used d k ≡ is_used c k)
    → is_used d i ≡ is_taken blocks (n * 32736 + i)
marks_taken blocks n i first last b c d lawful within lt is ends zeros low rest high kept = elim (cases_lt i last) [
  | inr past ↦ high i past lt ∙ sym (taken_past blocks (n * 32736 + i) (omega (arith, past, lt, ends)))
  | inl inside ↦ kept i lt (inl inside) ∙ elim (cases_lt i first) [
    | inl below ↦ low i (omega arith) below ∙ sym (taken_below n first i within (omega (arith, inside, ends)) is below)
    | inr from ↦ rest i lt (inr from) ∙ ap (λ (x : List ℕ). is_used x i) zeros ∙ none_used i lt ∙ sym (free_from n first i is from (omega (arith, inside, ends)))
  ]
]
  where
    taken_below : (n first i : ℕ) → n < bitmap_count blocks → i < min 32736 (blocks - n * 32736) → first ≡ (if n == 0 then 24 else 1) → i < first → is_taken blocks (n * 32736 + i) ≡ true
    taken_below zero first i within inside is below = taken_low blocks (0 * 32736 + i) (omega (arith, is, below))
    taken_below (suc n) first i within inside is below = let one : first ≡ 1 = is ∙ one_of n in let e : suc n * 32736 + i ≡ suc n * 32736 = omega (arith, one, below) in ap (is_taken blocks) e ∙ taken_first blocks (suc n) (omega arith) (omega (arith, within))

    free_from : (n first i : ℕ) → first ≡ (if n == 0 then 24 else 1) → first ≤ i → i < min 32736 (blocks - n * 32736) → is_taken blocks (n * 32736 + i) ≡ false
    free_from zero first i is from inside = not_taken blocks (0 * 32736 + i) (omega (arith, is, from)) (omega (arith, inside)) (omega (arith, is, from, inside))
    free_from (suc n) first i is from inside = let one : first ≡ 1 = is ∙ one_of n in not_taken blocks (suc n * 32736 + i) (omega (arith, one, from)) (omega (arith, inside)) (omega (arith, one, from, inside))
