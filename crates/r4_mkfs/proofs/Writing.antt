-- What the writes of a fresh volume leave.
use Rattle.std.proofs.Common.{◌≡◌, ◌≢◌, inl, inr, ℕ, zero, suc, ◌+◌, ◌*◌, ◌<◌, ◌≤◌, false, List, length, take, replicate, slice_set, refl, sym, ap, subst, ◌∙◌, arith}
use Rattle.std.specs.Prelude.{◌==◌, Result, Ok, Err, OnOk}
use Rattle.std.proofs.lemmas.Bool.{cases_eq}
use Rattle.std.proofs.lemmas.Bool.Decides.{nat_tests}
use Rattle.std.proofs.lemmas.List.{length-set}
use Rattle.r4_base.specs.Image.{AgreesOutside, Image, IsImage, IsLawful, block_at}
use Rattle.r4_base.specs.Bitmap.{bitmap_block, bitmap_count, is_used}
use Rattle.r4_base.specs.Layout.{super_block}
use Rattle.r4_base.specs.Bytes.{number_bytes}
use Rattle.r4_base.specs.Stat.{stat_body}
use Rattle.r4_base.specs.Volume.{root_attr}
use Rattle.r4_base.specs.Fresh.{IsFreshNode, IsFreshBut16, fresh_super, is_taken}
use Rattle.r4_outside.specs.Device.{State, TellsReads}
use Rattle.r4_outside.proofs.Images.{read_written, read_other}
use Rattle.r4_mkfs.specs.Mkfs.{HasBitmaps, IsRest, with_zeros}

-- ---- where bitmaps stand

pub later : (n : ℕ) → 0 < n → bitmap_block n ≡ n * 32736
later n some = let other : n ≢ 0 = (λ e. omega (arith, e, some)) in let test : (n == 0) ≡ false = grind (arith, nat_tests, other) in rw test refl

pub first : bitmap_block 0 ≡ 18
first = refl

pub block_below : (blocks n : ℕ) → IsLawful blocks → n < bitmap_count blocks → bitmap_block n < blocks
block_below blocks zero lawful lt = omega (arith, lawful.0)
block_below blocks (suc n) lawful lt = let e = later (suc n) (omega arith) in omega (arith, e, lt)

pub not_16 : (n : ℕ) → bitmap_block n ≢ 16
not_16 zero e = omega (arith, e)
not_16 (suc n) e = let is = later (suc n) (omega arith) in omega (arith, e, is)

pub apart : (j k : ℕ) → j < k → bitmap_block j ≢ bitmap_block k
apart zero k lt e = let is = later k lt in omega (arith, e, is, lt)
apart (suc j) k lt e = let is = later k (omega (arith, lt)) in let was = later (suc j) (omega arith) in omega (arith, e, is, was, lt)

-- a block from 19 to 23, or 17, holds no bitmap
pub no_bitmap : (k b : ℕ) → b < 32736 → b ≢ 18 → bitmap_block k ≢ b
no_bitmap zero b lt other e = other (sym e)
no_bitmap (suc k) b lt other e = let is = later (suc k) (omega arith) in omega (arith, e, is, lt)

-- ---- one bitmap more

pub no_bitmaps : (n : ℕ) (image : Image) → HasBitmaps n 0 image
no_bitmaps n image = record { bits = λ k i lt. absurd (omega (arith, lt)); fronts = λ k lt. absurd (omega (arith, lt)) }

pub one_bitmap : (n k : ℕ) (old new : Image) (block : List ℕ) → bitmap_block k < length old → new ≡ slice_set old (bitmap_block k) block → ((i : ℕ) → i < 32736 → is_used block i ≡ is_taken n (k * 32736 + i)) → take 4 block ≡ replicate 4 0
    → HasBitmaps n k old → HasBitmaps n (k + 1) new
one_bitmap n k old new block lt is bits front h = record {
  bits = λ j i before within. elim (cases_eq j k) [
    | inl e ↦ ap (λ (x : List ℕ). is_used x i) (ap (λ (l : ℕ). block_at new (bitmap_block l)) e ∙ here) ∙ bits i within ∙ ap (λ (l : ℕ). is_taken n (l * 32736 + i)) (sym e)
    | inr other ↦ ap (λ (x : List ℕ). is_used x i) (there j (omega (arith, before, other))) ∙ h.bits j i (omega (arith, before, other)) within
  ];
  fronts = λ j before. elim (cases_eq j k) [
    | inl e ↦ ap (take 4) (ap (λ (l : ℕ). block_at new (bitmap_block l)) e ∙ here) ∙ front
    | inr other ↦ ap (take 4) (there j (omega (arith, before, other))) ∙ h.fronts j (omega (arith, before, other))
  ];
}
  where
    here : block_at new (bitmap_block k) ≡ block
    here = ap (λ (i : Image). block_at i (bitmap_block k)) is ∙ read_written old (bitmap_block k) block lt

    there : (j : ℕ) → j < k → block_at new (bitmap_block j) ≡ block_at old (bitmap_block j)
    there j before = ap (λ (i : Image). block_at i (bitmap_block j)) is ∙ read_other old (bitmap_block k) (bitmap_block j) block (apart j k before)

-- what no bitmap holds may be written
pub kept_bitmaps : (n k at : ℕ) (old new : Image) (block : List ℕ) → new ≡ slice_set old at block → at < 32736 → at ≢ 18 → HasBitmaps n k old → HasBitmaps n k new
kept_bitmaps n k at old new block is low other h = record {
  bits = λ j i before within. ap (λ (x : List ℕ). is_used x i) (there j) ∙ h.bits j i before within;
  fronts = λ j before. ap (take 4) (there j) ∙ h.fronts j before;
}
  where
    there : (j : ℕ) → block_at new (bitmap_block j) ≡ block_at old (bitmap_block j)
    there j = ap (λ (i : Image). block_at i (bitmap_block j)) is ∙ read_other old at (bitmap_block j) block (no_bitmap j at low other)

pub one_more_written : (n k at : ℕ) (old new : State) (block : List ℕ) → TellsReads old → bitmap_block k < old.blocks → at ≡ bitmap_block k → new.seen ≡ slice_set old.seen at block
    → ((i : ℕ) → i < 32736 → is_used block i ≡ is_taken n (k * 32736 + i)) → take 4 block ≡ replicate 4 0 → HasBitmaps n k old.seen → HasBitmaps n (k + 1) new.seen
one_more_written n k at old new block tells lt is seen bits front h =
    let long = tells.blocks in
    one_bitmap n k old.seen new.seen block (omega (arith, lt, long)) (seen ∙ ap (λ (a : ℕ). slice_set old.seen a block) is) bits front h

-- ---- the other blocks

module _ (n : ℕ) (i1 i5 : Image) (twig leaf : List ℕ) (whole : IsImage n i1) (more : 23 < n) (whole5 : IsImage n i5) (is : i5 ≡ slice_set (slice_set (with_zeros (slice_set i1 17 (super_block (fresh_super n)))) 22 twig) 23 leaf) where
  super : List ℕ
  super = super_block (fresh_super n)

  zeros : List ℕ
  zeros = replicate 4096 0

  i2 : Image
  i2 = slice_set i1 17 super

  a : Image
  a = slice_set i2 19 zeros

  b : Image
  b = slice_set a 20 zeros

  i3 : Image
  i3 = slice_set b 21 zeros

  i4 : Image
  i4 = slice_set i3 22 twig

  last : i5 ≡ slice_set i4 23 leaf
  unfolding i4 i3 b a i2 zeros super
  last = is

  long2 : length i2 ≡ n
  unfolding i2
  long2 = length-set i1 17 super ∙ whole.blocks

  long_a : length a ≡ n
  unfolding a
  long_a = length-set i2 19 zeros ∙ long2

  long_b : length b ≡ n
  unfolding b
  long_b = length-set a 20 zeros ∙ long_a

  long3 : length i3 ≡ n
  unfolding i3
  long3 = length-set b 21 zeros ∙ long_b

  long4 : length i4 ≡ n
  unfolding i4
  long4 = length-set i3 22 twig ∙ long3

  at5 : (k : ℕ) → k ≢ 23 → block_at i5 k ≡ block_at i4 k
  at5 k other = ap (λ (i : Image). block_at i k) last ∙ read_other i4 23 k leaf other

  at4 : (k : ℕ) → k ≢ 23 → k ≢ 22 → block_at i5 k ≡ block_at i3 k
  unfolding i4
  at4 k p q = at5 k p ∙ read_other i3 22 k twig q

  at_21 : block_at i5 21 ≡ zeros
  unfolding i3
  at_21 = at4 21 (λ e. omega (arith, e)) (λ e. omega (arith, e)) ∙ read_written b 21 zeros (let l = long_b in omega (arith, l, more))

  at3 : (k : ℕ) → k ≢ 23 → k ≢ 22 → k ≢ 21 → block_at i5 k ≡ block_at b k
  unfolding i3
  at3 k p q r = at4 k p q ∙ read_other b 21 k zeros r

  at_20 : block_at i5 20 ≡ zeros
  unfolding b
  at_20 = at3 20 (λ e. omega (arith, e)) (λ e. omega (arith, e)) (λ e. omega (arith, e)) ∙ read_written a 20 zeros (let l = long_a in omega (arith, l, more))

  at_b : (k : ℕ) → k ≢ 23 → k ≢ 22 → k ≢ 21 → k ≢ 20 → block_at i5 k ≡ block_at a k
  unfolding b
  at_b k p q r s = at3 k p q r ∙ read_other a 20 k zeros s

  at_19 : block_at i5 19 ≡ zeros
  unfolding a
  at_19 = at_b 19 (λ e. omega (arith, e)) (λ e. omega (arith, e)) (λ e. omega (arith, e)) (λ e. omega (arith, e)) ∙ read_written i2 19 zeros (let l = long2 in omega (arith, l, more))

  at_17 : block_at i5 17 ≡ super
  unfolding a i2
  at_17 = at_b 17 (λ e. omega (arith, e)) (λ e. omega (arith, e)) (λ e. omega (arith, e)) (λ e. omega (arith, e)) ∙ read_other i2 19 17 zeros (λ e. omega (arith, e))
      ∙ read_written i1 17 super (let l = whole.blocks in omega (arith, l, more))

  at_22 : block_at i5 22 ≡ twig
  unfolding i4
  at_22 = at5 22 (λ e. omega (arith, e)) ∙ read_written i3 22 twig (let l = long3 in omega (arith, l, more))

  at_23 : block_at i5 23 ≡ leaf
  at_23 = ap (λ (i : Image). block_at i 23) last ∙ read_written i4 23 leaf (let l = long4 in omega (arith, l, more))

  bitmaps5 : HasBitmaps n (bitmap_count n) i1 → HasBitmaps n (bitmap_count n) i5
  unfolding i4 i3 b a i2
  bitmaps5 h =
      let c = bitmap_count n in
      kept_bitmaps n c 23 i4 i5 leaf last (omega arith) (λ e. omega (arith, e))
      (kept_bitmaps n c 22 i3 i4 twig refl (omega arith) (λ e. omega (arith, e))
      (kept_bitmaps n c 21 b i3 zeros refl (omega arith) (λ e. omega (arith, e))
      (kept_bitmaps n c 20 a b zeros refl (omega arith) (λ e. omega (arith, e))
      (kept_bitmaps n c 19 i2 a zeros refl (omega arith) (λ e. omega (arith, e))
      (kept_bitmaps n c 17 i1 i2 super refl (omega arith) (λ e. omega (arith, e)) h)))))

  pub rest_is : HasBitmaps n (bitmap_count n) i1 → IsFreshNode twig 2 3 (number_bytes 8 23) → IsFreshNode leaf 1 0 (stat_body root_attr) → IsFreshBut16 n i5
  unfolding super zeros
  rest_is h t l = let m = bitmaps5 h in record {
    whole = whole5;
    super = at_17;
    bitmaps = m.bits;
    fronts = m.fronts;
    header = at_19;
    footer = at_20;
    status = at_21;
    twig = subst (λ (x : List ℕ). IsFreshNode x 2 3 (number_bytes 8 23)) (sym at_22) t;
    leaf = subst (λ (x : List ℕ). IsFreshNode x 1 0 (stat_body root_attr)) (sym at_23) l;
  }

-- the same, of the states of a device
pub rest_written : (n : ℕ) (s1 s2 s3 s4 s5 : State) (super twig leaf : List ℕ) → n ≡ s1.blocks → s5.blocks ≡ n → IsLawful n → TellsReads s1 → TellsReads s5 → super ≡ super_block (fresh_super n)
    → s2.seen ≡ slice_set s1.seen 17 super → s3.seen ≡ with_zeros s2.seen → s4.seen ≡ slice_set s3.seen 22 twig → s5.seen ≡ slice_set s4.seen 23 leaf
    → HasBitmaps n (bitmap_count n) s1.seen → IsFreshNode twig 2 3 (number_bytes 8 23) → IsFreshNode leaf 1 0 (stat_body root_attr) → IsFreshBut16 n s5.seen
rest_written n s1 s2 s3 s4 s5 super twig leaf blocks blocks5 lawful told told5 is_super a b c d h t l =
    rest_is n s1.seen s5.seen twig leaf (subst (λ (k : ℕ). IsImage k s1.seen) (sym blocks) told) (omega (arith, lawful.0)) (subst (λ (k : ℕ). IsImage k s5.seen) blocks5 told5)
    (d ∙ ap (λ (i : Image). slice_set i 23 leaf) (c ∙ ap (λ (i : Image). slice_set i 22 twig) (b ∙ ap with_zeros (a ∙ ap (λ (x : List ℕ). slice_set s1.seen 17 x) is_super)))) h t l

-- ---- which blocks are written

pub rest_at : (n b : ℕ) → 17 ≤ b → b ≤ 23 → IsRest n b
rest_at n b low high = (inl (omega (arith, low), omega (arith, high)), λ e. omega (arith, e, low))

pub rest_bitmap : (n k : ℕ) → k < bitmap_count n → IsRest n (bitmap_block k)
rest_bitmap n k lt = (inr (k, lt, refl), not_16 k)

pub agrees_same : (W : ℕ → Type 0) (image : Image) → AgreesOutside W image image
agrees_same W image = record { blocks = refl; others = λ b out. refl }

pub agrees_set : (W : ℕ → Type 0) (base old new : Image) (at : ℕ) (block : List ℕ) → W at → new ≡ slice_set old at block → AgreesOutside W base old → AgreesOutside W base new
agrees_set W base old new at block inside is a = record {
  blocks = ap length is ∙ length-set old at block ∙ a.blocks;
  others = λ b out. ap (λ (i : Image). block_at i b) is ∙ read_other old at b block (λ e. out (subst W (sym e) inside)) ∙ a.others b out;
}

pub agrees_more : (V W : ℕ → Type 0) (base image : Image) → ((b : ℕ) → V b → W b) → AgreesOutside V base image → AgreesOutside W base image
agrees_more V W base image more a = record { blocks = a.blocks; others = λ b out. a.others b (λ v. out (more b v)) }

-- what follows where a call went well
pub on_ok : {T E : Type 0} (r : Result T E) (P Q : Type 0) → (P → Q) → OnOk r P → OnOk r Q
on_ok (Ok v) P Q f p = f p
on_ok (Err e) P Q f p = tt

pub always : {T E : Type 0} (r : Result T E) → OnOk r (Unit {0})
always (Ok v) = tt
always (Err e) = tt
