-- What the bitmaps of a volume tell, bit by bit and block by block.
use Rattle.std.proofs.Common.{◌≡◌, ℕ, zero, suc, ◌+◌, ◌*◌, ◌/◌, ◌%◌, ◌<◌, ◌≤◌, Bool, true, false, not, cond, List, [], ◌∷◌, length, get_or, take, drop, Some, None, refl, sym, ap, ◌∙◌, arith, inl, inr}
use Rattle.std.specs.Prelude.{Option, count_by, sum_by}
use Rattle.std.specs.Option.{option_or}
use Rattle.std.proofs.lemmas.Bool.{cases_Bool, false_from_ne_true, or_left}
use Rattle.std.proofs.lemmas.List.{take_more, take_all}
use Rattle.std.proofs.lemmas.List.Sums.{sum_by_push}
use Rattle.std.proofs.Math.Seq.{drop-cons}
use Rattle.r4_base.specs.Image.{Image, block_at}
use Rattle.r4_base.specs.Bitmap.{are_held, bitmap_bits, bitmap_block, bitmap_count, bitmap_fault, bits_of, first_unheld, free_below, free_in, is_always_used, is_fixed, is_used}
use Rattle.r4_base.proofs.Bits.{length-bits_of, get_or-bits_of}
use Rattle.r4_base.proofs.Bitmaps.{bitmap_held, held_at, held_from, first_unheld-none, first_unheld-held, first_unheld-found, free_below-suc}
use Rattle.r4_space.specs.Bitmaps.{AreBitmapsOf, bitmaps_fault, first_unheld_of, free_bits, marks}

-- ---- one bitmap

pub held_all : (blocks first : ℕ) (block : List ℕ) → ((k : ℕ) → k < 32736 → is_always_used blocks (first + k) ≡ true → is_used block k ≡ true) → are_held blocks first (bits_of block) ≡ true
held_all blocks first block each =
    let size = length-bits_of block in
    held_from blocks first (bits_of block) (λ i lt always. get_or-bits_of i false block (omega arith) ∙ each i (omega arith) always)

pub held_not : (blocks first i : ℕ) (block : List ℕ) → i < 32736 → is_used block i ≡ false → is_always_used blocks (first + i) ≡ true → are_held blocks first (bits_of block) ≡ false
held_not blocks first i block lt clear always = false_from_ne_true (are_held blocks first (bits_of block)) (λ held.
    let size = length-bits_of block in
    let on : is_used block i ≡ true = sym (get_or-bits_of i false block lt) ∙ held_at blocks first i false (bits_of block) held (omega arith) always in
    cc)

pub count_more : (i : ℕ) (block : List ℕ) → i < 32736 → count_by not (take (i + 1) (bits_of block)) ≡ count_by not (take i (bits_of block)) + cond (not (is_used block i)) 1 0
count_more i block lt =
    let size = length-bits_of block in
    let one = take_more (bits_of block) i false (omega arith) in
    ap (λ (bits : List Bool). count_by not bits) one ∙ sum_by_push (λ (used : Bool). cond (not used) 1 0) (take i (bits_of block)) (get_or (bits_of block) i false) ∙ ap (λ (used : Bool). count_by not (take i (bits_of block)) + cond (not used) 1 0) (get_or-bits_of i false block lt)

pub count_whole : (block : List ℕ) → count_by not (take 32736 (bits_of block)) ≡ count_by not (bits_of block)
count_whole block =
    let size = length-bits_of block in
    ap (λ (bits : List Bool). count_by not bits) (take_all 32736 (bits_of block) (omega arith))

-- ---- all bitmaps

pub free_more : (i : ℕ) (d : List ℕ) (bitmaps : List (List ℕ)) → i < length bitmaps → free_bits (take (i + 1) bitmaps) ≡ free_bits (take i bitmaps) + count_by not (bits_of (get_or bitmaps i d))
unfolding free_bits
free_more i d bitmaps lt = ap (λ (bs : List (List ℕ)). sum_by (λ (block : List ℕ). count_by not (bits_of block)) bs) (take_more bitmaps i d lt) ∙ sum_by_push (λ (block : List ℕ). count_by not (bits_of block)) (take i bitmaps) (get_or bitmaps i d)

pub unheld_more : (blocks n : ℕ) (d : List ℕ) (bitmaps : List (List ℕ)) → n < length bitmaps → are_held blocks (n * 32736) (bits_of (get_or bitmaps n d)) ≡ true → first_unheld_of blocks n (drop n bitmaps) ≡ first_unheld_of blocks (n + 1) (drop (n + 1) bitmaps)
unfolding first_unheld_of
unheld_more blocks n d bitmaps lt held =
    let next : suc n ≡ n + 1 = omega arith in
    rw (drop-cons bitmaps n d lt, held) (ap (λ (m : ℕ). first_unheld_of blocks (n + 1) (drop m bitmaps)) next)

pub unheld_here : (blocks n : ℕ) (d : List ℕ) (bitmaps : List (List ℕ)) → n < length bitmaps → are_held blocks (n * 32736) (bits_of (get_or bitmaps n d)) ≡ false → first_unheld_of blocks n (drop n bitmaps) ≡ Some (bitmap_block n)
unfolding first_unheld_of
unheld_here blocks n d bitmaps lt unheld = rw (drop-cons bitmaps n d lt, unheld) refl

pub unheld_none : (blocks n : ℕ) → first_unheld_of blocks n [] ≡ None
unfolding first_unheld_of
unheld_none blocks n = refl

-- ---- the bitmaps of an image

same_unheld : (blocks k n : ℕ) (image : Image) (bitmaps : List (List ℕ)) → length bitmaps ≡ k → ((i : ℕ) → i < k → get_or bitmaps i [] ≡ block_at image (bitmap_block (n + i))) → first_unheld blocks k n image ≡ first_unheld_of blocks n bitmaps
unfolding first_unheld_of
same_unheld blocks zero n image [] size each = first_unheld-none blocks n image
same_unheld blocks zero n image (b ∷ rest) size each = absurd (omega arith)
same_unheld blocks (suc k) n image [] size each = absurd (omega arith)
same_unheld blocks (suc k) n image (b ∷ rest) size each =
    let zero_is : n + 0 ≡ n = omega arith in
    let here : b ≡ block_at image (bitmap_block n) = each 0 (omega arith) ∙ ap (λ (j : ℕ). block_at image (bitmap_block j)) zero_is in
    let later : (i : ℕ) → i < k → get_or rest i [] ≡ block_at image (bitmap_block (n + 1 + i)) = λ i lt.
    let next : n + suc i ≡ n + 1 + i = omega arith in
    each (suc i) (omega arith) ∙ ap (λ (j : ℕ). block_at image (bitmap_block j)) next in
    elim (cases_Bool (are_held blocks (n * 32736) (bits_of b))) [
      | inl held ↦ first_unheld-held blocks k n image (ap (λ (x : List ℕ). are_held blocks (n * 32736) (bits_of x)) (sym here) ∙ held) ∙ same_unheld blocks k (n + 1) image rest (omega arith) later ∙ rw held refl
      | inr unheld ↦ first_unheld-found blocks k n image (ap (λ (x : List ℕ). are_held blocks (n * 32736) (bits_of x)) (sym here) ∙ unheld) ∙ rw unheld refl
    ]

same_free : (n : ℕ) (image : Image) (bitmaps : List (List ℕ)) → n ≤ length bitmaps → ((i : ℕ) → i < n → get_or bitmaps i [] ≡ block_at image (bitmap_block i)) → free_below n image ≡ free_bits (take n bitmaps)
unfolding free_bits free_below
same_free zero image bitmaps le each = refl
same_free (suc n) image bitmaps le each =
    let ih = same_free n image bitmaps (omega arith) (λ i lt. each i (omega arith)) in
    let next : suc n ≡ n + 1 = omega arith in
    free_below-suc n image ∙ ap (λ (m : ℕ). m + count_by not (bitmap_bits image n)) ih ∙ ap (λ (b : List ℕ). free_bits (take n bitmaps) + count_by not (bits_of b)) (sym (each n (omega arith))) ∙ sym (free_more n [] bitmaps (omega arith)) ∙ ap (λ (m : ℕ). free_bits (take m bitmaps)) (sym next)

pub same_fault : (blocks free : ℕ) (image : Image) (bitmaps : List (List ℕ)) → AreBitmapsOf blocks image bitmaps → bitmaps_fault blocks free bitmaps ≡ bitmap_fault blocks free image
unfolding bitmap_fault
same_fault blocks free image bitmaps are =
    let size = are.count in
    let unheld = same_unheld blocks (bitmap_count blocks) 0 image bitmaps are.count (λ i lt. are.each i lt ∙ ap (λ (j : ℕ). block_at image (bitmap_block j)) (plain i)) in
    let whole : take (bitmap_count blocks) bitmaps ≡ bitmaps = take_all (bitmap_count blocks) bitmaps (omega arith) in
    let count : free_in blocks image ≡ free_bits bitmaps = same_free (bitmap_count blocks) image bitmaps (omega arith) are.each ∙ ap free_bits whole in
    rw (unheld, count) refl
  where
    plain : (i : ℕ) → i ≡ 0 + i
    plain i = omega arith

pub free_none : (bitmaps : List (List ℕ)) → 0 ≡ free_bits (take 0 bitmaps)
unfolding free_bits
free_none bitmaps = refl

pub free_all : (n : ℕ) (bitmaps : List (List ℕ)) → length bitmaps ≤ n → free_bits (take n bitmaps) ≡ free_bits bitmaps
free_all n bitmaps le = ap free_bits (take_all n bitmaps le)

-- ---- what bitmaps without a fault mark

first_of : (o p : Option ℕ) → option_or o p ≡ None → o ≡ None
first_of None p e = refl
first_of (Some b) p e = absurd cc

held_of : (t : Bool) (o : Option ℕ) (b : ℕ) → cond t o (Some b) ≡ None → (t ≡ true) × (o ≡ None)
held_of true o b e = (refl, e)
held_of false o b e = absurd cc

each_held : (blocks n m : ℕ) (bitmaps : List (List ℕ)) → first_unheld_of blocks n bitmaps ≡ None → m < length bitmaps → are_held blocks ((n + m) * 32736) (bits_of (get_or bitmaps m [])) ≡ true
unfolding first_unheld_of
each_held blocks n m [] none lt = absurd (omega arith)
each_held blocks n zero (b ∷ rest) none lt =
    let here = held_of (are_held blocks (n * 32736) (bits_of b)) (first_unheld_of blocks (n + 1) rest) (bitmap_block n) none in
    let e : n + zero ≡ n = omega arith in
    ap (λ (k : ℕ). are_held blocks (k * 32736) (bits_of b)) e ∙ here.0
each_held blocks n (suc m) (b ∷ rest) none lt =
    let here = held_of (are_held blocks (n * 32736) (bits_of b)) (first_unheld_of blocks (n + 1) rest) (bitmap_block n) none in
    let e : n + suc m ≡ n + 1 + m = omega arith in
    ap (λ (k : ℕ). are_held blocks (k * 32736) (bits_of (get_or rest m []))) e ∙ each_held blocks (n + 1) m rest here.1 (omega arith)

pub fixed_marked : (blocks free b : ℕ) (bitmaps : List (List ℕ)) → bitmaps_fault blocks free bitmaps ≡ None → length bitmaps ≡ bitmap_count blocks → b < blocks → is_fixed blocks b ≡ true → marks bitmaps b ≡ true
fixed_marked blocks free b bitmaps none size lt fixed =
    let unheld = first_of (first_unheld_of blocks 0 bitmaps) _ none in
    let plain : 0 + b / 32736 ≡ b / 32736 = omega arith in
    let held : are_held blocks (b / 32736 * 32736) (bits_of (get_or bitmaps (b / 32736) [])) ≡ true =
    ap (λ (k : ℕ). are_held blocks (k * 32736) (bits_of (get_or bitmaps (b / 32736) []))) (sym plain) ∙ each_held blocks 0 (b / 32736) bitmaps unheld (omega arith) in
    let whole : b / 32736 * 32736 + b % 32736 ≡ b = omega arith in
    bitmap_held blocks (b / 32736) (b % 32736) (get_or bitmaps (b / 32736) []) held (omega arith) (ap (is_always_used blocks) whole ∙ or_left (is_fixed blocks b) _ fixed)
