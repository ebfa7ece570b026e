-- The bitmaps of an image: what holds where nothing is wrong with them, and how a loop over them goes on.
use Rattle.std.proofs.Common.{◌≡◌, ℕ, zero, suc, ◌+◌, ◌*◌, ◌/◌, ◌%◌, ◌<◌, ◌≤◌, Bool, true, false, not, ◌&&◌, ◌||◌, cond, eqb, List, [], ◌∷◌, length, get_or, set, Some, None, refl, sym, ap, ◌∙◌, arith, inl, inr}
use Rattle.std.specs.Prelude.{Option, count_by}
use Rattle.std.specs.Option.{option_or}
use Rattle.std.proofs.lemmas.Bool.{and_parts, cases_eq, eq-eqb, eqb-true}
use Rattle.std.proofs.lemmas.List.Sums.{sum_by-set}
use Rattle.r4_base.specs.Image.{Image, block_at}
use Rattle.r4_base.specs.Bitmap.{is_used, bits_of, bitmap_count, bitmap_block, is_marked, bitmap_bits, free_below, free_in, is_always_used, are_held, first_unheld, bitmap_fault}
use Rattle.r4_base.proofs.Bits.{length-bits_of, get_or-bits_of}

used_there : (used always : Bool) → (used || not always) ≡ true → always ≡ true → used ≡ true
used_there true always e h = refl
used_there false true e h = absurd cc
used_there false false e h = absurd cc

passes : (used always : Bool) → (always ≡ true → used ≡ true) → (used || not always) ≡ true
passes true always h = refl
passes false true h = let e = h refl in absurd cc
passes false false h = refl

-- ---- one bitmap

pub held_at : (block_count b i : ℕ) (d : Bool) (bits : List Bool) → are_held block_count b bits ≡ true → i < length bits → is_always_used block_count (b + i) ≡ true → get_or bits i d ≡ true
held_at block_count b i d [] held lt always = absurd (omega arith)
held_at block_count b zero d (used ∷ bits) held lt always =
    let here = and_parts (used || not (is_always_used block_count b)) (are_held block_count (b + 1) bits) held in
    let e : b + 0 ≡ b = omega arith in
    used_there used (is_always_used block_count b) here.0 (ap (is_always_used block_count) (sym e) ∙ always)
held_at block_count b (suc i) d (used ∷ bits) held lt always =
    let here = and_parts (used || not (is_always_used block_count b)) (are_held block_count (b + 1) bits) held in
    let e : b + 1 + i ≡ b + suc i = omega arith in
    held_at block_count (b + 1) i d bits here.1 (omega arith) (ap (is_always_used block_count) e ∙ always)

pub held_from : (block_count b : ℕ) (bits : List Bool) → ((i : ℕ) → i < length bits → is_always_used block_count (b + i) ≡ true → get_or bits i false ≡ true) → are_held block_count b bits ≡ true
held_from block_count b [] h = refl
held_from block_count b (used ∷ bits) h =
    let e : b + 0 ≡ b = omega arith in
    let here : (used || not (is_always_used block_count b)) ≡ true = passes used (is_always_used block_count b) (λ always. h 0 (omega arith) (ap (is_always_used block_count) e ∙ always)) in
    let rest : are_held block_count (b + 1) bits ≡ true = held_from block_count (b + 1) bits (λ i lt always.
    let e' : b + suc i ≡ b + 1 + i = omega arith in
    h (suc i) (omega arith) (ap (is_always_used block_count) e' ∙ always)) in
    rw (here, rest) refl

-- each block that is always used has a 1 in the bitmap that stands for it
pub bitmap_held : (block_count n i : ℕ) (block : List ℕ) → are_held block_count (n * 32736) (bits_of block) ≡ true → i < 32736 → is_always_used block_count (n * 32736 + i) ≡ true → is_used block i ≡ true
bitmap_held block_count n i block held lt always =
    let long = length-bits_of block in
    sym (get_or-bits_of i false block lt) ∙ held_at block_count (n * 32736) i false (bits_of block) held (omega arith) always

-- and where each has, nothing is wrong with it
pub held_bitmap : (block_count n : ℕ) (block : List ℕ) → ((i : ℕ) → i < 32736 → is_always_used block_count (n * 32736 + i) ≡ true → is_used block i ≡ true) → are_held block_count (n * 32736) (bits_of block) ≡ true
held_bitmap block_count n block h =
    let long = length-bits_of block in
    held_from block_count (n * 32736) (bits_of block) (λ i lt always.
    let within : i < 32736 = omega arith in
    get_or-bits_of i false block within ∙ h i within always)

-- ---- a loop over the bitmaps, rising

pub first_unheld-none : (block_count n : ℕ) (image : Image) → first_unheld block_count 0 n image ≡ None
unfolding first_unheld
first_unheld-none block_count n image = refl

pub first_unheld-held : (block_count k n : ℕ) (image : Image) → are_held block_count (n * 32736) (bitmap_bits image n) ≡ true → first_unheld block_count (suc k) n image ≡ first_unheld block_count k (n + 1) image
unfolding first_unheld
first_unheld-held block_count k n image held = rw held refl

pub first_unheld-found : (block_count k n : ℕ) (image : Image) → are_held block_count (n * 32736) (bitmap_bits image n) ≡ false → first_unheld block_count (suc k) n image ≡ Some (bitmap_block n)
unfolding first_unheld
first_unheld-found block_count k n image unheld = rw unheld refl

pub free_below-zero : (image : Image) → free_below 0 image ≡ 0
unfolding free_below
free_below-zero image = refl

pub free_below-suc : (n : ℕ) (image : Image) → free_below (suc n) image ≡ free_below n image + count_by not (bitmap_bits image n)
unfolding free_below
free_below-suc n image = refl

-- ---- all bitmaps

-- Each block that is always used is marked, up to the end of the last bitmap.
pub record IsMarkedWhole (block_count : ℕ) (image : Image) : Type 0 where
  pub marked : (b : ℕ) → b < bitmap_count block_count * 32736 → is_always_used block_count b ≡ true → is_marked image b ≡ true

goes_on : (t : Bool) (o : Option ℕ) (b : ℕ) → cond t o (Some b) ≡ None → (t ≡ true) × (o ≡ None)
goes_on true o b e = (refl, e)
goes_on false o b e = absurd cc

none_unheld : (block_count k n m : ℕ) (image : Image) → first_unheld block_count k n image ≡ None → n ≤ m → m < n + k → are_held block_count (m * 32736) (bitmap_bits image m) ≡ true
unfolding first_unheld
none_unheld block_count zero n m image none le lt = absurd (omega arith)
none_unheld block_count (suc k) n m image none le lt =
    let here = goes_on (are_held block_count (n * 32736) (bitmap_bits image n)) (first_unheld block_count k (n + 1) image) (bitmap_block n) none in
    elim (cases_eq n m) [
      | inl is ↦ ap (λ (j : ℕ). are_held block_count (j * 32736) (bitmap_bits image j)) (sym is) ∙ here.0
      | inr other ↦ none_unheld block_count k (n + 1) m image here.1 (omega arith) (omega arith)
    ]

split_fault : (o : Option ℕ) (t : Bool) → option_or o (cond t None (Some 18)) ≡ None → (o ≡ None) × (t ≡ true)
split_fault None true e = (refl, refl)
split_fault None false e = absurd cc
split_fault (Some b) t e = absurd cc

-- where the bitmaps have no fault, the marks of blocks that are always used are there, and so many are free
pub no_fault : (block_count free_blocks : ℕ) (image : Image) → bitmap_fault block_count free_blocks image ≡ None → IsMarkedWhole block_count image × (free_in block_count image ≡ free_blocks)
unfolding bitmap_fault
no_fault block_count free_blocks image e =
    let parts = split_fault (first_unheld block_count (bitmap_count block_count) 0 image) (eqb (free_in block_count image) free_blocks) e in
    let marked : (b : ℕ) → b < bitmap_count block_count * 32736 → is_always_used block_count b ≡ true → is_marked image b ≡ true = λ b lt always.
    let whole : b / 32736 * 32736 + b % 32736 ≡ b = omega arith in
    let held = none_unheld block_count (bitmap_count block_count) 0 (b / 32736) image parts.0 (omega arith) (omega arith) in
    bitmap_held block_count (b / 32736) (b % 32736) (block_at image (bitmap_block (b / 32736))) held (omega arith) (ap (is_always_used block_count) whole ∙ always) in
    (record { marked = marked }, eqb-true _ _ parts.1)

all_held : (block_count k n : ℕ) (image : Image) → ((m : ℕ) → n ≤ m → m < n + k → are_held block_count (m * 32736) (bitmap_bits image m) ≡ true) → first_unheld block_count k n image ≡ None
all_held block_count zero n image h = first_unheld-none block_count n image
all_held block_count (suc k) n image h =
    first_unheld-held block_count k n image (h n (omega arith) (omega arith)) ∙ all_held block_count k (n + 1) image (λ m le lt. h m (omega arith) (omega arith))

-- and the other way round
pub without_fault : (block_count free_blocks : ℕ) (image : Image) → IsMarkedWhole block_count image → free_in block_count image ≡ free_blocks → bitmap_fault block_count free_blocks image ≡ None
unfolding bitmap_fault
without_fault block_count free_blocks image whole free =
    let held = all_held block_count (bitmap_count block_count) 0 image (λ m le lt.
    held_bitmap block_count m (block_at image (bitmap_block m)) (λ i within always.
    let n : (m * 32736 + i) / 32736 ≡ m = omega arith in
    let place : (m * 32736 + i) % 32736 ≡ i = omega arith in
    ap (λ (j : ℕ). is_used (block_at image (bitmap_block j)) i) (sym n) ∙ ap (is_used (block_at image (bitmap_block ((m * 32736 + i) / 32736)))) (sym place) ∙ whole.marked (m * 32736 + i) (omega arith) always)) in
    rw (held, eq-eqb _ _ free) refl

-- ---- the number of 0 bits, as one bit changes

-- what a bit adds to that number
weight : Bool → ℕ
weight used = cond (not used) 1 0

-- a 0 is made 1
pub free_bits-set : (bits : List Bool) (i : ℕ) (d : Bool) → i < length bits → get_or bits i d ≡ false → count_by not (set bits i true) + 1 ≡ count_by not bits
unfolding weight
free_bits-set bits i d lt free =
    let one : count_by not (set bits i true) + weight (get_or bits i d) ≡ count_by not bits + weight true = sum_by-set (λ (used : Bool). cond (not used) 1 0) bits i true d lt in
    let was : weight (get_or bits i d) ≡ 1 = ap weight free in
    let is : weight true ≡ 0 = refl in
    omega arith

-- a 1 is made 0
pub free_bits-clear : (bits : List Bool) (i : ℕ) (d : Bool) → i < length bits → get_or bits i d ≡ true → count_by not (set bits i false) ≡ count_by not bits + 1
unfolding weight
free_bits-clear bits i d lt used =
    let one : count_by not (set bits i false) + weight (get_or bits i d) ≡ count_by not bits + weight false = sum_by-set (λ (used : Bool). cond (not used) 1 0) bits i false d lt in
    let was : weight (get_or bits i d) ≡ 0 = ap weight used in
    let is : weight false ≡ 1 = refl in
    omega arith
