-- Bits in words of 64.
use Rattle.std.proofs.Common.{◌≡◌, ◌≢◌, ℕ, ◌+◌, ◌-◌, ◌*◌, ◌/◌, ◌%◌, ◌^◌, ◌<◌, ◌≤◌, zero, suc, max, Bool, true, false, not, ◌||◌, ◌&&◌, eqb, List, length, get_or, set, refl, sym, ap, ◌∙◌, arith, inl, inr}
use Rattle.std.specs.Prelude.{bit_and, bit_or, Option, Some, None, is_some, MatchOption}
use Rattle.std.specs.Int.{w64, bit_at, trailing_ones}
use Rattle.std.proofs.lemmas.Bool.{eq-eqb, eqb-true, cases_eq, cases_lt, ne_eqb}
use Rattle.std.proofs.lemmas.List.{get_or-set_same, get_or-set_other, get_or_past}
use Rattle.std.proofs.lemmas.Nat.Bits.{bit_at-lt, bit_at_or, bit_at_ones, bit_at_ones_above, bit_at_set_same, bit_at_set_other, bit_at_clear_same, bit_at_clear_other, bit_at_cat_low, bit_at_cat_high, bit_at-trailing_ones, same_from_bits_below}
use Rattle.std.proofs.Math.Nat.{mod-eq_of_lt}
use Rattle.std.proofs.Math.Pow.{pow-lt}
use Rattle.r4_space.specs.Words.{is_set, IsFirstClear, IsFull, IsSeenFrom, TellsFull}

-- ---- a word, its first bits set

mask_is : (k : ℕ) → k < 64 → 1 * 2 ^ k % 18446744073709551616 - 1 ≡ 2 ^ k - 1
mask_is k lt =
    let small : 2 ^ k < 2 ^ 64 = pow-lt lt in
    let one : 1 * 2 ^ k ≡ 2 ^ k = omega arith in
    rw (one, mod-eq_of_lt small) refl

pub seen : (word from : ℕ) → from < 64 → IsSeenFrom word from (bit_or word (1 * 2 ^ from % 18446744073709551616 - 1))
seen word from lt =
    rw (mask_is from lt) (record {
      before = λ j early.
          let one = bit_at_ones from j early in
          let two = bit_at-lt word j in
          bit_at_or word (2 ^ from - 1) j ∙ omega arith;
      from_on = λ j late.
          let none = bit_at_ones_above from j late in
          bit_at_or word (2 ^ from - 1) j ∙ rw none (omega arith);
    })

-- ---- the bits of one word

pub at_bit : (words : List ℕ) (w j k : ℕ) → j < 64 → k ≡ 64 * w + j → is_set words k ≡ eqb (bit_at (get_or words w 0) j) 1
unfolding is_set
at_bit words w j k lt is =
    let word : k / 64 ≡ w = omega arith in
    let place : k % 64 ≡ j = omega arith in
    rw (word, place) refl

-- a word of ones
pub full_word : (words : List ℕ) (w : ℕ) → get_or words w 0 ≡ 18446744073709551615 → (k : ℕ) → 64 * w ≤ k → k < 64 * w + 64 → is_set words k ≡ true
full_word words w full k le lt =
    let one : bit_at (get_or words w 0) (k - 64 * w) ≡ 1 = ap (λ (n : ℕ). bit_at n (k - 64 * w)) full ∙ bit_at_ones 64 (k - 64 * w) (omega arith) in
    at_bit words w (k - 64 * w) k (omega arith) (omega arith) ∙ eq-eqb _ _ one

pub full_from : (words : List ℕ) (w from word : ℕ) → IsSeenFrom (get_or words w 0) from word → word ≡ 18446744073709551615 → IsFull (is_set words) (64 * w + 64) (64 * w + from)
full_from words w from word is full k le lt =
    let j = k - 64 * w in
    let one : bit_at word j ≡ 1 = ap (λ (n : ℕ). bit_at n j) full ∙ bit_at_ones 64 j (omega arith) in
    at_bit words w j k (omega arith) (omega arith) ∙ eq-eqb _ _ (sym (is.from_on j (omega arith)) ∙ one)

-- where the first 0 of a word stands
pub record ShowsFirst (words : List ℕ) (w from t : ℕ) : Type 0 where
  pub inside : t < 64
  pub first : IsFirstClear (is_set words) (64 * w + 64) (64 * w + from) (64 * w + t)

pub shows_first : (words : List ℕ) (w from word : ℕ) → from < 64 → word < 2 ^ 64 → word ≢ 18446744073709551615 → IsSeenFrom (get_or words w 0) from word → ShowsFirst words w from (trailing_ones w64 word)
shows_first words w from word from_in small ne is =
    let ones = bit_at-trailing_ones w64 word (omega arith) in
    shown words w from word (trailing_ones w64 word) from_in is ones.0 ones.1 ones.2
  where
    shown : (words : List ℕ) (w from word t : ℕ) → from < 64 → IsSeenFrom (get_or words w 0) from word → t < 64 → bit_at word t ≡ 0 → ((i : ℕ) → i < t → bit_at word i ≡ 1) → ShowsFirst words w from t
    shown words w from word t from_in is lt free ones =
        let past : from ≤ t = elim (cases_lt t from) [
          | inl early ↦ let one = is.before t early in absurd (omega arith)
          | inr late ↦ late
        ] in
        record {
          inside = lt;
          first = record {
            from_on = omega arith;
            within = omega arith;
            clear = at_bit words w t (64 * w + t) lt refl ∙ ap (λ (n : ℕ). eqb n 1) (sym (is.from_on t past) ∙ free);
            before = λ k le sooner. at_bit words w (k - 64 * w) k (omega arith) (omega arith) ∙ eq-eqb _ _ (sym (is.from_on (k - 64 * w) (omega arith)) ∙ ones (k - 64 * w) (omega arith));
          };
        }

-- ---- a set, found in two parts

pub full_on : (set : ℕ → Bool) (a b c : ℕ) → IsFull set b a → IsFull set c b → IsFull set c a
full_on set a b c one two k le lt = elim (cases_lt k b) [ inl early ↦ one k le early | inr late ↦ two k late lt ]

pub first_on : (set : ℕ → Bool) (a b n m i : ℕ) → a ≤ b → n ≤ m → IsFull set b a → IsFirstClear set n b i → IsFirstClear set m a i
first_on set a b n m i le le_too one two = record {
  from_on = let f = two.from_on in omega arith;
  within = let f = two.within in omega arith;
  clear = two.clear;
  before = λ k ge lt. elim (cases_lt k b) [ inl early ↦ one k ge early | inr late ↦ two.before k late lt ];
}

-- ---- one bit is set

pub sets : (words : List ℕ) (i k : ℕ) → i < 64 * length words → is_set (set words (i / 64) (bit_or (get_or words (i / 64) 0) (1 * 2 ^ (i % 64) % 18446744073709551616))) k ≡ (eqb k i || is_set words k)
unfolding is_set
sets words i k lt =
    let x = bit_or (get_or words (i / 64) 0) (1 * 2 ^ (i % 64) % 18446744073709551616) in
    let at : i / 64 < length words = omega arith in
    let small : i % 64 < 64 = omega arith in
    elim (cases_eq k i) [
      | inl is ↦
          let yes : eqb k i ≡ true = eq-eqb k i is in
          let bit : bit_at (get_or (set words (i / 64) x) (k / 64) 0) (k % 64) ≡ 1 = rw (is, get_or-set_same words (i / 64) x 0 at) (bit_at_set_same w64 (get_or words (i / 64) 0) (i % 64) small) in
          eq-eqb _ _ bit ∙ rw yes refl
      | inr other ↦
          let no : eqb k i ≡ false = ne_eqb k i other in
          let same : bit_at (get_or (set words (i / 64) x) (k / 64) 0) (k % 64) ≡ bit_at (get_or words (k / 64) 0) (k % 64) = elim (cases_eq (k / 64) (i / 64)) [
            | inl near ↦
                let ne : k % 64 ≢ i % 64 = λ e. other (omega arith) in
                rw (near, get_or-set_same words (i / 64) x 0 at) (bit_at_set_other w64 (get_or words (i / 64) 0) (i % 64) small (k % 64) ne)
            | inr far ↦ ap (λ (y : ℕ). bit_at y (k % 64)) (get_or-set_other words (i / 64) (k / 64) x 0 far)
          ] in
          ap (λ (n : ℕ). eqb n 1) same ∙ rw no refl
    ]

-- ---- words that tell which words are full

-- words that are told to be full have ones alone
pub told_full : (words full : List ℕ) (from m : ℕ) → TellsFull words full → m ≤ length words → IsFull (is_set full) m (from / 64 + 1) → IsFull (is_set words) (64 * m) (64 * (from / 64) + 64)
told_full words full from m told le ones k ge lt =
    let within : k / 64 < m = omega arith in
    let one : is_set full (k / 64) ≡ true = ones (k / 64) (omega arith) within in
    full_word words (k / 64) (eqb-true _ _ (sym (told.tells (k / 64) (omega arith)) ∙ one)) k (omega arith) (omega arith)

-- a word that is told not to be full has a 0
pub told_clear : (words full : List ℕ) (w : ℕ) → TellsFull words full → w < length words → get_or words w 0 < 2 ^ 64 → is_set full w ≡ false → IsFull (is_set words) (64 * w + 64) (64 * w + 0) → ⊥
told_clear words full w told lt small clear ones =
    let all : get_or words w 0 ≡ 2 ^ 64 - 1 = same_from_bits_below 64 (get_or words w 0) (2 ^ 64 - 1) small (omega arith) (λ j h.
    eqb-true _ _ (sym (at_bit words w j (64 * w + j) h refl) ∙ ones (64 * w + j) (omega arith) (omega arith)) ∙ sym (bit_at_ones 64 j h)) in
    let yes : eqb (get_or words w 0) 18446744073709551615 ≡ true = eq-eqb _ _ all in
    let no : eqb (get_or words w 0) 18446744073709551615 ≡ false = sym (told.tells w lt) ∙ clear in
    cc

-- ---- a search that begins in one word, and goes on by the words that tell which are full

pub at_none : {P : Type 0} (Q : ℕ → Type 0) (o : Option ℕ) → is_some o ≡ false → MatchOption o P Q → P
at_none Q None e h = h
at_none Q (Some i) e h = absurd cc

-- up to word w all is full
up_to_word : (words full : List ℕ) (from w : ℕ) → TellsFull words full → w ≤ length words → from / 64 < w
    → IsFull (is_set words) (64 * (from / 64) + 64) (64 * (from / 64) + from % 64) → IsFull (is_set full) w (from / 64 + 1) → IsFull (is_set words) (64 * w) from
up_to_word words full from w told le lt here ones =
    let start : 64 * (from / 64) + from % 64 ≡ from = omega arith in
    let first : IsFull (is_set words) (64 * (from / 64) + 64) from = λ k ge below. here k (omega arith) below in
    full_on (is_set words) from (64 * (from / 64) + 64) (64 * w) first (told_full words full from w told le ones)

pub none_after : (words full : List ℕ) (from : ℕ) → TellsFull words full → from / 64 < length words
    → IsFull (is_set words) (64 * (from / 64) + 64) (64 * (from / 64) + from % 64) → IsFull (is_set full) (length words) (from / 64 + 1) → IsFull (is_set words) (64 * length words) from
none_after words full from told lt here ones = up_to_word words full from (length words) told (omega arith) lt here ones

pub found_after : (words full : List ℕ) (from w : ℕ) (r : Option ℕ) → TellsFull words full → get_or words w 0 < 2 ^ 64 → w < length words
    → IsFull (is_set words) (64 * (from / 64) + 64) (64 * (from / 64) + from % 64) → IsFirstClear (is_set full) (64 * length full) (from / 64 + 1) w
    → MatchOption r (IsFull (is_set words) (64 * w + 64) (64 * w + 0)) (IsFirstClear (is_set words) (64 * w + 64) (64 * w + 0))
    → MatchOption r (IsFull (is_set words) (64 * length words) from) (IsFirstClear (is_set words) (64 * length words) from)
found_after words full from w None told small lt here next found = absurd (told_clear words full w told lt small next.clear found)
found_after words full from w (Some i) told small lt here next found =
    let past = next.from_on in
    let start : 64 * w + 0 ≡ 64 * w = omega arith in
    let before : IsFull (is_set words) (64 * w + 0) from = rw start (up_to_word words full from w told (omega arith) (omega arith) here next.before) in
    first_on (is_set words) from (64 * w + 0) (64 * w + 64) (64 * length words) i (omega arith) (omega arith) before found

-- ---- a bit is set, and the words that tell which are full follow

-- The new words have bit i, and otherwise what was there.
pub record BitSet (old new : List ℕ) (i : ℕ) : Type 0 where
  pub size : length new ≡ length old
  pub bits : (k : ℕ) → is_set new k ≡ (eqb k i || is_set old k)
  pub others : (w : ℕ) → w ≢ i / 64 → get_or new w 0 ≡ get_or old w 0

-- a word with a 0 is not full
clear_word : (words : List ℕ) (i : ℕ) → is_set words i ≡ false → eqb (get_or words (i / 64) 0) 18446744073709551615 ≡ false
clear_word words i clear = ne_eqb _ _ (λ e. let one = full_word words (i / 64) e i (omega arith) (omega arith) in cc)

pub told_clear_word : (words full : List ℕ) (i : ℕ) → TellsFull words full → i < 64 * length words → is_set words i ≡ false → is_set full (i / 64) ≡ false
told_clear_word words full i told lt clear = told.tells (i / 64) (omega arith) ∙ clear_word words i clear

-- the word is not full yet
pub tells_rest : (words new full : List ℕ) (i : ℕ) → TellsFull words full → i < 64 * length words → is_set words i ≡ false → BitSet words new i → false ≡ eqb (get_or new (i / 64) 0) 18446744073709551615 → TellsFull new full
tells_rest words new full i told lt clear one rest =
    let size = one.size in
    record {
      covers = let covers = told.covers in omega arith;
      tells = λ w within. elim (cases_eq w (i / 64)) [
        | inl is ↦ ap (is_set full) is ∙ told_clear_word words full i told lt clear ∙ rest ∙ ap (λ (v : ℕ). eqb (get_or new v 0) 18446744073709551615) (sym is)
        | inr other ↦ told.tells w (omega arith) ∙ ap (λ (x : ℕ). eqb x 18446744073709551615) (sym (one.others w other))
      ];
    }

-- the word is full from then on
pub tells_full : (words new full told_new : List ℕ) (i : ℕ) → TellsFull words full → BitSet words new i → BitSet full told_new (i / 64) → true ≡ eqb (get_or new (i / 64) 0) 18446744073709551615 → TellsFull new told_new
tells_full words new full told_new i told one two whole =
    let size = one.size in
    let size_too = two.size in
    record {
      covers = let covers = told.covers in omega arith;
      tells = λ w within. elim (cases_eq w (i / 64)) [
        | inl is ↦
            let yes : eqb w (i / 64) ≡ true = eq-eqb _ _ is in
            two.bits w ∙ rw yes whole ∙ ap (λ (v : ℕ). eqb (get_or new v 0) 18446744073709551615) (sym is)
        | inr other ↦
            let no : eqb w (i / 64) ≡ false = ne_eqb _ _ other in
            two.bits w ∙ rw no (told.tells w (omega arith)) ∙ ap (λ (x : ℕ). eqb x 18446744073709551615) (sym (one.others w other))
      ];
    }

-- ---- one bit is cleared

pub clears : (words : List ℕ) (i k : ℕ) → i < 64 * length words → is_set (set words (i / 64) (bit_and (get_or words (i / 64) 0) (18446744073709551615 - 1 * 2 ^ (i % 64) % 18446744073709551616))) k ≡ (is_set words k && not (eqb k i))
unfolding is_set
clears words i k lt =
    let x = bit_and (get_or words (i / 64) 0) (18446744073709551615 - 1 * 2 ^ (i % 64) % 18446744073709551616) in
    let at : i / 64 < length words = omega arith in
    let small : i % 64 < 64 = omega arith in
    elim (cases_eq k i) [
      | inl is ↦
          let yes : eqb k i ≡ true = eq-eqb k i is in
          let bit : bit_at (get_or (set words (i / 64) x) (k / 64) 0) (k % 64) ≡ 0 = rw (is, get_or-set_same words (i / 64) x 0 at) (bit_at_clear_same w64 (get_or words (i / 64) 0) (i % 64) small) in
          ap (λ (n : ℕ). eqb n 1) bit ∙ rw yes (sym (never (eqb (bit_at (get_or words (k / 64) 0) (k % 64)) 1)))
      | inr other ↦
          let no : eqb k i ≡ false = ne_eqb k i other in
          let same : bit_at (get_or (set words (i / 64) x) (k / 64) 0) (k % 64) ≡ bit_at (get_or words (k / 64) 0) (k % 64) = elim (cases_eq (k / 64) (i / 64)) [
            | inl near ↦
                let ne : k % 64 ≢ i % 64 = λ e. other (omega arith) in
                let here : k % 64 < 64 = omega arith in
                rw (near, get_or-set_same words (i / 64) x 0 at) (bit_at_clear_other w64 (get_or words (i / 64) 0) (i % 64) small (k % 64) here ne)
            | inr far ↦ ap (λ (y : ℕ). bit_at y (k % 64)) (get_or-set_other words (i / 64) (k / 64) x 0 far)
          ] in
          ap (λ (n : ℕ). eqb n 1) same ∙ rw no (sym (always (eqb (bit_at (get_or words (k / 64) 0) (k % 64)) 1)))
    ]
  where
    never : (a : Bool) → (a && false) ≡ false
    never true = refl
    never false = refl

    always : (a : Bool) → (a && true) ≡ a
    always true = refl
    always false = refl

-- The new words lack bit i, and otherwise have what was there.
pub record BitCleared (old new : List ℕ) (i : ℕ) : Type 0 where
  pub size : length new ≡ length old
  pub bits : (k : ℕ) → is_set new k ≡ (is_set old k && not (eqb k i))
  pub others : (w : ℕ) → w ≢ i / 64 → get_or new w 0 ≡ get_or old w 0

pub cleared : (old new : List ℕ) (i : ℕ) → BitCleared old new i → is_set new i ≡ false
cleared old new i is =
    let yes : eqb i i ≡ true = eq-eqb i i refl in
    is.bits i ∙ rw yes (never (is_set old i))
  where
    never : (a : Bool) → (a && false) ≡ false
    never true = refl
    never false = refl

-- no word is full that has lost a bit
pub tells_cleared : (words new full told_new : List ℕ) (i : ℕ) → TellsFull words full → BitCleared words new i → BitCleared full told_new (i / 64) → TellsFull new told_new
tells_cleared words new full told_new i told one two =
    let size = one.size in
    let size_too = two.size in
    record {
      covers = let covers = told.covers in omega arith;
      tells = λ w within. elim (cases_eq w (i / 64)) [
        | inl is ↦ ap (is_set told_new) is ∙ cleared full told_new (i / 64) two ∙ sym (clear_word new i (cleared words new i one)) ∙ ap (λ (v : ℕ). eqb (get_or new v 0) 18446744073709551615) (sym is)
        | inr other ↦
            let no : eqb w (i / 64) ≡ false = ne_eqb _ _ other in
            two.bits w ∙ rw no (always (is_set full w)) ∙ told.tells w (omega arith) ∙ ap (λ (x : ℕ). eqb x 18446744073709551615) (sym (one.others w other))
      ];
    }
  where
    always : (a : Bool) → (a && true) ≡ a
    always true = refl
    always false = refl

-- ---- words are joined

either_bit : (a b : ℕ) → a < 2 → b < 2 → eqb (max a b) 1 ≡ (eqb a 1 || eqb b 1)
either_bit zero zero la lb = refl
either_bit zero (suc zero) la lb = refl
either_bit (suc zero) zero la lb = refl
either_bit (suc zero) (suc zero) la lb = refl
either_bit (suc (suc a)) b la lb = absurd (omega (arith, la))
either_bit a (suc (suc b)) la lb = absurd (omega (arith, lb))

pub or_bit : (a b j : ℕ) → eqb (bit_at (bit_or a b) j) 1 ≡ (eqb (bit_at a j) 1 || eqb (bit_at b j) 1)
or_bit a b j = ap (λ (n : ℕ). eqb n 1) (bit_at_or a b j) ∙ either_bit (bit_at a j) (bit_at b j) (bit_at-lt a j) (bit_at-lt b j)

pub joined : (old other new : List ℕ) → ((v : ℕ) → get_or new v 0 ≡ bit_or (get_or old v 0) (get_or other v 0)) → (k : ℕ) → is_set new k ≡ (is_set old k || is_set other k)
unfolding is_set
joined old other new each k =
    ap (λ (x : ℕ). eqb (bit_at x (k % 64)) 1) (each (k / 64)) ∙ or_bit (get_or old (k / 64) 0) (get_or other (k / 64) 0) (k % 64)

-- past the end there is nothing
pub none_past : (words : List ℕ) (v : ℕ) → length words ≤ v → get_or words v 0 ≡ 0
none_past words v le = get_or_past words v 0 le

pub or_zeros : (a b : ℕ) → a ≡ 0 → b ≡ 0 → a ≡ bit_or a b
or_zeros a b e f = e ∙ sym (rw (e, f) refl)

-- ---- the halves of a word

pub low_half : (words : List ℕ) (h j : ℕ) → j < 32 → h % 2 ≡ 0 → eqb (bit_at (get_or words (h / 2) 0 % 4294967296) j) 1 ≡ is_set words (32 * h + j)
low_half words h j lt even =
    let x = get_or words (h / 2) 0 in
    let whole : x / 4294967296 * 2 ^ 32 + x % 4294967296 ≡ x = omega arith in
    ap (λ (n : ℕ). eqb n 1) (sym (bit_at_cat_low (x / 4294967296) 32 (x % 4294967296) j lt) ∙ ap (λ (y : ℕ). bit_at y j) whole) ∙ sym (at_bit words (h / 2) j (32 * h + j) (omega arith) (omega arith))

pub high_half : (words : List ℕ) (h j : ℕ) → j < 32 → h % 2 ≢ 0 → eqb (bit_at (get_or words (h / 2) 0 / 4294967296) j) 1 ≡ is_set words (32 * h + j)
high_half words h j lt odd =
    let x = get_or words (h / 2) 0 in
    let whole : x / 4294967296 * 2 ^ 32 + x % 4294967296 ≡ x = omega arith in
    let back : 32 + j - 32 ≡ j = omega arith in
    let small : x % 4294967296 < 2 ^ 32 = omega arith in
    let bit : bit_at (x / 4294967296) j ≡ bit_at x (32 + j) =
    ap (bit_at (x / 4294967296)) (sym back) ∙ sym (bit_at_cat_high (x / 4294967296) 32 (x % 4294967296) (32 + j) small (omega arith)) ∙ ap (λ (y : ℕ). bit_at y (32 + j)) whole in
    ap (λ (n : ℕ). eqb n 1) bit ∙ sym (at_bit words (h / 2) (32 + j) (32 * h + j) (omega arith) (omega arith))
