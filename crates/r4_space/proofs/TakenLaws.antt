-- The bits of the first numbers.
use Rattle.std.proofs.Common.{◌≡◌, ℕ, zero, suc, ◌+◌, ◌-◌, ◌*◌, ◌/◌, ◌%◌, ◌<◌, ◌≤◌, Bool, true, false, not, ◌||◌, ◌&&◌, cond, eqb, List, length, get_or, set, refl, sym, ap, ◌∙◌, arith, inl, inr}
use Rattle.std.specs.Prelude.{replicate, count_by}
use Rattle.std.proofs.lemmas.Bool.{eq-eqb, ne_eqb, cases_eq}
use Rattle.std.proofs.lemmas.List.{same_lists, length-set, length-replicate, get_or-set_same, get_or-set_other, get_or-replicate}
use Rattle.std.proofs.lemmas.List.FromFn.{length-map-range_with_len, get_or-map-range_with_len}
use Rattle.std.proofs.lemmas.List.Sums.{sum_by-cons, count_by-le-length}
use Rattle.std.proofs.lemmas.Nat.Bits.{bit_at-zero}
use Rattle.r4_base.proofs.Bitmaps.{free_bits-set, free_bits-clear}
use Rattle.r4_space.specs.Words.{is_set, first_bits, IsFirstClear, IsFull, TellsFull}
use Rattle.r4_space.specs.TakenWords.{IsTaken}

pub length-first_bits : (n : ℕ) (words : List ℕ) → length (first_bits n words) ≡ n
unfolding first_bits
length-first_bits n words = length-map-range_with_len (is_set words) 0 n

pub get_or-first_bits : (n k : ℕ) (d : Bool) (words : List ℕ) → k < n → get_or (first_bits n words) k d ≡ is_set words k
unfolding first_bits
get_or-first_bits n k d words lt = get_or-map-range_with_len (is_set words) 0 n k k d lt (omega arith)

pub first_bits-set : (n i : ℕ) (words new : List ℕ) → i < n → ((k : ℕ) → is_set new k ≡ (eqb k i || is_set words k)) → first_bits n new ≡ set (first_bits n words) i true
first_bits-set n i words new lt bits =
    let a = length-first_bits n words in
    let b = length-first_bits n new in
    let c = length-set (first_bits n words) i true in
    same_lists (first_bits n new) (set (first_bits n words) i true) (omega arith) (λ k d h.
    let within : k < n = omega arith in
    elim (cases_eq k i) [
      | inl is ↦
          let yes : eqb k i ≡ true = eq-eqb _ _ is in
          get_or-first_bits n k d new within ∙ bits k ∙ rw (yes, is) (sym (get_or-set_same (first_bits n words) i true d (omega arith)))
      | inr other ↦
          let no : eqb k i ≡ false = ne_eqb _ _ other in
          get_or-first_bits n k d new within ∙ bits k ∙ rw no (sym (get_or-set_other (first_bits n words) i k true d other ∙ get_or-first_bits n k d words within))
    ])

-- a bit that is set already
pub first_bits-again : (n i : ℕ) (words : List ℕ) → i < n → is_set words i ≡ true → first_bits n words ≡ set (first_bits n words) i true
first_bits-again n i words lt on = first_bits-set n i words words lt (λ k. elim (cases_eq k i) [
  | inl is ↦ let yes : eqb k i ≡ true = eq-eqb _ _ is in rw (yes, is) on
  | inr other ↦ let no : eqb k i ≡ false = ne_eqb _ _ other in rw no refl
])

-- one number fewer is clear
pub count-take : (n i clear : ℕ) (words new : List ℕ) → i < n → is_set words i ≡ false → ((k : ℕ) → is_set new k ≡ (eqb k i || is_set words k)) → clear ≡ count_by not (first_bits n words) → (1 ≤ clear) × (clear - 1 ≡ count_by not (first_bits n new))
count-take n i clear words new lt off bits counted =
    let a = length-first_bits n words in
    let one = free_bits-set (first_bits n words) i false (omega arith) (get_or-first_bits n i false words lt ∙ off) in
    let is : count_by not (first_bits n new) ≡ count_by not (set (first_bits n words) i true) = ap (λ (bits : List Bool). count_by not bits) (first_bits-set n i words new lt bits) in
    (omega arith, omega arith)

-- ---- one number is given back

and_never : (a : Bool) → (a && false) ≡ false
and_never true = refl
and_never false = refl

and_always : (a : Bool) → (a && true) ≡ a
and_always true = refl
and_always false = refl

pub first_bits-clear : (n i : ℕ) (words new : List ℕ) → i < n → ((k : ℕ) → is_set new k ≡ (is_set words k && not (eqb k i))) → first_bits n new ≡ set (first_bits n words) i false
first_bits-clear n i words new lt bits =
    let a = length-first_bits n words in
    let b = length-first_bits n new in
    let c = length-set (first_bits n words) i false in
    same_lists (first_bits n new) (set (first_bits n words) i false) (omega arith) (λ k d h.
    let within : k < n = omega arith in
    elim (cases_eq k i) [
      | inl is ↦
          let yes : eqb k i ≡ true = eq-eqb _ _ is in
          get_or-first_bits n k d new within ∙ bits k ∙ rw yes (and_never (is_set words k)) ∙ sym (ap (λ (j : ℕ). get_or (set (first_bits n words) i false) j d) is ∙ get_or-set_same (first_bits n words) i false d (omega arith))
      | inr other ↦
          let no : eqb k i ≡ false = ne_eqb _ _ other in
          get_or-first_bits n k d new within ∙ bits k ∙ rw no (and_always (is_set words k)) ∙ sym (get_or-set_other (first_bits n words) i k false d other ∙ get_or-first_bits n k d words within)
    ])

-- a bit that is clear already
pub first_bits-clear_again : (n i : ℕ) (words : List ℕ) → i < n → is_set words i ≡ false → first_bits n words ≡ set (first_bits n words) i false
first_bits-clear_again n i words lt off = first_bits-clear n i words words lt (λ k. elim (cases_eq k i) [
  | inl is ↦ let yes : eqb k i ≡ true = eq-eqb _ _ is in rw yes (ap (is_set words) is ∙ off ∙ sym (and_never (is_set words k)))
  | inr other ↦ let no : eqb k i ≡ false = ne_eqb _ _ other in rw no (sym (and_always (is_set words k)))
])

-- one number more is clear
pub count-give : (n i clear : ℕ) (words new : List ℕ) → i < n → is_set words i ≡ true → ((k : ℕ) → is_set new k ≡ (is_set words k && not (eqb k i))) → clear ≡ count_by not (first_bits n words) → (clear + 1 ≤ n) × (clear + 1 ≡ count_by not (first_bits n new))
count-give n i clear words new lt on bits counted =
    let a = length-first_bits n words in
    let b = length-first_bits n new in
    let one = free_bits-clear (first_bits n words) i false (omega arith) (get_or-first_bits n i false words lt ∙ on) in
    let is : count_by not (first_bits n new) ≡ count_by not (set (first_bits n words) i false) = ap (λ (bits : List Bool). count_by not bits) (first_bits-clear n i words new lt bits) in
    let most : count_by not (first_bits n new) ≤ length (first_bits n new) = count_by-le-length not (first_bits n new) in
    (omega arith, omega arith)

-- ---- words of zeros

get_or-zeros : (n i z : ℕ) → z ≡ 0 → get_or (replicate n z) i z ≡ z
get_or-zeros zero i z e = refl
get_or-zeros (suc n) zero z e = refl
get_or-zeros (suc n) (suc i) z e = get_or-zeros n i z e

pub is_set-zeros : (n k : ℕ) → is_set (replicate n 0) k ≡ false
unfolding is_set
is_set-zeros n k = rw (get_or-zeros n (k / 64) 0 refl, bit_at-zero (k % 64)) refl

pub first_bits-zeros : (n m : ℕ) → first_bits n (replicate m 0) ≡ replicate n false
first_bits-zeros n m =
    let a = length-first_bits n (replicate m 0) in
    let b = length-replicate n false in
    same_lists (first_bits n (replicate m 0)) (replicate n false) (omega arith) (λ k d h.
    let within : k < n = omega arith in
    get_or-first_bits n k d (replicate m 0) within ∙ is_set-zeros m k ∙ sym (get_or-replicate n k false d within))

pub count-clear : (n : ℕ) → count_by not (replicate n false) ≡ n
count-clear zero = refl
count-clear (suc n) = add_one _ n (sum_by-cons (λ (used : Bool). cond (not used) 1 0) false (replicate n false)) (count-clear n)
  where
    add_one : (k n : ℕ) {m : ℕ} → m ≡ 1 + k → k ≡ n → m ≡ suc n
    add_one k n e f = omega arith

pub count-zeros : (n m : ℕ) → n ≡ count_by not (first_bits n (replicate m 0))
count-zeros n m = sym (ap (λ (bits : List Bool). count_by not bits) (first_bits-zeros n m) ∙ count-clear n)

pub tells-zeros : (n m : ℕ) → n ≤ 64 * m → TellsFull (replicate n 0) (replicate m 0)
tells-zeros n m le =
    let z : ℕ = 0 in
    let a : length (replicate n z) ≡ n = length-replicate n z in
    let b : length (replicate m z) ≡ m = length-replicate m z in
    record {
      covers = omega arith;
      tells = λ w lt. is_set-zeros m w ∙ rw (get_or-zeros n w 0 refl) refl;
    }

-- ---- the first that is clear, among the bits that show

pub shows_clear : (n m from i : ℕ) (words : List ℕ) → IsFirstClear (is_set words) m from i → i < n → IsFirstClear (λ k. get_or (first_bits n words) k true) n from i
shows_clear n m from i words first lt = record {
  from_on = first.from_on;
  within = lt;
  clear = get_or-first_bits n i true words lt ∙ first.clear;
  before = λ k ge below. get_or-first_bits n k true words (omega arith) ∙ first.before k ge below;
}

pub shows_full : (n m from : ℕ) (words : List ℕ) → n ≤ m → IsFull (is_set words) m from → IsFull (λ k. get_or (first_bits n words) k true) n from
shows_full n m from words le full k ge lt = get_or-first_bits n k true words lt ∙ full k ge (omega arith)

-- a number of the set has a bit
pub in_words : (n i m : ℕ) (words : List ℕ) (bits : List Bool) → first_bits n words ≡ bits → i < length bits → n ≤ 64 * m → (i < n) × (i < 64 * m)
in_words n i m words bits is lt covers =
    let size = length-first_bits n words in
    let same : length (first_bits n words) ≡ length bits = ap length is in
    (omega arith, omega arith)

pub has_bit : (n i : ℕ) (words : List ℕ) (bits : List Bool) → first_bits n words ≡ bits → i < n → is_set words i ≡ get_or bits i true
has_bit n i words bits is lt = sym (get_or-first_bits n i true words lt) ∙ ap (λ (bits : List Bool). get_or bits i true) is

pub shown_clear : (n m from i : ℕ) (words : List ℕ) (bits : List Bool) → first_bits n words ≡ bits → IsFirstClear (is_set words) m from i → i < n → IsFirstClear (λ k. get_or bits k true) (length bits) from i
shown_clear n m from i words bits is first lt =
    rw (← is, length-first_bits n words) (shows_clear n m from i words first lt)

pub shown_full : (n m from : ℕ) (words : List ℕ) (bits : List Bool) → first_bits n words ≡ bits → n ≤ m → IsFull (is_set words) m from → IsFull (λ k. get_or bits k true) (length bits) from
shown_full n m from words bits is le full =
    rw (← is, length-first_bits n words) (shows_full n m from words le full)

-- the first clear one lies past the end
pub past_end : (n m from i : ℕ) (words : List ℕ) → IsFirstClear (is_set words) m from i → n ≤ i → IsFull (is_set words) n from
past_end n m from i words first le k ge lt = first.before k ge (omega arith)

-- ---- the words as a whole

pub same_words : (n clear : ℕ) (words full fuller words' full' fuller' : List ℕ) → words' ≡ words → full' ≡ full → fuller' ≡ fuller → IsTaken n words full fuller clear → IsTaken n words' full' fuller' clear
same_words n clear words full fuller words' full' fuller' one two three is = rw (one, two, three) is

pub taken_zeros : (n w f u : ℕ) → w ≤ 65536 → f ≤ 65536 → u ≤ 65536 → n ≤ 64 * w → w ≤ 64 * f → f ≤ 64 * u → IsTaken n (replicate w 0) (replicate f 0) (replicate u 0) n
taken_zeros n w f u a b c d e g =
    let z : ℕ = 0 in
    let one : length (replicate w z) ≡ w = length-replicate w z in
    let two : length (replicate f z) ≡ f = length-replicate f z in
    let three : length (replicate u z) ≡ u = length-replicate u z in
    record {
      small = omega arith;
      small_too = omega arith;
      small_three = omega arith;
      covers = omega arith;
      told = tells-zeros w f e;
      told_too = tells-zeros f u g;
      counted = count-zeros n w;
    }

-- all of it is made 0
pub taken_wiped : (n clear : ℕ) (words full fuller : List ℕ) → IsTaken n words full fuller clear → IsTaken n (replicate (length words) 0) (replicate (length full) 0) (replicate (length fuller) 0) n
taken_wiped n clear words full fuller is = taken_zeros n (length words) (length full) (length fuller) is.small is.small_too is.small_three is.covers is.told.covers is.told_too.covers

-- one number more is taken
pub taken_more : (n i clear : ℕ) (words full fuller words' full' fuller' : List ℕ) → IsTaken n words full fuller clear → i < n → is_set words i ≡ false
    → length words' ≡ length words → length full' ≡ length full → length fuller' ≡ length fuller → ((k : ℕ) → is_set words' k ≡ (eqb k i || is_set words k)) → TellsFull words' full' → TellsFull full' fuller'
    → IsTaken n words' full' fuller' (clear - 1)
taken_more n i clear words full fuller words' full' fuller' is lt off a b c bits told told_too =
    let s1 = is.small in
    let s2 = is.small_too in
    let s3 = is.small_three in
    let s4 = is.covers in
    record {
      small = omega arith;
      small_too = omega arith;
      small_three = omega arith;
      covers = omega arith;
      told = told;
      told_too = told_too;
      counted = (count-take n i clear words words' lt off bits is.counted).1;
    }

-- one number fewer is taken
pub taken_fewer : (n i clear : ℕ) (words full fuller words' full' fuller' : List ℕ) → IsTaken n words full fuller clear → i < n → is_set words i ≡ true
    → length words' ≡ length words → length full' ≡ length full → length fuller' ≡ length fuller → ((k : ℕ) → is_set words' k ≡ (is_set words k && not (eqb k i))) → TellsFull words' full' → TellsFull full' fuller'
    → IsTaken n words' full' fuller' (clear + 1)
taken_fewer n i clear words full fuller words' full' fuller' is lt on a b c bits told told_too =
    let s1 = is.small in
    let s2 = is.small_too in
    let s3 = is.small_three in
    let s4 = is.covers in
    record {
      small = omega arith;
      small_too = omega arith;
      small_three = omega arith;
      covers = omega arith;
      told = told;
      told_too = told_too;
      counted = (count-give n i clear words words' lt on bits is.counted).1;
    }
