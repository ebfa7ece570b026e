-- Sets of the first numbers, in words.
use Rattle.std.proofs.Common.{◌≡◌, ℕ, ◌+◌, ◌*◌, ◌<◌, Bool, false, ◌||◌, List, length, get_or, refl, sym, ap, ◌∙◌, arith, inl, inr}
use Rattle.std.proofs.lemmas.Bool.{cases_lt}
use Rattle.std.proofs.lemmas.List.{get_or_past}
use Rattle.r4_space.specs.Words.{is_set, first_bits}
use Rattle.r4_space.specs.TakenWords.{AreWords}
use Rattle.r4_space.proofs.TakenLaws.{length-first_bits, get_or-first_bits}

pub size_of : (n : ℕ) (words : List ℕ) (bits : List Bool) → first_bits n words ≡ bits → n ≡ length bits
size_of n words bits is = sym (length-first_bits n words) ∙ ap length is

-- a number of the set has a bit
pub in_bits : (n i : ℕ) (words : List ℕ) (bits : List Bool) → first_bits n words ≡ bits → i < length bits → AreWords n words → (i < n) × (i < 64 * length words)
in_bits n i words bits is lt are =
    let size = size_of n words bits is in
    let covers = are.covers in
    (omega arith, omega arith)

pub bit_of : (n i : ℕ) (words : List ℕ) (bits : List Bool) → first_bits n words ≡ bits → i < n → is_set words i ≡ get_or bits i false
bit_of n i words bits is lt = sym (get_or-first_bits n i false words lt) ∙ ap (λ (bits : List Bool). get_or bits i false) is

pub has_bit_of : (n i : ℕ) (words : List ℕ) (bits : List Bool) → first_bits n words ≡ bits → i < length bits → is_set words i ≡ get_or bits i false
has_bit_of n i words bits is lt = let size = size_of n words bits is in bit_of n i words bits is (omega arith)

pub same_size : (n : ℕ) (words new : List ℕ) → length new ≡ length words → AreWords n words → AreWords n new
same_size n words new size are = record { most = are.most; covers = size ∙ are.covers }

pub alike : (n m : ℕ) (words other : List ℕ) (bits more : List Bool) → first_bits n words ≡ bits → first_bits m other ≡ more → length bits ≡ length more → AreWords n words → AreWords m other → length words ≡ length other
alike n m words other bits more is is_too size are are_too =
    let a = size_of n words bits is in
    let b = size_of m other more is_too in
    let c = are.covers in
    let d = are_too.covers in
    omega arith

-- past the end nothing is in a set
past : (a b c : Bool) → a ≡ false → b ≡ false → c ≡ false → a ≡ (b || c)
past a b c e f g = e ∙ sym (rw (f, g) refl)

pub joined_bits : (n m : ℕ) (words other new : List ℕ) (bits more : List Bool) → first_bits n words ≡ bits → first_bits m other ≡ more → length bits ≡ length more
    → ((k : ℕ) → is_set new k ≡ (is_set words k || is_set other k)) → (b : ℕ) → get_or (first_bits n new) b false ≡ (get_or bits b false || get_or more b false)
joined_bits n m words other new bits more is is_too size each b =
    let x = size_of n words bits is in
    let y = size_of m other more is_too in
    let z = length-first_bits n new in
    elim (cases_lt b n) [
      | inl lt ↦ get_or-first_bits n b false new lt ∙ each b ∙ rw (bit_of n b words bits is lt, bit_of m b other more is_too (omega arith)) refl
      | inr le ↦ past _ _ _ (get_or_past (first_bits n new) b false (omega arith)) (get_or_past bits b false (omega arith)) (get_or_past more b false (omega arith))
    ]

pub half_within : (n h : ℕ) (words : List ℕ) (bits : List Bool) → first_bits n words ≡ bits → 32 * h < length bits → AreWords n words → h < 2 * length words
half_within n h words bits is lt are =
    let size = size_of n words bits is in
    let covers = are.covers in
    omega arith

pub half_bits : (n h j : ℕ) (words : List ℕ) (bits : List Bool) → first_bits n words ≡ bits → 32 * h + j < length bits → is_set words (32 * h + j) ≡ get_or bits (32 * h + j) false
half_bits n h j words bits is lt = has_bit_of n (32 * h + j) words bits is lt
