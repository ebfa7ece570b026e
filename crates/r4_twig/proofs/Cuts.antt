-- A unit cut in two: which block holds a byte, and what is accepted again.
use Rattle.std.proofs.Common.{◌≡◌, ◌≢◌, inl, inr, ℕ, zero, suc, ◌+◌, ◌-◌, ◌<◌, ◌≤◌, Bool, true, false, ◌||◌, cond, eqb, List, [], ◌∷◌, length, get_or, Some, None, refl, sym, ap, ◌∙◌, arith}
use Rattle.std.specs.Prelude.{slice_get}
use Rattle.std.specs.Option.{ForSome}
use Rattle.std.proofs.lemmas.Bool.{eq-eqb, ne_eqb, lt-ltb, le-ltb, cases_eq, cases_lt}
use Rattle.r4_base.specs.Bitmap.{is_fixed}
use Rattle.r4_base.specs.declared.items.Unit.{Unit as ExtentUnit}
use Rattle.r4_base.specs.Extents.{holds_fixed, block_of, blocks_in, unit_past, cut_at, IsLawfulUnit, AreLawfulUnits}

-- ---- which block

-- a block of the second part
past_block : (start k n : ℕ) → k ≤ n → cond (eqb (cond (eqb start 0) 0 (start + k)) 0) None (Some (cond (eqb start 0) 0 (start + k) + (n - k))) ≡ cond (eqb start 0) None (Some (start + n))
past_block start k n le = elim (cases_eq start 0) [
  | inl hole ↦ rw (eq-eqb start 0 hole) refl
  | inr run ↦
      let ne : start + k ≢ 0 = λ e. run (omega arith) in
      let same : start + k + (n - k) ≡ start + n = omega arith in
      rw (ne_eqb start 0 run, ne_eqb (start + k) 0 ne, same) refl
]

cut_first : (u : ExtentUnit) (us : List ExtentUnit) (k n : ℕ) → k ≤ u.width → block_of (cut_at zero k (u ∷ us)) n ≡ block_of (u ∷ us) n
unfolding block_of
cut_first u us k n le = elim (cases_lt n k) [
  | inl early ↦ rw (lt-ltb n k early, lt-ltb n u.width (omega arith)) refl
  | inr late ↦ elim (cases_lt n u.width) [
    | inl inside ↦ rw (le-ltb n k late, lt-ltb (n - k) (u.width - k) (omega arith), lt-ltb n u.width inside) (past_block u.start k n late)
    | inr past ↦
        let left : n - k - (u.width - k) ≡ n - u.width = omega arith in
        rw (le-ltb n k late, le-ltb (n - k) (u.width - k) (omega arith), le-ltb n u.width past) (ap (block_of us) left)
  ]
]

pub block_of-cut_at : (us : List ExtentUnit) (i k n : ℕ) → ForSome (slice_get us i) (λ u. k ≤ u.width) → block_of (cut_at i k us) n ≡ block_of us n
unfolding block_of
block_of-cut_at [] i k n h = refl
block_of-cut_at (u ∷ us) zero k n h = cut_first u us k n (h u refl)
block_of-cut_at (u ∷ us) (suc i) k n h = let ih = block_of-cut_at us i k (n - u.width) h in rw ih refl

pub blocks_in-cut_at : (us : List ExtentUnit) (i k : ℕ) → ForSome (slice_get us i) (λ u. k ≤ u.width) → blocks_in (cut_at i k us) ≡ blocks_in us
blocks_in-cut_at [] i k h = refl
blocks_in-cut_at (u ∷ us) zero k h = let le : k ≤ u.width = h u refl in omega arith
blocks_in-cut_at (u ∷ us) (suc i) k h = ap (λ (n : ℕ). u.width + n) (blocks_in-cut_at us i k h)

pub length-cut_at : (us : List ExtentUnit) (i k : ℕ) → i < length us → length (cut_at i k us) ≡ length us + 1
length-cut_at [] i k lt = absurd (omega arith)
length-cut_at (u ∷ us) zero k lt = omega arith
length-cut_at (u ∷ us) (suc i) k lt = let ih = length-cut_at us i k (omega arith) in omega arith

-- ---- the units, by their places

pub get_or-cut_below : (us : List ExtentUnit) (i k j : ℕ) (d : ExtentUnit) → j < i → get_or (cut_at i k us) j d ≡ get_or us j d
get_or-cut_below [] i k j d lt = refl
get_or-cut_below (u ∷ us) zero k j d lt = absurd (omega arith)
get_or-cut_below (u ∷ us) (suc i) k zero d lt = refl
get_or-cut_below (u ∷ us) (suc i) k (suc j) d lt = get_or-cut_below us i k j d (omega arith)

pub get_or-cut_here : (us : List ExtentUnit) (i k : ℕ) (d : ExtentUnit) → i < length us → get_or (cut_at i k us) i d ≡ record (get_or us i d) { width = k }
get_or-cut_here [] i k d lt = absurd (omega arith)
get_or-cut_here (u ∷ us) zero k d lt = refl
get_or-cut_here (u ∷ us) (suc i) k d lt = get_or-cut_here us i k d (omega arith)

pub get_or-cut_next : (us : List ExtentUnit) (i k : ℕ) (d : ExtentUnit) → i < length us → get_or (cut_at i k us) (suc i) d ≡ unit_past k (get_or us i d)
get_or-cut_next [] i k d lt = absurd (omega arith)
get_or-cut_next (u ∷ us) zero k d lt = refl
get_or-cut_next (u ∷ us) (suc i) k d lt = get_or-cut_next us i k d (omega arith)

pub get_or-cut_above : (us : List ExtentUnit) (i k j : ℕ) (d : ExtentUnit) → i < length us → i < j → get_or (cut_at i k us) (suc j) d ≡ get_or us j d
get_or-cut_above [] i k j d lt past = absurd (omega arith)
get_or-cut_above (u ∷ us) zero k zero d lt past = absurd (omega arith)
get_or-cut_above (u ∷ us) zero k (suc j) d lt past = refl
get_or-cut_above (u ∷ us) (suc i) k zero d lt past = absurd (omega arith)
get_or-cut_above (u ∷ us) (suc i) k (suc j) d lt past = get_or-cut_above us i k j d (omega arith) (omega arith)

-- ---- what is accepted again

or_assoc : (p q r : Bool) → (p || q) || r ≡ p || (q || r)
or_assoc true q r = refl
or_assoc false q r = refl

-- a run in two parts
pub holds_fixed-parts : (blocks start k rest : ℕ) → holds_fixed blocks start (k + rest) ≡ holds_fixed blocks start k || holds_fixed blocks (start + k) rest
unfolding holds_fixed
holds_fixed-parts blocks start zero rest =
    let n : 0 + rest ≡ rest = omega arith in
    let s : start ≡ start + 0 = omega arith in
    ap (holds_fixed blocks start) n ∙ ap (λ (m : ℕ). holds_fixed blocks m rest) s
holds_fixed-parts blocks start (suc k) rest =
    let n : suc k + rest ≡ suc (k + rest) = omega arith in
    let s : start + 1 + k ≡ start + suc k = omega arith in
    ap (holds_fixed blocks start) n ∙ rw (holds_fixed-parts blocks (start + 1) k rest, s) (sym (or_assoc (is_fixed blocks start) (holds_fixed blocks (start + 1) k) (holds_fixed blocks (start + suc k) rest)))

pub neither : (p q : Bool) → p || q ≡ false → (p ≡ false) × (q ≡ false)
neither false false e = (refl, refl)
neither false true e = absurd cc
neither true q e = absurd cc

lawful_first : (in_memory : Bool) (blocks k : ℕ) (u : ExtentUnit) → 0 < k → k < u.width → IsLawfulUnit in_memory blocks u → IsLawfulUnit in_memory blocks (record u { width = k })
lawful_first in_memory blocks k u some lt (inl h) = let one : u.width ≡ 1 = h.2 in absurd (omega arith)
lawful_first in_memory blocks k u some lt (inr (inl h)) = inr (inl (h.0, some))
lawful_first in_memory blocks k u some lt (inr (inr h)) =
    let fit : u.start + u.width ≤ blocks = h.within in
    let n : k + (u.width - k) ≡ u.width = omega arith in
    let parts = neither (holds_fixed blocks u.start k) (holds_fixed blocks (u.start + k) (u.width - k)) (sym (holds_fixed-parts blocks u.start k (u.width - k)) ∙ ap (holds_fixed blocks u.start) n ∙ h.spares_fixed) in
    inr (inr (record { start = h.start; width = some; within = omega arith; spares_fixed = parts.0 }))

lawful_rest : (in_memory : Bool) (blocks k : ℕ) (u : ExtentUnit) → 0 < k → k < u.width → IsLawfulUnit in_memory blocks u → IsLawfulUnit in_memory blocks (unit_past k u)
lawful_rest in_memory blocks k u some lt (inl h) = let one : u.width ≡ 1 = h.2 in absurd (omega arith)
lawful_rest in_memory blocks k u some lt (inr (inl h)) = rw (eq-eqb u.start 0 h.0) (inr (inl (refl, omega arith)))
lawful_rest in_memory blocks k u some lt (inr (inr h)) =
    let high : 22 ≤ u.start = h.start in
    let fit : u.start + u.width ≤ blocks = h.within in
    let run : u.start ≢ 0 = λ e. omega arith in
    let n : k + (u.width - k) ≡ u.width = omega arith in
    let parts = neither (holds_fixed blocks u.start k) (holds_fixed blocks (u.start + k) (u.width - k)) (sym (holds_fixed-parts blocks u.start k (u.width - k)) ∙ ap (holds_fixed blocks u.start) n ∙ h.spares_fixed) in
    rw (ne_eqb u.start 0 run) (inr (inr (record { start = omega arith; width = omega arith; within = omega arith; spares_fixed = parts.1 })))

pub lawful-cut_at : (in_memory : Bool) (blocks : ℕ) (us : List ExtentUnit) (i k : ℕ) → 0 < k → ForSome (slice_get us i) (λ u. k < u.width) → AreLawfulUnits in_memory blocks us → AreLawfulUnits in_memory blocks (cut_at i k us)
lawful-cut_at in_memory blocks [] i k some inside h = tt
lawful-cut_at in_memory blocks (u ∷ us) zero k some inside h = (lawful_first in_memory blocks k u some (inside u refl) h.0, (lawful_rest in_memory blocks k u some (inside u refl) h.0, h.1))
lawful-cut_at in_memory blocks (u ∷ us) (suc i) k some inside h = (h.0, lawful-cut_at in_memory blocks us i k some inside h.1)
