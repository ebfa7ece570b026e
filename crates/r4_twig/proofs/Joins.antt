-- Units made one: which block holds a byte, and what is accepted again.
use Rattle.std.proofs.Common.{◌≡◌, ◌≢◌, ◌⊎◌, inl, inr, ℕ, suc, ◌+◌, ◌-◌, ◌^◌, ◌<◌, ◌≤◌, Bool, true, false, not, ◌&&◌, cond, eqb, leb, List, [], ◌∷◌, length, Some, None, refl, sym, ap, ◌∙◌, arith}
use Rattle.std.proofs.lemmas.Bool.{and_parts, cases_Bool, cases_eq, cases_lt, eq-eqb, eqb-true, le-ltb, leb-false, lt-ltb, ne_eqb, not-true}
use Rattle.r4_base.specs.declared.items.Unit.{Unit as ExtentUnit}
use Rattle.r4_base.specs.Extents.{holds_fixed, block_of, blocks_in, continues, joined_to, joined, AreApart, WidthsFit, IsLawfulUnit, AreLawfulUnits}
use Rattle.r4_twig.proofs.Cuts.{holds_fixed-parts}

-- two units made one
abbrev pub made_one : ExtentUnit → ExtentUnit → ExtentUnit
made_one u v = record u { width = u.width + v.width }

-- the units behind one, after it is made one with the next or not
pub joined_more : (u v : ExtentUnit) (us : List ExtentUnit) → continues u v ≡ true → joined_to u (v ∷ us) ≡ joined_to (made_one u v) us
joined_more u v us e = rw e refl

pub joined_next : (u v : ExtentUnit) (us : List ExtentUnit) → continues u v ≡ false → joined_to u (v ∷ us) ≡ u ∷ joined_to v us
joined_next u v us e = rw e refl

-- A unit goes on where the one before it ends: and_parts are holes, or and_parts are runs.
pub record RunsOn (u v : ExtentUnit) : Type 0 where
  pub run : u.start ≢ 0
  pub low : u.start < 2 ^ 63
  pub next_low : v.start < 2 ^ 63
  pub meets : v.start ≡ u.start + u.width

pub goes_on : (u v : ExtentUnit) → continues u v ≡ true → ((u.start ≡ 0) × (v.start ≡ 0)) ⊎ RunsOn u v
goes_on u v e = elim (cases_eq u.start 0) [
  | inl hole ↦
      let second : eqb v.start 0 ≡ true = sym (ap (λ (p : Bool). cond p (eqb v.start 0) (not (leb (2 ^ 63) u.start) && not (leb (2 ^ 63) v.start) && eqb v.start (u.start + u.width))) (eq-eqb u.start 0 hole)) ∙ e in
      inl (hole, eqb-true v.start 0 second)
  | inr run ↦
      let tests : (not (leb (2 ^ 63) u.start) && not (leb (2 ^ 63) v.start) && eqb v.start (u.start + u.width)) ≡ true = sym (ap (λ (p : Bool). cond p (eqb v.start 0) (not (leb (2 ^ 63) u.start) && not (leb (2 ^ 63) v.start) && eqb v.start (u.start + u.width))) (ne_eqb u.start 0 run)) ∙ e in
      let one = and_parts (not (leb (2 ^ 63) u.start) && not (leb (2 ^ 63) v.start)) (eqb v.start (u.start + u.width)) tests in
      let two = and_parts (not (leb (2 ^ 63) u.start)) (not (leb (2 ^ 63) v.start)) one.0 in
      inr (record { run = run; low = leb-false _ _ (not-true _ two.0); next_low = leb-false _ _ (not-true _ two.1); meets = eqb-true _ _ one.1 })
]

-- ---- which block

merged_inside : (u v : ExtentUnit) (n : ℕ) → u.width ≤ n → continues u v ≡ true → cond (eqb u.start 0) None (Some (u.start + n)) ≡ cond (eqb v.start 0) None (Some (v.start + (n - u.width)))
merged_inside u v n le e = elim (goes_on u v e) [
  | inl holes ↦ rw (eq-eqb u.start 0 holes.0, eq-eqb v.start 0 holes.1) refl
  | inr runs ↦
      let run = runs.run in
      let meets = runs.meets in
      let ne : v.start ≢ 0 = λ z. run (omega arith) in
      let same : u.start + n ≡ v.start + (n - u.width) = omega arith in
      rw (ne_eqb u.start 0 run, ne_eqb v.start 0 ne, same) refl
]

merged : (u v : ExtentUnit) (us : List ExtentUnit) (n : ℕ) → continues u v ≡ true → block_of (made_one u v ∷ us) n ≡ block_of (u ∷ (v ∷ us)) n
unfolding block_of
merged u v us n e = elim (cases_lt n u.width) [
  | inl first ↦ rw (lt-ltb n (u.width + v.width) (omega arith), lt-ltb n u.width first) refl
  | inr past ↦ elim (cases_lt n (u.width + v.width)) [
    | inl second ↦ rw (lt-ltb n (u.width + v.width) second, le-ltb n u.width past, lt-ltb (n - u.width) v.width (omega arith)) (merged_inside u v n past e)
    | inr later ↦
        let left : n - (u.width + v.width) ≡ n - u.width - v.width = omega arith in
        rw (le-ltb n (u.width + v.width) later, le-ltb n u.width past, le-ltb (n - u.width) v.width (omega arith)) (ap (block_of us) left)
  ]
]

behind : (u : ExtentUnit) (us vs : List ExtentUnit) (n : ℕ) → ((m : ℕ) → block_of us m ≡ block_of vs m) → block_of (u ∷ us) n ≡ block_of (u ∷ vs) n
unfolding block_of
behind u us vs n h = rw (h (n - u.width)) refl

pub block_of-joined_to : (us : List ExtentUnit) (u : ExtentUnit) (n : ℕ) → block_of (joined_to u us) n ≡ block_of (u ∷ us) n
block_of-joined_to [] u n = refl
block_of-joined_to (v ∷ us) u n = elim (cases_Bool (continues u v)) [
  | inl on ↦ ap (λ (xs : List ExtentUnit). block_of xs n) (joined_more u v us on) ∙ block_of-joined_to us (made_one u v) n ∙ merged u v us n on
  | inr apart ↦ ap (λ (xs : List ExtentUnit). block_of xs n) (joined_next u v us apart) ∙ behind u (joined_to v us) (v ∷ us) n (block_of-joined_to us v)
]

pub block_of-joined : (us : List ExtentUnit) (n : ℕ) → block_of (joined us) n ≡ block_of us n
block_of-joined [] n = refl
block_of-joined (u ∷ us) n = block_of-joined_to us u n

-- ---- how many blocks and units

blocks_in-joined_to : (us : List ExtentUnit) (u : ExtentUnit) → blocks_in (joined_to u us) ≡ u.width + blocks_in us
blocks_in-joined_to [] u = refl
blocks_in-joined_to (v ∷ us) u = elim (cases_Bool (continues u v)) [
  | inl on ↦ let ih = blocks_in-joined_to us (made_one u v) in ap blocks_in (joined_more u v us on) ∙ omega arith
  | inr apart ↦ let ih = blocks_in-joined_to us v in ap blocks_in (joined_next u v us apart) ∙ omega arith
]

pub blocks_in-joined : (us : List ExtentUnit) → blocks_in (joined us) ≡ blocks_in us
blocks_in-joined [] = refl
blocks_in-joined (u ∷ us) = blocks_in-joined_to us u

pub length-joined_to : (us : List ExtentUnit) (u : ExtentUnit) → length (joined_to u us) ≤ suc (length us)
length-joined_to [] u = omega arith
length-joined_to (v ∷ us) u = elim (cases_Bool (continues u v)) [
  | inl on ↦ let ih = length-joined_to us (made_one u v) in let e = ap length (joined_more u v us on) in omega arith
  | inr apart ↦ let ih = length-joined_to us v in let e = ap length (joined_next u v us apart) in omega arith
]

pub length-joined : (us : List ExtentUnit) → length (joined us) ≤ length us
length-joined [] = omega arith
length-joined (u ∷ us) = length-joined_to us u

widths_fit : (us : List ExtentUnit) → blocks_in us < 2 ^ 64 → WidthsFit us
widths_fit [] h = tt
widths_fit (u ∷ us) h = (omega arith, widths_fit us (omega arith))

pub widths-joined : (us : List ExtentUnit) → blocks_in us < 2 ^ 64 → WidthsFit (joined us)
widths-joined us h = let e = blocks_in-joined us in widths_fit (joined us) (omega arith)

-- the width of the unit that is at hand fits too
pub width_fits : (us : List ExtentUnit) (u : ExtentUnit) → WidthsFit (joined_to u us) → u.width < 2 ^ 64
width_fits [] u h = h.0
width_fits (v ∷ us) u h = elim (cases_Bool (continues u v)) [
  | inl on ↦ let ih = width_fits us (made_one u v) (rw (joined_more u v us on) at h) in omega arith
  | inr apart ↦ let g : WidthsFit (u ∷ joined_to v us) = rw (joined_next u v us apart) at h in g.0
]

-- ---- no two go on

apart_before : (us : List ExtentUnit) (u v : ExtentUnit) → continues u v ≡ false → AreApart (joined_to v us) → AreApart (u ∷ joined_to v us)
apart_before [] u v e h = (e, tt)
apart_before (x ∷ us) u v e h = elim (cases_Bool (continues v x)) [
  | inl on ↦ rw (joined_more v x us on) (apart_before us u (made_one v x) e (rw (joined_more v x us on) at h))
  | inr next ↦ rw (joined_next v x us next) (e, rw (joined_next v x us next) at h)
]

apart_to : (us : List ExtentUnit) (u : ExtentUnit) → AreApart (joined_to u us)
apart_to [] u = tt
apart_to (v ∷ us) u = elim (cases_Bool (continues u v)) [
  | inl on ↦ rw (joined_more u v us on) (apart_to us (made_one u v))
  | inr apart ↦ rw (joined_next u v us apart) (apart_before us u v apart (apart_to us v))
]

pub apart-joined : (us : List ExtentUnit) → AreApart (joined us)
apart-joined [] = tt
apart-joined (u ∷ us) = apart_to us u

-- ---- what is accepted again

lawful_one : (in_memory : Bool) (blocks : ℕ) (u v : ExtentUnit) → continues u v ≡ true → IsLawfulUnit in_memory blocks u → IsLawfulUnit in_memory blocks v → IsLawfulUnit in_memory blocks (made_one u v)
lawful_one in_memory blocks u v e (inl h) l = elim (goes_on u v e) [
  | inl holes ↦ let high = h.1 in let z = holes.0 in absurd (omega arith)
  | inr runs ↦ let high = h.1 in let low = runs.low in absurd (omega arith)
]
lawful_one in_memory blocks u v e (inr (inl h)) l = let some = h.1 in inr (inl (h.0, omega arith))
lawful_one in_memory blocks u v e (inr (inr h)) (inl k) = elim (goes_on u v e) [
  | inl holes ↦ let high = h.start in let z = holes.0 in absurd (omega arith)
  | inr runs ↦ let high = k.1 in let low = runs.next_low in absurd (omega arith)
]
lawful_one in_memory blocks u v e (inr (inr h)) (inr (inl k)) = elim (goes_on u v e) [
  | inl holes ↦ let high = h.start in let z = holes.0 in absurd (omega arith)
  | inr runs ↦ let z = k.0 in let meets = runs.meets in let high = h.start in absurd (omega arith)
]
lawful_one in_memory blocks u v e (inr (inr h)) (inr (inr k)) = elim (goes_on u v e) [
  | inl holes ↦ let high = h.start in let z = holes.0 in absurd (omega arith)
  | inr runs ↦
      let meets = runs.meets in
      let some = h.width in
      let fit : v.start + v.width ≤ blocks = k.within in
      let second : holds_fixed blocks (u.start + u.width) v.width ≡ false = ap (λ (s : ℕ). holds_fixed blocks s v.width) (sym meets) ∙ k.spares_fixed in
      inr (inr (record { start = h.start; width = omega arith; within = omega arith; spares_fixed = holds_fixed-parts blocks u.start u.width v.width ∙ rw (h.spares_fixed, second) refl }))
]

lawful_to : (in_memory : Bool) (blocks : ℕ) (us : List ExtentUnit) (u : ExtentUnit) → IsLawfulUnit in_memory blocks u → AreLawfulUnits in_memory blocks us → AreLawfulUnits in_memory blocks (joined_to u us)
lawful_to in_memory blocks [] u l h = (l, tt)
lawful_to in_memory blocks (v ∷ us) u l h = elim (cases_Bool (continues u v)) [
  | inl on ↦ rw (joined_more u v us on) (lawful_to in_memory blocks us (made_one u v) (lawful_one in_memory blocks u v on l h.0) h.1)
  | inr apart ↦ rw (joined_next u v us apart) (l, lawful_to in_memory blocks us v h.0 h.1)
]

pub lawful-joined : (in_memory : Bool) (blocks : ℕ) (us : List ExtentUnit) → AreLawfulUnits in_memory blocks us → AreLawfulUnits in_memory blocks (joined us)
lawful-joined in_memory blocks [] h = tt
lawful-joined in_memory blocks (u ∷ us) h = lawful_to in_memory blocks us u h.0 h.1
