-- What is wrong with units: what a run holds, how a loop over units goes on, and what holds where nothing is wrong.
use Rattle.std.proofs.Common.{◌≡◌, ◌≢◌, ◌⊎◌, inl, inr, ℕ, zero, suc, ◌+◌, ◌-◌, ◌/◌, ◌%◌, ◌^◌, ◌<◌, ◌≤◌, Bool, true, false, not, ◌&&◌, ◌||◌, cond, eqb, ltb, leb, List, [], ◌∷◌, length, set, Some, None, refl, ap, sym, subst, ◌∙◌, arith}
use Rattle.std.specs.Prelude.{Option}
use Rattle.std.specs.Option.{option_or}
use Rattle.std.proofs.lemmas.Bool.{and_parts, cases_eq, eq-eqb, eqb-false, eqb-true, le-leb, le-ltb, leb-true, lt-ltb, ltb-false, ne_eqb, or_parts}
use Rattle.r4_base.specs.Bitmap.{is_fixed}
use Rattle.r4_base.specs.declared.items.Unit.{Unit as ExtentUnit}
use Rattle.r4_base.specs.declared.items.ExtentFault.{ExtentFault}
use Rattle.r4_base.specs.declared.items.ExtentFault.TheVariants.{Length, Start, Width, Range}
use Rattle.r4_base.specs.Extents.{unit_at, units_from, units_of, holds_fixed, is_out_of_range, unit_fault, units_fault, body_fault, IsLawfulUnit, AreLawfulUnits}

-- ---- the blocks of a run

fixed_is : (blocks b : ℕ) → 22 ≤ b → b < blocks → is_fixed blocks b ≡ eqb (b % 32736) 0
fixed_is blocks b high low =
    let some : 0 < b = omega arith in
    rw (le-ltb b 22 high, lt-ltb 0 b some, lt-ltb b blocks low) (and_true (eqb (b % 32736) 0))
  where
    and_true : (p : Bool) → (p && true) ≡ p
    and_true true = refl
    and_true false = refl

-- a run holds a bitmap's block where a multiple of 32736 stands between its ends
pub held_by : (blocks start width : ℕ) → 22 ≤ start → start + width ≤ blocks → holds_fixed blocks start width ≡ not (eqb ((start - 1) / 32736) ((start + width - 1) / 32736))
unfolding holds_fixed
held_by blocks start zero high low =
    let e : (start - 1) / 32736 ≡ (start + 0 - 1) / 32736 = omega arith in
    rw (eq-eqb ((start - 1) / 32736) ((start + 0 - 1) / 32736) e) refl
held_by blocks start (suc width) high low =
    let here = fixed_is blocks start high (omega arith) in
    let ih = held_by blocks (start + 1) width (omega arith) (omega arith) in
    elim (cases_eq (start % 32736) 0) [
      | inl is ↦
          let ne : (start - 1) / 32736 ≢ (start + suc width - 1) / 32736 = λ e. omega arith in
          rw (here, eq-eqb (start % 32736) 0 is, ne_eqb ((start - 1) / 32736) ((start + suc width - 1) / 32736) ne) refl
      | inr other ↦
          let first : (start + 1 - 1) / 32736 ≡ (start - 1) / 32736 = omega arith in
          let last : start + 1 + width - 1 ≡ start + suc width - 1 = omega arith in
          rw (here, ne_eqb (start % 32736) 0 other, ih, first, last) refl
    ]

pub in_range : (blocks : ℕ) (u : ExtentUnit) → 22 ≤ u.start → u.start ≤ blocks → u.width ≤ blocks - u.start → eqb ((u.start - 1) / 32736) ((u.start + u.width - 1) / 32736) ≡ not (is_out_of_range blocks u)
in_range blocks u high low fit =
    rw (le-ltb blocks (u.start + u.width) (omega arith), held_by blocks u.start u.width high (omega arith)) (twice (eqb ((u.start - 1) / 32736) ((u.start + u.width - 1) / 32736)))
  where
    twice : (p : Bool) → p ≡ not (not p)
    twice true = refl
    twice false = refl

pub out_of_range : (blocks : ℕ) (u : ExtentUnit) → (blocks < u.start) ⊎ (blocks - u.start < u.width) → false ≡ not (is_out_of_range blocks u)
out_of_range blocks u which =
    let past : blocks < u.start + u.width = elim which [ inl a ↦ omega arith | inr b ↦ omega arith ] in
    rw (lt-ltb blocks (u.start + u.width) past) refl

-- ---- the loop over the units

-- the fault that is left to find from unit i on
abbrev pub fault_from : (in_memory : Bool) → (blocks i : ℕ) → List ℕ → Option ExtentFault
fault_from in_memory blocks i b = units_fault in_memory blocks i (units_from (length b / 16 - i) i b)

pub fault_first : (in_memory : Bool) (blocks : ℕ) (b : List ℕ) → length b ≢ 0 → length b % 16 ≡ 0 → body_fault in_memory blocks b ≡ fault_from in_memory blocks 0 b
unfolding body_fault units_of
fault_first in_memory blocks b some whole =
    let n : length b / 16 ≡ length b / 16 - 0 = omega arith in
    rw (ne_eqb (length b) 0 some, eq-eqb (length b % 16) 0 whole) (ap (λ (m : ℕ). units_fault in_memory blocks 0 (units_from m 0 b)) n)

fault_step : (in_memory : Bool) (blocks i : ℕ) (b : List ℕ) → i < length b / 16 → fault_from in_memory blocks i b ≡ option_or (unit_fault in_memory blocks i (unit_at b i)) (fault_from in_memory blocks (i + 1) b)
unfolding units_fault units_from
fault_step in_memory blocks i b lt =
    let n : length b / 16 - i ≡ suc (length b / 16 - (i + 1)) = omega arith in
    ap (λ (m : ℕ). units_fault in_memory blocks i (units_from m i b)) n

pub fault_here : (in_memory : Bool) (blocks i : ℕ) (b : List ℕ) (f : ExtentFault) → i < length b / 16 → unit_fault in_memory blocks i (unit_at b i) ≡ Some f → fault_from in_memory blocks i b ≡ Some f
fault_here in_memory blocks i b f lt is = fault_step in_memory blocks i b lt ∙ rw is refl

pub fault_later : (in_memory : Bool) (blocks i : ℕ) (b : List ℕ) → i < length b / 16 → unit_fault in_memory blocks i (unit_at b i) ≡ None → fault_from in_memory blocks i b ≡ fault_from in_memory blocks (i + 1) b
fault_later in_memory blocks i b lt none = fault_step in_memory blocks i b lt ∙ rw none refl

pub fault_none : (in_memory : Bool) (blocks i : ℕ) (b : List ℕ) → length b / 16 ≤ i → fault_from in_memory blocks i b ≡ None
unfolding units_fault units_from
fault_none in_memory blocks i b le =
    let n : length b / 16 - i ≡ 0 = omega arith in
    ap (λ (m : ℕ). units_fault in_memory blocks i (units_from m i b)) n

pub no_fault : (o : Option ExtentFault) → ((f : ExtentFault) → o ≡ Some f → ⊥) → o ≡ None
no_fault None h = refl
no_fault (Some f) h = absurd (h f refl)

-- ---- where nothing is wrong

same_either : (p : Bool) (x : Option ExtentFault) → cond p x x ≡ x
same_either true x = refl
same_either false x = refl

-- a lawful unit has no fault
pub lawful_none : (in_memory : Bool) (blocks i : ℕ) (u : ExtentUnit) → IsLawfulUnit in_memory blocks u → unit_fault in_memory blocks i u ≡ None
unfolding unit_fault
lawful_none in_memory blocks i u (inl h) = rw (h.0, le-leb (2 ^ 63) u.start h.1, eq-eqb u.width 1 h.2) refl
lawful_none in_memory blocks i u (inr (inl h)) =
    let ne : u.width ≢ 0 = λ e. omega arith in
    rw (eq-eqb u.start 0 h.0, ne_eqb u.width 0 ne) (same_either (in_memory && leb (2 ^ 63) u.start && eqb u.width 1) None)
lawful_none in_memory blocks i u (inr (inr h)) =
    let high : 22 ≤ u.start = h.start in
    let some : 0 < u.width = h.width in
    let ne : u.width ≢ 0 = λ e. omega arith in
    let run : u.start ≢ 0 = λ e. omega arith in
    rw (ne_eqb u.start 0 run, le-ltb u.start 22 high, ne_eqb u.width 0 ne, le-ltb blocks (u.start + u.width) h.within, h.spares_fixed) (same_either (in_memory && leb (2 ^ 63) u.start && eqb u.width 1) None)

passed : (p hole low none out : Bool) (s w r : ExtentFault) → cond p None (cond (not hole && low) (Some s) (cond none (Some w) (cond (not hole && out) (Some r) None))) ≡ None
    → (p ≡ true) ⊎ ((none ≡ false) × ((hole ≡ true) ⊎ ((hole ≡ false) × (low ≡ false) × (out ≡ false))))
passed true hole low none out s w r e = inl refl
passed false true low true out s w r e = absurd cc
passed false true low false out s w r e = inr (refl, inl refl)
passed false false true none out s w r e = absurd cc
passed false false false true out s w r e = absurd cc
passed false false false false true s w r e = absurd cc
passed false false false false false s w r e = inr (refl, inr (refl, refl, refl))

-- and a unit that has none is lawful
pub none_lawful : (in_memory : Bool) (blocks i : ℕ) (u : ExtentUnit) → unit_fault in_memory blocks i u ≡ None → IsLawfulUnit in_memory blocks u
unfolding unit_fault
none_lawful in_memory blocks i u e =
    elim (passed (in_memory && leb (2 ^ 63) u.start && eqb u.width 1) (eqb u.start 0) (ltb u.start 22) (eqb u.width 0) (is_out_of_range blocks u) (Start i) (Width i) (Range i) e) [
      | inl placed ↦
          let one = and_parts (in_memory && leb (2 ^ 63) u.start) (eqb u.width 1) placed in
          let two = and_parts in_memory (leb (2 ^ 63) u.start) one.0 in
          inl (two.0, leb-true _ _ two.1, eqb-true _ _ one.1)
      | inr rest ↦
          let ne = eqb-false u.width 0 rest.0 in
          let some : 0 < u.width = elim (cases_eq u.width 0) [ inl z ↦ absurd (ne z) | inr other ↦ omega arith ] in
          elim rest.1 [
            | inl hole ↦ inr (inl (eqb-true _ _ hole, some))
            | inr run ↦
                let out = or_parts (ltb blocks (u.start + u.width)) (holds_fixed blocks u.start u.width) run.2 in
                inr (inr (record { start = ltb-false _ _ run.1; width = some; within = ltb-false _ _ out.0; spares_fixed = out.1 }))
          ]
    ]

pub units_none : (in_memory : Bool) (blocks i : ℕ) (us : List ExtentUnit) → AreLawfulUnits in_memory blocks us → units_fault in_memory blocks i us ≡ None
unfolding units_fault
units_none in_memory blocks i [] h = refl
units_none in_memory blocks i (u ∷ us) h = rw (lawful_none in_memory blocks i u h.0, units_none in_memory blocks (i + 1) us h.1) refl

neither_some : (x y : Option ExtentFault) → option_or x y ≡ None → (x ≡ None) × (y ≡ None)
neither_some None None e = (refl, refl)
neither_some None (Some y) e = absurd cc
neither_some (Some x) y e = absurd cc

pub units_lawful : (in_memory : Bool) (blocks i : ℕ) (us : List ExtentUnit) → units_fault in_memory blocks i us ≡ None → AreLawfulUnits in_memory blocks us
unfolding units_fault
units_lawful in_memory blocks i [] e = tt
units_lawful in_memory blocks i (u ∷ us) e =
    let parts = neither_some (unit_fault in_memory blocks i u) (units_fault in_memory blocks (i + 1) us) e in
    (none_lawful in_memory blocks i u parts.0, units_lawful in_memory blocks (i + 1) us parts.1)

past_length : (p q : Bool) (x : Option ExtentFault) → cond (p || not q) (Some Length) x ≡ None → (p ≡ false) × (q ≡ true) × (x ≡ None)
past_length true q x e = absurd cc
past_length false true x e = (refl, refl, e)
past_length false false x e = absurd cc

pub body_lawful : (in_memory : Bool) (blocks : ℕ) (b : List ℕ) → body_fault in_memory blocks b ≡ None → (0 < length b) × (length b % 16 ≡ 0) × AreLawfulUnits in_memory blocks (units_of b)
unfolding body_fault
body_lawful in_memory blocks b e =
    let parts = past_length (eqb (length b) 0) (eqb (length b % 16) 0) (units_fault in_memory blocks 0 (units_of b)) e in
    let ne = eqb-false (length b) 0 parts.0 in
    let some : 0 < length b = elim (cases_eq (length b) 0) [ inl z ↦ absurd (ne z) | inr other ↦ omega arith ] in
    (some, eqb-true _ _ parts.1, units_lawful in_memory blocks 0 (units_of b) parts.2)

pub body_none : (in_memory : Bool) (blocks : ℕ) (b : List ℕ) → (0 < length b) × (length b % 16 ≡ 0) × AreLawfulUnits in_memory blocks (units_of b) → body_fault in_memory blocks b ≡ None
unfolding body_fault
body_none in_memory blocks b h =
    let ne : length b ≢ 0 = λ e. omega arith in
    rw (ne_eqb (length b) 0 ne, eq-eqb (length b % 16) 0 h.1) (units_none in_memory blocks 0 (units_of b) h.2)

-- ---- other volumes, and a unit that is replaced

lawful_larger : (in_memory : Bool) (blocks more : ℕ) (u : ExtentUnit) → blocks ≤ more → IsLawfulUnit in_memory blocks u → IsLawfulUnit true more u
lawful_larger in_memory blocks more u le (inl h) = inl (refl, h.1, h.2)
lawful_larger in_memory blocks more u le (inr (inl h)) = inr (inl h)
lawful_larger in_memory blocks more u le (inr (inr h)) =
    let high : 22 ≤ u.start = h.start in
    let within : u.start + u.width ≤ blocks = h.within in
    inr (inr (record { start = high; width = h.width; within = omega arith; spares_fixed = held_by more u.start u.width high (omega arith) ∙ sym (held_by blocks u.start u.width high within) ∙ h.spares_fixed }))

all_larger : (in_memory : Bool) (blocks more : ℕ) (us : List ExtentUnit) → blocks ≤ more → AreLawfulUnits in_memory blocks us → AreLawfulUnits true more us
all_larger in_memory blocks more [] le h = tt
all_larger in_memory blocks more (u ∷ us) le h = (lawful_larger in_memory blocks more u le h.0, all_larger in_memory blocks more us le h.1)

pub body_larger : (in_memory : Bool) (blocks more : ℕ) (b : List ℕ) → blocks ≤ more → body_fault in_memory blocks b ≡ None → body_fault true more b ≡ None
body_larger in_memory blocks more b le e =
    let h = body_lawful in_memory blocks b e in
    body_none true more b (h.0, h.1, all_larger in_memory blocks more (units_of b) le h.2)

lawful-set : (in_memory : Bool) (blocks : ℕ) (us : List ExtentUnit) (i : ℕ) (u : ExtentUnit) → IsLawfulUnit in_memory blocks u → AreLawfulUnits in_memory blocks us → AreLawfulUnits in_memory blocks (set us i u)
lawful-set in_memory blocks [] i u l h = tt
lawful-set in_memory blocks (v ∷ us) zero u l h = (l, h.1)
lawful-set in_memory blocks (v ∷ us) (suc i) u l h = (h.0, lawful-set in_memory blocks us i u l h.1)

pub body_replaced : (in_memory : Bool) (blocks : ℕ) (b new : List ℕ) (i : ℕ) (u : ExtentUnit) → length new ≡ length b → units_of new ≡ set (units_of b) i u → IsLawfulUnit in_memory blocks u → body_fault in_memory blocks b ≡ None → body_fault in_memory blocks new ≡ None
body_replaced in_memory blocks b new i u len is l e =
    let h = body_lawful in_memory blocks b e in
    let some : 0 < length new = rw len h.0 in
    let whole : length new % 16 ≡ 0 = rw len h.1 in
    body_none in_memory blocks new (some, whole, subst (AreLawfulUnits in_memory blocks) (sym is) (lawful-set in_memory blocks (units_of b) i u l h.2))

-- an extent has a unit at least
pub has_unit : (in_memory : Bool) (blocks : ℕ) (b : List ℕ) → body_fault in_memory blocks b ≡ None → 16 ≤ length b
has_unit in_memory blocks b e =
    let h = body_lawful in_memory blocks b e in
    let some = h.0 in
    let whole = h.1 in
    omega arith
