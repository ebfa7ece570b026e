-- Units that are edited in their body.
use Rattle.std.proofs.Common.{◌≡◌, inl, inr, ℕ, zero, suc, ◌+◌, ◌-◌, ◌*◌, ◌/◌, ◌%◌, ◌^◌, ◌<◌, ◌≤◌, true, List, [], ◌∷◌, length, get_or, set, take, Some, None, sym, ap, subst, ◌∙◌, arith}
use Rattle.std.specs.Prelude.{slice_get, slice_range}
use Rattle.std.specs.Option.{ForSome}
use Rattle.std.proofs.lemmas.Bool.{cases_eq, cases_order}
use Rattle.std.proofs.lemmas.List.{same_lists, length-set, length-take-le, get_or-set_same, get_or-set_other}
use Rattle.r4_base.specs.Bytes.{overwrite}
use Rattle.r4_base.proofs.Numbers.{number_at-lt, length-overwrite, get_or-overwrite_below, get_or-overwrite_inside, get_or-overwrite_above, length-slice_range, get_or-slice_range}
use Rattle.r4_base.specs.declared.items.Unit.{Unit as ExtentUnit}
use Rattle.r4_base.specs.Extents.{unit_at, units_of, body_fault, unit_past, cut_at, IsLawfulUnit, AreLawfulUnits}
use Rattle.r4_twig.proofs.Places.{unit_at-moved, length-units_of_take, get_or-units_of_take, get-units_of_take}
use Rattle.r4_twig.proofs.Faults.{body_lawful, body_none}
use Rattle.r4_twig.proofs.Cuts.{lawful-cut_at, length-cut_at, get_or-cut_below, get_or-cut_here, get_or-cut_next, get_or-cut_above}

-- ---- the first bytes of a body, whose units are accepted

pub record IsAccepted (blocks : ℕ) (b : List ℕ) (used : ℕ) : Type 0 where
  pub some : 16 ≤ used
  pub whole : used % 16 ≡ 0
  pub units : AreLawfulUnits true blocks (units_of (take used b))

pub accepted : (blocks : ℕ) (b : List ℕ) (used : ℕ) → used ≤ length b → body_fault true blocks (take used b) ≡ None → IsAccepted blocks b used
accepted blocks b used le e =
    let n : length (take used b) ≡ used = length-take-le used b le in
    let h = body_lawful true blocks (take used b) e in
    let some : 0 < used = rw n at h.0 in
    let whole : used % 16 ≡ 0 = rw n at h.1 in
    record { some = omega arith; whole = whole; units = h.2 }

pub accepted_none : (blocks : ℕ) (b : List ℕ) (used : ℕ) → used ≤ length b → 0 < used → used % 16 ≡ 0 → AreLawfulUnits true blocks (units_of (take used b)) → body_fault true blocks (take used b) ≡ None
accepted_none blocks b used le some whole units =
    let n : length (take used b) ≡ used = length-take-le used b le in
    body_none true blocks (take used b) (rw n some, rw n whole, units)

lawful_at : (blocks : ℕ) (us : List ExtentUnit) (i : ℕ) (u : ExtentUnit) → AreLawfulUnits true blocks us → slice_get us i ≡ Some u → IsLawfulUnit true blocks u
lawful_at blocks [] i u h e = absurd cc
lawful_at blocks (v ∷ us) zero u h e = let same : v ≡ u = cc in subst (IsLawfulUnit true blocks) same h.0
lawful_at blocks (v ∷ us) (suc i) u h e = lawful_at blocks us i u h.1 e

-- ---- a unit cut in two

pub record CanBeCut (b : List ℕ) (used i k : ℕ) : Type 0 where
  pub within : 16 * i + 16 ≤ used
  pub inside : k < (unit_at b i).width
  pub fits : (unit_at b i).start + k < 2 ^ 64

lawful_sum : (u : ExtentUnit) (k : ℕ) → 0 < k → k < u.width → u.width < 2 ^ 64 → IsLawfulUnit true (2 ^ 63) u → u.start + k < 2 ^ 64
lawful_sum u k some lt small (inl h) = let one : u.width ≡ 1 = h.2 in absurd (omega arith)
lawful_sum u k some lt small (inr (inl h)) = let hole : u.start ≡ 0 = h.0 in omega arith
lawful_sum u k some lt small (inr (inr h)) = let within : u.start + u.width ≤ 2 ^ 63 = h.within in omega arith

pub can_be_cut : (b : List ℕ) (used i k : ℕ) → used + 16 ≤ length b → body_fault true (2 ^ 63) (take used b) ≡ None → i < length (units_of (take used b)) → 0 < k → ForSome (slice_get (units_of (take used b)) i) (λ u. k < u.width) → CanBeCut b used i k
can_be_cut b used i k room none lt some inside =
    let le : used ≤ length b = omega arith in
    let h = accepted (2 ^ 63) b used le none in
    let n = length-units_of_take used b le in
    let small : (unit_at b i).width < 2 ^ 64 = number_at-lt 8 (16 * i + 8) b in
    let is = get-units_of_take used i b le (omega arith) in
    let shorter = inside (unit_at b i) is in
    record {
      within = omega arith;
      inside = shorter;
      fits = lawful_sum (unit_at b i) k some shorter small (lawful_at (2 ^ 63) (units_of (take used b)) i (unit_at b i) h.units is);
    }

-- the bytes after those behind unit i moved by a unit
pub record IsMoved (b moved : List ℕ) (used i : ℕ) : Type 0 where
  pub len : length moved ≡ length b
  pub before : (k : ℕ) → k < 16 * i + 32 → get_or moved k 0 ≡ get_or b k 0
  pub behind : (k : ℕ) → 16 * i + 16 ≤ k → k < used → get_or moved (16 + k) 0 ≡ get_or b k 0
  pub past : (k : ℕ) → used + 16 ≤ k → get_or moved k 0 ≡ get_or b k 0

pub is_moved : (b moved : List ℕ) (used i : ℕ) → used + 16 ≤ length b → 16 * i + 16 ≤ used → moved ≡ overwrite (16 * i + 32) (slice_range b (16 * i + 16) used) b → IsMoved b moved used i
is_moved b moved used i room within e =
    let part = slice_range b (16 * i + 16) used in
    let n = length-slice_range b (16 * i + 16) used within (omega arith) in
    record {
      len = ap length e ∙ length-overwrite (16 * i + 32) part b (omega arith);
      before = λ k lt. ap (λ (xs : List ℕ). get_or xs k 0) e ∙ get_or-overwrite_below (16 * i + 32) part b k 0 (omega arith) lt;
      behind = λ k le lt.
          let place : 16 + k - (16 * i + 32) ≡ k - (16 * i + 16) = omega arith in
          let back : 16 * i + 16 + (k - (16 * i + 16)) ≡ k = omega arith in
          ap (λ (xs : List ℕ). get_or xs (16 + k) 0) e ∙ get_or-overwrite_inside (16 * i + 32) part b (16 + k) 0 (omega arith) (omega arith) (omega arith)
          ∙ ap (λ (m : ℕ). get_or part m 0) place ∙ get_or-slice_range b (16 * i + 16) used (k - (16 * i + 16)) (omega arith) ∙ ap (λ (m : ℕ). get_or b m 0) back;
      past = λ k le. ap (λ (xs : List ℕ). get_or xs k 0) e ∙ get_or-overwrite_above (16 * i + 32) part b k 0 (omega arith) (omega arith);
    }

-- unit i and the next one written over
pub cut_written : (b moved : List ℕ) (used i k : ℕ) → used + 16 ≤ length b → body_fault true (2 ^ 63) (take used b) ≡ None → CanBeCut b used i k → IsMoved b moved used i
    → set (set (units_of (take (used + 16) moved)) i (record (unit_at b i) { width = k })) (i + 1) (unit_past k (unit_at b i)) ≡ cut_at i k (units_of (take used b))
cut_written b moved used i k room none cut m =
    let h = accepted (2 ^ 63) b used (omega arith) none in
    let whole = h.whole in
    let us = units_of (take used b) in
    let vs = units_of (take (used + 16) moved) in
    let within = cut.within in
    let len = m.len in
    let first = record (unit_at b i) { width = k } in
    let second = unit_past k (unit_at b i) in
    let n = length-units_of_take used b (omega arith) in
    let n' = length-units_of_take (used + 16) moved (omega arith) in
    let l = length-set (set vs i first) (i + 1) second in
    let l' = length-set vs i first in
    let c = length-cut_at us i k (omega arith) in
    same_lists (set (set vs i first) (i + 1) second) (cut_at i k us) (omega arith) (λ j d lt.
    let at_j : j < used / 16 + 1 = omega arith in
    elim (cases_order j i) [
      | inl is ↦
          let one : get_or (set (set vs i first) (i + 1) second) i d ≡ first = get_or-set_other (set vs i first) (i + 1) i second d (λ e. omega arith) ∙ get_or-set_same vs i first d (omega arith) in
          let u : get_or us i d ≡ unit_at b i = get_or-units_of_take used i d b (omega arith) (omega arith) in
          let two : get_or (cut_at i k us) i d ≡ first = get_or-cut_here us i k d (omega arith) ∙ ap (λ (v : ExtentUnit). record v { width = k }) u in
          rw is (one ∙ sym two)
      | inr (inl early) ↦
          let moved_here : unit_at moved j ≡ unit_at b j = unit_at-moved j j moved b (λ x small. m.before (16 * j + x) (omega arith)) in
          get_or-set_other (set vs i first) (i + 1) j second d (λ e. omega arith) ∙ get_or-set_other vs i j first d (λ e. omega arith)
          ∙ get_or-units_of_take (used + 16) j d moved (omega arith) (omega arith) ∙ moved_here
          ∙ sym (get_or-cut_below us i k j d early ∙ get_or-units_of_take used j d b (omega arith) (omega arith))
      | inr (inr late) ↦ elim (cases_eq j (i + 1)) [
        | inl next ↦
            let one : get_or (set (set vs i first) (i + 1) second) (i + 1) d ≡ second = get_or-set_same (set vs i first) (i + 1) second d (omega arith) in
            let u : get_or us i d ≡ unit_at b i = get_or-units_of_take used i d b (omega arith) (omega arith) in
            let s : i + 1 ≡ suc i = omega arith in
            let two : get_or (cut_at i k us) (i + 1) d ≡ second = ap (λ (x : ℕ). get_or (cut_at i k us) x d) s ∙ get_or-cut_next us i k d (omega arith) ∙ ap (unit_past k) u in
            rw next (one ∙ sym two)
        | inr other ↦
            let s : j ≡ suc (j - 1) = omega arith in
            let moved_here : unit_at moved j ≡ unit_at b (j - 1) = unit_at-moved j (j - 1) moved b (λ x small.
            let place : 16 * j + x ≡ 16 + (16 * (j - 1) + x) = omega arith in
            ap (λ (y : ℕ). get_or moved y 0) place ∙ m.behind (16 * (j - 1) + x) (omega arith) (omega arith)) in
            get_or-set_other (set vs i first) (i + 1) j second d other ∙ get_or-set_other vs i j first d (λ e. omega arith)
            ∙ get_or-units_of_take (used + 16) j d moved (omega arith) (omega arith) ∙ moved_here
            ∙ sym (ap (λ (x : ℕ). get_or (cut_at i k us) x d) s ∙ get_or-cut_above us i k (j - 1) d (omega arith) (omega arith) ∙ get_or-units_of_take used (j - 1) d b (omega arith) (omega arith))
      ]
    ])

-- what is cut is accepted again
pub cut_accepted : (b new : List ℕ) (used i k : ℕ) → used + 16 ≤ length b → length new ≡ length b → body_fault true (2 ^ 63) (take used b) ≡ None → 0 < k → ForSome (slice_get (units_of (take used b)) i) (λ u. k < u.width)
    → units_of (take (used + 16) new) ≡ cut_at i k (units_of (take used b)) → body_fault true (2 ^ 63) (take (used + 16) new) ≡ None
cut_accepted b new used i k room len none some inside is =
    let h = accepted (2 ^ 63) b used (omega arith) none in
    let whole = h.whole in
    accepted_none (2 ^ 63) new (used + 16) (omega arith) (omega arith) (omega arith)
    (subst (AreLawfulUnits true (2 ^ 63)) (sym is) (lawful-cut_at true (2 ^ 63) (units_of (take used b)) i k some inside h.units))
