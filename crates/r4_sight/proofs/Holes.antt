-- What an extent's holes have at the keys of an interval.
use Rattle.std.proofs.Common.{◌≡◌, ◌⊎◌, inl, inr, ℕ, zero, suc, ◌+◌, ◌-◌, ◌*◌, ◌<◌, ◌≤◌, Bool, true, false, List, [], ◌∷◌, ◌++◌, refl, sym, ap, ◌∙◌, arith, append-nil}
use Rattle.std.specs.Prelude.{Some, None, Contains, replicate, if◌then◌else◌}
use Rattle.std.proofs.lemmas.Bool.Decides.{nat_tests}
use Rattle.std.proofs.lemmas.Bool.{le-ltb, lt-ltb}
use Rattle.std.proofs.lemmas.List.Elements.{Contains-append_cases, Contains-append_left}
use Rattle.r4_base.specs.Cell.{block_names, bytes_from, hole_bytes, run_names, zeros_from}
use Rattle.r4_base.specs.Extents.{block_of, blocks_in, is_hole}
use Rattle.r4_base.specs.Tree.{InName, Name}
use Rattle.r4_base.specs.Value.{Byte}
use Rattle.r4_base.specs.declared.items.Unit.{Unit as ExtentUnit}
use Rattle.r4_base.proofs.Choices.{nothing_in}
use Rattle.r4_units.proofs.r4_cell.ItemRows.{extent_row}
use Rattle.r4_units.proofs.r4_cell.Rows.{row_zeros}
use Rattle.r4_content.specs.Edited.{Pairs}
use Rattle.r4_content.specs.Seen.{pairs_in}
use Rattle.r4_sight.proofs.Between.{both_in, pairs_high, pairs_low}

-- ---- zeros

pub zeros_bytes : (k n : ℕ) → zeros_from k n ≡ bytes_from k (replicate n 0)
zeros_bytes k zero = refl
zeros_bytes k (suc n) = ap (λ (es : Pairs). (k, Byte 0) ∷ es) (zeros_bytes (k + 1) n)

zeros_parts : (k n m : ℕ) → zeros_from k (n + m) ≡ zeros_from k n ++ zeros_from (k + n) m
zeros_parts k zero m =
    let a : 0 + m ≡ m = omega arith in
    let b : k ≡ k + 0 = omega arith in
    ap (zeros_from k) a ∙ ap (λ (j : ℕ). zeros_from j m) b
zeros_parts k (suc n) m =
    let a : suc n + m ≡ suc (n + m) = omega arith in
    let b : k + 1 + n ≡ k + suc n = omega arith in
    ap (zeros_from k) a ∙ ap (λ (es : Pairs). (k, Byte 0) ∷ es) (zeros_parts (k + 1) n m ∙ ap (λ (j : ℕ). zeros_from (k + 1) n ++ zeros_from j m) b)

zeros_low : (a b k n : ℕ) → k + n ≤ a → pairs_in (zeros_from k n) a b ≡ []
zeros_low a b k n le = pairs_low a b (zeros_from k n) (λ j v at. let up = ((row_zeros k n).unit_in j v at).1 in omega (arith, up, le))

zeros_high : (a b k n : ℕ) → b ≤ k → pairs_in (zeros_from k n) a b ≡ []
zeros_high a b k n le = pairs_high a b (zeros_from k n) (λ j v at. let low = ((row_zeros k n).unit_in j v at).0 in omega (arith, low, le))

-- zeros in the midst of others
zeros_mid : (a b k n m r : ℕ) → k + n ≤ a → b ≤ k + n + m → pairs_in (zeros_from k (n + (m + r))) a b ≡ pairs_in (zeros_from (k + n) m) a b
zeros_mid a b k n m r low high =
    ap (λ (es : Pairs). pairs_in es a b) (zeros_parts k n (m + r))
    ∙ (both_in a b (zeros_from k n) (zeros_from (k + n) (m + r))
    ∙ (ap (λ (es : Pairs). es ++ pairs_in (zeros_from (k + n) (m + r)) a b) (zeros_low a b k n low)
    ∙ (ap (λ (es : Pairs). pairs_in es a b) (zeros_parts (k + n) m r)
    ∙ (both_in a b (zeros_from (k + n) m) (zeros_from (k + n + m) r)
    ∙ (ap (λ (es : Pairs). pairs_in (zeros_from (k + n) m) a b ++ es) (zeros_high a b (k + n + m) r high)
    ∙ append-nil (pairs_in (zeros_from (k + n) m) a b))))))

-- ---- units

abbrev unit_zeros : ℕ → ExtentUnit → Pairs
unit_zeros k u = if is_hole u then zeros_from k (4096 * u.width) else []

unit_low : (a b k : ℕ) (u : ExtentUnit) → k + 4096 * u.width ≤ a → pairs_in (unit_zeros k u) a b ≡ []
unit_low a b k u le = by (is_hole u)
  where
    by : (t : Bool) → pairs_in (if t then zeros_from k (4096 * u.width) else []) a b ≡ []
    by true = zeros_low a b k (4096 * u.width) le
    by false = refl

units_high : (a b k : ℕ) (us : List ExtentUnit) → b ≤ k → pairs_in (hole_bytes k us) a b ≡ []
units_high a b k us le = pairs_high a b (hole_bytes k us) (λ j v at. let low = ((extent_row k us).unit_in j v at).0 in omega (arith, low, le))

-- behind the extent's last block nothing stands
pub units_low : (a b k : ℕ) (us : List ExtentUnit) → k + 4096 * blocks_in us ≤ a → pairs_in (hole_bytes k us) a b ≡ []
units_low a b k us le = pairs_low a b (hole_bytes k us) (λ j v at. let up = ((extent_row k us).unit_in j v at).1 in omega (arith, up, le))

cases_lt : (m n : ℕ) → (m < n) ⊎ (n ≤ m)
cases_lt m n = grind (arith, nat_tests)

-- within a block that is a hole zeros stand
pub hole_in : (a b k : ℕ) (us : List ExtentUnit) (block : ℕ) → block_of us block ≡ None → block < blocks_in us → k + 4096 * block ≤ a → b ≤ k + 4096 * block + 4096
    → pairs_in (hole_bytes k us) a b ≡ pairs_in (bytes_from (k + 4096 * block) (replicate 4096 0)) a b
unfolding block_of
hole_in a b k [] block none within low high = absurd (omega (arith, within))
hole_in a b k (u ∷ us) block none within low high =
    both_in a b (unit_zeros k u) (hole_bytes (k + 4096 * u.width) us) ∙ elim (cases_lt block u.width) [
      | inl lt ↦
          ap (λ (es : Pairs). pairs_in (unit_zeros k u) a b ++ es) (units_high a b (k + 4096 * u.width) us (omega (arith, high, lt)))
          ∙ (append-nil (pairs_in (unit_zeros k u) a b) ∙ here (is_hole u) (sym (at_first lt) ∙ none) lt)
      | inr past ↦
          let later : block_of (u ∷ us) block ≡ block_of us (block - u.width) = rw (le-ltb block u.width past) refl in
          let e : k + 4096 * u.width + 4096 * (block - u.width) ≡ k + 4096 * block = omega (arith, past) in
          ap (λ (es : Pairs). es ++ pairs_in (hole_bytes (k + 4096 * u.width) us) a b) (unit_low a b k u (omega (arith, low, past)))
          ∙ (hole_in a b (k + 4096 * u.width) us (block - u.width) (sym later ∙ none) (omega (arith, within, past)) (omega (arith, low, e)) (omega (arith, high, e))
          ∙ ap (λ (j : ℕ). pairs_in (bytes_from j (replicate 4096 0)) a b) e)
    ]
  where
    at_first : block < u.width → block_of (u ∷ us) block ≡ (if is_hole u then None else Some (u.start + block))
    at_first lt = rw (lt-ltb block u.width lt) refl

    here : (t : Bool) → (if t then None else Some (u.start + block)) ≡ None → block < u.width → pairs_in (if t then zeros_from k (4096 * u.width) else []) a b ≡ pairs_in (bytes_from (k + 4096 * block) (replicate 4096 0)) a b
    here false e lt = absurd cc
    here true e lt =
        let all : 4096 * u.width ≡ 4096 * block + (4096 + 4096 * (u.width - block - 1)) = omega (arith, lt) in
        ap (λ (n : ℕ). pairs_in (zeros_from k n) a b) all
        ∙ (zeros_mid a b k (4096 * block) 4096 (4096 * (u.width - block - 1)) low high
        ∙ ap (λ (es : Pairs). pairs_in es a b) (zeros_bytes (k + 4096 * block) 4096))

-- nor is a block named there
pub hole_nameless : (k : ℕ) (us : List ExtentUnit) (block j : ℕ) (n : Name) → block_of us block ≡ None → block < blocks_in us → k + 4096 * block ≤ j → j < k + 4096 * block + 4096 → Contains (block_names k us) n → InName n j → ⊥
unfolding block_of
hole_nameless k [] block j n none within low high at has = omega (arith, within)
hole_nameless k (u ∷ us) block j n none within low high at has = elim (Contains-append_cases (if is_hole u then [] else run_names k u.start u.width) (block_names (k + 4096 * u.width) us) n at) [
  | inl first ↦ elim (cases_lt block u.width) [
    | inl lt ↦ here (is_hole u) (sym (at_first lt) ∙ none) first
    | inr past ↦
        let stops = (extent_row k (u ∷ [])).to n (Contains-append_left (if is_hole u then [] else run_names k u.start u.width) [] n first) in
        let up = has.1 in
        omega (arith, stops, up, past, low)
  ]
  | inr more ↦ elim (cases_lt block u.width) [
    | inl lt ↦ let begins = (extent_row (k + 4096 * u.width) us).from n more in let from = has.0 in omega (arith, begins, from, lt, high)
    | inr past ↦
        let later : block_of (u ∷ us) block ≡ block_of us (block - u.width) = rw (le-ltb block u.width past) refl in
        let e : k + 4096 * u.width + 4096 * (block - u.width) ≡ k + 4096 * block = omega (arith, past) in
        hole_nameless (k + 4096 * u.width) us (block - u.width) j n (sym later ∙ none) (omega (arith, within, past)) (omega (arith, low, e)) (omega (arith, high, e)) more has
  ]
]
  where
    at_first : block < u.width → block_of (u ∷ us) block ≡ (if is_hole u then None else Some (u.start + block))
    at_first lt = rw (lt-ltb block u.width lt) refl

    here : (t : Bool) → (if t then None else Some (u.start + block)) ≡ None → Contains (if t then [] else run_names k u.start u.width) n → ⊥
    here true e first = nothing_in n first
    here false e first = absurd cc
