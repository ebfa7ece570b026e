-- The units of a body, by their places, and a unit that is written.
use Rattle.std.proofs.Common.{◌≡◌, ◌≢◌, ◌⊎◌, inl, inr, ℕ, zero, suc, ◌+◌, ◌*◌, ◌/◌, ◌^◌, ◌<◌, ◌≤◌, List, length, get_or, set, take, Some, refl, sym, ap, ◌∙◌, arith}
use Rattle.std.specs.Prelude.{slice_get}
use Rattle.std.proofs.lemmas.Bool.{cases_eq, cases_lt}
use Rattle.std.proofs.lemmas.List.{same_lists, take_all, length-set, length-take-le, get_or-take, get_or-set_same, get_or-set_other}
use Rattle.r4_base.specs.Bytes.{number_bytes, overwrite, put_all}
use Rattle.r4_base.proofs.Numbers.{length-number_bytes, length-overwrite, get_or-overwrite_below, get_or-overwrite_above, number_at-moved, number_at-overwrite, number_at-overwrite_after}
use Rattle.r4_base.specs.declared.items.Unit.{Unit as ExtentUnit}
use Rattle.r4_base.specs.Extents.{unit_at, units_from, units_of, unit_fields}

length-units_from : (n i : ℕ) (b : List ℕ) → length (units_from n i b) ≡ n
unfolding units_from
length-units_from zero i b = refl
length-units_from (suc n) i b = let ih = length-units_from n (i + 1) b in omega arith

get_or-units_from : (n i k : ℕ) (d : ExtentUnit) (b : List ℕ) → k < n → get_or (units_from n i b) k d ≡ unit_at b (i + k)
unfolding units_from
get_or-units_from zero i k d b lt = absurd (omega arith)
get_or-units_from (suc n) i zero d b lt = let e : i ≡ i + 0 = omega arith in ap (unit_at b) e
get_or-units_from (suc n) i (suc k) d b lt = let e : i + 1 + k ≡ i + suc k = omega arith in get_or-units_from n (i + 1) k d b (omega arith) ∙ ap (unit_at b) e

get-units_from : (n i k : ℕ) (b : List ℕ) → k < n → slice_get (units_from n i b) k ≡ Some (unit_at b (i + k))
unfolding units_from
get-units_from zero i k b lt = absurd (omega arith)
get-units_from (suc n) i zero b lt = let e : i ≡ i + 0 = omega arith in ap (λ (j : ℕ). Some (unit_at b j)) e
get-units_from (suc n) i (suc k) b lt = let e : i + 1 + k ≡ i + suc k = omega arith in get-units_from n (i + 1) k b (omega arith) ∙ ap (λ (j : ℕ). Some (unit_at b j)) e

pub length-units_of : (b : List ℕ) → length (units_of b) ≡ length b / 16
unfolding units_of
length-units_of b = length-units_from (length b / 16) 0 b

pub get_or-units_of : (k : ℕ) (d : ExtentUnit) (b : List ℕ) → k < length b / 16 → get_or (units_of b) k d ≡ unit_at b k
unfolding units_of
get_or-units_of k d b lt = let e : 0 + k ≡ k = omega arith in get_or-units_from (length b / 16) 0 k d b lt ∙ ap (unit_at b) e

pub get-units_of : (k : ℕ) (b : List ℕ) → k < length b / 16 → slice_get (units_of b) k ≡ Some (unit_at b k)
unfolding units_of
get-units_of k b lt = let e : 0 + k ≡ k = omega arith in get-units_from (length b / 16) 0 k b lt ∙ ap (λ (j : ℕ). Some (unit_at b j)) e

-- ---- a unit that stands at another place

pub unit_at-moved : (i j : ℕ) (xs ys : List ℕ) → ((k : ℕ) → k < 16 → get_or xs (16 * i + k) 0 ≡ get_or ys (16 * j + k) 0) → unit_at xs i ≡ unit_at ys j
unit_at-moved i j xs ys h =
    let start = number_at-moved 8 (16 * i) (16 * j) xs ys (λ k lt. h k (omega arith)) in
    let width = number_at-moved 8 (16 * i + 8) (16 * j + 8) xs ys (λ k lt.
    let ei : 16 * i + 8 + k ≡ 16 * i + (8 + k) = omega arith in
    let ej : 16 * j + (8 + k) ≡ 16 * j + 8 + k = omega arith in
    ap (λ (m : ℕ). get_or xs m 0) ei ∙ h (8 + k) (omega arith) ∙ ap (λ (m : ℕ). get_or ys m 0) ej) in
    rw (start, width) refl

pub unit_at-take : (used i : ℕ) (b : List ℕ) → 16 * i + 16 ≤ used → unit_at (take used b) i ≡ unit_at b i
unit_at-take used i b le = unit_at-moved i i (take used b) b (λ k lt. get_or-take used b (16 * i + k) 0 (omega arith))

-- the units of the first bytes
pub length-units_of_take : (used : ℕ) (b : List ℕ) → used ≤ length b → length (units_of (take used b)) ≡ used / 16
length-units_of_take used b le = let n = length-take-le used b le in length-units_of (take used b) ∙ ap (λ (m : ℕ). m / 16) n

pub get_or-units_of_take : (used k : ℕ) (d : ExtentUnit) (b : List ℕ) → used ≤ length b → k < used / 16 → get_or (units_of (take used b)) k d ≡ unit_at b k
get_or-units_of_take used k d b le lt =
    let n = length-take-le used b le in
    get_or-units_of k d (take used b) (omega arith) ∙ unit_at-take used k b (omega arith)

pub get-units_of_take : (used k : ℕ) (b : List ℕ) → used ≤ length b → k < used / 16 → slice_get (units_of (take used b)) k ≡ Some (unit_at b k)
get-units_of_take used k b le lt =
    let n = length-take-le used b le in
    let e = unit_at-take used k b (omega arith) in
    get-units_of k (take used b) (omega arith) ∙ ap (λ (u : ExtentUnit). Some u) e

-- ---- a unit that is written

pub length-put_unit : (i : ℕ) (u : ExtentUnit) (b : List ℕ) → 16 * i + 16 ≤ length b → length (put_all (unit_fields u) (16 * i) b) ≡ length b
length-put_unit i u b le =
    let n = length-number_bytes 8 u.start in
    let m = length-number_bytes 8 u.width in
    let one = length-overwrite (16 * i) (number_bytes 8 u.start) b (omega arith) in
    length-overwrite (16 * i + 8) (number_bytes 8 u.width) (overwrite (16 * i) (number_bytes 8 u.start) b) (omega arith) ∙ one

-- no other byte changes
pub put_elsewhere : (i : ℕ) (u : ExtentUnit) (b : List ℕ) (k : ℕ) → 16 * i + 16 ≤ length b → (k < 16 * i) ⊎ (16 * i + 16 ≤ k) → get_or (put_all (unit_fields u) (16 * i) b) k 0 ≡ get_or b k 0
put_elsewhere i u b k le which =
    let n = length-number_bytes 8 u.start in
    let m = length-number_bytes 8 u.width in
    let b1 = overwrite (16 * i) (number_bytes 8 u.start) b in
    let long : length b1 ≡ length b = length-overwrite (16 * i) (number_bytes 8 u.start) b (omega arith) in
    elim which [
      | inl before ↦ get_or-overwrite_below (16 * i + 8) (number_bytes 8 u.width) b1 k 0 (omega arith) (omega arith) ∙ get_or-overwrite_below (16 * i) (number_bytes 8 u.start) b k 0 (omega arith) before
      | inr behind ↦ get_or-overwrite_above (16 * i + 8) (number_bytes 8 u.width) b1 k 0 (omega arith) (omega arith) ∙ get_or-overwrite_above (16 * i) (number_bytes 8 u.start) b k 0 (omega arith) (omega arith)
    ]

pub unit_at-put_same : (i : ℕ) (u : ExtentUnit) (b : List ℕ) → 16 * i + 16 ≤ length b → u.start < 2 ^ 64 → u.width < 2 ^ 64 → unit_at (put_all (unit_fields u) (16 * i) b) i ≡ u
unit_at-put_same i u b le small small' =
    let n = length-number_bytes 8 u.start in
    let m = length-number_bytes 8 u.width in
    let b1 = overwrite (16 * i) (number_bytes 8 u.start) b in
    let long : length b1 ≡ length b = length-overwrite (16 * i) (number_bytes 8 u.start) b (omega arith) in
    let start = number_at-overwrite_after 8 (16 * i) (16 * i + 8) (number_bytes 8 u.width) b1 (omega arith) (omega arith) ∙ number_at-overwrite 8 (16 * i) u.start b (omega arith) small in
    let width = number_at-overwrite 8 (16 * i + 8) u.width b1 (omega arith) small' in
    rw (start, width) refl

pub unit_at-put_other : (i j : ℕ) (u : ExtentUnit) (b : List ℕ) → 16 * i + 16 ≤ length b → j ≢ i → unit_at (put_all (unit_fields u) (16 * i) b) j ≡ unit_at b j
unit_at-put_other i j u b le ne = unit_at-moved j j (put_all (unit_fields u) (16 * i) b) b (λ k lt. put_elsewhere i u b (16 * j + k) le (elim (cases_lt j i) [
  | inl before ↦ inl (omega arith)
  | inr behind ↦ inr (omega arith)
]))

pub put_units : (used i : ℕ) (u : ExtentUnit) (b : List ℕ) → 16 * i + 16 ≤ used → used ≤ length b → u.start < 2 ^ 64 → u.width < 2 ^ 64 → units_of (take used (put_all (unit_fields u) (16 * i) b)) ≡ set (units_of (take used b)) i u
put_units used i u b le le' small small' =
    let new = put_all (unit_fields u) (16 * i) b in
    let long = length-put_unit i u b (omega arith) in
    let n = length-units_of_take used new (omega arith) in
    let m = length-units_of_take used b le' in
    let l = length-set (units_of (take used b)) i u in
    same_lists (units_of (take used new)) (set (units_of (take used b)) i u) (omega arith) (λ k d lt.
    let here : get_or (units_of (take used new)) k d ≡ unit_at new k = get_or-units_of_take used k d new (omega arith) (omega arith) in
    elim (cases_eq k i) [
      | inl is ↦
          let same : unit_at new k ≡ get_or (set (units_of (take used b)) i u) k d = rw is (unit_at-put_same i u b (omega arith) small small' ∙ sym (get_or-set_same (units_of (take used b)) i u d (omega arith))) in
          here ∙ same
      | inr other ↦ here ∙ unit_at-put_other i k u b (omega arith) other ∙ sym (get_or-set_other (units_of (take used b)) i k u d other ∙ get_or-units_of_take used k d b le' (omega arith))
    ])

pub put_units_whole : (i : ℕ) (u : ExtentUnit) (b : List ℕ) → 16 * i + 16 ≤ length b → u.start < 2 ^ 64 → u.width < 2 ^ 64 → units_of (put_all (unit_fields u) (16 * i) b) ≡ set (units_of b) i u
put_units_whole i u b le small small' =
    let new = put_all (unit_fields u) (16 * i) b in
    let long : length new ≡ length b = length-put_unit i u b le in
    let one : take (length b) new ≡ new = take_all (length b) new (omega arith) in
    let two : take (length b) b ≡ b = take_all (length b) b (omega arith) in
    let e = put_units (length b) i u b le (omega arith) small small' in
    ap units_of (sym one) ∙ e ∙ ap (λ (xs : List ℕ). set (units_of xs) i u) two

pub has_first : (b : List ℕ) → 16 ≤ length b → 0 < length (units_of b)
has_first b some = let n = length-units_of b in omega arith
