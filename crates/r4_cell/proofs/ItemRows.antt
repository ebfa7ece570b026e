-- The names and units of an item lie in a range of keys.
use Rattle.std.proofs.Common.{◌≡◌, inl, inr, ℕ, zero, suc, ◌+◌, ◌-◌, ◌*◌, ◌<◌, Bool, true, false, List, [], ◌∷◌, map, ap, subst, arith}
use Rattle.std.specs.Prelude.{Contains, None, if◌then◌else◌}
use Rattle.std.proofs.lemmas.List.Elements.{Contains-append_cases}
use Rattle.r4_base.specs.declared.key.Key.{Key}
use Rattle.r4_base.specs.declared.items.Unit.{Unit as ExtentUnit}
use Rattle.r4_base.specs.Cell.{block_names, entry_unit, hole_bytes, run_names, zeros_from}
use Rattle.r4_base.specs.Dir.{dir_fault, entries_from, entries_of, entry_at, entry_count, entry_key_at}
use Rattle.r4_base.specs.Extents.{blocks_in, is_hole}
use Rattle.r4_base.specs.Key.{rank}
use Rattle.r4_base.specs.Tree.{Name, IsData}
use Rattle.r4_base.proofs.Dirs.{accepted}
use Rattle.r4_base.proofs.FreshTree.{only}
use Rattle.r4_base.proofs.Choices.{nothing_in}
use Rattle.r4_cell.proofs.Rows.{IsRow, row_append, row_name, row_none, row_unit, row_wider, row_zeros}

-- ---- directories

entries_row : (item : Key) (b : List ℕ) (n i : ℕ) → ((j : ℕ) → j < i + n → rank (entry_key_at item b j) < rank (entry_key_at item b (j + 1)))
    → IsRow (rank (entry_key_at item b i)) (rank (entry_key_at item b (i + n)) + 1) [] (map entry_unit (entries_from item (suc n) i b))
unfolding entries_from entry_at
entries_row item b zero i rise =
    let e : i ≡ i + 0 = omega arith in
    let u = entry_unit (entry_at item b i) in
    subst (λ (j : ℕ). IsRow (rank (entry_key_at item b i)) (rank (entry_key_at item b j) + 1) [] (u ∷ [])) e (row_unit u.0 u.1)
entries_row item b (suc n) i rise =
    let e : i + 1 + n ≡ i + suc n = omega arith in
    let u = entry_unit (entry_at item b i) in
    let us = map entry_unit (entries_from item (suc n) (i + 1) b) in
    let here = rank (entry_key_at item b i) in
    let next = rank (entry_key_at item b (i + 1)) in
    let end = rank (entry_key_at item b (i + suc n)) + 1 in
    let up : here < next = rise i (omega arith) in
    let rest : IsRow next end [] us = subst (λ (j : ℕ). IsRow next (rank (entry_key_at item b j) + 1) [] us) e (entries_row item b n (i + 1) (λ j lt. rise j (omega (arith, lt)))) in
    row_append here next end [] [] (u ∷ []) us (row_wider here (here + 1) here next [] (u ∷ []) (omega arith) (omega (arith, up)) (row_unit u.0 u.1)) rest

pub dir_row : (item : Key) (b : List ℕ) → dir_fault item b ≡ None → IsRow (rank item) (rank (entry_key_at item b (entry_count b - 1)) + 1) [] (map entry_unit (entries_of item b))
unfolding entries_of
dir_row item b ok =
    let good = accepted item b ok in
    let some = good.some in
    let m = entry_count b - 1 in
    let count : suc m ≡ entry_count b = omega (arith, some) in
    let all = entries_row item b m 0 (λ j lt. good.rise j (omega (arith, lt, some))) in
    let same : 0 + m ≡ m = omega arith in
    let at : IsRow (rank (entry_key_at item b 0)) (rank (entry_key_at item b m) + 1) [] (map entry_unit (entries_from item (suc m) 0 b)) = subst (λ (j : ℕ). IsRow (rank (entry_key_at item b 0)) (rank (entry_key_at item b j) + 1) [] (map entry_unit (entries_from item (suc m) 0 b))) same all in
    let long : IsRow (rank (entry_key_at item b 0)) (rank (entry_key_at item b m) + 1) [] (map entry_unit (entries_from item (entry_count b) 0 b)) = subst (λ (c : ℕ). IsRow (rank (entry_key_at item b 0)) (rank (entry_key_at item b m) + 1) [] (map entry_unit (entries_from item c 0 b))) count at in
    subst (λ (r : ℕ). IsRow r (rank (entry_key_at item b m) + 1) [] (map entry_unit (entries_from item (entry_count b) 0 b))) good.first long

-- ---- extents

run_row : (k start n : ℕ) → IsRow k (k + 4096 * n) (run_names k start n) []
run_row k start zero = row_none k (k + 4096 * 0) (omega arith)
run_row k start (suc n) =
    let e : k + 4096 + 4096 * n ≡ k + 4096 * suc n = omega arith in
    let a : Name = record { id = start; level = 0; lo = k; hi = k + 4096 } in
    let rest : IsRow (k + 4096) (k + 4096 * suc n) (run_names (k + 4096) (start + 1) n) [] = subst (λ (h : ℕ). IsRow (k + 4096) h (run_names (k + 4096) (start + 1) n) []) e (run_row (k + 4096) (start + 1) n) in
    row_append k (k + 4096) (k + 4096 * suc n) (a ∷ []) (run_names (k + 4096) (start + 1) n) [] [] (row_name a (omega arith)) rest

unit_row : (k start width : ℕ) (hole : Bool) → IsRow k (k + 4096 * width) (if hole then [] else run_names k start width) (if hole then zeros_from k (4096 * width) else [])
unit_row k start width true = row_zeros k (4096 * width)
unit_row k start width false = run_row k start width

pub extent_row : (k : ℕ) (us : List ExtentUnit) → IsRow k (k + 4096 * blocks_in us) (block_names k us) (hole_bytes k us)
extent_row k [] = row_none k (k + 4096 * 0) (omega arith)
extent_row k (u ∷ us) =
    let mid = k + 4096 * u.width in
    let e : mid + 4096 * blocks_in us ≡ k + 4096 * (u.width + blocks_in us) = omega arith in
    let rest : IsRow mid (k + 4096 * (u.width + blocks_in us)) (block_names mid us) (hole_bytes mid us) = subst (λ (h : ℕ). IsRow mid h (block_names mid us) (hole_bytes mid us)) e (extent_row mid us) in
    row_append k mid (k + 4096 * (u.width + blocks_in us)) _ (block_names mid us) _ (hole_bytes mid us) (unit_row k u.start u.width (is_hole u)) rest

run_data : (k start n : ℕ) (x : Name) → Contains (run_names k start n) x → IsData x
run_data k start zero x h = absurd (nothing_in x h)
run_data k start (suc n) x h = elim (Contains-append_cases (record { id = start; level = 0; lo = k; hi = k + 4096 } ∷ []) (run_names (k + 4096) (start + 1) n) x h) [
  | inl y ↦ ap (λ (m : Name). m.level) (only (record { id = start; level = 0; lo = k; hi = k + 4096 }) x y)
  | inr y ↦ run_data (k + 4096) (start + 1) n x y
]

unit_data : (k start width : ℕ) (hole : Bool) (x : Name) → Contains (if hole then [] else run_names k start width) x → IsData x
unit_data k start width true x h = absurd (nothing_in x h)
unit_data k start width false x h = run_data k start width x h

pub extent_data : (k : ℕ) (us : List ExtentUnit) (x : Name) → Contains (block_names k us) x → IsData x
extent_data k [] x h = absurd (nothing_in x h)
extent_data k (u ∷ us) x h = elim (Contains-append_cases (if is_hole u then [] else run_names k u.start u.width) (block_names (k + 4096 * u.width) us) x h) [
  | inl y ↦ unit_data k u.start u.width (is_hole u) x y
  | inr y ↦ extent_data (k + 4096 * u.width) us x y
]
