-- The stat data of a node are its items of that kind.
use Rattle.std.proofs.Common.{add-zero, get_or, ◌≡◌, ℕ, zero, suc, ◌+◌, ◌*◌, ◌≤◌, Bool, true, false, cond, List, [], ◌∷◌, ◌++◌, map, refl, sym, ap, ◌∙◌, arith}
use Rattle.std.specs.Prelude.{Some, count_by, if◌then◌else◌, slice_get, take}
use Rattle.std.proofs.lemmas.List.Sums.{count_by_more_no, count_by_more_yes, sum_by-append, sum_by-cons}
use Rattle.std.proofs.lemmas.Option.{get_or_from_slice_get, slice_get_within}
use Rattle.r4_base.specs.Cell.{bytes_from, cell_of, entry_unit, hole_bytes, is_dir, is_extent, is_pointer, is_stat, item_units, units_in, zeros_from}
use Rattle.r4_base.specs.Dir.{Entry as DirEntry, entries_of}
use Rattle.r4_base.specs.Extents.{is_hole, units_of}
use Rattle.r4_base.specs.Key.{rank}
use Rattle.r4_base.specs.Node.{Item, items_of}
use Rattle.r4_base.specs.Stat.{attr_of}
use Rattle.r4_base.specs.Value.{Value, Stat, Byte}
use Rattle.r4_base.specs.Volume.{is_stat_value}
use Rattle.r4_base.specs.declared.items.Unit.{Unit as ExtentUnit}
use Rattle.r4_check.specs.Walk.{stats_in}

abbrev pub once : Bool → ℕ
once b = cond b 1 0

abbrev pub stat_units : List (ℕ × Value) → ℕ
stat_units us = count_by (λ u. is_stat_value u.1) us

both : (a b : List (ℕ × Value)) → stat_units (a ++ b) ≡ stat_units a + stat_units b
both a b = sum_by-append (λ u. once (is_stat_value u.1)) a b

first : (u : ℕ × Value) (us : List (ℕ × Value)) → is_stat_value u.1 ≡ false → stat_units us ≡ 0 → stat_units (u ∷ us) ≡ 0
first u us other rest =
    let none : once (is_stat_value u.1) ≡ 0 = ap once other in
    sum_by-cons (λ v. once (is_stat_value v.1)) u us ∙ omega (arith, none, rest)

pub no_bytes : (key : ℕ) (b : List ℕ) → stat_units (bytes_from key b) ≡ 0
no_bytes key [] = refl
no_bytes key (x ∷ b) = first (key, Byte x) (bytes_from (key + 1) b) refl (no_bytes (key + 1) b)

no_zeros : (key n : ℕ) → stat_units (zeros_from key n) ≡ 0
no_zeros key zero = refl
no_zeros key (suc n) = first (key, Byte 0) (zeros_from (key + 1) n) refl (no_zeros (key + 1) n)

no_hole : (hole : Bool) (key n : ℕ) → stat_units (if hole then zeros_from key n else []) ≡ 0
no_hole true key n = no_zeros key n
no_hole false key n = refl

no_holes : (key : ℕ) (us : List ExtentUnit) → stat_units (hole_bytes key us) ≡ 0
no_holes key [] = refl
no_holes key (u ∷ us) =
    let a = no_hole (is_hole u) key (4096 * u.width) in
    let b = no_holes (key + 4096 * u.width) us in
    both (if is_hole u then zeros_from key (4096 * u.width) else []) (hole_bytes (key + 4096 * u.width) us) ∙ omega (arith, a, b)

no_entries : (es : List DirEntry) → stat_units (map entry_unit es) ≡ 0
no_entries [] = refl
no_entries (e ∷ es) = first (entry_unit e) (map entry_unit es) refl (no_entries es)

kinds : (stat dir pointer extent : Bool) (s d e t : List (ℕ × Value)) → stat_units s ≡ 1 → stat_units d ≡ 0 → stat_units e ≡ 0 → stat_units t ≡ 0
    → stat_units (if stat then s else if dir then d else if pointer then [] else if extent then e else t) ≡ once stat
kinds true dir pointer extent s d e t a b c f = a
kinds false true pointer extent s d e t a b c f = b
kinds false false true extent s d e t a b c f = refl
kinds false false false true s d e t a b c f = c
kinds false false false false s d e t a b c f = f

item_stats : (it : Item) → stat_units (item_units it) ≡ once (is_stat it)
unfolding item_units
item_stats it = kinds (is_stat it) (is_dir it) (is_pointer it) (is_extent it) ((rank it.key, Stat (attr_of it.body)) ∷ []) (map entry_unit (entries_of it.key it.body)) (hole_bytes (rank it.key) (units_of it.body)) (bytes_from (rank it.key) it.body)
    refl (no_entries (entries_of it.key it.body)) (no_holes (rank it.key) (units_of it.body)) (no_bytes (rank it.key) it.body)

pub items_stats : (items : List Item) → stat_units (units_in items) ≡ count_by is_stat items
unfolding units_in
items_stats [] = refl
items_stats (it ∷ items) =
    let a = item_stats it in
    let b = items_stats items in
    both (item_units it) (units_in items) ∙ omega (arith, a, b) ∙ sym (sum_by-cons (λ x. once (is_stat x)) it items)

pub cell_stats : (level lo hi : ℕ) (b : List ℕ) → 1 ≤ level → stats_in (cell_of level lo hi b) ≡ count_by is_stat (items_of b)
unfolding cell_of
cell_stats zero lo hi b some = absurd (omega (arith, some))
cell_stats (suc l) lo hi b some = items_stats (items_of b)

-- one item more
pub stat_more : (items : List Item) (i : ℕ) (it : Item) → slice_get items i ≡ Some it → count_by is_stat (take (i + 1) items) ≡ count_by is_stat (take i items) + once (is_stat it)
stat_more items i it at = by (is_stat it) refl
  where
    by : (b : Bool) → is_stat it ≡ b → count_by is_stat (take (i + 1) items) ≡ count_by is_stat (take i items) + once b
    by true is = count_by_more_yes is_stat items i it (slice_get_within items i it at) (ap is_stat (get_or_from_slice_get items i it it at) ∙ is)
    by false is = count_by_more_no is_stat items i it (slice_get_within items i it at) (ap is_stat (get_or_from_slice_get items i it it at) ∙ is) ∙ sym (add-zero (count_by is_stat (take i items)))

pub small : (b : Bool) → once b ≤ 1
small true = omega arith
small false = omega arith
