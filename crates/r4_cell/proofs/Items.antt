-- The items of a node that may stand as a cell, each a part of it.
use Rattle.std.proofs.Common.{◌≡◌, ◌⊎◌, inl, inr, ℕ, suc, ◌+◌, ◌*◌, ◌≤◌, Bool, true, false, not, ◌||◌, List, [], ◌∷◌, length, map, refl, sym, ap, subst, ◌∙◌, arith}
use Rattle.std.specs.Prelude.{Option, Some, None, ◌==◌, nat_le, nat_lt, if◌then◌else◌}
use Rattle.std.specs.Option.{option_map}
use Rattle.std.proofs.lemmas.Bool.{and_parts, leb-true}
use Rattle.std.proofs.lemmas.Bool.Decides.{nat_tests}
use Rattle.r4_base.specs.Cell.{block_names, bytes_from, entry_unit, hole_bytes, item_body_fault, item_end, item_names, item_units, items_in_fault, last_entry_key, names_block, names_in, next_key, offsets_fit, range_is_good, spans_in, units_in}
use Rattle.r4_base.specs.Dir.{dir_fault, entries_of}
use Rattle.r4_base.specs.Extents.{blocks_in, pointer_of, units_of}
use Rattle.r4_base.specs.Key.{rank}
use Rattle.r4_base.specs.Node.{Item, PluginsFit, fits_level}
use Rattle.r4_base.specs.Stat.{attr_of}
use Rattle.r4_base.specs.Tree.{Span}
use Rattle.r4_base.specs.Value.{Value, Stat}
use Rattle.r4_base.specs.declared.items.CellFault.{CellFault}
use Rattle.r4_base.specs.declared.items.CellFault.TheVariants.{Dir, Pointer, Range}
use Rattle.r4_base.specs.declared.items.DirFault.{DirFault}
use Rattle.r4_base.proofs.Choices.{chosen, or_none}
use Rattle.r4_cell.proofs.Rows.{row_bytes, row_unit, row_wider}
use Rattle.r4_cell.proofs.Parts.{IsPart, part_append, part_extent, part_leaf, part_none, part_pointer}
use Rattle.r4_cell.proofs.ItemRows.{dir_row, extent_data, extent_row}

-- the range of an item, where it is an extent
abbrev pub item_spans : (next : ℕ) → Item → List Span
item_spans next it = if it.plugin == 5 then record { lo = rank it.key; hi = next } ∷ [] else []

abbrev pub IsItemPart : (level next : ℕ) → Item → Type 0
IsItemPart level next it = IsPart level (rank it.key) next (item_names level next it) (item_spans next it) (item_units it)

-- ---- by its plugin

stat_part : (level next : ℕ) (it : Item) → level ≡ 1 → it.plugin ≡ 0 → item_end it ≤ next → IsItemPart level next it
unfolding item_names item_units item_end
stat_part level next it one is le =
    let a : (it.plugin == 0) ≡ true = ap (λ (x : ℕ). x == 0) is in
    let c : (it.plugin == 3) ≡ false = ap (λ (x : ℕ). x == 3) is in
    let d : (it.plugin == 5) ≡ false = ap (λ (x : ℕ). x == 5) is in
    let end : item_end it ≡ rank it.key + 1 = rw a refl in
    let high : rank it.key + 1 ≤ next = subst (λ (e : ℕ). e ≤ next) end le in
    let units : List (ℕ × Value) = (rank it.key, Stat (attr_of it.body)) ∷ [] in
    rw (a, c, d) (part_leaf level (rank it.key) next units one (row_wider (rank it.key) (rank it.key + 1) (rank it.key) next [] units (omega arith) high (row_unit (rank it.key) (Stat (attr_of it.body)))))

none_of_dir : (f : Option DirFault) → option_map Dir f ≡ None → f ≡ None
none_of_dir None h = refl
none_of_dir (Some f) h = absurd cc

dir_part : (in_memory : Bool) (blocks level next : ℕ) (it : Item) → level ≡ 1 → it.plugin ≡ 2 → item_body_fault in_memory blocks it ≡ None → item_end it ≤ next → IsItemPart level next it
unfolding item_names item_units item_end item_body_fault
dir_part in_memory blocks level next it one is body le =
    let a : (it.plugin == 0) ≡ false = ap (λ (x : ℕ). x == 0) is in
    let b : (it.plugin == 2) ≡ true = ap (λ (x : ℕ). x == 2) is in
    let c : (it.plugin == 3) ≡ false = ap (λ (x : ℕ). x == 3) is in
    let d : (it.plugin == 5) ≡ false = ap (λ (x : ℕ). x == 5) is in
    let end : item_end it ≡ last_entry_key it + 1 = rw (a, c, b) refl in
    let high : last_entry_key it + 1 ≤ next = subst (λ (e : ℕ). e ≤ next) end le in
    let fault : item_body_fault in_memory blocks it ≡ option_map Dir (dir_fault it.key it.body) = rw (a, b) refl in
    let r = dir_row it.key it.body (none_of_dir _ (sym fault ∙ body)) in
    let units : List (ℕ × Value) = map entry_unit (entries_of it.key it.body) in
    rw (a, b, c, d) (part_leaf level (rank it.key) next units one (row_wider (rank it.key) (last_entry_key it + 1) (rank it.key) next [] units (omega arith) high r))

tail_part : (level next : ℕ) (it : Item) → level ≡ 1 → it.plugin ≡ 6 → item_end it ≤ next → IsItemPart level next it
unfolding item_names item_units item_end
tail_part level next it one is le =
    let a : (it.plugin == 0) ≡ false = ap (λ (x : ℕ). x == 0) is in
    let b : (it.plugin == 2) ≡ false = ap (λ (x : ℕ). x == 2) is in
    let c : (it.plugin == 3) ≡ false = ap (λ (x : ℕ). x == 3) is in
    let d : (it.plugin == 5) ≡ false = ap (λ (x : ℕ). x == 5) is in
    let end : item_end it ≡ rank it.key + length it.body = rw (a, c, b, d) refl in
    let high : rank it.key + length it.body ≤ next = subst (λ (e : ℕ). e ≤ next) end le in
    let units : List (ℕ × Value) = bytes_from (rank it.key) it.body in
    rw (a, b, c, d) (part_leaf level (rank it.key) next units one (row_wider (rank it.key) (rank it.key + length it.body) (rank it.key) next [] units (omega arith) high (row_bytes (rank it.key) it.body)))

named : (in_memory : Bool) (blocks : ℕ) (o : Option ℕ) → (if names_block in_memory blocks o then None else Some Pointer) ≡ None → (to : ℕ) × (o ≡ Some to)
named in_memory blocks None h = absurd cc
named in_memory blocks (Some to) h = (to, refl)

pointer_part : (in_memory : Bool) (blocks level next : ℕ) (it : Item) → 2 ≤ level → it.plugin ≡ 3 → item_body_fault in_memory blocks it ≡ None → item_end it ≤ next → IsItemPart level next it
unfolding item_names item_units item_end item_body_fault
pointer_part in_memory blocks level next it two is body le =
    let a : (it.plugin == 0) ≡ false = ap (λ (x : ℕ). x == 0) is in
    let b : (it.plugin == 2) ≡ false = ap (λ (x : ℕ). x == 2) is in
    let c : (it.plugin == 3) ≡ true = ap (λ (x : ℕ). x == 3) is in
    let d : (it.plugin == 5) ≡ false = ap (λ (x : ℕ). x == 5) is in
    let end : item_end it ≡ rank it.key + 1 = rw (a, c) refl in
    let high : rank it.key + 1 ≤ next = subst (λ (e : ℕ). e ≤ next) end le in
    let fault : item_body_fault in_memory blocks it ≡ (if names_block in_memory blocks (pointer_of it.body) then None else Some Pointer) = rw (a, b, c) refl in
    let to = named in_memory blocks (pointer_of it.body) (sym fault ∙ body) in
    let points = to.1 in
    rw (a, b, c, d, points) (part_pointer level (rank it.key) next to.0 two (omega (arith, high)))

extent_part : (level next : ℕ) (it : Item) → level ≡ 2 → it.plugin ≡ 5 → item_end it ≤ next → IsItemPart level next it
unfolding item_names item_units item_end
extent_part level next it two is le =
    let a : (it.plugin == 0) ≡ false = ap (λ (x : ℕ). x == 0) is in
    let b : (it.plugin == 2) ≡ false = ap (λ (x : ℕ). x == 2) is in
    let c : (it.plugin == 3) ≡ false = ap (λ (x : ℕ). x == 3) is in
    let d : (it.plugin == 5) ≡ true = ap (λ (x : ℕ). x == 5) is in
    let end : item_end it ≡ rank it.key + 4096 * blocks_in (units_of it.body) = rw (a, c, b, d) refl in
    let high : rank it.key + 4096 * blocks_in (units_of it.body) ≤ next = subst (λ (e : ℕ). e ≤ next) end le in
    rw (a, b, c, d) (part_extent level (rank it.key) (rank it.key + 4096 * blocks_in (units_of it.body)) next (block_names (rank it.key) (units_of it.body)) (hole_bytes (rank it.key) (units_of it.body)) two high
    (extent_data (rank it.key) (units_of it.body)) (extent_row (rank it.key) (units_of it.body)))

-- ---- which plugins a level has

abbrev Plugins : (level plugin : ℕ) → Type 0
Plugins level plugin = ((level ≡ 1) × ((plugin ≡ 0) ⊎ (plugin ≡ 2) ⊎ (plugin ≡ 6))) ⊎ (((2 ≤ level) × (plugin ≡ 3)) ⊎ ((level ≡ 2) × (plugin ≡ 5)))

plugins : (level plugin : ℕ) → 1 ≤ level → fits_level level plugin ≡ true → Plugins level plugin
plugins level plugin some fits = grind (arith, nat_tests)

item_part : (in_memory : Bool) (blocks level next : ℕ) (it : Item) → 1 ≤ level → fits_level level it.plugin ≡ true → item_body_fault in_memory blocks it ≡ None → item_end it ≤ next → IsItemPart level next it
item_part in_memory blocks level next it some fits body le = elim (plugins level it.plugin some fits) [
  | inl (one, inl is) ↦ stat_part level next it one is le
  | inl (one, inr (inl is)) ↦ dir_part in_memory blocks level next it one is body le
  | inl (one, inr (inr is)) ↦ tail_part level next it one is le
  | inr (inl (two, is)) ↦ pointer_part in_memory blocks level next it two is body le
  | inr (inr (two, is)) ↦ extent_part level next it two is le
]

-- ---- what is found of an item's range

pub record HasRange (level lo hi next i : ℕ) (it : Item) : Type 0 where
  pub low : lo ≤ rank it.key
  pub end : item_end it ≤ next
  pub first : 2 ≤ level → i ≡ 0 → rank it.key ≡ lo

first_is : (level lo i key : ℕ) → (nat_le level 1 || not (i == 0) || key == lo) ≡ true → 2 ≤ level → i ≡ 0 → key ≡ lo
first_is level lo i key h two is = grind (arith, nat_tests)

has_range : (level lo hi next i : ℕ) (it : Item) → range_is_good level lo hi next i it ≡ true → HasRange level lo hi next i it
has_range level lo hi next i it good =
    let a = and_parts _ (nat_le level 1 || not (i == 0) || rank it.key == lo) good in
    let b = and_parts _ (nat_le (item_end it) next) a.0 in
    let c = and_parts _ (nat_le (item_end it) hi) b.0 in
    let d = and_parts _ (offsets_fit it) c.0 in
    let e = and_parts (nat_le lo (rank it.key)) (nat_lt (rank it.key) hi) d.0 in
    record { low = leb-true _ _ e.0; end = leb-true _ _ b.1; first = first_is level lo i (rank it.key) a.1 }

-- ---- items

pub record IsGoodItem (in_memory : Bool) (blocks level lo hi i : ℕ) (it : Item) (items : List Item) : Type 0 where
  pub body : item_body_fault in_memory blocks it ≡ None
  pub range : HasRange level lo hi (next_key hi items) i it
  pub rest : items_in_fault in_memory blocks level lo hi (i + 1) items ≡ None

pub good_item : (in_memory : Bool) (blocks level lo hi i : ℕ) (it : Item) (items : List Item) → items_in_fault in_memory blocks level lo hi i (it ∷ items) ≡ None → IsGoodItem in_memory blocks level lo hi i it items
unfolding items_in_fault
good_item in_memory blocks level lo hi i it items h =
    let first = or_none (item_body_fault in_memory blocks it) _ h in
    let rest = or_none (if range_is_good level lo hi (next_key hi items) i it then None else Some (Range i)) _ first.1 in
    record { body = first.0; range = has_range level lo hi (next_key hi items) i it (chosen _ (Range i) rest.0); rest = rest.1 }

pub items_part : (in_memory : Bool) (blocks level lo hi i : ℕ) (items : List Item) → 1 ≤ level → PluginsFit level items → items_in_fault in_memory blocks level lo hi i items ≡ None
    → IsPart level (next_key hi items) hi (names_in level hi items) (spans_in hi items) (units_in items)
unfolding names_in spans_in units_in
items_part in_memory blocks level lo hi i [] some fits h = part_none level hi
items_part in_memory blocks level lo hi i (it ∷ items) some fits h =
    let g = good_item in_memory blocks level lo hi i it items h in
    let next = next_key hi items in
    part_append level (rank it.key) next hi (item_names level next it) (names_in level hi items) (item_spans next it) (spans_in hi items) (item_units it) (units_in items)
    (item_part in_memory blocks level next it some (fits 0 it refl) g.body g.range.end)
    (items_part in_memory blocks level lo hi (i + 1) items some (λ k. fits (suc k)) g.rest)
