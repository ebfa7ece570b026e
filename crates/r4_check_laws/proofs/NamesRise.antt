-- What a cell names stands in order, each behind the one before it.
use Rattle.std.proofs.Common.{◌≡◌, inl, inr, ℕ, zero, suc, ◌+◌, ◌*◌, ◌<◌, ◌≤◌, Bool, true, false, List, [], ◌∷◌, ◌++◌, length, Option, Some, None, refl, sym, ap, subst, arith}
use Rattle.std.specs.Prelude.{Contains, ◌==◌, ◌||◌, not, nat_le, nat_lt, if◌then◌else◌}
use Rattle.std.proofs.lemmas.Bool.{and_parts, ltb-true}
use Rattle.std.proofs.lemmas.Bool.Decides.{nat_tests}
use Rattle.r4_base.proofs.Choices.{chosen, or_none}
use Rattle.r4_base.specs.declared.items.CellFault.TheVariants.{Range}
use Rattle.r4_base.specs.Cell.{block_names, cell_fault, cell_of, item_end, item_names, item_body_fault, items_in_fault, names_in, next_key, offsets_fit, pointer_names, range_is_good, run_names}
use Rattle.r4_base.specs.Extents.{blocks_in, is_hole, pointer_of, units_of}
use Rattle.r4_base.specs.Key.{rank}
use Rattle.r4_base.specs.Node.{Item, PluginsFit, items_of}
use Rattle.r4_base.specs.Tree.{Name}
use Rattle.r4_base.specs.declared.items.Unit.{Unit as ExtentUnit}
use Rattle.r4_check.proofs.r4_cell.Items.{good_item}
use Rattle.r4_check.proofs.r4_cell.NodesAt.{node_at, plugins_at}
use Rattle.r4_check_laws.proofs.Apart.{is_lower, is_upper}
use Rattle.r4_check_laws.proofs.Bodies.{names_of_extent, names_of_pointer}
use Rattle.r4_check_laws.proofs.Lists.{none_in, one_of}

-- Each name begins where or behind where the one before it ends.
abbrev pub NamesRise : (from to : ℕ) → List Name → Type 0
NamesRise from to [] = Unit {0}
NamesRise from to (n ∷ ns) = (from ≤ n.lo) × (n.lo < n.hi) × (n.hi ≤ to) × NamesRise n.hi to ns

names_lower : (from low to : ℕ) (ns : List Name) → low ≤ from → NamesRise from to ns → NamesRise low to ns
names_lower from low to [] le h = tt
names_lower from low to (n ∷ ns) le h = let a = h.0 in (omega (arith, a, le), h.1, h.2, h.3)

names_wider : (from mid to : ℕ) (ns : List Name) → mid ≤ to → NamesRise from mid ns → NamesRise from to ns
names_wider from mid to [] le h = tt
names_wider from mid to (n ∷ ns) le h = let a = h.2 in (h.0, h.1, omega (arith, a, le), names_wider n.hi mid to ns le h.3)

names_both : (from mid to : ℕ) (ns ms : List Name) → from ≤ mid → mid ≤ to → NamesRise from mid ns → NamesRise mid to ms → NamesRise from to (ns ++ ms)
names_both from mid to [] ms low high a b = names_lower mid from to ms low b
names_both from mid to (n ∷ ns) ms low high a b = let x = a.2 in (a.0, a.1, omega (arith, x, high), names_both n.hi mid to ns ms x high a.3 b)

run_rise : (key start width : ℕ) → NamesRise key (key + 4096 * width) (run_names key start width)
run_rise key start zero = tt
run_rise key start (suc w) = (omega arith, omega arith, omega arith, names_wider (key + 4096) (key + 4096 + 4096 * w) (key + 4096 * suc w) (run_names (key + 4096) (start + 1) w) (omega arith) (run_rise (key + 4096) (start + 1) w))

unit_rise : (key : ℕ) (u : ExtentUnit) (hole : Bool) → NamesRise key (key + 4096 * u.width) (if hole then [] else run_names key u.start u.width)
unit_rise key u true = tt
unit_rise key u false = run_rise key u.start u.width

units_rise : (key : ℕ) (us : List ExtentUnit) → NamesRise key (key + 4096 * blocks_in us) (block_names key us)
units_rise key [] = tt
units_rise key (u ∷ us) =
    names_both key (key + 4096 * u.width) (key + 4096 * blocks_in (u ∷ us)) (if is_hole u then [] else run_names key u.start u.width) (block_names (key + 4096 * u.width) us) (omega arith) (omega arith)
    (unit_rise key u (is_hole u))
    (names_wider (key + 4096 * u.width) (key + 4096 * u.width + 4096 * blocks_in us) (key + 4096 * blocks_in (u ∷ us)) (block_names (key + 4096 * u.width) us) (omega arith) (units_rise (key + 4096 * u.width) us))

apart_from : (a b : ℕ) → (a ≡ b → ⊥) → (a == b) ≡ false
apart_from a b ne = grind (arith, nat_tests)

pointer_rise : (level key next : ℕ) (o : Option ℕ) → key < next → NamesRise key next (pointer_names level key next o)
pointer_rise level key next None lt = tt
pointer_rise level key next (Some to) lt = (omega arith, lt, omega arith, tt)

no_names : (level next : ℕ) (it : Item) → (it.plugin ≡ 3 → ⊥) → (it.plugin ≡ 5 → ⊥) → item_names level next it ≡ []
unfolding item_names
no_names level next it pointer extent =
    let p = apart_from it.plugin 3 pointer in
    let e = apart_from it.plugin 5 extent in
    rw (p, e) refl

pointer_end : (it : Item) → it.plugin ≡ 3 → item_end it ≡ rank it.key + 1
unfolding item_end
pointer_end it is =
    let n : (it.plugin == 0) ≡ false = ap (λ (k : ℕ). k == 0) is in
    let t : (it.plugin == 3) ≡ true = ap (λ (k : ℕ). k == 3) is in
    rw (n, t) refl

extent_end : (it : Item) → it.plugin ≡ 5 → item_end it ≡ rank it.key + 4096 * blocks_in (units_of it.body)
unfolding item_end
extent_end it is =
    let a : (it.plugin == 0) ≡ false = ap (λ (x : ℕ). x == 0) is in
    let b : (it.plugin == 2) ≡ false = ap (λ (x : ℕ). x == 2) is in
    let c : (it.plugin == 3) ≡ false = ap (λ (x : ℕ). x == 3) is in
    let d : (it.plugin == 5) ≡ true = ap (λ (x : ℕ). x == 5) is in
    rw (a, c, b, d) refl

-- an item begins within the range
begins : (blocks level lo hi i : ℕ) (it : Item) (items : List Item) → items_in_fault false blocks level lo hi i (it ∷ items) ≡ None → rank it.key < hi
unfolding items_in_fault
begins blocks level lo hi i it items h =
    let first = or_none (item_body_fault false blocks it) _ h in
    let rest = or_none (if range_is_good level lo hi (next_key hi items) i it then None else Some (Range i)) _ first.1 in
    let good = chosen (range_is_good level lo hi (next_key hi items) i it) (Range i) rest.0 in
    let a = and_parts _ (nat_le level 1 || not (i == 0) || rank it.key == lo) good in
    let b = and_parts _ (nat_le (item_end it) (next_key hi items)) a.0 in
    let c = and_parts _ (nat_le (item_end it) hi) b.0 in
    let d = and_parts _ (offsets_fit it) c.0 in
    let e = and_parts (nat_le lo (rank it.key)) (nat_lt (rank it.key) hi) d.0 in
    ltb-true _ _ e.1

-- each next key is within the range
nexts : (blocks level lo hi i : ℕ) (items : List Item) → items_in_fault false blocks level lo hi i items ≡ None → next_key hi items ≤ hi
nexts blocks level lo hi i [] h = omega arith
nexts blocks level lo hi i (it ∷ items) h = let low = begins blocks level lo hi i it items h in omega (arith, low)

items_rise : (blocks level lo hi i : ℕ) (items : List Item) → 2 ≤ level → PluginsFit level items → items_in_fault false blocks level lo hi i items ≡ None → NamesRise (next_key hi items) hi (names_in level hi items)
unfolding names_in
items_rise blocks level lo hi i [] high fits h = tt
items_rise blocks level lo hi i (it ∷ items) high fits h =
    let g = good_item false blocks level lo hi i it items h in
    let end = g.range.end in
    let rest = items_rise blocks level lo hi (i + 1) items high (λ k. fits (suc k)) g.rest in
    let last = nexts blocks level lo hi (i + 1) items g.rest in
    elim (is_upper level it.plugin high (fits 0 it refl)) [
      | inl pointer ↦
          let one = pointer_end it pointer in
          names_both (rank it.key) (next_key hi items) hi (item_names level (next_key hi items) it) (names_in level hi items) (omega (arith, one, end)) last
          (subst (NamesRise (rank it.key) (next_key hi items)) (sym (names_of_pointer level (next_key hi items) it pointer)) (pointer_rise level (rank it.key) (next_key hi items) (pointer_of it.body) (omega (arith, one, end)))) rest
      | inr extent ↦
          let one = extent_end it extent.1 in
          names_both (rank it.key) (next_key hi items) hi (item_names level (next_key hi items) it) (names_in level hi items) (omega (arith, one, end)) last
          (subst (NamesRise (rank it.key) (next_key hi items)) (sym (names_of_extent level (next_key hi items) it extent.1))
          (names_wider (rank it.key) (rank it.key + 4096 * blocks_in (units_of it.body)) (next_key hi items) (block_names (rank it.key) (units_of it.body)) (omega (arith, one, end)) (units_rise (rank it.key) (units_of it.body)))) rest
    ]

leaf_names : (level hi : ℕ) (items : List Item) → level ≡ 1 → PluginsFit level items → names_in level hi items ≡ []
unfolding names_in
leaf_names level hi [] leaf fits = refl
leaf_names level hi (it ∷ items) leaf fits =
    let rest = leaf_names level hi items leaf (λ k. fits (suc k)) in
    let none : item_names level (next_key hi items) it ≡ [] = elim (is_lower level it.plugin leaf (fits 0 it refl)) [
      | inl stat ↦ no_names level (next_key hi items) it (λ e. omega (arith, e, stat)) (λ e. omega (arith, e, stat))
      | inr (inl dir) ↦ no_names level (next_key hi items) it (λ e. omega (arith, e, dir)) (λ e. omega (arith, e, dir))
      | inr (inr tail) ↦ no_names level (next_key hi items) it (λ e. omega (arith, e, tail)) (λ e. omega (arith, e, tail))
    ] in
    rw (none, rest) refl

-- the names of a cell stand in order within its range
pub cell_rises : (blocks level lo hi : ℕ) (b : List ℕ) → length b ≡ 4096 → cell_fault false blocks level lo hi b ≡ None → (from : ℕ) × NamesRise from hi (cell_of level lo hi b).names
unfolding cell_of
cell_rises blocks zero lo hi b whole sound = (0, tt)
cell_rises blocks (suc zero) lo hi b whole sound =
    let node = node_at false blocks 1 lo hi b (omega arith) sound in
    (0, subst (NamesRise 0 hi) (sym (leaf_names 1 hi (items_of b) refl (plugins_at false blocks 1 lo hi b whole node))) tt)
cell_rises blocks (suc (suc l)) lo hi b whole sound =
    let node = node_at false blocks (suc (suc l)) lo hi b (omega arith) sound in
    (next_key hi (items_of b), items_rise blocks (suc (suc l)) lo hi 0 (items_of b) (omega arith) (plugins_at false blocks (suc (suc l)) lo hi b whole node) node.items)

-- of two names in order the second begins behind the first
pub risen_apart : (from to : ℕ) (ns : List Name) → NamesRise from to ns → (n : Name) → Contains ns n → from ≤ n.lo
risen_apart from to [] rise n at = absurd (none_in n at)
risen_apart from to (m ∷ ns) rise n at = elim (one_of m ns n at) [
  | inl e ↦ let same = ap (λ (x : Name). x.lo) e in let low = rise.0 in omega (arith, same, low)
  | inr more ↦ let low = rise.0 in let some = rise.1 in let rest = risen_apart m.hi to ns rise.3 n more in omega (arith, low, some, rest)
]
