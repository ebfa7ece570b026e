-- A cell in memory that names only blocks of its volume is accepted on disk.
use Rattle.std.proofs.Common.{◌≡◌, inl, inr, ℕ, zero, suc, ◌+◌, ◌-◌, ◌*◌, ◌<◌, ◌≤◌, Bool, true, false, List, [], ◌∷◌, ◌++◌, refl, ap, arith}
use Rattle.std.specs.Prelude.{Option, Some, None, Contains, ◌==◌, if◌then◌else◌}
use Rattle.std.specs.Option.{option_map}
use Rattle.std.proofs.lemmas.Bool.{eq-eqb, eqb-true}
use Rattle.std.proofs.lemmas.Bool.Decides.{nat_tests}
use Rattle.std.proofs.lemmas.List.Elements.{Contains-append_left, Contains-append_right}
use Rattle.r4_base.specs.Bitmap.{is_fixed}
use Rattle.r4_base.specs.Cell.{block_names, cell_fault, cell_of, item_body_fault, item_names, items_in_fault, names_block, names_in, next_key, pointer_names, range_is_good, run_names}
use Rattle.r4_base.specs.Extents.{AreLawfulUnits, IsLawfulUnit, IsRun, body_fault, holds_fixed, is_hole, pointer_of, units_of}
use Rattle.r4_base.specs.Key.{rank}
use Rattle.r4_base.specs.Node.{Item, items_of, level_of, node_fault}
use Rattle.r4_base.specs.Tree.{Name}
use Rattle.r4_base.specs.declared.items.CellFault.{CellFault}
use Rattle.r4_base.specs.declared.items.CellFault.TheVariants.{Extent, Level, Node, Pointer, Range}
use Rattle.r4_base.specs.declared.items.ExtentFault.{ExtentFault}
use Rattle.r4_base.specs.declared.items.Unit.{Unit as ExtentUnit}
use Rattle.r4_base.proofs.Choices.{or_none}
use Rattle.r4_twig.proofs.Faults.{body_lawful, body_none}
use Rattle.r4_cell.specs.OnDisk.{AreBlocks}

first_of : (x : Name) (names : List Name) → Contains (x ∷ names) x
first_of x names = (0, omega arith, refl)

AreBlocks-left : (count : ℕ) (xs ys : List Name) → AreBlocks count (xs ++ ys) → AreBlocks count xs
AreBlocks-left count xs ys all x h = all x (Contains-append_left xs ys x h)

AreBlocks-right : (count : ℕ) (xs ys : List Name) → AreBlocks count (xs ++ ys) → AreBlocks count ys
AreBlocks-right count xs ys all x h = all x (Contains-append_right xs ys x h)

-- ---- runs

run_spares : (count k start width : ℕ) → AreBlocks count (run_names k start width) → holds_fixed count start width ≡ false
unfolding holds_fixed
run_spares count k start zero all = refl
run_spares count k start (suc width) all =
    let here : is_fixed count start ≡ false = (all (record { id = start; level = 0; lo = k; hi = k + 4096 }) (first_of _ (run_names (k + 4096) (start + 1) width))).1 in
    let rest = run_spares count (k + 4096) (start + 1) width (AreBlocks-right count (record { id = start; level = 0; lo = k; hi = k + 4096 } ∷ []) (run_names (k + 4096) (start + 1) width) all) in
    rw (here, rest) refl

run_within : (count k start width : ℕ) → AreBlocks count (run_names k start (suc width)) → start + suc width ≤ count
run_within count k start zero all =
    let here = (all (record { id = start; level = 0; lo = k; hi = k + 4096 }) (first_of _ [])).0 in omega (arith, here)
run_within count k start (suc width) all =
    let rest = run_within count (k + 4096) (start + 1) width (AreBlocks-right count (record { id = start; level = 0; lo = k; hi = k + 4096 } ∷ []) (run_names (k + 4096) (start + 1) (suc width)) all) in omega (arith, rest)

from_22 : (count b : ℕ) → is_fixed count b ≡ false → 22 ≤ b
from_22 count b h = grind (arith, nat_tests)

run_is : (count k : ℕ) (u : ExtentUnit) (width : ℕ) → u.width ≡ suc width → AreBlocks count (run_names k u.start u.width) → IsRun count u
run_is count k u width is all =
    let same : AreBlocks count (run_names k u.start (suc width)) = rw is at all in
    let here = (same (record { id = u.start; level = 0; lo = k; hi = k + 4096 }) (first_of _ (run_names (k + 4096) (u.start + 1) width))).1 in
    let end = run_within count k u.start width same in
    record {
      start = from_22 count u.start here;
      width = omega (arith, is);
      within = omega (arith, is, end);
      spares_fixed = run_spares count k u.start u.width all;
    }

some_width : (count k : ℕ) (u : ExtentUnit) (width : ℕ) → u.width ≡ width → 0 < width → AreBlocks count (run_names k u.start u.width) → IsRun count u
some_width count k u zero is some all = absurd (omega (arith, some))
some_width count k u (suc width) is some all = run_is count k u width is all

unit_falls : (blocks count k : ℕ) (u : ExtentUnit) (hole : Bool) → is_hole u ≡ hole → IsLawfulUnit true blocks u → AreBlocks count (if hole then [] else run_names k u.start u.width) → IsLawfulUnit false count u
unit_falls blocks count k u true is (inl unplaced) all = let none = eqb-true _ _ is in let high = unplaced.1 in absurd (omega (arith, none, high))
unit_falls blocks count k u true is (inr (inl hole)) all = inr (inl hole)
unit_falls blocks count k u true is (inr (inr run)) all = let none = eqb-true _ _ is in let low = run.start in absurd (omega (arith, none, low))
unit_falls blocks count k u false is (inl unplaced) all = inr (inr (some_width count k u u.width refl (let one = unplaced.2 in omega (arith, one)) all))
unit_falls blocks count k u false is (inr (inl hole)) all = absurd (no_hole (eq-eqb _ _ hole.0))
  where
    no_hole : is_hole u ≡ true → ⊥
    no_hole e = cc (is, e)
unit_falls blocks count k u false is (inr (inr run)) all = inr (inr (some_width count k u u.width refl run.width all))

units_fall : (blocks count k : ℕ) (us : List ExtentUnit) → AreLawfulUnits true blocks us → AreBlocks count (block_names k us) → AreLawfulUnits false count us
units_fall blocks count k [] lawful all = tt
units_fall blocks count k (u ∷ us) lawful all = (
  unit_falls blocks count k u (is_hole u) refl lawful.0 (AreBlocks-left count (if is_hole u then [] else run_names k u.start u.width) (block_names (k + 4096 * u.width) us) all),
  units_fall blocks count (k + 4096 * u.width) us lawful.1 (AreBlocks-right count (if is_hole u then [] else run_names k u.start u.width) (block_names (k + 4096 * u.width) us) all),
)

-- ---- items

pointer_falls : (blocks count level k next : ℕ) (o : Option ℕ) → AreBlocks count (pointer_names level k next o) → names_block true blocks o ≡ true → names_block false count o ≡ true
pointer_falls blocks count level k next None all h = h
pointer_falls blocks count level k next (Some to) all h =
    let here = all (record { id = to; level = level - 1; lo = k; hi = next }) (first_of _ []) in
    let low = here.0 in
    let free : is_fixed count to ≡ false = here.1 in
    rw free (grind (arith, nat_tests, low))

none_of_extent : (f : Option ExtentFault) → option_map Extent f ≡ None → f ≡ None
none_of_extent None h = refl
none_of_extent (Some f) h = absurd cc

-- by the plugin: stat data, a directory, a pointer, an extent, a tail
by_plugin : (count : ℕ) (stat dir to ext p q : Bool) (a b e f t : Option CellFault) (n m : List Name) → AreBlocks count (if to then n else if ext then m else []) → (AreBlocks count n → p ≡ true → q ≡ true) → (AreBlocks count m → e ≡ None → f ≡ None)
    → (if stat then a else if dir then b else if to then (if p then None else Some Pointer) else if ext then e else t) ≡ None
    → (if stat then a else if dir then b else if to then (if q then None else Some Pointer) else if ext then f else t) ≡ None
by_plugin count true dir to ext p q a b e f t n m all point run h = h
by_plugin count false true to ext p q a b e f t n m all point run h = h
by_plugin count false false true ext true q a b e f t n m all point run h = rw (point all refl) refl
by_plugin count false false true ext false q a b e f t n m all point run h = absurd cc
by_plugin count false false false true p q a b e f t n m all point run h = run all h
by_plugin count false false false false p q a b e f t n m all point run h = h

item_falls : (blocks count level next : ℕ) (it : Item) → AreBlocks count (item_names level next it) → item_body_fault true blocks it ≡ None → item_body_fault false count it ≡ None
unfolding item_body_fault item_names
item_falls blocks count level next it all h =
    by_plugin count (it.plugin == 0) (it.plugin == 2) (it.plugin == 3) (it.plugin == 5) (names_block true blocks (pointer_of it.body)) (names_block false count (pointer_of it.body)) _ _ (option_map Extent (body_fault true blocks it.body)) (option_map Extent (body_fault false count it.body)) _
    (pointer_names level (rank it.key) next (pointer_of it.body)) (block_names (rank it.key) (units_of it.body)) all
    (λ n. pointer_falls blocks count level (rank it.key) next (pointer_of it.body) n)
    (λ m (e : option_map Extent (body_fault true blocks it.body) ≡ None).
    let was = body_lawful true blocks it.body (none_of_extent _ e) in
    ap (option_map Extent) (body_none false count it.body (was.0, was.1, units_fall blocks count (rank it.key) (units_of it.body) was.2 m)))
    h

items_fall : (blocks count level lo hi i : ℕ) (items : List Item) → AreBlocks count (names_in level hi items) → items_in_fault true blocks level lo hi i items ≡ None → items_in_fault false count level lo hi i items ≡ None
unfolding items_in_fault names_in
items_fall blocks count level lo hi i [] all h = refl
items_fall blocks count level lo hi i (it ∷ items) all h =
    let first = or_none (item_body_fault true blocks it) _ h in
    let rest = or_none (if range_is_good level lo hi (next_key hi items) i it then None else Some (Range i)) _ first.1 in
    let here = item_falls blocks count level (next_key hi items) it (AreBlocks-left count (item_names level (next_key hi items) it) (names_in level hi items) all) first.0 in
    rw (here, rest.0) (items_fall blocks count level lo hi (i + 1) items (AreBlocks-right count (item_names level (next_key hi items) it) (names_in level hi items) all) rest.1)

pub cell_on_disk : (blocks count level lo hi : ℕ) (b : List ℕ) → cell_fault true blocks level lo hi b ≡ None → AreBlocks count (cell_of level lo hi b).names → cell_fault false count level lo hi b ≡ None
unfolding cell_fault cell_of
cell_on_disk blocks count zero lo hi b h all = refl
cell_on_disk blocks count (suc l) lo hi b h all =
    let node = or_none (option_map Node (node_fault b)) _ h in
    let level = or_none (if level_of b == suc l then None else Some Level) _ node.1 in
    rw (node.0, level.0) (items_fall blocks count (suc l) lo hi 0 (items_of b) all level.1)
