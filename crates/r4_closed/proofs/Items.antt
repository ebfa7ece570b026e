-- Which new numbers items name, and on how many blocks they may stand.
use Rattle.std.proofs.Common.{◌≡◌, ◌≢◌, inl, inr, ℕ, zero, suc, ◌+◌, ◌*◌, ◌^◌, ◌≤◌, ◌<◌, Bool, true, false}
use Rattle.std.proofs.Common.{List, [], ◌∷◌, ◌++◌}
use Rattle.std.proofs.Common.{map, Option, Some, None, refl, ap, ◌∙◌, arith}
use Rattle.std.specs.Prelude.{All, ◌==◌, flat_map, if◌then◌else◌, nat_le}
use Rattle.std.specs.Option.{option_map}
use Rattle.std.proofs.lemmas.Bool.Decides.{nat_tests}
use Rattle.std.proofs.lemmas.Bool.{ne_eqb}
use Rattle.std.proofs.lemmas.List.{map-append}
use Rattle.std.proofs.lemmas.List.Elements.{All-cons, All-head, All-nil, All-tail, filter-append}
use Rattle.r4_base.specs.Cell.{block_names, cell_fault, cell_of, is_extent, is_pointer, item_body_fault, item_names}
use Rattle.r4_base.specs.Cell.{items_in_fault, names_block, names_in, next_key, pointer_names, range_is_good, run_names}
use Rattle.r4_base.specs.Extents.{AreLawfulUnits, IsLawfulUnit, body_fault, is_hole, pointer_of, units_of}
use Rattle.r4_base.specs.Key.{rank}
use Rattle.r4_base.specs.Node.{Item, items_of, level_of, node_fault}
use Rattle.r4_base.specs.Tree.{Name}
use Rattle.r4_base.specs.declared.items.CellFault.TheVariants.{Extent, Level, Node, Pointer, Range}
use Rattle.r4_base.specs.declared.items.Unit.{Unit as ExtentUnit}
use Rattle.r4_base.proofs.Choices.{none_under, or_none}
use Rattle.r4_twig.proofs.Faults.{body_lawful}
use Rattle.r4_cell.specs.Seen.{CellSeen, node_of}
use Rattle.r4_closed.specs.Named.{CellStands, ItemStands, new_ids, new_of}

new_ids-append : (xs ys : List Name) → new_ids (xs ++ ys) ≡ new_ids xs ++ new_ids ys
new_ids-append xs ys = ap new_of (map-append (λ (n : Name). n.id) xs ys)
    ∙ filter-append (λ i. nat_le (2 ^ 63) i) (map (λ (n : Name). n.id) xs) (map (λ (n : Name). n.id) ys)

-- ---- units

-- a number below 2^63 is not new
none_new : (i : ℕ) → i < 2 ^ 63 → nat_le (2 ^ 63) i ≡ false
none_new i lt = grind (arith, nat_tests)

run_old : (k start width : ℕ) → start + width ≤ 2 ^ 63 → new_ids (run_names k start width) ≡ []
run_old k start zero within = refl
run_old k start (suc width) within =
    rw (none_new start (omega arith)) (run_old (k + 4096) (start + 1) width (omega arith))

unit_new : (k : ℕ) (u : ExtentUnit) → IsLawfulUnit true (2 ^ 63) u
    → new_ids (if is_hole u then [] else run_names k u.start u.width) ≡ new_of (u.start ∷ [])
unit_new k u (inl unplaced) =
    let high = unplaced.1 in
    let some : u.start ≢ 0 = λ none. omega (arith, none, high) in
    rw (ne_eqb u.start 0 some, unplaced.2) refl
unit_new k u (inr (inl hole)) = rw hole.0 refl
unit_new k u (inr (inr run)) =
    let first = run.start in
    let width = run.width in
    let within = run.within in
    let some : u.start ≢ 0 = λ none. omega (arith, none, first) in
    rw (ne_eqb u.start 0 some, none_new u.start (omega (arith, width, within))) (run_old k u.start u.width within)

units_new : (k : ℕ) (us : List ExtentUnit) → AreLawfulUnits true (2 ^ 63) us
    → new_ids (block_names k us) ≡ flat_map (λ (u : ExtentUnit). new_of (u.start ∷ [])) us
units_new k [] lawful = refl
units_new k (u ∷ us) lawful =
    new_ids-append (if is_hole u then [] else run_names k u.start u.width) (block_names (k + 4096 * u.width) us)
    ∙ ap (λ (l : List ℕ). l ++ new_ids (block_names (k + 4096 * u.width) us)) (unit_new k u lawful.0)
    ∙ ap (λ (l : List ℕ). new_of (u.start ∷ []) ++ l) (units_new (k + 4096 * u.width) us lawful.1)

-- the new blocks of an extent that may stand on 2^63 blocks are the new starts of its units
pub extent_new : (key : ℕ) (b : List ℕ) → body_fault true (2 ^ 63) b ≡ None
    → new_ids (block_names key (units_of b)) ≡ flat_map (λ (u : ExtentUnit). new_of (u.start ∷ [])) (units_of b)
extent_new key b none = units_new key (units_of b) (body_lawful true (2 ^ 63) b none).2

-- ---- an item, by its plugin

pub pointer_named : (level next : ℕ) (it : Item) → it.plugin ≡ 3 → item_names level next it
    ≡ pointer_names level (rank it.key) next (pointer_of it.body)
unfolding item_names
pointer_named level next it is = rw is refl

pub extent_named : (level next : ℕ) (it : Item) → it.plugin ≡ 5 → item_names level next it
    ≡ block_names (rank it.key) (units_of it.body)
unfolding item_names
extent_named level next it is = rw is refl

pub other_named : (level next : ℕ) (it : Item) → it.plugin ≢ 3 → it.plugin ≢ 5 → item_names level next it ≡ []
unfolding item_names
other_named level next it no_pointer no_extent = rw (ne_eqb it.plugin 3 no_pointer, ne_eqb it.plugin 5 no_extent) refl

pointer_block : (o : Option ℕ) → names_block true (2 ^ 64) o ≡ true → names_block true (2 ^ 63) o ≡ true
pointer_block None h = h
pointer_block (Some to) h = grind (arith, nat_tests)

named_block : (t : Bool) → (if t then None else Some Pointer) ≡ None → t ≡ true
named_block true h = refl
named_block false h = absurd cc

pub pointer_stands : (it : Item) → it.plugin ≡ 3 → ItemStands (2 ^ 64) it → ItemStands (2 ^ 63) it
unfolding item_body_fault
pointer_stands it is = rw is (λ h. rw (pointer_block (pointer_of it.body) (named_block _ h)) refl)

pub extent_stands : (blocks : ℕ) (it : Item) → it.plugin ≡ 5 → body_fault true blocks it.body ≡ None
    → ItemStands blocks it
unfolding item_body_fault
extent_stands blocks it is none = rw (is, none) refl

pub standing_extent : (blocks : ℕ) (it : Item) → it.plugin ≡ 5 → ItemStands blocks it
    → body_fault true blocks it.body ≡ None
unfolding item_body_fault
standing_extent blocks it is = rw is (λ h. none_under Extent (body_fault true blocks it.body) h)

pub other_stands : (blocks more : ℕ) (it : Item) → it.plugin ≢ 3 → it.plugin ≢ 5 → ItemStands blocks it
    → ItemStands more it
unfolding item_body_fault
other_stands blocks more it no_pointer no_extent =
    rw (ne_eqb it.plugin 3 no_pointer, ne_eqb it.plugin 5 no_extent) (λ h. h)

-- ---- items

same_new : (level next : ℕ) (it : Item) → new_ids (item_names level next it) ≡ new_ids (item_names 0 0 it)
unfolding item_names
same_new level next it = go (is_pointer it) (pointer_of it.body)
  where
    go : (t : Bool) (o : Option ℕ)
        → new_ids (if t then pointer_names level (rank it.key) next o else
        (if is_extent it then block_names (rank it.key) (units_of it.body) else []))
        ≡ new_ids (if t then pointer_names 0 (rank it.key) 0 o else
        (if is_extent it then block_names (rank it.key) (units_of it.body) else []))
    go true None = refl
    go true (Some to) = refl
    go false o = refl

-- what items name turns on each of them alone
pub items_new : (level hi : ℕ) (items : List Item)
    → new_ids (names_in level hi items) ≡ flat_map (λ (it : Item). new_ids (item_names 0 0 it)) items
unfolding names_in
items_new level hi [] = refl
items_new level hi (it ∷ items) =
    new_ids-append (item_names level (next_key hi items) it) (names_in level hi items)
    ∙ ap (λ (l : List ℕ). l ++ new_ids (names_in level hi items)) (same_new level (next_key hi items) it)
    ∙ ap (λ (l : List ℕ). new_ids (item_names 0 0 it) ++ l) (items_new level hi items)

items_sound : (blocks level lo hi i : ℕ) (items : List Item) → items_in_fault true blocks level lo hi i items ≡ None
    → All (ItemStands blocks) items
unfolding items_in_fault
items_sound blocks level lo hi i [] h = All-nil (ItemStands blocks)
items_sound blocks level lo hi i (it ∷ items) h =
    let first = or_none (item_body_fault true blocks it) _ h in
    let rest = or_none (if range_is_good level lo hi (next_key hi items) i it then None else Some (Range i)) _ first.1 in
    All-cons (ItemStands blocks) it items first.0 (items_sound blocks level lo hi (i + 1) items rest.1)

-- items stand on other blocks too where their bodies do
items_stand : (blocks more level lo hi i : ℕ) (items : List Item)
    → items_in_fault true blocks level lo hi i items ≡ None → All (ItemStands more) items
    → items_in_fault true more level lo hi i items ≡ None
unfolding items_in_fault
items_stand blocks more level lo hi i [] h stand = refl
items_stand blocks more level lo hi i (it ∷ items) h stand =
    let first = or_none (item_body_fault true blocks it) _ h in
    let rest = or_none (if range_is_good level lo hi (next_key hi items) i it then None else Some (Range i)) _ first.1 in
    rw (All-head (ItemStands more) it items stand, rest.0)
    (items_stand blocks more level lo hi (i + 1) items rest.1 (All-tail (ItemStands more) it items stand))

-- ---- a cell

-- a data block stands, and names nothing
pub data_stands : (x : CellSeen) → x.level ≡ 0 → CellStands x
unfolding cell_fault
data_stands x is = rw is refl

pub data_new : (x : CellSeen) → x.level ≡ 0 → new_ids (node_of x).names ≡ []
unfolding cell_of
data_new x is = rw is refl

-- the items of a cell that is a node
pub node_sound : (blocks : ℕ) (x : CellSeen) → x.level ≢ 0
    → cell_fault true blocks x.level (rank x.lo) (rank x.hi) x.block ≡ None → All (ItemStands blocks) (items_of x.block)
unfolding cell_fault
node_sound blocks x some = go x.level some
  where
    go : (level : ℕ) → level ≢ 0 → cell_fault true blocks level (rank x.lo) (rank x.hi) x.block ≡ None
        → All (ItemStands blocks) (items_of x.block)
    go zero some h = absurd (some refl)
    go (suc l) some h =
        let node = or_none (option_map Node (node_fault x.block)) _ h in
        let level = or_none (if level_of x.block == suc l then None else Some Level) _ node.1 in
        items_sound blocks (suc l) (rank x.lo) (rank x.hi) 0 (items_of x.block) level.1

pub node_stands : (x : CellSeen) → x.level ≢ 0
    → cell_fault true (2 ^ 64) x.level (rank x.lo) (rank x.hi) x.block ≡ None
    → All (ItemStands (2 ^ 63)) (items_of x.block) → CellStands x
unfolding cell_fault
node_stands x some = go x.level some
  where
    go : (level : ℕ) → level ≢ 0 → cell_fault true (2 ^ 64) level (rank x.lo) (rank x.hi) x.block ≡ None
        → All (ItemStands (2 ^ 63)) (items_of x.block)
        → cell_fault true (2 ^ 63) level (rank x.lo) (rank x.hi) x.block ≡ None
    go zero some h stand = refl
    go (suc l) some h stand =
        let node = or_none (option_map Node (node_fault x.block)) _ h in
        let level = or_none (if level_of x.block == suc l then None else Some Level) _ node.1 in
        rw (node.0, level.0)
        (items_stand (2 ^ 64) (2 ^ 63) (suc l) (rank x.lo) (rank x.hi) 0 (items_of x.block) level.1 stand)

pub node_names : (x : CellSeen) → x.level ≢ 0
    → (node_of x).names ≡ names_in x.level (rank x.hi) (items_of x.block)
unfolding cell_of
node_names x some = go x.level some
  where
    go : (level : ℕ) → level ≢ 0 → (cell_of level (rank x.lo) (rank x.hi) x.block).names
        ≡ names_in level (rank x.hi) (items_of x.block)
    go zero some = absurd (some refl)
    go (suc l) some = refl
