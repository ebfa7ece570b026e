-- What stands in accepted cells is lawful, and an accepted leaf has units that rise, and no more than fit.
use Rattle.std.specs.Prelude.{◌≡◌, ℕ, zero, suc, ◌+◌, ◌*◌, ◌^◌, ◌<◌, ◌≤◌, List, [], ◌∷◌, length, map, Bool}
use Rattle.std.specs.Prelude.{Ok, Err, true, false, not, ◌==◌, All, Option, Some, None, T, if◌then◌else◌}
use Rattle.std.proofs.Common.{arith, inl, refl, sym, ap, subst, Less}
use Rattle.std.specs.Cmp.{nat_cmp_is}
use Rattle.std.specs.FinMap.{is_sorted}
use Rattle.std.specs.FinMap.Entries.{below_all}
use Rattle.std.specs.List.{sum_by}
use Rattle.std.specs.Option.{option_map}
use Rattle.std.specs.Ordering.{is_lt, nat_cmp}
use Rattle.std.proofs.lemmas.List.Elements.{All-append, All-cons, All-contains, All-map, All-nil}
use Rattle.std.proofs.lemmas.List.Sums.{sum_by-cons}
use Rattle.r4_base.specs.Cell.{bytes_from, cell_fault, cell_of, entry_unit, fault_in, hole_bytes, is_dir, is_extent}
use Rattle.r4_base.specs.Cell.{is_pointer, is_stat, item_body_fault, item_end, item_units, items_in_fault, units_in}
use Rattle.r4_base.specs.Cell.{zeros_from}
use Rattle.r4_base.specs.Dir.{entries_from, entries_of, entry_at, entry_body, entry_count, target_of}
use Rattle.r4_base.specs.Extents.{is_hole, units_of}
use Rattle.r4_base.specs.Key.{rank}
use Rattle.r4_base.specs.Node.{Item, items_of}
use Rattle.r4_base.specs.Stat.{attr_of, kind_is_good, mask_is_good, stat_of}
use Rattle.r4_base.specs.Tree.{Node}
use Rattle.r4_base.specs.Value.{Byte, Stat, Value}
use Rattle.r4_base.specs.declared.items.CellFault.{CellFault}
use Rattle.r4_base.specs.declared.items.CellFault.TheVariants.{Stat as StatData}
use Rattle.r4_base.specs.declared.items.StatFault.{StatFault}
use Rattle.r4_base.specs.declared.items.StatFault.TheVariants.{Kind, Length, Mask}
use Rattle.r4_base.specs.declared.items.Unit.{Unit as ExtentUnit}
use Rattle.r4_base.specs.declared.key.Key.{Key}
use Rattle.r4_base.proofs.Numbers.{number_at-lt}
use Rattle.r4_leaf_edits.specs.r4_cell.Seen.{CellSeen, node_of}
use Rattle.r4_leaf_edits.specs.r4_cell.declared.change.Root.{Root}
use Rattle.r4_leaf_edits.proofs.r4_cell.Items.{good_item}
use Rattle.r4_leaf_edits.proofs.r4_cell.NodesAt.{node_at}
use Rattle.r4_content.specs.Edited.{Pairs}
use Rattle.r4_content.specs.Seen.{Rises}
use Rattle.r4_content.specs.declared.command.Command.{Command}
use Rattle.r4_content.proofs.Counting.{both_hold}
use Rattle.r4_leaf_edits.specs.r4_leaf.Items.{Lie}
use Rattle.r4_leaf_edits.specs.r4_leaf.Leaves.{MayStand}
use Rattle.r4_leaf_edits.specs.r4_leaf.Measure.{last_or}
use Rattle.r4_leaf_edits.specs.r4_leaf.Units.{LeafUnit, bytes_behind, leaf_bytes}
use Rattle.r4_leaf_edits.proofs.r4_leaf.LeafItems.{lie_rise, no_bytes, spread}
use Rattle.r4_leaf_edits.proofs.r4_leaf.Lying.{units_cons, units_nil}
use Rattle.r4_leaf_edits.proofs.r4_leaf.Rising.{Rise}
use Rattle.r4_leaf_edits.proofs.r4_leaf.Standing.{is_node, stand_lie}
use Rattle.r4_leaf_edits.proofs.r4_leaf.Weighed.{behind_append}
use Rattle.r4_leaf_edits.proofs.r4_node40.Accepted.{space, takes}
use Rattle.r4_leaf_edits.proofs.r4_patch.Members.{found}
use Rattle.r4_leaf_edits.specs.r4_reach.Answer.{IsReachOf}
use Rattle.r4_suited.specs.Suited.{AreLawfulSeen, IsAccepted, IsLawfulSeen}

-- ---- one item

kind_of : (b : List ℕ) → fault_in (stat_of b) ≡ None → kind_is_good (attr_of b).mode ≡ true
unfolding stat_of
kind_of b none = by_tests (mask_is_good b) (length b == 44) (kind_is_good (attr_of b).mode) none
  where
    by_tests : (m t k : Bool) → fault_in (if not m then Err Mask else (if not t then Err Length else
        (if not k then Err Kind else Ok (attr_of b)))) ≡ None → k ≡ true
    by_tests true true true h = refl
    by_tests true true false h = absurd cc
    by_tests true false k h = absurd cc
    by_tests false t k h = absurd cc

stat_sound : (t : Bool) (x : Option StatFault) (rest : Option CellFault)
    → (if t then option_map StatData x else rest) ≡ None → t ≡ true → x ≡ None
stat_sound true None rest h e = refl
stat_sound true (Some f) rest h e = absurd cc
stat_sound false x rest h e = absurd cc

bytes_lawful : (k : ℕ) (xs : List ℕ) → All IsLawfulSeen (bytes_from k xs)
bytes_lawful k [] = All-nil IsLawfulSeen
bytes_lawful k (x ∷ xs) = All-cons IsLawfulSeen (k, Byte x) (bytes_from (k + 1) xs) tt (bytes_lawful (k + 1) xs)

zeros_lawful : (k n : ℕ) → All IsLawfulSeen (zeros_from k n)
zeros_lawful k zero = All-nil IsLawfulSeen
zeros_lawful k (suc n) = All-cons IsLawfulSeen (k, Byte 0) (zeros_from (k + 1) n) tt (zeros_lawful (k + 1) n)

holes_lawful : (k : ℕ) (us : List ExtentUnit) → All IsLawfulSeen (hole_bytes k us)
holes_lawful k [] = All-nil IsLawfulSeen
holes_lawful k (u ∷ us) = All-append IsLawfulSeen (if is_hole u then zeros_from k (4096 * u.width) else [])
    (hole_bytes (k + 4096 * u.width) us) (by_hole (is_hole u)) (holes_lawful (k + 4096 * u.width) us)
  where
    by_hole : (t : Bool) → All IsLawfulSeen (if t then zeros_from k (4096 * u.width) else [])
    by_hole true = zeros_lawful k (4096 * u.width)
    by_hole false = All-nil IsLawfulSeen

entries_lawful : (item : Key) (n i : ℕ) (b : List ℕ) → All (λ e. IsLawfulSeen (entry_unit e)) (entries_from item n i b)
unfolding entries_from entry_at target_of
entries_lawful item zero i b = All-nil (λ e. IsLawfulSeen (entry_unit e))
entries_lawful item (suc n) i b =
    All-cons (λ e. IsLawfulSeen (entry_unit e)) (entry_at item b i) (entries_from item n (i + 1) b)
    (number_at-lt 8 8 (entry_body b i)) (entries_lawful item n (i + 1) b)

dir_lawful : (item : Key) (b : List ℕ) → All IsLawfulSeen (map entry_unit (entries_of item b))
unfolding entries_of
dir_lawful item b = All-map IsLawfulSeen entry_unit (entries_of item b) (entries_lawful item (entry_count b) 0 b)

item_lawful : (in_memory : Bool) (blocks : ℕ) (it : Item) → item_body_fault in_memory blocks it ≡ None
    → All IsLawfulSeen (item_units it)
unfolding item_units item_body_fault
item_lawful in_memory blocks it h =
    by_kind (is_stat it) (is_dir it) (is_pointer it) (is_extent it)
    (λ e. kind_of it.body (stat_sound (is_stat it) (fault_in (stat_of it.body)) _ h e))
  where
    by_kind : (a b c d : Bool) → (a ≡ true → kind_is_good (attr_of it.body).mode ≡ true)
        → All IsLawfulSeen (if a then (rank it.key, Stat (attr_of it.body)) ∷ [] else if b then
        map entry_unit (entries_of it.key it.body) else if c then [] else if d then
        hole_bytes (rank it.key) (units_of it.body) else bytes_from (rank it.key) it.body)
    by_kind true b c d kind = All-cons IsLawfulSeen (rank it.key, Stat (attr_of it.body)) [] (kind refl)
        (All-nil IsLawfulSeen)
    by_kind false true c d kind = dir_lawful it.key it.body
    by_kind false false true d kind = All-nil IsLawfulSeen
    by_kind false false false true kind = holes_lawful (rank it.key) (units_of it.body)
    by_kind false false false false kind = bytes_lawful (rank it.key) it.body

items_lawful : (in_memory : Bool) (blocks level lo hi i : ℕ) (items : List Item)
    → items_in_fault in_memory blocks level lo hi i items ≡ None → All IsLawfulSeen (units_in items)
unfolding units_in
items_lawful in_memory blocks level lo hi i [] h = All-nil IsLawfulSeen
items_lawful in_memory blocks level lo hi i (it ∷ items) h =
    let g = good_item in_memory blocks level lo hi i it items h in
    All-append IsLawfulSeen (item_units it) (units_in items) (item_lawful in_memory blocks it g.body)
    (items_lawful in_memory blocks level lo hi (i + 1) items g.rest)

-- ---- a cell

pub cell_lawful : (in_memory : Bool) (blocks level lo hi : ℕ) (b : List ℕ)
    → cell_fault in_memory blocks level lo hi b ≡ None → All IsLawfulSeen (cell_of level lo hi b).units
unfolding cell_of
cell_lawful in_memory blocks zero lo hi b h = bytes_lawful lo b
cell_lawful in_memory blocks (suc l) lo hi b h =
    let at = node_at in_memory blocks (suc l) lo hi b (omega arith) h in
    items_lawful in_memory blocks (suc l) lo hi 0 (items_of b) at.items

-- what a command asks of the cells that were met
pub reach_lawful : (root : Root) (c : Command) (met reads writes : List CellSeen) (rises : Option Root)
    (h : IsReachOf root c met reads writes rises) → All IsAccepted met → AreLawfulSeen c h.seen
reach_lawful root c met reads writes rises h accepted k v on at =
    let (i, n, is, has) = (h.sees.agrees k v on).0 at in
    let (x, among, id, says) = found met i n is in
    let lawful = cell_lawful true (2 ^ 64) x.level (rank x.lo) (rank x.hi) x.block
    (All-contains IsAccepted met x accepted among) in
    All-contains IsLawfulSeen n.units (k, v)
    (subst (λ (m : Node Value). All IsLawfulSeen m.units) (sym says) lawful) has

-- ---- a leaf

below_units : (j from to : ℕ) (us : Pairs) → j < from → Rise from to us → T (below_all nat_cmp j us)
below_units j from to [] lt h = tt
below_units j from to (u ∷ us) lt h =
    let low = h.0 in
    both_hold (is_lt (nat_cmp j u.0)) (below_all nat_cmp j us)
    (subst (λ o. T (is_lt o)) (nat_cmp_is j u.0 Less (omega (arith, lt, low))) tt)
    (below_units j (u.0 + 1) to us (omega (arith, lt, low)) h.1)

pub rises_of : (from to : ℕ) (us : Pairs) → Rise from to us → Rises us
rises_of from to [] h = tt
rises_of from to (u ∷ us) h = both_hold (below_all nat_cmp u.0 us) (is_sorted nat_cmp us)
    (below_units u.0 (u.0 + 1) to us (omega arith) h.1) (rises_of (u.0 + 1) to us h.1)

lie_weighs : (lo hi : ℕ) (before : Option LeafUnit) (xs : List Item) → Lie lo hi xs
    → bytes_behind before (units_in xs) ≤ sum_by takes xs
lie_weighs lo hi before [] h =
    let none = no_bytes before in
    let same = ap (bytes_behind before) units_nil in
    omega (arith, none, same)
lie_weighs lo hi before (x ∷ xs) h =
    let same = ap (bytes_behind before) (units_cons x xs) in
    let both = behind_append before (item_units x) (units_in xs) in
    let one = (spread x h.1).weighs before in
    let rest = lie_weighs (item_end x) hi (last_or before (item_units x)) xs h.2 in
    let sum = sum_by-cons takes x xs in
    omega (arith, same, both, one, rest, sum)

pub record IsFitting (us : Pairs) : Type 0 where
  pub rises : Rises us
  pub few : leaf_bytes us ≤ 4068

block_fits : (lo hi : ℕ) (b : List ℕ) → MayStand lo hi b → lo ≤ hi → IsFitting (units_in (items_of b))
block_fits lo hi b stand le =
    let lie = stand_lie lo hi b stand (inl le) in
    let all = lie_weighs lo hi None (items_of b) lie in
    let sum = space b (is_node lo hi b stand).laid in
    let few : leaf_bytes (units_in (items_of b)) ≤ 4068 = omega (arith, all, sum) in
    record { rises = rises_of lo hi (units_in (items_of b)) (lie_rise lo hi (items_of b) lie); few = few }

leaf_units : (x : CellSeen) → x.level ≡ 1 → units_in (items_of x.block) ≡ (node_of x).units
unfolding cell_of
leaf_units x level = ap (λ (l : ℕ). (cell_of l (rank x.lo) (rank x.hi) x.block).units) (sym level)

pub leaf_fits : (x : CellSeen) → x.level ≡ 1 → MayStand (rank x.lo) (rank x.hi) x.block → rank x.lo ≤ rank x.hi
    → IsFitting (node_of x).units
leaf_fits x level stand le = subst IsFitting (leaf_units x level) (block_fits (rank x.lo) (rank x.hi) x.block stand le)
