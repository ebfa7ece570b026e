-- What a cell names stands below it.
use Rattle.std.proofs.Common.{◌≡◌, ◌⊎◌, inl, inr, ℕ, zero, suc, ◌+◌, ◌-◌, ◌*◌, ◌<◌, ◌≤◌, Bool, true, false, List, []}
use Rattle.std.proofs.Common.{◌∷◌, refl, ap, arith}
use Rattle.std.specs.Prelude.{Contains, Option, Some, None, ◌==◌, if◌then◌else◌}
use Rattle.std.proofs.lemmas.List.Elements.{Contains-append_cases}
use Rattle.r4_base.specs.Cell.{block_names, cell_of, item_names, names_in, next_key, pointer_names, run_names}
use Rattle.r4_base.specs.Extents.{is_hole, pointer_of, units_of}
use Rattle.r4_base.specs.Key.{rank}
use Rattle.r4_base.specs.Node.{Item, items_of}
use Rattle.r4_base.specs.Tree.{IsData, Name}
use Rattle.r4_base.specs.declared.items.Unit.{Unit as ExtentUnit}
use Rattle.r4_base.proofs.Choices.{nothing_in}
use Rattle.r4_base.proofs.FreshTree.{only}
use Rattle.r4_cell.specs.Seen.{CellSeen, node_of}
use Rattle.r4_cell.proofs.ItemRows.{extent_data}
use Rattle.r4_judging.proofs.Runs.{run_block}

-- ---- a name stands below its cell, and a data block's has as many keys as a block has bytes

pub record IsBelow (level : ℕ) (n : Name) : Type 0 where
  pub below : n.level < level
  pub size : IsData n → (n.hi ≡ n.lo + 4096) ⊎ (level ≡ 1)

block_size : (k : ℕ) (us : List ExtentUnit) (n : Name) → Contains (block_names k us) n → n.hi ≡ n.lo + 4096
block_size k [] n h = absurd (nothing_in n h)
block_size k (u ∷ us) n h = elim
    (Contains-append_cases (if is_hole u then [] else run_names k u.start u.width)
    (block_names (k + 4096 * u.width) us) n h) [
      | inl at ↦ by (is_hole u) at
      | inr at ↦ block_size (k + 4096 * u.width) us n at
    ]
  where
    by : (hole : Bool) → Contains (if hole then [] else run_names k u.start u.width) n → n.hi ≡ n.lo + 4096
    by true at = absurd (nothing_in n at)
    by false at =
        let (j, lt, is) = run_block k u.start u.width n at in
        let hi = ap (λ (x : Name). x.hi) is in
        let lo = ap (λ (x : Name). x.lo) is in
        omega (arith, hi, lo)

item_below : (level next : ℕ) (it : Item) (n : Name) → 1 ≤ level → Contains (item_names level next it) n
    → IsBelow level n
unfolding item_names
item_below level next it n some at = by (it.plugin == 3) (it.plugin == 5) at
  where
    pointed : (o : Option ℕ) → Contains (pointer_names level (rank it.key) next o) n → IsBelow level n
    pointed None h = absurd (nothing_in n h)
    pointed (Some to) h =
        let e = ap (λ (x : Name). x.level)
        (only (record { id = to; level = level - 1; lo = rank it.key; hi = next }) n h) in
        record { below = omega (arith, e, some); size = λ z. inr (omega (arith, e, z, some)) }

    by : (a b : Bool)
        → Contains
        (if a then pointer_names level (rank it.key) next (pointer_of it.body) else
        (if b then block_names (rank it.key) (units_of it.body) else [])) n → IsBelow level n
    by true b h = pointed (pointer_of it.body) h
    by false true h =
        let z = extent_data (rank it.key) (units_of it.body) n h in
        record { below = omega (arith, z, some); size = λ e. inl (block_size (rank it.key) (units_of it.body) n h) }
    by false false h = absurd (nothing_in n h)

names_below : (level hi : ℕ) (items : List Item) (n : Name) → 1 ≤ level → Contains (names_in level hi items) n
    → IsBelow level n
unfolding names_in
names_below level hi [] n some at = absurd (nothing_in n at)
names_below level hi (it ∷ items) n some at = elim
    (Contains-append_cases (item_names level (next_key hi items) it) (names_in level hi items) n at) [
      | inl h ↦ item_below level (next_key hi items) it n some h
      | inr h ↦ names_below level hi items n some h
    ]

cell_below : (level lo hi : ℕ) (b : List ℕ) (n : Name) → Contains (cell_of level lo hi b).names n → IsBelow level n
unfolding cell_of
cell_below zero lo hi b n at = absurd (nothing_in n at)
cell_below (suc l) lo hi b n at = names_below (suc l) hi (items_of b) n (omega arith) at

pub name_below : (c : CellSeen) (n : Name) → Contains (node_of c).names n → IsBelow c.level n
name_below c n at = cell_below c.level (rank c.lo) (rank c.hi) c.block n at

-- ---- what a cell says of itself

says : (level lo hi : ℕ) (b : List ℕ) → ((cell_of level lo hi b).level ≡ level) × ((cell_of level lo hi b).lo ≡ lo) ×
    ((cell_of level lo hi b).hi ≡ hi)
unfolding cell_of
says zero lo hi b = (refl, refl, refl)
says (suc l) lo hi b = (refl, refl, refl)

pub node_says : (c : CellSeen) → ((node_of c).level ≡ c.level) × ((node_of c).lo ≡ rank c.lo) ×
    ((node_of c).hi ≡ rank c.hi)
node_says c = says c.level (rank c.lo) (rank c.hi) c.block
