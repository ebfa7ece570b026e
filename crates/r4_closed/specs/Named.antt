-- The numbers from 2^63 on that cells name, and what may stand in memory on volumes of so many blocks.
use Rattle.std.specs.Prelude.{◌≡◌, ◌⊎◌, ℕ, ◌^◌, ◌≤◌, Contains, List, None, filter, flat_map, map, nat_le, true}
use Rattle.r4_base.specs.Cell.{cell_fault, item_body_fault}
use Rattle.r4_base.specs.Key.{rank}
use Rattle.r4_base.specs.Node.{Item}
use Rattle.r4_base.specs.Tree.{Name}
use Rattle.r4_base.specs.declared.limits.TheConstants.{UNPLACED}
use Rattle.r4_cell.specs.Seen.{CellSeen, node_of}

-- those of the numbers that are of new cells
abbrev pub new_of : List ℕ → List ℕ
new_of ids = filter (λ i. nat_le UNPLACED i) ids

abbrev pub new_ids : List Name → List ℕ
new_ids names = new_of (map (λ (n : Name). n.id) names)

-- those that cells name, cell by cell
abbrev pub ids_named : List CellSeen → List ℕ
ids_named cells = flat_map (λ (x : CellSeen). new_ids (node_of x).names) cells

-- the item's body has no fault
abbrev pub ItemStands : (blocks : ℕ) → Item → Type 0
ItemStands blocks it = item_body_fault true blocks it ≡ None

abbrev pub CellStands : CellSeen → Type 0
CellStands x = cell_fault true (2 ^ 63) x.level (rank x.lo) (rank x.hi) x.block ≡ None

-- a number that is of no new cell, or the root's, or one of those that are named
abbrev pub IsCalledFor : (root : ℕ) → (named : List ℕ) → ℕ → Type 0
IsCalledFor root named i = UNPLACED ≤ i → (i ≡ root) ⊎ Contains named i
