-- The table that is made from what may come of twigs (docs/volume.md, "What may still come").
use Rattle.std.specs.Prelude.{◌≡◌, ◌⊎◌, ℕ, suc, ◌+◌, ◌-◌, ◌*◌, ◌/◌, ◌<◌, ◌≤◌, ◌==◌, ◌&&◌}
use Rattle.std.specs.Prelude.{if◌then◌else◌, Contains, List, [], ◌∷◌, ◌++◌}
use Rattle.r4_base.specs.Node.{items_of}
use Rattle.r4_base.specs.declared.things.NodeId.{NodeId}
use Rattle.r4_extent_put.specs.r4_extent_change.r4_measure.Budget.{Budget, below}
use Rattle.r4_extent_put.specs.r4_extent_change.r4_measure.r4_cell.Seen.{CellSeen}
use Rattle.r4_extent_put.specs.r4_extent_change.r4_measure.r4_path.Nodes.{weight}
use Rattle.r4_allowed.specs.declared.table.Allowance.{Allowance}

-- what is told first of a number, else nothing
abbrev pub told_of : List (NodeId × ℕ) → (id : ℕ) → ℕ
told_of [] id = 0
told_of (x ∷ xs) id = if x.0.0 == id then x.1 else told_of xs id

-- A number is told of, and each time so many or more.
pub record AreTold (xs : List (NodeId × ℕ)) (id n : ℕ) : Type 0 where
  pub told : (x : NodeId × ℕ) × Contains xs x × (x.0.0 ≡ id)
  pub least : (x : NodeId × ℕ) → Contains xs x → x.0.0 ≡ id → n ≤ x.1

-- how often a node has to be parted at least that needs so many bytes, where each parting gives
-- room for 1024
abbrev pub partings : (bytes : ℕ) → ℕ
partings bytes = (bytes - 4068 + 1023) / 1024

-- how many cells come of a node at least, where this comes below it
abbrev pub needed_by : (under : ℕ → ℕ) → CellSeen → ℕ
needed_by under c = partings (weight (items_of c.block) + 46 * below under (items_of c.block))

-- the same of the first of these that has a level and a number, else nothing
abbrev pub needed_at : (under : ℕ → ℕ) → List CellSeen → (level id : ℕ) → ℕ
needed_at under [] level id = 0
needed_at under (c ∷ cells) level id =
    if (c.level == level) && (c.id == id) then needed_by under c else needed_at under cells level id

-- Twigs get this, and from them up to a level each of the cells what it needs for those below it; no
-- other one gets anything.
pub record IsRaised (top : ℕ) (cells : List CellSeen) (given : ℕ → ℕ) (b : Budget)
    : Type 0 where
  pub low : (l i : ℕ) → l ≤ 1 → b l i ≡ 0
  pub twigs : (i : ℕ) → b 2 i ≡ given i
  pub above : (l i : ℕ) → 2 ≤ l → l < top → b (suc l) i ≡ needed_at (b l) cells (suc l) i
  pub over : (l i : ℕ) → 3 ≤ l → top < l → b l i ≡ 0

-- ---- entries

abbrev pub twig_entry : NodeId × ℕ → Allowance
twig_entry x = record { level = 2; id = x.0; most = x.1 }

abbrev pub IsOfTwig : Allowance → Type 0
IsOfTwig a = a.level ≡ 2

-- It is of a twig, or of a cell above the twigs, up to this level.
abbrev pub IsUpTo : (top : ℕ) → Allowance → Type 0
IsUpTo top a = (a.level ≤ 2) ⊎ (a.level ≤ top)

-- what a cell needs, as an entry for this level
abbrev pub cell_entry : (under : ℕ → ℕ) → (level : ℕ) → CellSeen → Allowance
cell_entry under level c =
    record { level = level; id = record { 0 = c.id }; most = needed_by under c }

-- the entry of a cell, where it stands at the level
abbrev pub entry_at : (under : ℕ → ℕ) → (level : ℕ) → CellSeen → List Allowance
entry_at under level c = if c.level == level then (cell_entry under level c ∷ []) else []

-- those of the cells that do
abbrev pub entries_at : (under : ℕ → ℕ) → (level : ℕ) → List CellSeen → List Allowance
entries_at under level [] = []
entries_at under level (c ∷ cells) = entry_at under level c ++ entries_at under level cells
