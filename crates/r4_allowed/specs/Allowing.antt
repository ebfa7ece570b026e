-- When a table is what may still come in the place of the cells of a task (docs/volume.md, "What may
-- still come").
use Rattle.std.specs.Prelude.{◌≡◌, ◌⊎◌, ℕ, suc, ◌-◌, ◌<◌, ◌≤◌, List, Contains, Some}
use Rattle.r4_base.specs.Extents.{pointer_of}
use Rattle.r4_base.specs.Node.{Item, items_of}
use Rattle.r4_base.specs.Tree.{Root, Store}
use Rattle.r4_base.specs.Value.{Value}
use Rattle.r4_extent_put.specs.r4_extent_change.Changing.{AreMeasured}
use Rattle.r4_extent_put.specs.r4_extent_change.r4_measure.Budget.{AreSeen, Bears}
use Rattle.r4_extent_put.specs.r4_extent_change.r4_measure.Grafting.{IsQuietBelow}
use Rattle.r4_extent_put.specs.r4_extent_change.r4_measure.r4_cell.Seen.{CellSeen}
use Rattle.r4_extent_put.specs.r4_extent_change.r4_measure.r4_cell.declared.change.Fresh.{Fresh}
use Rattle.r4_extent_put.specs.r4_extent_change.r4_measure.r4_work.Working.{AreCellsIn}
use Rattle.r4_allowed.specs.Table.{budget_of}
use Rattle.r4_allowed.specs.declared.table.Allowance.{Allowance}

-- ---- what is looked at

-- one of the cells has this level and this number
abbrev pub IsAmong : List CellSeen → (level id : ℕ) → Type 0
IsAmong cells level id = (c : CellSeen) × Contains cells c × (c.level ≡ level) × (c.id ≡ id)

-- The item is a pointer to this number.
abbrev pub IsPointerTo : Item → (id : ℕ) → Type 0
IsPointerTo it id = (it.plugin ≡ 3) × (pointer_of it.body ≡ Some id)

-- an item of the cell is
abbrev pub PointsTo : CellSeen → (id : ℕ) → Type 0
PointsTo c id = (it : Item) × Contains (items_of c.block) it × IsPointerTo it id

-- one of the cells, at this level, points to this number
abbrev pub IsPointedTo : List CellSeen → (level id : ℕ) → Type 0
IsPointedTo cells level id = (c : CellSeen) × Contains cells c × (c.level ≡ level) × PointsTo c id

-- The entry is the root's, which stands below level 8.
abbrev pub IsLowRoot : Root → Allowance → Type 0
IsLowRoot r a = (a.level ≡ r.height) × (a.id.0 ≡ r.id) × (r.height < 8)

-- The entry is the root's, or one of the cells a level higher points to its cell.
abbrev pub Hangs : Root → List CellSeen → Allowance → Type 0
Hangs r cells a = IsLowRoot r a ⊎ IsPointedTo cells (suc a.level) a.id.0

-- Cells may come of this one: no more than 87, it is a twig or stands above twigs, it is among the
-- cells, and is the root, below level 8, or is pointed to from among them.
pub record LetsCome (r : Root) (cells : List CellSeen) (a : Allowance) : Type 0 where
  pub few : a.most ≤ 87
  pub high : 2 ≤ a.level
  pub stands : IsAmong cells a.level a.id.0
  pub hangs : Hangs r cells a

-- by the table no cell comes of this one, or it may
abbrev pub IsEntry : Root → List CellSeen → Allowance → Type 0
IsEntry r cells a = 1 ≤ a.most → LetsCome r cells a

-- A cell above the twigs suffices for what comes below it by the table.
abbrev pub BearsBy : List Allowance → CellSeen → Type 0
BearsBy table c = 3 ≤ c.level
    → Bears (budget_of table (c.level - 1)) (budget_of table c.level) c.level (items_of c.block) c.id

-- ---- the table

-- Each of which cells come may grow, and each cell above the twigs suffices for what comes below it.
pub record IsAllowed (r : Root) (cells : List CellSeen) (table : List Allowance) : Type 0 where
  pub entries : (a : Allowance) → Contains table a → IsEntry r cells a
  pub bear : (c : CellSeen) → Contains cells c → BearsBy table c

-- The cells are cells of this part of a tree of cells, which has no more than 8 levels.
pub record AreTaskCells (t : Store Value) (r : Root) (f : Fresh) (cells : List CellSeen)
    : Type 0 where
  pub height : r.height ≤ 8
  pub seen : AreSeen t
  pub cells_in : AreCellsIn t r f cells

-- The table is a budget of which the part is measured, and nothing comes below twigs.
pub record IsMeasure (t : Store Value) (r : Root) (cells : List CellSeen) (table : List Allowance)
    : Type 0 where
  pub measured : AreMeasured t r (budget_of table) cells
  pub quiet : IsQuietBelow (budget_of table)
