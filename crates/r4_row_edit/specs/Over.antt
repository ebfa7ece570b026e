-- Nodes above the twigs that stand beside each other, over cells that they point to (docs/volume.md, "Edits").
use Rattle.std.specs.Prelude.{◌≡◌, ℕ, suc, ◌<◌, ◌≤◌, List, ◌++◌, All}
use Rattle.r4_base.specs.Cell.{next_key}
use Rattle.r4_base.specs.Node.{Item}
use Rattle.r4_cell.specs.Seen.{CellSeen}
use Rattle.r4_path.specs.Nodes.{IsPointable}
use Rattle.r4_path.specs.Sharing.{items_of_cells}
use Rattle.r4_path.specs.Steps.{Follow}
use Rattle.r4_rows.specs.Pointers.{PointTo}

-- Nodes of the level above these cells, one at least, and the cells, one at least: both stand beside each other, and
-- among the items of the nodes, one node's after the other's, stand pointers to the cells.
pub record StandsOver (l : ℕ) (gone row : List CellSeen) : Type 0 where
  pub low : 2 ≤ l
  pub from : ℕ
  pub to : ℕ
  pub some : from < to
  pub along : Follow (suc l) from to row
  pub begin : ℕ
  pub end : ℕ
  pub one : begin < end
  pub below : Follow l begin end gone
  pub before : List Item
  pub pointers : List Item
  pub behind : List Item
  pub had : items_of_cells row ≡ before ++ (pointers ++ behind)
  pub point : PointTo pointers gone
  pub next : next_key to behind ≡ end
  pub able : All (λ (c : CellSeen). IsPointable c.id) gone

-- Other cells share out the range of these, and may be pointed to.
pub record ShareOut (gone come : List CellSeen) : Type 0 where
  pub ranges : (level from to : ℕ) → Follow level from to gone → Follow level from to come
  pub able : All (λ (c : CellSeen). IsPointable c.id) come
