-- A row whose cells point to the cells of the row below (docs/volume.md, "Edits").
use Rattle.std.specs.Prelude.{◌≡◌, ℕ, suc, List, [], ◌∷◌, ◌++◌, Contains, Some}
use Rattle.r4_base.specs.Cell.{next_key}
use Rattle.r4_base.specs.Extents.{pointer_of}
use Rattle.r4_base.specs.Key.{rank}
use Rattle.r4_base.specs.Node.{Item}
use Rattle.r4_cell.specs.Seen.{CellSeen}
use Rattle.r4_path.specs.Sharing.{IsSound, items_of_cells}
use Rattle.r4_path.specs.Steps.{Follow}
use Rattle.r4_rows.specs.Rows.{Row}

-- The items are pointers to the cells, in their order.
abbrev pub PointTo : List Item → List CellSeen → Type 0
PointTo [] [] = Unit {0}
PointTo [] (c ∷ cells) = ⊥
PointTo (p ∷ items) [] = ⊥
PointTo (p ∷ items) (c ∷ cells) = (p.plugin ≡ 3) × (pointer_of p.body ≡ Some c.id)
    × (rank p.key ≡ rank c.lo)
    × PointTo items cells

-- Among the items of the old cells, one cell's after the other's, stand pointers to the old cells
-- below; in their place pointers to the new ones, among the items of the new cells.
pub record PointsBelow (l : ℕ) (b s : Row) : Type 0 where
  pub from : ℕ
  pub to : ℕ
  pub were : Follow (suc l) from to s.old
  pub are : Follow (suc l) from to s.new
  pub sound_old : (c : CellSeen) → Contains s.old c → IsSound c
  pub sound_new : (c : CellSeen) → Contains s.new c → IsSound c
  pub low : ℕ
  pub high : ℕ
  pub below_were : Follow l low high b.old
  pub below_are : Follow l low high b.new
  pub before : List Item
  pub gone : List Item
  pub come : List Item
  pub behind : List Item
  pub had : items_of_cells s.old ≡ before ++ (gone ++ behind)
  pub have : items_of_cells s.new ≡ before ++ (come ++ behind)
  pub point_old : PointTo gone b.old
  pub point_new : PointTo come b.new
  pub next : next_key to behind ≡ high
