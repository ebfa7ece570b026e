-- The cell above a slum (docs/volume.md, "Squeezing").
use Rattle.std.specs.Prelude.{◌≡◌, ℕ, suc, ◌<◌, ◌≤◌, List, [], ◌∷◌, ◌++◌, length, map, take, All, Contains, Some}
use Rattle.r4_base.specs.Cell.{next_key}
use Rattle.r4_base.specs.Extents.{pointer_of}
use Rattle.r4_base.specs.Key.{rank}
use Rattle.r4_base.specs.Node.{Item, items_of, mkfs_id_of}
use Rattle.r4_cell.specs.Seen.{CellSeen, node_of}
use Rattle.r4_patch.specs.Joining.{ids_of}
use Rattle.r4_path.specs.Nodes.{IsPointable, pointer_item}
use Rattle.r4_path.specs.Sharing.{IsSound}
use Rattle.r4_path.specs.Steps.{Follow, name_of}
use Rattle.r4_rows.specs.Pointers.{PointTo}

-- ---- a slum

-- Nodes of a level that stand beside each other, one at least.
pub record AreBeside (level from to : ℕ) (slum : List CellSeen) : Type 0 where
  pub branch : 1 ≤ level
  pub some : from < to
  pub follow : Follow level from to slum

-- Nodes of one level, one at least, each the right neighbour of the one before, which the cell above names.
pub record IsSlumOf (slum : List CellSeen) (parent : CellSeen) : Type 0 where
  pub level : ℕ
  pub from : ℕ
  pub to : ℕ
  pub beside : AreBeside level from to slum
  pub named : (c : CellSeen) → Contains slum c → Contains (node_of parent).names (name_of c)

-- The item points to the cell, whose range goes from its key up to the items behind it.
pub record PointsTo (hi : ℕ) (c : CellSeen) (it : Item) (behind : List Item) : Type 0 where
  pub plugin : it.plugin ≡ 3
  pub to : pointer_of it.body ≡ Some c.id
  pub key : rank it.key ≡ rank c.lo
  pub next : next_key hi behind ≡ rank c.hi

-- the first items point to these cells of a level, one after the other
abbrev pub ArePointedTo : (level hi : ℕ) → List Item → List CellSeen → Type 0
ArePointedTo level hi items [] = Unit {0}
ArePointedTo level hi [] (c ∷ cells) = ⊥
ArePointedTo level hi (x ∷ xs) (c ∷ cells) =
    (c.level ≡ level) × PointsTo hi c x xs × ArePointedTo level hi xs cells

-- ---- the cell above it

-- Among the items of the cell stand pointers to the cells of a level, which are beside each other.
pub record StandsOver (l : ℕ) (parent : CellSeen) (slum : List CellSeen) : Type 0 where
  pub low : 1 ≤ l
  pub level : parent.level ≡ suc l
  pub some : 1 ≤ length slum
  pub before : List Item
  pub gone : List Item
  pub behind : List Item
  pub had : items_of parent.block ≡ before ++ (gone ++ behind)
  pub points : PointTo gone slum
  pub from : ℕ
  pub to : ℕ
  pub follow : Follow l from to slum
  pub next : next_key (rank parent.hi) behind ≡ to

-- Other cells share out the range of the slum, with the leftmost of its numbers; there is one at least, and there are no
-- more than the slum has.
pub record ComesOver (slum cells : List CellSeen) : Type 0 where
  pub ranges : (level from to : ℕ) → Follow level from to slum → Follow level from to cells
  pub ids : ids_of cells ≡ take (length cells) (ids_of slum)
  pub some : 1 ≤ length cells
  pub few : length cells ≤ length slum

-- The cell has the name, the level, the range and the mkfs_id of the one above the slum, and its items, with pointers to
-- the cells in the place of those to the slum. Both may stand.
pub record IsOver (parent : CellSeen) (slum cells : List CellSeen) (over : CellSeen) : Type 0 where
  pub id : over.id ≡ parent.id
  pub level : over.level ≡ parent.level
  pub lo : over.lo ≡ parent.lo
  pub hi : over.hi ≡ parent.hi
  pub mkfs_id : mkfs_id_of over.block ≡ mkfs_id_of parent.block
  pub was_sound : IsSound parent
  pub sound : IsSound over
  pub below : ℕ
  pub stood : StandsOver below parent slum
  pub able : All (λ (c : CellSeen). IsPointable c.id) cells
  pub items : items_of over.block ≡ stood.before ++ (map pointer_item cells ++ stood.behind)
