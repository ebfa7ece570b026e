-- The items that a node above leaf level is to have, in the place of those that it has (docs/volume.md, "Edits").
use Rattle.std.specs.Prelude.{◌≡◌, ℕ, ◌+◌, ◌-◌, ◌^◌, ◌<◌, ◌≤◌, List, All, ◌++◌, length, map, take, drop, slice_get, Some}
use Rattle.std.specs.Arc.{arc_value}
use Rattle.r4_base.specs.Node.{Item, KeysRise, PluginsFit, level_of}
use Rattle.r4_patch.specs.r4_cell.Seen.{CellSeen}
use Rattle.r4_leaf.specs.r4_node40.View.{item_shown, view_block, view_items}
use Rattle.r4_path.specs.Nodes.{pointer_item, weight, weight_of}
use Rattle.r4_path.specs.declared.row.Row.{Row}
use Rattle.r4_path.specs.declared.row.RowItem.{RowItem}
use Rattle.r4_path.specs.declared.row.RowItem.TheVariants.{Comes, Stays}

-- pointers to these cells behind the item at a place
abbrev pub with_pointers : List Item → (at : ℕ) → List CellSeen → List Item
with_pointers items at cells = take (at + 1) items ++ (map pointer_item cells ++ drop (at + 1) items)

abbrev pub row_more : Row → List CellSeen
row_more w = map (λ c. arc_value c) w.more.now

abbrev pub row_items : Row → List Item
row_items w = with_pointers (view_items w.node) w.at (row_more w)

-- an item of a row
abbrev pub row_item : RowItem → Item
row_item (Stays it) = item_shown it
row_item (Comes c) = pointer_item (arc_value c.now)

-- the level of the node
abbrev pub row_level : Row → ℕ
row_level w = level_of (view_block w.node).now

-- the items from one place up to another
abbrev pub row_part : Row → (from to : ℕ) → List Item
row_part w from to = take (to - from) (drop from (row_items w))

-- The place is that of an item, and what then stands there may stand in a node, room apart.
pub record IsRow (w : Row) : Type 0 where
  pub within : w.at < length (view_items w.node)
  pub few : length (view_items w.node) + length (row_more w) < 2 ^ 16
  pub level : (1 ≤ row_level w) × (row_level w ≤ 8)
  pub rise : KeysRise (row_items w)
  pub fit : PluginsFit (row_level w) (row_items w)
  pub bodies : (k : ℕ) (x : Item) → slice_get (row_items w) k ≡ Some x → (1 ≤ length x.body) × (length x.body ≤ 4030)

-- What the node has fits into it, few pointers come, and above level 2 all items are pointers.
pub record IsNarrow (w : Row) : Type 0 where
  pub fits : weight (view_items w.node) ≤ 4068
  pub few : length (row_more w) ≤ 44
  pub alike : 3 ≤ row_level w → All (λ x. weight_of x ≡ 46) (row_items w)

-- The items may be parted there: either part fits into a node, and above level 2 neither is small where they do not fit into
-- one.
pub record IsCut (w : Row) (cut : ℕ) : Type 0 where
  pub some : 1 ≤ cut
  pub below : cut < length (row_items w)
  pub left : weight (row_part w 0 cut) ≤ 4068
  pub right : weight (row_part w cut (length (row_items w))) ≤ 4068
  pub filled : 3 ≤ row_level w → 4068 < weight (row_items w) → (1024 ≤ weight (row_part w 0 cut))
      × (1024 ≤ weight (row_part w cut (length (row_items w))))
