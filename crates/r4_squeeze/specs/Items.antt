-- Items of which a node above leaf level is filled (docs/volume.md, "Squeezing").
use Rattle.std.specs.Prelude.{◌≡◌, ℕ, ◌+◌, ◌<◌, ◌≤◌, ◌^◌, List, [], ◌∷◌, length, map, slice_get, true}
use Rattle.std.specs.Prelude.{None, Some}
use Rattle.std.specs.Arc.{arc_value}
use Rattle.r4_base.specs.Cell.{item_body_fault, item_end, next_key, offsets_fit}
use Rattle.r4_base.specs.Key.{rank}
use Rattle.r4_base.specs.Node.{Item, count_of, fits_level, items_of, level_of}
use Rattle.r4_node40.specs.Edits.{GoesBetween}
use Rattle.r4_node40.specs.Laid.{IsNode, room_of}
use Rattle.r4_node40.specs.View.{item_shown}
use Rattle.r4_path.specs.Nodes.{pointer_item}
use Rattle.r4_squeeze.specs.declared.items.NodeItem.{NodeItem}
use Rattle.r4_squeeze.specs.declared.items.NodeItem.TheVariants.{Comes, Stays}

abbrev pub item_meant : NodeItem → Item
item_meant (Stays it) = item_shown it
item_meant (Comes c) = pointer_item (arc_value c.now)

abbrev pub items_meant : List NodeItem → List Item
items_meant items = map item_meant items

-- each has a body that a node has room for
abbrev pub HaveBodies : List Item → Type 0
HaveBodies items = (k : ℕ) (x : Item) → slice_get items k ≡ Some x
    → (1 ≤ length x.body) × (length x.body ≤ 4030)

-- The item may come behind the others of a node, which are so many.
pub record CanAppend (b : List ℕ) (count : ℕ) (it : Item) : Type 0 where
  pub node : IsNode b
  pub counted : count ≡ count_of b
  pub plugin : fits_level (level_of b) it.plugin ≡ true
  pub above : GoesBetween (items_of b) count it.key
  pub some : 1 ≤ length it.body
  pub room : length it.body + 38 ≤ room_of b

-- ---- items that stand one after the other, whatever node they are in

-- the item may stand in a node, in memory
pub record IsPlaced (it : Item) : Type 0 where
  pub body : item_body_fault true (2 ^ 64) it ≡ None
  pub fits : offsets_fit it ≡ true

-- Such items up to a key, each before the next one.
abbrev pub Stand : (hi : ℕ) → List Item → Type 0
Stand hi [] = Unit {0}
Stand hi (x ∷ xs) = IsPlaced x × (rank x.key < next_key hi xs) × (item_end x ≤ next_key hi xs)
    × Stand hi xs
