-- Where a key lies among the items of a node (docs/volume.md, "The tree"). A key is its rank.
use Rattle.std.specs.Prelude.{◌≡◌, ℕ, ◌+◌, ◌<◌, ◌≤◌, List, drop, slice_get, Some}
use Rattle.r4_base.specs.Cell.{next_key}
use Rattle.r4_base.specs.Key.{rank}
use Rattle.r4_base.specs.Node.{Item}
use Rattle.r4_base.specs.Tree.{Name}
use Rattle.r4_search.specs.declared.inside.Child.{Child}

-- The key is at or above that of item i, and below that of the one behind it, or below the end.
pub record IsPlace (hi : ℕ) (items : List Item) (key i : ℕ) : Type 0 where
  pub item : Item
  pub is : slice_get items i ≡ Some item
  pub from : rank item.key ≤ key
  pub below : key < next_key hi (drop (i + 1) items)

abbrev pub child_name : Child → Name
child_name d = record { id = d.id.0; level = d.level; lo = rank d.lo; hi = rank d.hi }
