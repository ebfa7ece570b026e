-- Trees that have the same units (docs/volume.md, "Bodies in extents"). A key is its rank.
use Rattle.std.specs.Prelude.{◌≡◌, ◌↔◌, ℕ, List, Contains, Some}
use Rattle.r4_base.specs.Tree.{IsTree, Root, Store}
use Rattle.r4_base.specs.Value.{Value}
use Rattle.r4_turned_moves.specs.r4_extent_moves.r4_applied.r4_patch.Effect.{Placed, UnitIn}
use Rattle.r4_turned_moves.specs.r4_extent_moves.r4_applied.r4_sets_told.r4_cell.Seen.{CellSeen, node_of}

-- There is a tree with the units of u, those of leaves in leaves, in which these cells stand.
pub record StandLike (u : Store Value) (cells : List CellSeen) : Type 0 where
  pub store : Store Value
  pub root : Root
  pub tree : IsTree store root
  pub units : (k : ℕ) (w : Placed Value) → UnitIn store k w ↔ UnitIn u k w
  pub stand : (c : CellSeen) → Contains cells c → store c.id ≡ Some (node_of c)
