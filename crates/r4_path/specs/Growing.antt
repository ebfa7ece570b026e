-- A tree that becomes one level higher (docs/volume.md, "Edits").
use Rattle.std.specs.Prelude.{◌≡◌, ℕ, ◌+◌, List, [], ◌∷◌, None, Some}
use Rattle.r4_base.specs.Node.{mkfs_id_of}
use Rattle.r4_base.specs.Tree.{Root, Store}
use Rattle.r4_base.specs.Value.{Value}
use Rattle.r4_patch.specs.r4_cell.Seen.{CellSeen, node_of}
use Rattle.r4_patch.specs.r4_cell.declared.change.Change.{Change}
use Rattle.r4_patch.specs.r4_cell.declared.change.Fresh.{Fresh}
use Rattle.r4_patch.specs.Part.{IsPart}
use Rattle.r4_path.specs.Nodes.{IsPointable}
use Rattle.r4_path.specs.Steps.{Ascends, IsFree, name_of}

-- The cells are those of a path of this part of a tree, the lowest first, and the fresh numbers are free there.
pub record IsPathIn (t : Store Value) (r : Root) (path : List CellSeen) (fresh : Fresh) : Type 0 where
  pub part : IsPart t r
  pub ascends : Ascends t None path
  pub free : IsFree fresh.next fresh.end t
  pub root_number : IsPointable r.id

-- The cell is the root of this part.
pub record IsRootIn (t : Store Value) (r : Root) (c : CellSeen) (fresh : Fresh) : Type 0 where
  pub path : IsPathIn t r (c ∷ []) fresh
  pub root : c.id ≡ r.id

-- The old root goes, and comes again with a new one.
pub record HasNewRoot (root over : CellSeen) (c : Change) : Type 0 where
  pub old : c.old ≡ root ∷ []
  pub new : c.new ≡ root ∷ (over ∷ [])
  pub pair : c.root ≡ Some (record { id = record { 0 = over.id }; height = over.level })

-- The old root stands among the new cells, as it was, and below a new root that names it alone and has no units. The new root
-- has its mkfs_id.
pub record Grows (root : CellSeen) (next : ℕ) (c : Change) : Type 0 where
  pub over : CellSeen
  pub cells : HasNewRoot root over c
  pub number : over.id ≡ next
  pub level : over.level ≡ root.level + 1
  pub names : (node_of over).names ≡ name_of root ∷ []
  pub units : (node_of over).units ≡ []
  pub mkfs_id : mkfs_id_of over.block ≡ mkfs_id_of root.block
