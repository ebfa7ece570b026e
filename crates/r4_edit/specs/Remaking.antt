-- All edits of a leaf, and the path above it (docs/volume.md, "Edits").
use Rattle.std.specs.Prelude.{◌<◌, List, [], ◌∷◌, reverse}
use Rattle.r4_base.specs.Key.{rank}
use Rattle.r4_base.specs.Tree.{Root, Store}
use Rattle.r4_base.specs.Value.{Value}
use Rattle.r4_path.specs.r4_cell.Seen.{CellSeen, node_of}
use Rattle.r4_path.specs.r4_cell.declared.change.Fresh.{Fresh}
use Rattle.r4_path.specs.r4_leaf.Remade.{AreWithin, CanPutAll, cut_all, put_all}
use Rattle.r4_path.specs.r4_leaf.Units.{LeafUnit, leaf_bytes}
use Rattle.r4_path.specs.r4_leaf.declared.remaking.Given.{Given}
use Rattle.r4_path.specs.r4_leaf.declared.remaking.KeyRange.{KeyRange}
use Rattle.r4_edit.specs.Editing.{IsEditedIn}

-- the leaf's units without those of some ranges, and with those of some items
abbrev pub after_edits : List KeyRange → List Given → CellSeen → List LeafUnit
after_edits cuts items leaf = put_all items (cut_all cuts (node_of leaf).units)

-- The leaf may be edited so.
pub record IsRemadeIn (t : Store Value) (r : Root) (cuts : List KeyRange) (items : List Given) (leaf : CellSeen) (ups : List CellSeen)
    (fresh : Fresh) : Type 0 where
  pub edited : IsEditedIn t r (after_edits cuts items leaf) leaf ups fresh
  pub within : AreWithin (rank leaf.lo) (rank leaf.hi) items
  pub can : CanPutAll items (cut_all cuts (node_of leaf).units)
  pub small : leaf_bytes (after_edits cuts items leaf) < 58912

abbrev pub IsRemadeUp : Store Value → Root → List KeyRange → List Given → Fresh → List CellSeen → Type 0
IsRemadeUp t r cuts items fresh [] = ⊥
IsRemadeUp t r cuts items fresh (leaf ∷ ups) = IsRemadeIn t r cuts items leaf ups fresh

abbrev pub IsRemakeIn : Store Value → Root → (path : List CellSeen) → List KeyRange → List Given → Fresh → Type 0
IsRemakeIn t r path cuts items fresh = IsRemadeUp t r cuts items fresh (reverse path)
