-- An extent in the place of holes and of nothing (docs/volume.md, "Edits").
use Rattle.std.specs.Prelude.{◌≡◌, ◌⊎◌, ℕ, ◌<◌, ◌≤◌, List, [], ◌∷◌, Contains}
use Rattle.r4_base.specs.Cell.{item_end, item_units}
use Rattle.r4_base.specs.Key.{rank}
use Rattle.r4_base.specs.Node.{Item}
use Rattle.r4_base.specs.Tree.{Name, Root, Store}
use Rattle.r4_base.specs.Value.{Value}
use Rattle.r4_work.specs.r4_branch.Pieces.{item_pieces, units_of}
use Rattle.r4_work.specs.r4_branch.declared.piece.TwigPiece.{TwigPiece}
use Rattle.r4_work.specs.r4_cell.Seen.{CellSeen, node_of}
use Rattle.r4_work.specs.r4_cell.declared.change.Change.{Change}
use Rattle.r4_work.specs.r4_cell.declared.change.Fresh.{Fresh}
use Rattle.r4_work.specs.r4_graft.Splices.{IsBorder}
use Rattle.r4_work.specs.r4_leaf.Units.{cut_units, put_units}
use Rattle.r4_work.specs.r4_path.Grafts.{GraftsBelow}
use Rattle.r4_work.specs.r4_path.TwigPieces.{twig_pieces}
use Rattle.r4_work.specs.r4_edit.Extents.{AreNewBlocks, HasRoomFor, IsGivenExtent, item_blocks}
use Rattle.r4_extent_edit.specs.Between.{HasKeyBehind, pieces_over}

-- The keys are the twig's, both ends lie at borders of blocks, and no leaf and no data block has a
-- key between them: what stands there are holes, or nothing.
pub record AreHoles (twig : CellSeen) (from to : ℕ) : Type 0 where
  pub low : rank twig.lo ≤ from
  pub some : from < to
  pub high : to ≤ rank twig.hi
  pub first_border : IsBorder from (twig_pieces twig)
  pub second_border : IsBorder to (twig_pieces twig)
  pub clear : (n : Name) → Contains (node_of twig).names n → (n.hi ≤ from) ⊎ (to ≤ n.lo)

-- the twig's pieces with the extent's in the place of what stands between its keys
abbrev pub set_pieces : Item → CellSeen → List TwigPiece
set_pieces it twig = pieces_over (rank it.key) (item_end it) (item_pieces it) twig

-- An extent may be put in the place of a twig's holes.
pub record IsSetIn (t : Store Value) (r : Root) (it : Item) (twig : CellSeen) (ups : List CellSeen)
    (fresh : Fresh) : Type 0 where
  pub room : HasRoomFor t r (set_pieces it twig) twig ups fresh
  pub holes : AreHoles twig (rank it.key) (item_end it)
  pub given : IsGivenExtent it
  pub behind : HasKeyBehind it
  pub blocks : AreNewBlocks t (item_blocks it) fresh

abbrev pub IsSetUp : Store Value → Root → Item → Fresh → List CellSeen → Type 0
IsSetUp t r it fresh [] = ⊥
IsSetUp t r it fresh (twig ∷ ups) = IsSetIn t r it twig ups fresh

-- The change packs the twig with the extent's pieces in the place of those between its keys. Its
-- units come in the place of what the twig had there.
pub record SetsIn (path : List CellSeen) (it : Item) (before after : Fresh) (c : Change)
    (twig : CellSeen) : Type 0 where
  pub grafts : GraftsBelow path (set_pieces it twig) (record { old = []; new = [] }) before after c
  pub units : units_of (set_pieces it twig) ≡
      put_units (item_units it) (cut_units (rank it.key) (item_end it) (node_of twig).units)

abbrev pub SetsUp : (path : List CellSeen) → Item → (before after : Fresh) → Change
    → List CellSeen → Type 0
SetsUp path it before after c [] = ⊥
SetsUp path it before after c (twig ∷ ups) = SetsIn path it before after c twig
