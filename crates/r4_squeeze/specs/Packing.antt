-- Nodes that are filled from the left, and their cells (docs/volume.md, "Squeezing").
use Rattle.std.specs.Prelude.{◌≡◌, ℕ, ◌^◌, ◌<◌, List, [], ◌∷◌, ◌++◌, length, map, true}
use Rattle.std.specs.Prelude.{All, None}
use Rattle.r4_base.specs.Cell.{cell_fault}
use Rattle.r4_base.specs.Key.{rank}
use Rattle.r4_base.specs.Node.{Item, PluginsFit, mkfs_id_of}
use Rattle.r4_base.specs.declared.key.Key.{Key}
use Rattle.r4_base.specs.declared.things.NodeId.{NodeId}
use Rattle.r4_branch.specs.Twigs.{AreFewTwigs, PacksTwigs}
use Rattle.r4_branch.specs.declared.piece.TwigPiece.{TwigPiece}
use Rattle.r4_branch.specs.declared.twig.Twig.{Twig}
use Rattle.r4_cell.specs.Seen.{CellSeen}
use Rattle.r4_leaf.specs.Leaves.{HaveMkfsId, Packs}
use Rattle.r4_leaf.specs.declared.leaf.Leaf.{Leaf}
use Rattle.r4_path.specs.Grafts.{TwigsHaveMkfsId}
use Rattle.r4_path.specs.Levels.{units_of_cells}
use Rattle.r4_path.specs.Nodes.{IsNodeOf, weight_of}
use Rattle.r4_rows.specs.Fewest.{joined}
use Rattle.r4_rows.specs.Packed.{AreTheirPieces}
use Rattle.r4_squeeze.specs.Items.{Stand}
use Rattle.r4_squeeze.specs.declared.filled.Filled.{Filled}

-- ---- nodes of pointers

-- Items of a node above the twigs that stand one after the other up to a key: each is a pointer of 46 bytes.
pub record ArePointers (level hi : ℕ) (items : List Item) : Type 0 where
  pub stand : Stand hi items
  pub fit : PluginsFit level items
  pub alike : All (λ (x : Item). weight_of x ≡ 46) items

-- The node has these items, and its range begins with the first one's key.
pub record IsFilledWith (level mkfs_id : ℕ) (first : Item) (items : List Item) (x : Filled) : Type 0
  where
    pub from : rank x.lo ≡ rank first.key
    pub node : IsNodeOf level (first ∷ items) x.block
    pub mkfs_id_is : mkfs_id_of x.block ≡ mkfs_id

-- The nodes have these items in their order, each but the last 88 of them, for which a node has room.
abbrev pub PacksNodes : (level mkfs_id : ℕ) → List Item → List Filled → Type 0
PacksNodes level m items [] = ⊥
PacksNodes level m items (x ∷ []) = (first : Item) × (mine : List Item) × (items ≡ first ∷ mine)
    × (length mine < 88) × IsFilledWith level m first mine x
PacksNodes level m items (x ∷ (y ∷ more)) = (first : Item) × (mine rest : List Item)
    × (items ≡ first ∷ (mine ++ rest)) × (length mine ≡ 87) × IsFilledWith level m first mine x
    × PacksNodes level m rest (y ∷ more)

-- Such nodes come behind the others.
abbrev pub AddsNodes : (level mkfs_id : ℕ) → List Item → (old new : List Filled) → Type 0
AddsNodes level m items old new =
    (more : List Filled) × (new ≡ old ++ more) × PacksNodes level m items more

-- ---- leaves and twigs

abbrev pub filled_leaf : Leaf → Filled
filled_leaf x = record { lo = x.lo; block = x.block }

abbrev pub filled_twig : Twig → Filled
filled_twig x = record { lo = x.lo; block = x.block }

-- the mkfs_id of the first of some cells
abbrev pub first_mkfs_id : List CellSeen → ℕ
first_mkfs_id [] = 0
first_mkfs_id (c ∷ cells) = mkfs_id_of c.block

-- The leaves share out the units of the slum, each full before the next one is begun.
pub record PacksLeaves (from to : ℕ) (slum : List CellSeen) (filled : List Filled) : Type 0 where
  pub leaves : List Leaf
  pub are : filled ≡ map filled_leaf leaves
  pub packs : Packs from to (units_of_cells slum) leaves
  pub mkfs_id : HaveMkfsId (first_mkfs_id slum) leaves

-- The twigs share out the pieces of the slum, each full before the next one is begun.
pub record PacksSlumTwigs (from to : ℕ) (slum : List CellSeen) (filled : List Filled) : Type 0
  where
    pub each : List (List TwigPiece)
    pub pieces : AreTheirPieces slum each
    pub twigs : List Twig
    pub are : filled ≡ map filled_twig twigs
    pub packs : PacksTwigs from to (joined each) twigs
    pub few : AreFewTwigs (joined each) twigs
    pub mkfs_id : TwigsHaveMkfsId (first_mkfs_id slum) twigs

-- ---- their cells

-- Each of the nodes may stand for its range, which ends where the next one's begins, and the last one's at a key.
abbrev pub MayStandAll : (level hi : ℕ) → List Filled → Type 0
MayStandAll level hi [] = Unit {0}
MayStandAll level hi (x ∷ []) = cell_fault true (2 ^ 64) level (rank x.lo) hi x.block ≡ None
MayStandAll level hi (x ∷ (y ∷ more)) =
    (cell_fault true (2 ^ 64) level (rank x.lo) (rank y.lo) x.block ≡ None)
    × MayStandAll level hi (y ∷ more)

abbrev pub numbers : List NodeId → List ℕ
numbers ids = map (λ (i : NodeId). i.0) ids

-- the cells of nodes with these numbers
abbrev pub cells_filled : (level : ℕ) → List ℕ → (hi : Key) → List Filled → List CellSeen
cells_filled level [] hi xs = []
cells_filled level (i ∷ ids) hi [] = []
cells_filled level (i ∷ ids) hi (x ∷ []) =
    record { id = i; level = level; lo = x.lo; hi = hi; block = x.block } ∷ []
cells_filled level (i ∷ ids) hi (x ∷ (y ∷ more)) =
    record { id = i; level = level; lo = x.lo; hi = y.lo; block = x.block }
    ∷ cells_filled level ids hi (y ∷ more)
