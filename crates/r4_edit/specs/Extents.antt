-- Extents that are put in, and items that are put among extents (docs/volume.md, "Edits").
use Rattle.std.specs.Prelude.{◌≡◌, ◌≢◌, ◌⊎◌, ℕ, ◌+◌, ◌^◌, ◌<◌, ◌≤◌, List, [], ◌∷◌, ◌++◌, AllPairs, Contains, length, map}
use Rattle.std.specs.Prelude.{Option, None, Some, drop, reverse, take, ◌-◌, ◌==◌, if◌then◌else◌}
use Rattle.r4_base.specs.Cell.{item_end, item_names, item_units}
use Rattle.r4_base.specs.Key.{IsKey, rank}
use Rattle.r4_base.specs.Node.{Item, items_of, mkfs_id_of}
use Rattle.r4_base.specs.Tree.{Name, Root, Store}
use Rattle.r4_base.specs.Value.{Value}
use Rattle.r4_base.specs.declared.key.Key.{Key}
use Rattle.r4_path.specs.r4_branch.Items.{IsSoundItem}
use Rattle.r4_path.specs.r4_branch.Pieces.{AreTwigPieces, item_pieces, names_of, next_of, pieces_in, twig_bytes, units_of}
use Rattle.r4_path.specs.r4_branch.declared.piece.TwigPart.TheVariants.{Pointer}
use Rattle.r4_path.specs.r4_branch.declared.piece.TwigPiece.{TwigPiece}
use Rattle.r4_path.specs.r4_cell.Seen.{CellSeen, node_of}
use Rattle.r4_path.specs.r4_cell.declared.change.Change.{Change}
use Rattle.r4_path.specs.r4_cell.declared.change.Fresh.{Fresh}
use Rattle.r4_path.specs.r4_graft.Places.{AreClear}
use Rattle.r4_path.specs.r4_graft.Splices.{place, spliced}
use Rattle.r4_path.specs.r4_leaf.Leaves.{IsGiven}
use Rattle.r4_path.specs.r4_leaf.Units.{put_units}
use Rattle.r4_edit.specs.Editing.{IsInsertIn, after_insert, extra_for}
use Rattle.r4_path.specs.Grafts.{GraftsBelow, IsUnusedBeside, extra_twigs}
use Rattle.r4_path.specs.Growing.{IsPathIn}
use Rattle.r4_edit.specs.LeafParts.{HasRight, IsLeafOf, PartsLeaf}
use Rattle.r4_path.specs.Levels.{IsLongEnough}
use Rattle.r4_path.specs.Steps.{name_of}
use Rattle.r4_path.specs.TwigPieces.{twig_pieces, put_pieces}

-- ---- an extent that is put in

-- An extent, of units that have no fault in memory; its bytes have offsets below 2^64.
pub record IsGivenExtent (it : Item) : Type 0 where
  pub plugin : it.plugin ≡ 5
  pub sound : IsSoundItem it
  pub short : length it.body ≤ 4030

-- the blocks that an item names, each with the keys of its bytes
abbrev pub item_blocks : Item → List Name
item_blocks it = item_names 2 0 it

-- The blocks have no place yet: their numbers are unused, are none of the fresh ones, and are different.
pub record AreNewBlocks (t : Store Value) (names : List Name) (fresh : Fresh) : Type 0 where
  pub unplaced : (n : Name) → Contains names n → 2 ^ 63 ≤ n.id
  pub unused : (n : Name) → Contains names n → IsUnusedBeside t fresh.next fresh.end n.id
  pub once : AllPairs (λ (i j : ℕ). i ≢ j) (map (λ n. n.id) names)

-- The twig is the lowest of a path of this part of a tree, with the cells above it that pointers to further twigs may ask
-- for, where it is to have these pieces. There are numbers for all that may come, and one for a leaf.
pub record HasRoomFor (t : Store Value) (r : Root) (qs : List TwigPiece) (twig : CellSeen) (ups : List CellSeen)
    (fresh : Fresh) : Type 0 where
  pub path : IsPathIn t r (twig ∷ ups) fresh
  pub level : twig.level ≡ 2
  pub enough : (twig_bytes qs ≤ 4068) ⊎ IsLongEnough r (extra_twigs qs) twig ups
  pub numbers : fresh.next + (2 + length ups) + extra_twigs qs < fresh.end

-- The keys are the twig's, and no leaf, no data block and no unit of the twig has one of them.
pub record AreAmongExtents (twig : CellSeen) (from to : ℕ) : Type 0 where
  pub low : rank twig.lo ≤ from
  pub some : from < to
  pub high : to ≤ rank twig.hi
  pub clear : AreClear (node_of twig).names (node_of twig).units from to

-- An extent may be put among the twig's extents.
pub record IsSpreadIn (t : Store Value) (r : Root) (it : Item) (twig : CellSeen) (ups : List CellSeen)
    (fresh : Fresh) : Type 0 where
  pub room : HasRoomFor t r (put_pieces it.key (item_pieces it) (twig_pieces twig)) twig ups fresh
  pub keys : AreAmongExtents twig (rank it.key) (item_end it)
  pub given : IsGivenExtent it
  pub blocks : AreNewBlocks t (item_blocks it) fresh

abbrev pub IsSpreadUp : Store Value → Root → Item → Fresh → List CellSeen → Type 0
IsSpreadUp t r it fresh [] = ⊥
IsSpreadUp t r it fresh (twig ∷ ups) = IsSpreadIn t r it twig ups fresh

-- ---- an extent in a leaf's range

-- the pointer to a part of a leaf, if there is one
abbrev pub pointer_to : Option CellSeen → List TwigPiece
pointer_to None = []
pointer_to (Some c) = record { key = c.lo; part = Pointer (record { 0 = c.id }) } ∷ []

-- the cell, if there is one
abbrev pub given_cells : Option CellSeen → List CellSeen
given_cells None = []
given_cells (Some c) = c ∷ []

-- A leaf's pointer stays, unless the extent begins where the leaf does; behind it come the extent and a pointer to the leaf's
-- right part.
abbrev pub over_pieces : Item → CellSeen → (right : Option CellSeen) → List TwigPiece → List TwigPiece
over_pieces it leaf right ps =
    spliced (place (rank leaf.lo) ps + (if rank it.key == rank leaf.lo then 0 else 1)) (place (rank leaf.lo) ps + 1)
    (item_pieces it ++ pointer_to right) ps

-- There are the cells that pointers to further twigs may ask for, where the twig is to have these pieces, and numbers for all
-- that may come, and one for a leaf.
pub record AreEnough (r : Root) (qs : List TwigPiece) (twig : CellSeen) (ups : List CellSeen) (fresh : Fresh) : Type 0 where
  pub enough : (twig_bytes qs ≤ 4068) ⊎ IsLongEnough r (extra_twigs qs) twig ups
  pub numbers : fresh.next + (2 + length ups) + extra_twigs qs < fresh.end

-- An extent may be put into the range of a leaf below the twig, which has no unit of its keys.
pub record IsOverIn (t : Store Value) (r : Root) (it : Item) (leaf twig : CellSeen) (ups : List CellSeen)
    (fresh : Fresh) : Type 0 where
  pub path : IsPathIn t r (twig ∷ ups) fresh
  pub level : twig.level ≡ 2
  pub number : fresh.next < fresh.end
  pub room : (id : ℕ) (right : Option CellSeen) → HasRight leaf it.key id right
      → AreEnough r (over_pieces it leaf right (twig_pieces twig)) twig ups fresh
  pub named : Contains (node_of twig).names (name_of leaf)
  pub leaf_is : t leaf.id ≡ Some (node_of leaf)
  pub leaf_level : leaf.level ≡ 1
  pub from : rank leaf.lo ≤ rank it.key
  pub to : item_end it ≤ rank leaf.hi
  pub apart : (k : ℕ) (v : Value) → Contains (node_of leaf).units (k, v) → (k < rank it.key) ⊎ (item_end it ≤ k)
  pub given : IsGivenExtent it
  pub blocks : AreNewBlocks t (item_blocks it) fresh

abbrev pub IsOverUp : Store Value → Root → Item → Fresh → List CellSeen → Type 0
IsOverUp t r it fresh [] = ⊥
IsOverUp t r it fresh (leaf ∷ []) = ⊥
IsOverUp t r it fresh (leaf ∷ (twig ∷ ups)) = IsOverIn t r it leaf twig ups fresh

-- ---- an item of a leaf among extents

-- the pointer to a new leaf at a key
abbrev pub leaf_pointer : Key → (id : ℕ) → List TwigPiece
leaf_pointer key id = record { key = key; part = Pointer (record { 0 = id }) } ∷ []

-- An item of a leaf may be put among the twig's extents, in a leaf of its own.
pub record IsLeafPutIn (t : Store Value) (r : Root) (it : Item) (twig : CellSeen) (ups : List CellSeen)
    (fresh : Fresh) : Type 0 where
  pub path : IsPathIn t r (twig ∷ ups) fresh
  pub level : twig.level ≡ 2
  pub room : (id : ℕ) → AreEnough r (put_pieces it.key (leaf_pointer it.key id) (twig_pieces twig)) twig ups fresh
  pub keys : AreAmongExtents twig (rank it.key) (item_end it)
  pub whole_key : IsKey it.key
  pub given : IsGiven it

abbrev pub IsLeafPutUp : Store Value → Root → Item → Fresh → List CellSeen → Type 0
IsLeafPutUp t r it fresh [] = ⊥
IsLeafPutUp t r it fresh (twig ∷ ups) = IsLeafPutIn t r it twig ups fresh

-- ---- an item of any kind

-- An item of a leaf may be put into the path's leaf, and there are numbers for all that may come.
pub record IsIntoLeafIn (t : Store Value) (r : Root) (path : List CellSeen) (it : Item) (fresh : Fresh) : Type 0 where
  pub given : IsGiven it
  pub inserts : IsInsertIn t r path it fresh
  pub numbers : fresh.next + length path + extra_for (after_insert it) path < fresh.end

-- The item may be put into the path's leaf, over a part of its range, or among the extents of the path's twig.
abbrev pub IsPutIn : Store Value → Root → (path : List CellSeen) → Item → Fresh → Type 0
IsPutIn t r path it fresh =
    IsIntoLeafIn t r path it fresh
    ⊎ (IsOverUp t r it fresh (reverse path) ⊎ (IsSpreadUp t r it fresh (reverse path) ⊎ IsLeafPutUp t r it fresh (reverse path)))

-- ---- what becomes of the pieces and their units

-- The change packs the twig with the extent's pieces among its own. Its units come among those that the twig has.
pub record SpreadsIn (path : List CellSeen) (it : Item) (before after : Fresh) (c : Change) (twig : CellSeen) : Type 0 where
  pub grafts : GraftsBelow path (put_pieces it.key (item_pieces it) (twig_pieces twig)) (record { old = []; new = [] }) before after c
  pub units : units_of (put_pieces it.key (item_pieces it) (twig_pieces twig)) ≡ put_units (item_units it) (node_of twig).units

abbrev pub SpreadsUp : (path : List CellSeen) → Item → (before after : Fresh) → Change → List CellSeen → Type 0
SpreadsUp path it before after c [] = ⊥
SpreadsUp path it before after c (twig ∷ ups) = SpreadsIn path it before after c twig

-- The change packs the twig with a pointer to a new leaf among its pieces, and with the units that it has. The leaf has the
-- item alone, and ends where the next piece begins.
pub record PutsLeafIn (path : List CellSeen) (it : Item) (before after : Fresh) (c : Change) (twig : CellSeen) : Type 0 where
  pub hi : Key
  pub ends : rank hi ≡ next_of (rank twig.hi) (drop (place (rank it.key) (twig_pieces twig)) (twig_pieces twig))
  pub leaf : CellSeen
  pub leaf_is : IsLeafOf it before.next hi (mkfs_id_of twig.block) leaf
  pub grafts : GraftsBelow path (put_pieces it.key (leaf_pointer it.key before.next) (twig_pieces twig))
      (record { old = []; new = leaf ∷ [] }) (record before { next = before.next + 1 }) after c
  pub units : units_of (put_pieces it.key (leaf_pointer it.key before.next) (twig_pieces twig)) ≡ (node_of twig).units

abbrev pub PutsLeafUp : (path : List CellSeen) → Item → (before after : Fresh) → Change → List CellSeen → Type 0
PutsLeafUp path it before after c [] = ⊥
PutsLeafUp path it before after c (twig ∷ ups) = PutsLeafIn path it before after c twig

-- The change packs the twig with the extent, and pointers to the leaf's parts, in the place of the pointer to the leaf. The
-- leaf goes, and its parts come. The extent's units come among those that the twig has.
pub record PutsOverIn (path : List CellSeen) (it : Item) (before after : Fresh) (c : Change) (leaf twig : CellSeen) : Type 0 where
  pub left : Option CellSeen
  pub right : Option CellSeen
  pub mid : Fresh
  pub parts : PartsLeaf leaf it.key before mid left right
  pub grafts : GraftsBelow (take (length path - 1) path) (over_pieces it leaf right (twig_pieces twig))
      (record { old = leaf ∷ []; new = given_cells left ++ given_cells right }) mid after c
  pub units : units_of (over_pieces it leaf right (twig_pieces twig)) ≡ put_units (item_units it) (node_of twig).units

abbrev pub PutsOverUp : (path : List CellSeen) → Item → (before after : Fresh) → Change → List CellSeen → Type 0
PutsOverUp path it before after c [] = ⊥
PutsOverUp path it before after c (leaf ∷ []) = ⊥
PutsOverUp path it before after c (leaf ∷ (twig ∷ ups)) = PutsOverIn path it before after c leaf twig
