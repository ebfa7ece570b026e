-- Leaves below one twig, of which a range becomes an extent (docs/volume.md, "Edits").
use Rattle.std.specs.Prelude.{◌≡◌, ℕ, ◌+◌, ◌*◌, ◌<◌, ◌≤◌, List, [], ◌∷◌, ◌++◌, Contains, Option}
use Rattle.std.specs.Prelude.{Some, length}
use Rattle.r4_base.specs.Cell.{item_end, item_units}
use Rattle.r4_base.specs.Extents.{blocks_in, units_of as units_of_body}
use Rattle.r4_base.specs.Key.{later, rank}
use Rattle.r4_base.specs.Node.{Item}
use Rattle.r4_base.specs.Tree.{Root, Store}
use Rattle.r4_base.specs.Value.{Value}
use Rattle.r4_base.specs.declared.key.Key.{Key}
use Rattle.r4_work.specs.r4_branch.Pieces.{item_pieces, units_of}
use Rattle.r4_work.specs.r4_branch.declared.piece.TwigPiece.{TwigPiece}
use Rattle.r4_work.specs.r4_cell.Seen.{CellSeen, node_of}
use Rattle.r4_work.specs.r4_cell.declared.change.Change.{Change}
use Rattle.r4_work.specs.r4_cell.declared.change.Fresh.{Fresh}
use Rattle.r4_work.specs.r4_leaf.Units.{put_units}
use Rattle.r4_work.specs.r4_path.Grafts.{GraftsBelow}
use Rattle.r4_work.specs.r4_path.Growing.{IsPathIn}
use Rattle.r4_work.specs.r4_path.Steps.{Follow, name_of}
use Rattle.r4_work.specs.r4_edit.Extents.{AreEnough, AreNewBlocks, IsGivenExtent, given_cells, item_blocks}
use Rattle.r4_work.specs.r4_edit.Extents.{pointer_to}
use Rattle.r4_work.specs.r4_edit.LeafParts.{HasLeft, HasRight}
use Rattle.r4_extent_edit.specs.Between.{HasKeyBehind, pieces_over}

-- the last of some leaves, of which the first is given
abbrev pub last_leaf : CellSeen → List CellSeen → CellSeen
last_leaf leaf [] = leaf
last_leaf leaf (next ∷ more) = last_leaf next more

-- The leaves stand, and are named by the twig. Each begins where the one before it ends.
pub record AreBeside (t : Store Value) (twig leaf : CellSeen) (more : List CellSeen) : Type 0 where
  pub follow : Follow 1 (rank leaf.lo) (rank (last_leaf leaf more).hi) (leaf ∷ more)
  pub named : (c : CellSeen) → Contains (leaf ∷ more) c → Contains (node_of twig).names (name_of c)
  pub stand : (c : CellSeen) → Contains (leaf ∷ more) c → t c.id ≡ Some (node_of c)

-- The range begins in the first leaf, and ends in the last one or with it.
pub record AreAround (leaf : CellSeen) (more : List CellSeen) (from to : ℕ) : Type 0 where
  pub low : rank leaf.lo ≤ from
  pub begins : from < rank leaf.hi
  pub ends : rank (last_leaf leaf more).lo < to
  pub high : to ≤ rank (last_leaf leaf more).hi

-- the key behind an extent
abbrev pub key_of_end : Item → Key
key_of_end it = later it.key (4096 * blocks_in (units_of_body it.body))

-- the twig's pieces with the extent, and a pointer to what stays of the last leaf, in the place of
-- the pointers to the leaves that begin in its range
abbrev pub turned_pieces : Item → (right : Option CellSeen) → CellSeen → List TwigPiece
turned_pieces it right twig =
    pieces_over (rank it.key) (item_end it) (item_pieces it ++ pointer_to right) twig

-- The range of leaves of a twig may become an extent.
pub record IsTurnIn (t : Store Value) (r : Root) (it : Item) (leaf : CellSeen)
    (more : List CellSeen) (twig : CellSeen) (ups : List CellSeen) (fresh : Fresh) : Type 0 where
  pub path : IsPathIn t r (twig ∷ ups) fresh
  pub level : twig.level ≡ 2
  pub number : fresh.next < fresh.end
  pub beside : AreBeside t twig leaf more
  pub around : AreAround leaf more (rank it.key) (item_end it)
  pub given : IsGivenExtent it
  pub behind : HasKeyBehind it
  pub blocks : AreNewBlocks t (item_blocks it) fresh
  pub room : (id : ℕ) (right : Option CellSeen)
      → HasRight (last_leaf leaf more) (key_of_end it) id right
      → AreEnough r (turned_pieces it right twig) twig ups fresh

abbrev pub IsTurnUp : Store Value → Root → Item → (leaves : List CellSeen) → Fresh
    → List CellSeen → Type 0
IsTurnUp t r it [] fresh cells = ⊥
IsTurnUp t r it (leaf ∷ more) fresh [] = ⊥
IsTurnUp t r it (leaf ∷ more) fresh (twig ∷ ups) = IsTurnIn t r it leaf more twig ups fresh

-- What stays of leaves: of the first one its units below a key, unless that is its first one; of
-- the last one its units from another key on, if there are any, in a new leaf from the first of
-- them on.
pub record KeepsEnds (leaf : CellSeen) (more : List CellSeen) (from to : Key) (before after : Fresh)
    (left right : Option CellSeen) : Type 0 where
  pub left_is : HasLeft leaf from left
  pub right_is : HasRight (last_leaf leaf more) to before.next right
  pub number : after ≡ record before { next = before.next + length (given_cells right) }

-- The change packs the twig with the extent in the place of the range of the leaves. The leaves go,
-- and what stays of them comes. The extent's units come among those that the twig has.
pub record TurnsIn (path : List CellSeen) (it : Item) (leaf : CellSeen) (more : List CellSeen)
    (before after : Fresh) (c : Change) (twig : CellSeen) : Type 0 where
  pub left : Option CellSeen
  pub right : Option CellSeen
  pub mid : Fresh
  pub keeps : KeepsEnds leaf more it.key (key_of_end it) before mid left right
  pub grafts : GraftsBelow path (turned_pieces it right twig)
      (record { old = leaf ∷ more; new = given_cells left ++ given_cells right }) mid after c
  pub units : units_of (turned_pieces it right twig)
      ≡ put_units (item_units it) (node_of twig).units

abbrev pub TurnsUp : (path : List CellSeen) → Item → (leaves : List CellSeen)
    → (before after : Fresh) → Change → List CellSeen → Type 0
TurnsUp path it [] before after c cells = ⊥
TurnsUp path it (leaf ∷ more) before after c [] = ⊥
TurnsUp path it (leaf ∷ more) before after c (twig ∷ ups) =
    TurnsIn path it leaf more before after c twig

-- A range from one key up to another begins in the first of some leaves, and ends in the last one
-- or with it.
pub record IsAround (leaf last : CellSeen) (from to : ℕ) : Type 0 where
  pub level : leaf.level ≡ 1
  pub last_level : last.level ≡ 1
  pub low : rank leaf.lo ≤ from
  pub begins : from < rank leaf.hi
  pub ends : rank last.lo < to
  pub high : to ≤ rank last.hi
  pub units : (k : ℕ) (v : Value) → Contains (node_of last).units (k, v) → k < rank last.hi

abbrev pub AreEnds : (leaves : List CellSeen) → (from to : ℕ) → Type 0
AreEnds [] from to = ⊥
AreEnds (leaf ∷ more) from to = IsAround leaf (last_leaf leaf more) from to
