-- Trees of two levels for tests: a root over leaves, of which the first is changed, or over an extent of four blocks.
use Rattle.std.specs.Prelude.{◌≡◌, ◌⊎◌, ℕ, ◌+◌, ◌*◌, ◌^◌, ◌<◌, ◌≤◌, List, [], ◌∷◌, Bool, true, false, Contains, length}
use Rattle.r4_base.specs.Cell.{item_end, item_units}
use Rattle.r4_base.specs.Extents.{units_of}
use Rattle.r4_base.specs.Key.{IsKey, body_key, least, offset_of, rank, stat_key, top}
use Rattle.r4_base.specs.Node.{Item}
use Rattle.r4_base.specs.Tree.{IsNode, Root}
use Rattle.r4_base.specs.Value.{Value}
use Rattle.r4_base.specs.declared.items.Unit.{Unit as ExtentUnit}
use Rattle.r4_base.specs.declared.key.Key.{Key}
use Rattle.r4_branch.specs.Pieces.{names_of}
use Rattle.r4_branch.specs.declared.piece.TwigPart.{TwigPart}
use Rattle.r4_branch.specs.declared.piece.TwigPart.TheVariants.{Blocks, Pointer}
use Rattle.r4_branch.specs.declared.piece.TwigPiece.{TwigPiece}
use Rattle.r4_cell.specs.Patch.{by_name}
use Rattle.r4_cell.specs.Seen.{CellSeen, node_of}
use Rattle.r4_cell.specs.declared.change.Fresh.{Fresh}
use Rattle.r4_leaf.specs.Leaves.{AreApart, IsGiven}
use Rattle.r4_patch.specs.Joining.{ids_of}
use Rattle.r4_path.specs.TwigPieces.{ArePiecesOf, twig_pieces}
use Rattle.r4_path.specs.Growing.{IsPathIn}
use Rattle.r4_path.specs.Steps.{CountUp, Follow}

-- The cells are leaves that share out all keys, with the first numbers; one root has room for them.
pub record AreLeaves (cells : List CellSeen) : Type 0 where
  pub some : 1 ≤ length cells
  pub few : length cells ≤ 88
  pub follow : Follow 1 least top cells
  pub counts : CountUp (2 ^ 63) (ids_of cells)

-- The item may stand in a leaf alone, up to a key.
pub record StandsAlone (it : Item) (hi : ℕ) : Type 0 where
  pub given : IsGiven it
  pub below : rank it.key < hi
  pub end : item_end it ≤ hi
  pub above : (k : ℕ) (v : Value) → Contains (item_units it) (k, v) → rank it.key ≤ k
  pub inside : (k : ℕ) (v : Value) → Contains (item_units it) (k, v) → k < hi

-- The item may be put into the leaf.
pub record MayCome (leaf : CellSeen) (it : Item) : Type 0 where
  pub given : IsGiven it
  pub from : rank leaf.lo ≤ rank it.key
  pub to : item_end it ≤ rank leaf.hi
  pub apart : AreApart (node_of leaf).units (item_units it)

abbrev pub FirstMayTake : List CellSeen → Item → Type 0
FirstMayTake [] it = ⊥
FirstMayTake (leaf ∷ rest) it = MayCome leaf it

-- two blocks that have no place yet, with the numbers behind those that a change may take
abbrev pub new_units : List ExtentUnit
new_units = record { start = 2 ^ 63 + 2000; width = 1 } ∷ (record { start = 2 ^ 63 + 2001; width = 1 } ∷ [])

-- The extent is that of these two blocks, and its bytes have offsets below 2^64.
pub record IsNewExtent (it : Item) : Type 0 where
  pub long : length it.body ≡ 32
  pub blocks : units_of it.body ≡ new_units
  pub key : IsKey it.key
  pub fits : offset_of it.key + 8192 < 2 ^ 64

-- The extent is that of these two blocks, and may be put over a part of the leaf's range, which has no unit of its keys.
pub record MayLieOver (leaf : CellSeen) (it : Item) : Type 0 where
  pub extent : IsNewExtent it
  pub from : rank leaf.lo ≤ rank it.key
  pub to : rank it.key + 8192 ≤ rank leaf.hi
  pub apart : (k : ℕ) (v : Value) → Contains (node_of leaf).units (k, v) → (k < rank it.key) ⊎ (rank it.key + 8192 ≤ k)

abbrev pub FirstMayLie : List CellSeen → Item → Type 0
FirstMayLie [] it = ⊥
FirstMayLie (leaf ∷ rest) it = MayLieOver leaf it

-- The root has this name, in a tree of two levels.
abbrev pub low_root : CellSeen → Root
low_root twig = record { id = twig.id; height = 2 }

-- The path has a root and the leaf below it.
pub record IsShortPath (leaf : CellSeen) (fresh : Fresh) (path : List CellSeen) : Type 0 where
  pub twig : CellSeen
  pub cells : path ≡ twig ∷ (leaf ∷ [])
  pub level : twig.level ≡ 2
  pub leads : IsPathIn (by_name path) (low_root twig) (leaf ∷ (twig ∷ [])) fresh

abbrev pub IsPathOver : (leaves : List CellSeen) → Fresh → (path : List CellSeen) → Type 0
IsPathOver [] fresh path = ⊥
IsPathOver (leaf ∷ rest) fresh path = IsShortPath leaf fresh path

-- ---- a root over an extent of four blocks, which has a leaf or another object's extent before it

-- the key of a byte of the one file
abbrev pub byte_key : (offset : ℕ) → Key
byte_key offset = body_key 41 0 (record { 0 = 42 }) offset

-- a pointer to the leaf, number 23, or that block alone
abbrev pub first_part : (leaf : Bool) → TwigPart
first_part true = Pointer (record { 0 = 23 })
first_part false = Blocks (record { start = 23; width = 1 })

abbrev pub first_piece : (leaf : Bool) → TwigPiece
first_piece leaf = record { key = stat_key 41 0 (record { 0 = 42 }); part = first_part leaf }

-- the run of four blocks from number 24 on
abbrev pub run_piece : TwigPiece
run_piece = record { key = byte_key 0; part = Blocks (record { start = 24; width = 4 }) }

abbrev pub run_pieces : (leaf : Bool) → List TwigPiece
run_pieces leaf = first_piece leaf ∷ (run_piece ∷ [])

-- The cell is the root, and has these pieces.
pub record IsRunTwig (leaf : Bool) (twig : CellSeen) : Type 0 where
  pub id : twig.id ≡ 22
  pub level : twig.level ≡ 2
  pub lo : rank twig.lo ≡ least
  pub hi : rank twig.hi ≡ top
  pub pieces : ArePiecesOf twig (run_pieces leaf)
  pub node : IsNode (node_of twig)

-- The cell is the leaf before the run.
pub record IsRunLeaf (leaf : CellSeen) : Type 0 where
  pub id : leaf.id ≡ 23
  pub level : leaf.level ≡ 1
  pub lo : rank leaf.lo ≡ least
  pub hi : rank leaf.hi ≡ rank (byte_key 0)
  pub node : IsNode (node_of leaf)

-- The cell is one of the run's blocks.
pub record IsRunBlock (nth : ℕ) (block : CellSeen) : Type 0 where
  pub id : block.id ≡ 24 + nth
  pub level : block.level ≡ 0
  pub lo : rank block.lo ≡ rank (byte_key (4096 * nth))
  pub hi : rank block.hi ≡ rank (byte_key (4096 * nth + 4096))
  pub whole : length block.block ≡ 4096

-- ---- a root that is a twig of two holes

-- The cell is the root, and has two pieces, which name nothing.
pub record IsTwigOfHoles (twig : CellSeen) : Type 0 where
  pub id : twig.id ≡ 22
  pub level : twig.level ≡ 2
  pub lo : rank twig.lo ≡ least
  pub hi : rank twig.hi ≡ top
  pub two : length (twig_pieces twig) ≡ 2
  pub names : (node_of twig).names ≡ []
  pub node : IsNode (node_of twig)

-- The pieces are two, and name nothing.
pub record AreTwoHoles (ps : List TwigPiece) : Type 0 where
  pub two : length ps ≡ 2
  pub names : (hi : ℕ) → names_of hi ps ≡ []
