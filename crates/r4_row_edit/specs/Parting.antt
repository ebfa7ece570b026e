-- Twigs that get pieces as these are parted, one twig for each part, and the rows above them (docs/volume.md, "Rows that are
-- packed anew").
use Rattle.std.specs.Prelude.{◌≡◌, ◌⊎◌, ℕ, ◌+◌, ◌≤◌, List, [], ◌∷◌, length, All, Contains, None}
use Rattle.r4_base.specs.Key.{rank}
use Rattle.r4_base.specs.Node.{mkfs_id_of}
use Rattle.r4_branch.specs.Pieces.{AreTwigPieces, names_of, next_of, twig_bytes, units_of}
use Rattle.r4_branch.specs.Twigs.{IsTwig}
use Rattle.r4_branch.specs.declared.piece.TwigPiece.{TwigPiece}
use Rattle.r4_cell.specs.Seen.{CellSeen, node_of}
use Rattle.r4_cell.specs.declared.change.Change.{Change}
use Rattle.r4_cell.specs.declared.change.Fresh.{Fresh}
use Rattle.r4_node40.specs.Laid.{room_of}
use Rattle.r4_patch.specs.Joining.{ids_of}
use Rattle.r4_path.specs.Steps.{Follow}
use Rattle.r4_rows.specs.Fewest.{EachFits, joined}
use Rattle.r4_rows.specs.Rows.{Row}
use Rattle.r4_squeeze.specs.declared.filled.Filled.{Filled}
use Rattle.r4_row_edit.specs.Climbing.{StandUp}
use Rattle.r4_row_edit.specs.Shifting.{IsShifted}

-- ---- what may be parted

-- Twigs beside each other, and pieces of their range in no more parts than there are twigs: in each part a piece at least,
-- and no more than a twig has room for.
pub record MayPart (row : List CellSeen) (parts : List (List TwigPiece)) : Type 0 where
  pub from : ℕ
  pub to : ℕ
  pub along : Follow 2 from to row
  pub pieces : AreTwigPieces from to (joined parts)
  pub some : All (λ ps. 1 ≤ length ps) parts
  pub fit : EachFits twig_bytes 4068 parts
  pub few : length parts ≤ length row

-- Twigs that may get such parts, and rows over them up to one cell, which stays one.
pub record CanPart (row : List CellSeen) (parts : List (List TwigPiece))
    (above : List (List CellSeen)) : Type 0 where
  pub may : MayPart row parts
  pub up : StandUp 0 2 row above

-- ---- what comes

-- The twig's range begins with the first of these pieces. It names what they name, has their units, and they take up no
-- more than they need.
pub record HasPieces (twig : CellSeen) (ps : List TwigPiece) : Type 0 where
  pub pieces : AreTwigPieces (rank twig.lo) (rank twig.hi) ps
  pub names : names_of (rank twig.hi) ps ≡ (node_of twig).names
  pub units : units_of ps ≡ (node_of twig).units
  pub room : room_of twig.block + twig_bytes ps ≡ 4068

-- each of the twigs has the pieces of its part
abbrev pub HaveParts : List CellSeen → List (List TwigPiece) → Type 0
HaveParts [] [] = Unit {0}
HaveParts [] (ps ∷ parts) = ⊥
HaveParts (c ∷ cells) [] = ⊥
HaveParts (c ∷ cells) (ps ∷ parts) = HasPieces c ps × HaveParts cells parts

-- The change gives the twigs their pieces so, and is the shift of all the pieces; whatever numbers are fresh, it takes none.
-- What comes was to come below the twigs, or has an old number.
pub record IsParted (b : Row) (row : List CellSeen) (parts : List (List TwigPiece))
    (above : List (List CellSeen)) (c : Change) : Type 0 where
  pub cells : List CellSeen
  pub have : HaveParts cells parts
  pub shifted : (f : Fresh) → f.next ≤ f.end
      → (s : IsShifted b row (joined parts) above f f c) × (s.cells ≡ cells)
  pub numbers : (x : CellSeen) → Contains c.new x → Contains b.new x ⊎ Contains (ids_of c.old) x.id
  pub root : c.root ≡ None

-- ---- nodes of parts

-- where a part's range ends: where the next part begins, and the last one's at a key
abbrev pub part_hi : (to : ℕ) (behind : List (List TwigPiece)) → ℕ
part_hi to behind = next_of to (joined behind)

-- each part may make a twig for its range
abbrev pub AreParts : (to : ℕ) → List (List TwigPiece) → Type 0
AreParts to [] = Unit {0}
AreParts to (ps ∷ parts) = AreTwigPieces (next_of (part_hi to parts) ps) (part_hi to parts) ps
    × (twig_bytes ps ≤ 4068) × AreParts to parts

-- The node is a twig of these pieces for a range that ends at a key.
pub record IsPartIn (mkfs_id hi : ℕ) (ps : List TwigPiece) (x : Filled) : Type 0 where
  pub first : rank x.lo ≡ next_of hi ps
  pub twig : IsTwig (rank x.lo) hi ps (record { lo = x.lo; block = x.block })
  pub id : mkfs_id_of x.block ≡ mkfs_id

-- each of the nodes is a twig of its part
abbrev pub ArePartsIn : (mkfs_id to : ℕ) → List (List TwigPiece) → List Filled → Type 0
ArePartsIn m to [] [] = Unit {0}
ArePartsIn m to [] (x ∷ xs) = ⊥
ArePartsIn m to (ps ∷ parts) [] = ⊥
ArePartsIn m to (ps ∷ parts) (x ∷ xs) = IsPartIn m (part_hi to parts) ps x
    × ArePartsIn m to parts xs
