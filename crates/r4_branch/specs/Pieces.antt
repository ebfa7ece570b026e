-- The pieces of which a twig is made: what they name, the units that they have, and the bytes that they take up (docs/volume.md, "Twigs").
use Rattle.std.specs.Prelude.{◌≡◌, ℕ, ◌+◌, ◌*◌, ◌^◌, ◌≤◌, ◌==◌, List, [], ◌∷◌, ◌++◌, length, slice_index, Bool, true, false, Option, Some, None, nat_lt, if◌then◌else◌}
use Rattle.r4_base.specs.Cell.{cell_fault, names_block, run_names, zeros_from}
use Rattle.r4_base.specs.Bytes.{number_at}
use Rattle.r4_base.specs.Extents.{IsLawfulUnit, is_hole, units_of as units_of_body}
use Rattle.r4_base.specs.Key.{IsKey, offset_of, rank, later}
use Rattle.r4_base.specs.Node.{Item}
use Rattle.r4_base.specs.Tree.{Name}
use Rattle.r4_base.specs.Value.{Value}
use Rattle.r4_base.specs.declared.items.Unit.{Unit}
use Rattle.r4_base.specs.declared.key.Key.{Key}
use Rattle.r4_branch.specs.declared.piece.TwigPart.{TwigPart}
use Rattle.r4_branch.specs.declared.piece.TwigPart.TheVariants.{Pointer, Blocks}
use Rattle.r4_branch.specs.declared.piece.TwigPiece.{TwigPiece}

-- The block may stand as a twig for this range, in memory.
abbrev pub MayStand : (lo hi : ℕ) → List ℕ → Type 0
MayStand lo hi b = (length b ≡ 4096) × (cell_fault true (2 ^ 64) 2 lo hi b ≡ None)

-- ---- the pieces of items

-- units one behind the other, the first so many blocks behind a key
abbrev pub unit_pieces : Key → (blocks : ℕ) → List Unit → List TwigPiece
unit_pieces k n [] = []
unit_pieces k n (u ∷ us) = record { key = later k (4096 * n); part = Blocks u } ∷ unit_pieces k (n + u.width) us

-- an item's pieces: the pointer, or the units of the extent
abbrev pub item_pieces : Item → List TwigPiece
item_pieces it =
    if it.plugin == 3
    then record { key = it.key; part = Pointer (record { 0 = number_at 8 0 it.body }) } ∷ []
    else unit_pieces it.key 0 (units_of_body it.body)

-- the pieces of a twig's items
abbrev pub pieces_in : List Item → List TwigPiece
pieces_in [] = []
pieces_in (x ∷ xs) = item_pieces x ++ pieces_in xs

-- ---- where pieces end

-- one more than the last key of a part that begins at the key; a pointer counts as one
abbrev pub part_end : (key : ℕ) → TwigPart → ℕ
part_end k (Pointer to) = k + 1
part_end k (Blocks u) = k + 4096 * u.width

abbrev pub piece_end : TwigPiece → ℕ
piece_end p = part_end (rank p.key) p.part

-- where the range of a piece before these ends: at the first one's key, and behind the last one where the twig's does
abbrev pub next_of : (hi : ℕ) → List TwigPiece → ℕ
next_of hi [] = hi
next_of hi (p ∷ ps) = rank p.key

-- ---- what pieces name, and their units

-- a pointer names its leaf, up to the next piece's key; a unit its blocks, and a hole none
abbrev pub part_names : (key next : ℕ) → TwigPart → List Name
part_names k next (Pointer to) = record { id = to.0; level = 1; lo = k; hi = next } ∷ []
part_names k next (Blocks u) = if is_hole u then [] else run_names k u.start u.width

unfoldable pub names_of : (hi : ℕ) → List TwigPiece → List Name
names_of hi [] = []
names_of hi (p ∷ ps) = part_names (rank p.key) (next_of hi ps) p.part ++ names_of hi ps

-- the zeros of a hole
abbrev pub part_units : (key : ℕ) → TwigPart → List (ℕ × Value)
part_units k (Pointer to) = []
part_units k (Blocks u) = if is_hole u then zeros_from k (4096 * u.width) else []

unfoldable pub units_of : List TwigPiece → List (ℕ × Value)
units_of [] = []
units_of (p ∷ ps) = part_units (rank p.key) p.part ++ units_of ps

-- ---- the bytes that pieces take up in a twig

-- where a unit ends, so that another one may continue it: none goes on behind offset 2^64, where the next key is another object's
abbrev pub open_end : TwigPiece → Option ℕ
open_end p = by_part p.part
  where
    by_part : TwigPart → Option ℕ
    by_part (Pointer to) = None
    by_part (Blocks u) = if nat_lt (offset_of p.key + 4096 * u.width) (2 ^ 64) then Some (rank p.key + 4096 * u.width) else None

-- the unit before ends at the key
abbrev pub is_at : Option ℕ → ℕ → Bool
is_at None k = false
is_at (Some end) k = end == k

-- a pointer has 8 bytes and a unit 16, with an item's header of 38 where it begins an item
abbrev pub part_bytes : (before : Option ℕ) → (key : ℕ) → TwigPart → ℕ
part_bytes before k (Pointer to) = 46
part_bytes before k (Blocks u) = if is_at before k then 16 else 54

unfoldable pub bytes_behind : (before : Option ℕ) → List TwigPiece → ℕ
bytes_behind before [] = 0
bytes_behind before (p ∷ ps) = part_bytes before (rank p.key) p.part + bytes_behind (open_end p) ps

-- the bytes of a twig's items and headers; a twig has room for 4068
abbrev pub twig_bytes : List TwigPiece → ℕ
twig_bytes ps = bytes_behind None ps

-- where the last piece's unit ends, or what stood before them
abbrev pub last_end : Option ℕ → List TwigPiece → Option ℕ
last_end before [] = before
last_end before (p ∷ ps) = last_end (open_end p) ps

-- ---- pieces that may make a twig

-- a pointer's number may be named; a unit has no fault in memory, and its offsets are below 2^64
abbrev pub IsSoundPart : (offset : ℕ) → TwigPart → Type 0
IsSoundPart offset (Pointer to) = names_block true (2 ^ 64) (Some to.0) ≡ true
IsSoundPart offset (Blocks u) = IsLawfulUnit true (2 ^ 64) u × (offset + 4096 * u.width ≤ 2 ^ 64)

abbrev pub IsSound : TwigPiece → Type 0
IsSound p = IsKey p.key × IsSoundPart (offset_of p.key) p.part

-- Sound pieces from one key up to another, each behind the one before it.
abbrev pub Follow : (from to : ℕ) → List TwigPiece → Type 0
Follow from to [] = from ≤ to
Follow from to (p ∷ ps) = (from ≤ rank p.key) × IsSound p × Follow (piece_end p) to ps

-- Such pieces, one at least, of which the first has the range's first key.
pub record AreTwigPieces (lo hi : ℕ) (ps : List TwigPiece) : Type 0 where
  pub some : 1 ≤ length ps
  pub first : next_of hi ps ≡ lo
  pub follow : Follow lo hi ps
