-- Pieces of a twig with others in the place of some, and pieces parted at a key (docs/volume.md, "Twigs").
use Rattle.std.specs.Prelude.{◌≡◌, ℕ, ◌+◌, ◌-◌, ◌*◌, ◌/◌, ◌<◌, List, [], ◌∷◌, ◌++◌, take, drop, Contains, Bool, ◌&&◌, nat_lt, if◌then◌else◌}
use Rattle.r4_base.specs.Extents.{unit_past}
use Rattle.r4_base.specs.Key.{rank, later}
use Rattle.r4_branch.specs.Pieces.{piece_end}
use Rattle.r4_branch.specs.declared.piece.TwigPart.{TwigPart}
use Rattle.r4_branch.specs.declared.piece.TwigPart.TheVariants.{Pointer, Blocks}
use Rattle.r4_branch.specs.declared.piece.TwigPiece.{TwigPiece}

-- how many of the pieces, whose keys rise, begin below a key
abbrev pub place : (key : ℕ) → List TwigPiece → ℕ
place k [] = 0
place k (p ∷ ps) = if nat_lt (rank p.key) k then 1 + place k ps else 0

-- the pieces with others in the place of those from one place up to another
abbrev pub spliced : (from to : ℕ) → (middle : List TwigPiece) → List TwigPiece → List TwigPiece
spliced from to middle ps = take from ps ++ (middle ++ drop to ps)

-- the key lies within the piece's blocks, behind its first one's first byte
abbrev pub is_within : (key : ℕ) → TwigPiece → Bool
is_within k p = nat_lt (rank p.key) k && nat_lt k (piece_end p)

-- the blocks of a part before the n-th, and those from it on
abbrev pub first_blocks : ℕ → TwigPart → TwigPart
first_blocks n (Pointer to) = Pointer to
first_blocks n (Blocks u) = Blocks (record u { width = n })

abbrev pub blocks_past : ℕ → TwigPart → TwigPart
blocks_past n (Pointer to) = Pointer to
blocks_past n (Blocks u) = Blocks (unit_past n u)

-- a piece's two parts, the second at the n-th block
abbrev pub halves : ℕ → TwigPiece → List TwigPiece
halves n p = record p { part = first_blocks n p.part } ∷ (record { key = later p.key (4096 * n); part = blocks_past n p.part } ∷ [])

-- a piece parted at a key that lies within its blocks
abbrev pub parted_piece : (key : ℕ) → TwigPiece → List TwigPiece
parted_piece k p = if is_within k p then halves ((k - rank p.key) / 4096) p else p ∷ []

abbrev pub parted : (key : ℕ) → List TwigPiece → List TwigPiece
parted k [] = []
parted k (p ∷ ps) = parted_piece k p ++ parted k ps

-- The key is at the border of a block of the pieces, if it lies in one.
abbrev pub IsBorder : (key : ℕ) → List TwigPiece → Type 0
IsBorder k ps = (p : TwigPiece) → Contains ps p → rank p.key < k → k < piece_end p → (n : ℕ) × (k ≡ rank p.key + 4096 * n)
