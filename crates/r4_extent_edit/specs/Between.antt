-- Pieces of a twig in the place of those between two keys (docs/volume.md, "Edits").
use Rattle.std.specs.Prelude.{◌≡◌, ℕ, ◌+◌, ◌*◌, ◌^◌, ◌<◌, List, [], ◌∷◌, ◌++◌}
use Rattle.r4_base.specs.Extents.{blocks_in, units_of as units_of_body}
use Rattle.r4_base.specs.Key.{offset_of, rank}
use Rattle.r4_base.specs.Node.{Item}
use Rattle.r4_base.specs.declared.items.Unit.{Unit as ExtentUnit}
use Rattle.r4_base.specs.declared.key.Key.{Key}
use Rattle.r4_work.specs.r4_branch.declared.piece.TwigPart.TheVariants.{Blocks}
use Rattle.r4_work.specs.r4_branch.declared.piece.TwigPiece.{TwigPiece}
use Rattle.r4_work.specs.r4_cell.Seen.{CellSeen}
use Rattle.r4_work.specs.r4_edit.CutBlocks.{parted_twice}
use Rattle.r4_work.specs.r4_graft.Splices.{place, spliced}
use Rattle.r4_work.specs.r4_path.TwigPieces.{twig_pieces}

-- others in the place of the pieces that begin from one key on and below another
abbrev pub put_between : (from to : ℕ) → (others : List TwigPiece) → List TwigPiece → List TwigPiece
put_between from to others ps = spliced (place from ps) (place to ps) others ps

-- a twig's pieces, parted at both keys, with others in the place of those between them
abbrev pub pieces_over : (from to : ℕ) → (others : List TwigPiece) → CellSeen → List TwigPiece
pieces_over from to others twig = put_between from to others (parted_twice from to
    (twig_pieces twig))

-- The extent ends below offset 2^64, so that there is a key behind it.
abbrev pub HasKeyBehind : Item → Type 0
HasKeyBehind it = offset_of it.key + 4096 * blocks_in (units_of_body it.body) < 2 ^ 64

-- The last of the pieces is a unit's, which ends at a key below offset 2^64.
pub record EndsAt (to : ℕ) (ps : List TwigPiece) : Type 0 where
  pub before : List TwigPiece
  pub key : Key
  pub unit : ExtentUnit
  pub is : ps ≡ before ++ (record { key = key; part = Blocks unit } ∷ [])
  pub end : to ≡ rank key + 4096 * unit.width
  pub below : offset_of key + 4096 * unit.width < 2 ^ 64
