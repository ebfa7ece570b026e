-- What the turn of a twig of a growing body does to units (docs/volume.md, "Bodies in extents"). A key is its rank.
use Rattle.std.specs.Prelude.{◌≡◌, ◌⊎◌, ℕ, ◌+◌, ◌^◌, ◌&&◌, List, Bool, true, false, Option, Some}
use Rattle.std.specs.Prelude.{unwrap_or}
use Rattle.std.specs.List.{list_any}
use Rattle.r4_base.specs.Key.{rank}
use Rattle.r4_base.specs.Tree.{Holds}
use Rattle.r4_base.specs.Value.{Byte, Value}
use Rattle.r4_extent_demands.specs.r4_branch.Pieces.{piece_end}
use Rattle.r4_extent_demands.specs.r4_branch.declared.piece.TwigPiece.{TwigPiece}
use Rattle.r4_extent_demands.specs.r4_cell.Seen.{CellSeen, node_of}
use Rattle.r4_content.specs.Edited.{Edits}
use Rattle.r4_extent_blocks.specs.Setting.{byte_set}
use Rattle.r4_extent_demands.specs.r4_leaf.Units.{is_between}
use Rattle.r4_twig_turns.specs.r4_patch.Effect.{Placed}
use Rattle.r4_extent_demands.specs.r4_path.TwigPieces.{twig_pieces}
use Rattle.r4_extent_demands.specs.r4_reach.Needs.{is_hole_part}
use Rattle.r4_extent_demands.specs.r4_reach.Touched.{Body, first_byte}
use Rattle.r4_extent_build.specs.Growing.{end_after, end_before}

-- what stands at a key of a block that comes, or of a hole: the byte that edits set there, or a zero
abbrev pub byte_after : Edits → ℕ → Value
byte_after e k = Byte (unwrap_or (byte_set e k) 0)

-- the piece is a hole of the body
abbrev pub is_hole_of : Body → TwigPiece → Bool
is_hole_of b p =
    is_hole_part p.part && is_between (first_byte b) (first_byte b + 2 ^ 64) (rank p.key)

-- the key lies in a hole of the body
abbrev pub in_hole_of : Body → List TwigPiece → (key : ℕ) → Bool
in_hole_of b ps k =
    list_any (λ (p : TwigPiece). is_hole_of b p && is_between (rank p.key) (piece_end p) k) ps

-- the key lies where blocks of the body come into the twig
abbrev pub in_coming : Body → CellSeen → (key : ℕ) → Bool
in_coming b twig k =
    is_between (rank twig.lo) (rank twig.hi) (end_before b)
    && is_between (end_before b) (end_after b) k

-- A set of keys that the twig holds: of the body's holes, and of the blocks that come, of which it has all. Of a hole it
-- has each key at which edits set another byte than 0.
pub record AreKeysOf (b : Body) (e : Edits) (twig : CellSeen) (at : ℕ → Bool) : Type 0 where
  pub held : (k : ℕ) → at k ≡ true → Holds (node_of twig) k
  pub within : (k : ℕ) → at k ≡ true
      → (in_hole_of b (twig_pieces twig) k ≡ true) ⊎ (in_coming b twig k ≡ true)
  pub coming : (k : ℕ) → in_coming b twig k ≡ true → at k ≡ true
  pub holes : (k : ℕ) → at k ≡ false → in_hole_of b (twig_pieces twig) k ≡ true
      → byte_after e k ≡ Byte 0

-- what stands at them afterwards, in the twig or in a data block
abbrev pub bytes_after : Edits → ℕ → Option (Placed Value)
bytes_after e k = Some (byte_after e k, false)
