-- Twigs of a body in extents that grows, or gets bytes into its holes (docs/volume.md, "Bodies in extents"). A key is
-- its rank.
use Rattle.std.specs.Prelude.{◌≡◌, ◌↔◌, ◌⊎◌, ℕ, ◌<◌, ◌≤◌, List, map, length, true, Contains}
use Rattle.r4_base.specs.Key.{rank}
use Rattle.r4_base.specs.Tree.{Name}
use Rattle.r4_base.specs.declared.key.Key.{Key}
use Rattle.r4_extent_demands.specs.r4_branch.Pieces.{AreTwigPieces, names_of, piece_end, twig_bytes}
use Rattle.r4_extent_demands.specs.r4_branch.declared.piece.TwigPiece.{TwigPiece}
use Rattle.r4_extent_demands.specs.r4_cell.Seen.{CellSeen, node_of}
use Rattle.r4_content.specs.Edited.{is_between}
use Rattle.r4_extent_demands.specs.r4_graft.Places.{HasGap}
use Rattle.r4_extent_demands.specs.r4_path.Steps.{CountUp}
use Rattle.r4_extent_demands.specs.r4_path.TwigPieces.{ArePiecesOf, twig_pieces}
use Rattle.r4_extent_demands.specs.r4_reach.Touched.{Body, blocks_end, is_spread}
use Rattle.r4_extent_demands.specs.Sizes.{IsFirstKey, IsSizedBody}
use Rattle.r4_extent_build.specs.Numbering.{coming_count, names_coming, with_numbers}

-- where the blocks of the body end, before and after
abbrev pub end_before : Body → ℕ
end_before b = blocks_end b b.was

abbrev pub end_after : Body → ℕ
end_after b = blocks_end b b.now

-- The body stands in extents and does not lose blocks, or it had no bytes and comes to extents; its first key is given.
pub record IsGrowing (b : Body) (first : Key) : Type 0 where
  pub sized : IsSizedBody b
  pub spread : is_spread b ≡ true
  pub stood : (b.in_extents ≡ true) ⊎ (b.was ≡ 0)
  pub key : IsFirstKey b first
  pub longer : end_before b ≤ end_after b

-- Of the twig's pieces none stands where blocks of the body come; where they come into the twig, there is a gap for
-- them behind an extent. (So it is where the blocks of the body are just those that its size needs.)
pub record IsClearFor (b : Body) (twig : CellSeen) : Type 0 where
  pub pieces : ArePiecesOf twig (twig_pieces twig)
  pub clear : (p : TwigPiece) → Contains (twig_pieces twig) p
      → (piece_end p ≤ end_before b) ⊎ (end_after b ≤ rank p.key)
  pub gap : is_between (rank twig.lo) (rank twig.hi) (end_before b) ≡ true
      → end_before b < end_after b
      → HasGap (rank twig.lo) (rank twig.hi) (end_before b) (end_after b) (twig_pieces twig)

-- With numbers the pieces may be packed for the twig's range and need no other room. They name what the twig named, and
-- the blocks that come, whose numbers count up.
pub record MayBePacked (twig : CellSeen) (next : ℕ) (ps : List TwigPiece) : Type 0 where
  pub pieces : AreTwigPieces (rank twig.lo) (rank twig.hi)
      (with_numbers (twig_pieces twig) next ps)
  pub bytes : twig_bytes (with_numbers (twig_pieces twig) next ps) ≡ twig_bytes ps
  pub names : (n : Name)
      → Contains (names_of (rank twig.hi) (with_numbers (twig_pieces twig) next ps)) n
      ↔ (Contains (node_of twig).names n ⊎ Contains (names_coming (twig_pieces twig) next ps) n)
  pub numbers : CountUp next (map (λ (n : Name). n.id) (names_coming (twig_pieces twig) next ps))
  pub count : length (names_coming (twig_pieces twig) next ps) ≡ coming_count (twig_pieces twig) ps
