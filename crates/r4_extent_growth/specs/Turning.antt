-- Whether a body grows, and whether a twig may have its turn then (docs/volume.md, "Bodies in
-- extents"). A key is its rank.
use Rattle.std.specs.Prelude.{ℕ, ◌+◌, ◌^◌, ◌≤◌, ◌==◌, ◌&&◌, ◌||◌, nat_le, nat_lt, not}
use Rattle.std.specs.Prelude.{if◌then◌else◌}
use Rattle.std.specs.Prelude.{Bool, false, List, [], take, is_some, Option, None, Some, option_map}
use Rattle.std.specs.List.{list_all}
use Rattle.r4_base.specs.Key.{offset_of, rank}
use Rattle.r4_content.specs.Edited.{Edits}
use Rattle.r4_extent_change.specs.r4_measure.r4_branch.Pieces.{last_end, open_end, twig_bytes}
use Rattle.r4_extent_change.specs.r4_measure.r4_branch.declared.piece.TwigPart.{TwigPart}
use Rattle.r4_extent_change.specs.r4_measure.r4_branch.declared.piece.TwigPart.TheVariants.{Blocks, Pointer}
use Rattle.r4_extent_change.specs.r4_measure.r4_branch.declared.piece.TwigPiece.{TwigPiece}
use Rattle.r4_extent_change.specs.r4_measure.r4_cell.Seen.{CellSeen, node_of}
use Rattle.r4_extent_change.specs.r4_measure.r4_leaf.Units.{is_between}
use Rattle.r4_extent_change.specs.r4_measure.r4_path.TwigPieces.{twig_pieces}
use Rattle.r4_extent_change.specs.r4_measure.r4_path.r4_graft.Splices.{place}
use Rattle.r4_extent_change.specs.r4_measure.r4_reach.Needs.{pieces_after}
use Rattle.r4_extent_change.specs.r4_measure.r4_reach.Touched.{Body, coming, is_spread}
use Rattle.r4_extent_change.specs.r4_extent_build.Growing.{IsClearFor, end_after, end_before}
use Rattle.r4_extent_change.specs.r4_extent_build.Looping.{IsTwigFor}
use Rattle.r4_extent_change.specs.r4_extent_build.Numbering.{coming_count, is_coming}
use Rattle.r4_extent_change.specs.Beside.{is_turning, turning_among}
use Rattle.r4_extent_change.specs.Changing.{numbers_needed}

-- The body stands in extents and loses no blocks, or it had no bytes and comes to extents.
abbrev pub does_grow : Body → Bool
does_grow b =
    if b.in_extents then nat_le (end_before b) (end_after b) else is_spread b && (b.was == 0)

-- ---- nothing stands in the twig where blocks come

-- where a unit ends is known, and not behind a key
abbrev pub is_open_by : (key : ℕ) → Option ℕ → Bool
is_open_by k None = false
is_open_by k (Some end) = nat_le end k

-- a piece ends by a key; a unit that reaches the end of its object is taken for one that does not
abbrev pub ends_by : (key : ℕ) → TwigPiece → Bool
ends_by k p = by_part p.part
  where
    by_part : TwigPart → Bool
    by_part (Pointer to) = nat_lt (rank p.key) k
    by_part (Blocks u) = is_open_by k (open_end p)

-- the piece does not stand where blocks of the body come
abbrev pub stands_clear : Body → TwigPiece → Bool
stands_clear b p = nat_le (coming b).1 (rank p.key) || ends_by (coming b).0 p

-- blocks come, and the first of them into the twig's range
abbrev pub comes_into : Body → CellSeen → Bool
comes_into b c = is_between (rank c.lo) (rank c.hi) (coming b).0 && nat_lt (coming b).0 (coming b).1

-- the range reaches behind the blocks that come, and the piece before them is a unit
abbrev pub has_gap : Body → CellSeen → List TwigPiece → Bool
has_gap b c ps =
    nat_le (coming b).1 (rank c.hi) && is_some (last_end None (take (place (coming b).0 ps) ps))

-- of these pieces of the twig none stands where blocks come, and there is a gap for those that come
-- into it
abbrev pub is_clear : Body → CellSeen → List TwigPiece → Bool
is_clear b c ps = list_all (stands_clear b) ps && (not (comes_into b c) || has_gap b c ps)

-- ---- its pieces afterwards

-- there is a key behind the piece, if it stands for a block that comes
abbrev pub has_next : (old : List TwigPiece) → TwigPiece → Bool
has_next old p = not (is_coming old p) || nat_lt (offset_of p.key + 4096) (2 ^ 64)

-- so it is for each of these pieces, and they need no more than 16000 bytes
abbrev pub may_be_packed : (old new : List TwigPiece) → Bool
may_be_packed old new = list_all (has_next old) new && nat_le (twig_bytes new) 16000

-- the twig may have its turn
abbrev pub may_turn : Body → Edits → CellSeen → Bool
may_turn b e c =
    is_clear b c (twig_pieces c)
    && may_be_packed (twig_pieces c) (pieces_after (Some b) e (node_of c) [])

-- ---- each of them

-- so many numbers a twig needs: one for each block that comes, and 64; none where it may not have
-- its turn
abbrev pub numbers_of_turn : Body → Edits → CellSeen → Option ℕ
numbers_of_turn b e c =
    if may_turn b e c
    then Some (coming_count (twig_pieces c) (pieces_after (Some b) e (node_of c) []) + 64)
    else None

-- a cell needs 64 numbers, and a twig whose pieces change those of its turn too
abbrev pub numbers_for : Body → Edits → CellSeen → Option ℕ
numbers_for b e c =
    if is_turning b e c then option_map (λ n. n + 64) (numbers_of_turn b e c) else Some 64

-- each twig whose pieces change may have its turn, and so many numbers suffice for all cells
abbrev pub may_turn_all : Body → Edits → List CellSeen → (left : ℕ) → Bool
may_turn_all b e cells n =
    list_all (may_turn b e) (turning_among b e cells) && nat_le (numbers_needed b e cells) n

-- Nothing stands in the twig where blocks of the body come, and its pieces need no more than 16000
-- bytes afterwards. What comes beside it is another matter.
pub record HasTurn (b : Body) (e : Edits) (c : CellSeen) : Type 0 where
  pub twig : IsTwigFor b e c
  pub clear : IsClearFor b c
  pub bytes : twig_bytes (pieces_after (Some b) e (node_of c) []) ≤ 16000
