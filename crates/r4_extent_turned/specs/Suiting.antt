-- Whether a twig and its leaves may be turned, as their ranges, units and pieces tell it
-- (docs/volume.md, "Bodies in extents"). A key is its rank.
use Rattle.std.specs.Prelude.{ℕ, ◌+◌, ◌++◌, ◌-◌, ◌/◌, ◌==◌, ◌&&◌, ◌||◌, nat_le, nat_lt, not, Bool}
use Rattle.std.specs.Prelude.{true, List, [], ◌∷◌, if◌then◌else◌, length, Some}
use Rattle.std.specs.List.{list_all}
use Rattle.r4_base.specs.Key.{rank}
use Rattle.r4_content.specs.Bodies.{larger}
use Rattle.r4_content.specs.Edited.{Edits, changed}
use Rattle.r4_extent_shrink.specs.r4_extent_growth.r4_extent_build.Growing.{end_after}
use Rattle.r4_extent_shrink.specs.r4_extent_growth.r4_extent_build.Setting.{is_hole_of}
use Rattle.r4_extent_shrink.specs.r4_extent_growth.r4_extent_build.r4_extent_edit.Turning.{last_leaf}
use Rattle.r4_extent_shrink.specs.r4_extent_growth.r4_measure.r4_branch.Pieces.{twig_bytes}
use Rattle.r4_extent_shrink.specs.r4_extent_growth.r4_measure.r4_branch.declared.piece.TwigPart.TheVariants.{Pointer}
use Rattle.r4_extent_shrink.specs.r4_extent_growth.r4_measure.r4_branch.declared.piece.TwigPiece.{TwigPiece}
use Rattle.r4_extent_shrink.specs.r4_extent_growth.r4_measure.r4_cell.Seen.{CellSeen, node_of}
use Rattle.r4_extent_shrink.specs.r4_extent_growth.r4_measure.r4_cell.declared.change.Fresh.{Fresh}
use Rattle.r4_extent_shrink.specs.r4_extent_growth.r4_measure.r4_leaf.Units.{is_between}
use Rattle.r4_extent_shrink.specs.r4_extent_growth.r4_measure.r4_path.TwigPieces.{twig_pieces}
use Rattle.r4_extent_shrink.specs.r4_extent_growth.r4_measure.r4_reach.Needs.{is_met, pieces_after}
use Rattle.r4_extent_shrink.specs.r4_extent_growth.r4_measure.r4_reach.Touched.{Body, coming, first_byte}
use Rattle.r4_extent_turn.specs.Asked.{without_turned}

-- ---- leaves

-- the cell is no leaf, or the edits change none of its keys from the body's first one on
abbrev pub changes_before : Body → Edits → CellSeen → Bool
changes_before b e c =
    not (c.level == 1)
    || not (is_met (changed e) (larger (rank c.lo) (first_byte b)) (rank c.hi))

-- they are leaves of some keys, of which each begins where the one before it ends
abbrev pub lie_beside : (from : ℕ) → List CellSeen → Bool
lie_beside k [] = true
lie_beside k (c ∷ cs) =
    (c.level == 1)
    && ((rank c.lo == k) && (nat_lt k (rank c.hi) && lie_beside (rank c.hi) cs))

-- the blocks that come begin in the first of the leaves, and end in the last one or with it
abbrev pub lie_around : Body → (first last : CellSeen) → Bool
lie_around b first last =
    (nat_le (rank first.lo) (first_byte b) && nat_lt (first_byte b) (rank first.hi))
    && (nat_lt (rank last.lo) (end_after b) && nat_le (end_after b) (rank last.hi))

-- the cell has no unit at the keys of an interval
abbrev pub is_clear : (from to : ℕ) → CellSeen → Bool
is_clear from to c = list_all (λ u. not (is_between from to u.0)) (node_of c).units

-- some leaves, of which the first is given, lie so, and have nothing behind the body at the keys of
-- the blocks that come
abbrev pub leaves_suit : Body → (leaf : CellSeen) → (more : List CellSeen) → Bool
leaves_suit b leaf more =
    (lie_beside (rank leaf.lo) (leaf ∷ more) && lie_around b leaf (last_leaf leaf more))
    && list_all (is_clear (first_byte b + b.was) (end_after b)) (leaf ∷ more)

-- ---- the twig

-- the cell is a twig, in whose range the blocks that come begin, and the last of the leaves does
abbrev pub has_leaves : Body → (twig last : CellSeen) → Bool
has_leaves b twig last =
    (twig.level == 2)
    && (is_between (rank twig.lo) (rank twig.hi) (first_byte b)
    && nat_lt (rank last.lo) (rank twig.hi))

-- a pointer, where something stays of the last leaf behind the blocks that come: it needs its room,
-- wherever it stands
abbrev pub right_pointer : Body → (twig last : CellSeen) → List TwigPiece
right_pointer b twig last =
    if (last.level == 1) && is_clear (coming b).1 (rank last.hi) last then []
    else (record { key = twig.lo; part = Pointer (record { 0 = twig.id }) } ∷ [])

-- the pieces that the twig is to have, without the pointers to leaves that begin among the blocks
-- that come, and with that pointer
abbrev pub pieces_turned : Body → Edits → (twig last : CellSeen) → List TwigPiece
pieces_turned b e twig last =
    without_turned b (pieces_after (Some b) e (node_of twig) []) ++ right_pointer b twig last

-- there are so many numbers: one for each of these pieces, 194 for the twig and for what stays of
-- the leaves, and 64 for each cell
abbrev pub has_numbers : Fresh → (pieces cells : ℕ) → Bool
has_numbers f n m =
    nat_le (f.next + (n + 194)) f.end && nat_le m ((f.end - f.next - (n + 194)) / 64)

-- none of these pieces, which the twig has, is a hole of the body, and those that it is to have
-- need no more than 16000 bytes; there are numbers enough
abbrev pub pieces_suit : Body → Fresh → (cells : ℕ) → (old new : List TwigPiece) → Bool
pieces_suit b f m old new =
    list_all (λ p. not (is_hole_of b p)) old
    && (nat_le (twig_bytes new) 16000 && has_numbers f (length new) m)

abbrev pub twig_suits : Body → Edits → Fresh → List CellSeen → (twig last : CellSeen) → Bool
twig_suits b e f cells twig last =
    pieces_suit b f (length cells) (twig_pieces twig) (pieces_turned b e twig last)
