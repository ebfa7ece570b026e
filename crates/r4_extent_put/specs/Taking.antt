-- Whether a twig takes the values that come among its extents, as its pieces tell it, and how many
-- twigs may come beside it then (docs/volume.md, "Bodies in extents"). A key is its rank.
use Rattle.std.specs.Prelude.{◌≡◌, ℕ, ◌&&◌, nat_le, not, Bool, false, true, List, map}
use Rattle.std.specs.Prelude.{Option, None, Some}
use Rattle.std.specs.List.{list_all}
use Rattle.r4_base.specs.Key.{rank}
use Rattle.r4_content.specs.Edited.{Edits, changed}
use Rattle.r4_extent_among.specs.Among.{among_need, more_twigs}
use Rattle.r4_extent_turned.specs.r4_extent_growth.r4_measure.r4_branch.Pieces.{open_end}
use Rattle.r4_extent_turned.specs.r4_extent_growth.r4_measure.r4_branch.declared.piece.TwigPart.{TwigPart}
use Rattle.r4_extent_turned.specs.r4_extent_growth.r4_measure.r4_branch.declared.piece.TwigPart.TheVariants.{Blocks}
use Rattle.r4_extent_turned.specs.r4_extent_growth.r4_measure.r4_branch.declared.piece.TwigPart.TheVariants.{Pointer}
use Rattle.r4_extent_turned.specs.r4_extent_growth.r4_measure.r4_branch.declared.piece.TwigPiece.{TwigPiece}
use Rattle.r4_extent_turned.specs.r4_extent_growth.r4_measure.r4_cell.Seen.{CellSeen}
use Rattle.r4_extent_turned.specs.r4_extent_growth.r4_measure.r4_path.Sharing.{IsSound}
use Rattle.r4_extent_turned.specs.r4_extent_growth.r4_measure.r4_path.TwigPieces.{twig_pieces}
use Rattle.r4_extent_turned.specs.r4_extent_growth.r4_measure.r4_reach.Needs.{is_met}
use Rattle.r4_extent_turned.specs.r4_extent_growth.r4_measure.r4_reach.Touched.{Body}
use Rattle.r4_extent_put.specs.Whole.{is_putting, putting_among}

-- where a unit ends is known, and no key changes up to there
abbrev pub is_spared_to : Edits → (from : ℕ) → (end : Option ℕ) → Bool
is_spared_to e k None = false
is_spared_to e k (Some end) = not (is_met (changed e) k end)

-- no key of the piece's blocks changes, and none of its hole; a unit that reaches the end of its
-- object is taken for one of which a key changes
abbrev pub is_spared : Edits → TwigPiece → Bool
is_spared e p = by_part p.part
  where
    by_part : TwigPart → Bool
    by_part (Pointer to) = true
    by_part (Blocks u) = is_spared_to e (rank p.key) (open_end p)

-- so it is for all pieces of the twig, and it needs no more than 16000 bytes
abbrev pub takes_values : Option Body → Edits → CellSeen → Bool
takes_values b e c =
    list_all (is_spared e) (twig_pieces c) && nat_le (among_need b e c) 16000

-- What is known of a cell that was looked at.
abbrev pub IsKnown : Option Body → Edits → CellSeen → Type 0
IsKnown b e c = is_putting b e c ≡ true → IsSound c

-- ---- what comes beside it

-- a twig's number, and how many twigs may come beside it once it has the leaves that come
abbrev pub twigs_beside : Option Body → Edits → (twig : CellSeen) → ℕ × ℕ
twigs_beside b e c = (c.id, more_twigs (among_need b e c))

-- each twig among the cells among whose extents values come, in their order
abbrev pub twigs_putting : Option Body → Edits → List CellSeen → List (ℕ × ℕ)
twigs_putting b e cells = map (twigs_beside b e) (putting_among b e cells)
