-- Whether units of a body come to a twig or go (docs/volume.md, "Reach"). A key is its rank.
use Rattle.std.specs.Prelude.{ℕ, List, [], ◌∷◌, length, Bool, false, not, ◌&&◌, ◌||◌, ◌==◌, nat_lt}
use Rattle.std.specs.Prelude.{Option, None, Some}
use Rattle.std.specs.List.{list_any}
use Rattle.r4_base.specs.Node.{items_of}
use Rattle.r4_base.specs.Tree.{Node, Span}
use Rattle.r4_base.specs.Value.{Value}
use Rattle.r4_graft.specs.r4_branch.Pieces.{pieces_in}
use Rattle.r4_graft.specs.r4_branch.declared.piece.TwigPiece.{TwigPiece}
use Rattle.r4_content.specs.Edited.{Edits}
use Rattle.r4_bodies.specs.r4_leaf.Units.{is_between}
use Rattle.r4_bodies.specs.r4_leaf_edits.r4_reach.Needs.{filled, goes_in, is_hole_part}
use Rattle.r4_bodies.specs.r4_leaf_edits.r4_reach.Touched.{Body, coming, going}

-- blocks come, and the first of them into an extent's range
abbrev pub comes_in : Body → Span → Bool
comes_in b s = is_between s.lo s.hi (coming b).0 && nat_lt (coming b).0 (coming b).1

-- blocks of a piece go
abbrev pub goes_from : ℕ × ℕ → TwigPiece → Bool
goes_from r p = goes_in r p p.part

-- a hole becomes several pieces, or a block
abbrev pub is_other : TwigPiece → List TwigPiece → Bool
is_other p [] = false
is_other p (q ∷ qs) = not (length qs == 0) || (is_hole_part p.part && not (is_hole_part q.part))

abbrev pub is_refilled : Body → Edits → TwigPiece → Bool
is_refilled b e p = is_other p (filled b e p)

-- blocks of a piece go, or it is a hole of which a block gets bytes
abbrev pub is_changed : Body → Edits → TwigPiece → Bool
is_changed b e p = goes_from (going b) p || is_refilled b e p

-- a unit of the body comes to a twig or goes, or is replaced
abbrev pub changes_units : Option Body → Edits → Node Value → Bool
changes_units None e c = false
changes_units (Some b) e c = list_any (comes_in b) c.spans
    || list_any (is_changed b e) (pieces_in (items_of c.block))
