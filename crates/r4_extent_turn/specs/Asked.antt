-- The room that a turned twig needs, and what its leaves ask (docs/volume.md, "Bodies in extents").
-- A key is its rank.
use Rattle.std.specs.Prelude.{◌≡◌, ℕ, List, length, Bool, false, true, not, ◌&&◌, Contains}
use Rattle.std.specs.List.{filter, list_any}
use Rattle.r4_base.specs.Key.{rank}
use Rattle.r4_base.specs.Tree.{Name}
use Rattle.r4_build.specs.r4_branch.declared.piece.TwigPart.{TwigPart}
use Rattle.r4_build.specs.r4_branch.declared.piece.TwigPart.TheVariants.{Blocks, Pointer}
use Rattle.r4_build.specs.r4_branch.declared.piece.TwigPiece.{TwigPiece}
use Rattle.r4_build.specs.r4_leaf.Units.{is_between}
use Rattle.r4_build.specs.r4_path.TwigPieces.{twig_pieces}
use Rattle.r4_build.specs.r4_reach.Needs.{Ask, points_to, without_gone}
use Rattle.r4_build.specs.r4_reach.Touched.{Body, coming}
use Rattle.r4_extent_turn.specs.Turning.{Turn, in_turned}

-- the piece points to a leaf that asks that its pointer goes
abbrev pub goes_by : List (Name × Ask) → TwigPiece → Bool
goes_by hs p = list_any (λ h. h.1.gone && points_to h.0.id p.part) hs

-- Pointers go only at the keys of the blocks that come.
abbrev pub OnlyTurnedGo : Body → Turn → List (Name × Ask) → Type 0
OnlyTurnedGo b x hs = (p : TwigPiece) → Contains (twig_pieces x.twig) p → goes_by hs p ≡ true
    → in_turned b (rank p.key) ≡ true

-- how many pointers are left there
abbrev pub pointers_left : Body → Turn → List (Name × Ask) → ℕ
pointers_left b x hs =
    length (filter (λ p. in_turned b (rank p.key)) (without_gone hs (twig_pieces x.twig)))

-- ---- without the pointers to leaves that begin there

abbrev pub is_pointer : TwigPart → Bool
is_pointer (Pointer to) = true
is_pointer (Blocks u) = false

-- the piece points to a leaf that begins among the blocks that come
abbrev pub points_there : Body → TwigPiece → Bool
points_there b p = is_between (coming b).0 (coming b).1 (rank p.key) && is_pointer p.part

-- the others
abbrev pub without_turned : Body → List TwigPiece → List TwigPiece
without_turned b ps = filter (λ p. not (points_there b p)) ps
