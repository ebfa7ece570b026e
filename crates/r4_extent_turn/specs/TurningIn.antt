-- A body that comes to extents, in a working set (docs/volume.md, "Bodies in extents"). A key is
-- its rank.
use Rattle.std.specs.Prelude.{◌≡◌, ℕ, ◌+◌, ◌^◌, ◌<◌, ◌≤◌, List, [], ◌∷◌, map, Contains}
use Rattle.std.specs.Prelude.{false, true}
use Rattle.std.specs.Arc.{arc_value}
use Rattle.r4_base.specs.Key.{rank}
use Rattle.r4_base.specs.Tree.{Root, Store}
use Rattle.r4_base.specs.Value.{Value}
use Rattle.r4_base.specs.declared.key.Key.{Key}
use Rattle.r4_build.specs.r4_branch.Pieces.{twig_bytes}
use Rattle.r4_build.specs.r4_branch.declared.piece.TwigPiece.{TwigPiece}
use Rattle.r4_extent_build.specs.r4_cell.Seen.{CellSeen, node_of}
use Rattle.r4_extent_build.specs.r4_cell.declared.change.Fresh.{Fresh}
use Rattle.r4_content.specs.Edited.{Edits}
use Rattle.r4_extent_build.specs.Looping.{AreTurned}
use Rattle.r4_extent_build.specs.Setting.{is_hole_of}
use Rattle.r4_extent_build.specs.r4_twig_turns.Turning.{CanRegraftAll, TwigTurn, behind}
use Rattle.r4_extent_build.specs.r4_extent_edit.Turning.{AreAround}
use Rattle.r4_build.specs.r4_measure.Budget.{AreUnplaced, Budget}
use Rattle.r4_build.specs.r4_measure.Grafting.{Beside, IsQuietBelow}
use Rattle.r4_build.specs.r4_measure.Measured.{IsMeasured}
use Rattle.r4_build.specs.r4_path.Grafts.{extra_twigs}
use Rattle.r4_build.specs.r4_path.Steps.{Follow, name_of}
use Rattle.r4_build.specs.r4_path.TwigPieces.{ArePiecesOf, twig_pieces}
use Rattle.r4_build.specs.r4_reach.Touched.{Body, first_byte}
use Rattle.r4_extent_build.specs.Growing.{end_after}
use Rattle.r4_build.specs.r4_work.Working.{standing}
use Rattle.r4_build.specs.r4_work.declared.working.WorkingSet.{WorkingSet}
use Rattle.r4_extent_turn.specs.Turning.{AreKept, IsTurnFor, IsTurningBody, Kept, Turn}
use Rattle.r4_extent_turn.specs.Turning.{blocks_turned, in_turned}
use Rattle.r4_extent_turn.specs.Turning.{kept_cells, last_of, leaves_of, numbered, told_pieces}
use Rattle.r4_extent_turn.specs.Turning.{turning_turn}
use Rattle.r4_extent_turn.specs.declared.turning.Turning.{Turning}

-- a twig and its leaves; where there is none, the twig stands for one
abbrev pub turn_from : (twig : CellSeen) → (leaves : List CellSeen) → Turn
turn_from twig [] = record { twig = twig; leaf = twig; more = [] }
turn_from twig (c ∷ cs) = record { twig = twig; leaf = c; more = cs }

-- what contracts see of them
abbrev pub turn_of : Turning → Turn
turn_of x = turn_from (arc_value x.twig) (map (λ c. arc_value c) x.leaves.items)

-- The twig and the leaves stand in the set.
pub record StandsTurn (w : WorkingSet) (x : Turn) : Type 0 where
  pub twig : Contains (standing w) x.twig
  pub leaves : (c : CellSeen) → Contains (leaves_of x) c → Contains (standing w) c

-- A standing twig names these leaves, which stand one beside the other: all that have a key of the
-- blocks that come. What stands at these keys are bytes that the body had before; none of the
-- twig's extents is a hole of it.
pub record IsTurnIn (b : Body) (w : WorkingSet) (x : Turn) : Type 0 where
  pub stands : StandsTurn w x
  pub pieces : ArePiecesOf x.twig (twig_pieces x.twig)
  pub level : x.twig.level ≡ 2
  pub beside : Follow 1 (rank x.leaf.lo) (rank (last_of x).hi) (leaves_of x)
  pub named : (c : CellSeen) → Contains (leaves_of x) c
      → Contains (node_of x.twig).names (name_of c)
  pub around : AreAround x.leaf x.more (first_byte b) (end_after b)
  pub short : (c : CellSeen) (k : ℕ) (v : Value) → Contains (leaves_of x) c
      → Contains (node_of c).units (k, v) → in_turned b k ≡ true → k < first_byte b + b.was
  pub no_holes : (p : TwigPiece) → Contains (twig_pieces x.twig) p → is_hole_of b p ≡ false

-- the one turn
abbrev pub turns_to : Body → Edits → Turn → Kept → List TwigTurn
turns_to b e x s = turning_turn b e x s ∷ []

-- numbers enough: for the blocks, two for what stays of the last leaf, and 64 of the twig's own
abbrev pub numbers_to_turn : Body → Edits → ℕ
numbers_to_turn b e = blocks_turned b e + 66

-- The twig may be packed anew, whatever stays of the leaves is made of, and there are numbers for
-- it.
pub record CanTurnOut (b : Body) (e : Edits) (t : Store Value) (r : Root) (x : Turn) (f : Fresh)
    (w : WorkingSet) : Type 0 where
  pub first : Key
  pub turning : IsTurningBody b first
  pub turn : IsTurnFor b x
  pub turns : (s : Kept) → AreKept b x s → CanRegraftAll t r (turns_to b e x s) f w
  pub low : 2 ^ 63 ≤ f.next
  pub numbers : f.next + numbers_to_turn b e ≤ f.end

-- The set is measured, and nothing more comes of leaves and blocks. Such a twig stands, and its
-- pieces need no more than 16000 bytes, and what comes beside it is in the budget, whatever stays
-- of the leaves is made of. There are numbers.
pub record MayTurnOut (b : Body) (first : Key) (e : Edits) (t : Store Value) (r : Root) (x : Turn)
    (f : Fresh) (w : WorkingSet) (u : Budget) : Type 0 where
  pub turning : IsTurningBody b first
  pub measured : IsMeasured t r f w u
  pub quiet : IsQuietBelow u
  pub turn : IsTurnIn b w x
  pub room : (s : Kept) → AreKept b x s → twig_bytes (told_pieces b e x s) ≤ 16000
  pub come : (s : Kept) → AreKept b x s → extra_twigs (told_pieces b e x s) ≤ u 2 x.twig.id
  pub unplaced : AreUnplaced f
  pub numbers : f.next + numbers_to_turn b e ≤ f.end

-- ---- what was done

-- The twig's pieces, what goes and comes below it, and what stays of its leaves, as they are made
-- for the turn.
pub record IsMadeFor (b : Body) (e : Edits) (x : Turn) (f after : Fresh)
    (pieces : List TwigPiece) (beside : Beside) (cells : List CellSeen) : Type 0 where
  pub kept : Kept
  pub are : AreKept b x kept
  pub pieces_are : pieces ≡ (turning_turn b e x kept).pieces f.next
  pub beside_is : beside ≡ (turning_turn b e x kept).beside f.next
  pub cells_are : cells ≡ kept_cells (numbered x (f.next + blocks_turned b e) kept)
  pub left : after ≡ record f { next = f.next + (blocks_turned b e + 2) }

-- The turn was done. These cells stand in the place of the leaves.
pub record HasTurnedOut (b : Body) (e : Edits) (x : Turn) (f after : Fresh) (w now : WorkingSet)
    (cells : List CellSeen) : Type 0 where
  pub kept : Kept
  pub are : AreKept b x kept
  pub turned : (t : Store Value) (r : Root) → CanTurnOut b e t r x f w
      → AreTurned t r (turns_to b e x kept) f w now
  pub cells_are : cells ≡ kept_cells (numbered x (f.next + blocks_turned b e) kept)
  pub left : after ≡ behind (turning_turn b e x kept) f
