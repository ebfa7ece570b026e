-- A command's change of the cells of its task, where its body comes out of tails, or had no bytes,
-- to extents below one twig (docs/volume.md, "Bodies in extents"). A key is its rank.
use Rattle.std.specs.Prelude.{◌≡◌, ℕ, ◌+◌, ◌*◌, ◌<◌, ◌≤◌, ◌++◌, ◌||◌, if◌then◌else◌, Bool, false}
use Rattle.std.specs.Prelude.{true, List, Contains, None, Option, length, nat_le, nat_lt}
use Rattle.std.specs.List.{list_any}
use Rattle.r4_base.specs.Key.{rank}
use Rattle.r4_base.specs.Tree.{Root, Store}
use Rattle.r4_base.specs.Value.{Value}
use Rattle.r4_base.specs.declared.key.Key.{Key}
use Rattle.r4_extent_shrink.specs.r4_extent_growth.r4_build.Building.{LiesInLeaf, set_by}
use Rattle.r4_content.specs.Edited.{Edits, changed, is_in}
use Rattle.r4_extent_shrink.specs.r4_extent_growth.r4_extent_build.Growing.{end_after}
use Rattle.r4_extent_shrink.specs.r4_extent_growth.r4_extent_build.Setting.{is_hole_of}
use Rattle.r4_extent_shrink.specs.r4_extent_growth.r4_extent_change.Beside.{without_bytes}
use Rattle.r4_extent_shrink.specs.r4_extent_growth.r4_extent_change.Changing.{AreMeasured}
use Rattle.r4_extent_shrink.specs.r4_extent_growth.r4_measure.Budget.{AreUnplaced, Budget, most_from}
use Rattle.r4_extent_shrink.specs.r4_extent_growth.r4_measure.Grafting.{IsQuietBelow}
use Rattle.r4_extent_shrink.specs.r4_extent_growth.r4_measure.r4_branch.Pieces.{twig_bytes}
use Rattle.r4_extent_shrink.specs.r4_extent_growth.r4_measure.r4_branch.declared.piece.TwigPiece.{TwigPiece}
use Rattle.r4_extent_shrink.specs.r4_extent_growth.r4_measure.r4_cell.Patch.{HaveNames}
use Rattle.r4_extent_shrink.specs.r4_extent_growth.r4_measure.r4_cell.Seen.{CellSeen, node_of}
use Rattle.r4_extent_shrink.specs.r4_extent_growth.r4_measure.r4_cell.declared.change.Fresh.{Fresh}
use Rattle.r4_extent_shrink.specs.r4_extent_growth.r4_measure.r4_leaf.Units.{leaf_bytes}
use Rattle.r4_extent_shrink.specs.r4_extent_growth.r4_measure.r4_patch.Effect.{Placed}
use Rattle.r4_extent_shrink.specs.r4_extent_growth.r4_measure.r4_patch.Following.{without}
use Rattle.r4_extent_shrink.specs.r4_extent_growth.r4_measure.r4_patch.Joining.{ids_of}
use Rattle.r4_extent_shrink.specs.r4_extent_growth.r4_measure.r4_path.Grafts.{extra_twigs}
use Rattle.r4_extent_shrink.specs.r4_extent_growth.r4_measure.r4_path.Sharing.{IsSound}
use Rattle.r4_extent_shrink.specs.r4_extent_growth.r4_measure.r4_path.Steps.{Follow, name_of}
use Rattle.r4_extent_shrink.specs.r4_extent_growth.r4_measure.r4_path.TwigPieces.{ArePiecesOf, twig_pieces}
use Rattle.r4_extent_shrink.specs.r4_extent_growth.r4_measure.r4_reach.Needs.{is_met, units_after}
use Rattle.r4_extent_shrink.specs.r4_extent_growth.r4_measure.r4_reach.Touched.{Body, first_byte}
use Rattle.r4_extent_shrink.specs.r4_extent_growth.r4_measure.r4_work.Working.{AreCellsIn}
use Rattle.r4_extent_turn.specs.Turning.{AreKept, IsTurningBody, Kept, Turn, blocks_turned}
use Rattle.r4_extent_turn.specs.Turning.{in_turned, last_of, leaves_of}
use Rattle.r4_extent_turn.specs.Turning.{told_pieces, turned_values as extent_values}
use Rattle.r4_extent_turn.specs.TurningIn.{numbers_to_turn}
use Rattle.r4_extent_shrink.specs.r4_extent_growth.r4_extent_build.r4_extent_edit.Turning.{AreAround}

-- ---- when it may be asked for

-- A twig among the cells names these leaves among them, which stand one beside the other: all that
-- have a key of the blocks that come. What stands at these keys are bytes that the body had before;
-- none of the twig's extents is a hole of it.
pub record IsTurnAmong (b : Body) (cells : List CellSeen) (x : Turn) : Type 0 where
  pub twig : Contains cells x.twig
  pub leaves : (c : CellSeen) → Contains (leaves_of x) c → Contains cells c
  pub pieces : ArePiecesOf x.twig (twig_pieces x.twig)
  pub level : x.twig.level ≡ 2
  pub beside : Follow 1 (rank x.leaf.lo) (rank (last_of x).hi) (leaves_of x)
  pub named : (c : CellSeen) → Contains (leaves_of x) c
      → Contains (node_of x.twig).names (name_of c)
  pub around : AreAround x.leaf x.more (first_byte b) (end_after b)
  pub short : (c : CellSeen) (k : ℕ) (v : Value) → Contains (leaves_of x) c
      → Contains (node_of c).units (k, v) → in_turned b k ≡ true → k < first_byte b + b.was
  pub no_holes : (p : TwigPiece) → Contains (twig_pieces x.twig) p → is_hole_of b p ≡ false

-- how many numbers suffice: those that the twig's turn takes, and 64 for each cell and for each of
-- the two that may stay of the leaves
abbrev pub numbers_turned : Body → Edits → List CellSeen → ℕ
numbers_turned b e cells = numbers_to_turn b e + 64 * (length cells + 2)

-- The body comes to extents. The cells are a part's and measured, and nothing comes beside leaves;
-- leaves are sound. The twig may have its turn, whatever stays of the leaves is made of: its pieces
-- need no more than 16000 bytes, and what comes beside it is in the budget. What is no byte stands
-- before the body and lies in leaves among the cells, and each of these has room for what it is to
-- have. There are numbers enough.
pub record CanTurn (b : Body) (e : Edits) (u : Budget) (t : Store Value) (r : Root) (f : Fresh)
    (cells : List CellSeen) (x : Turn) : Type 0 where
  pub first : Key
  pub turning : IsTurningBody b first
  pub cells_in : AreCellsIn t r f cells
  pub names : HaveNames cells
  pub measured : AreMeasured t r u cells
  pub quiet : IsQuietBelow u
  pub sound : (c : CellSeen) → Contains cells c → c.level ≡ 1 → IsSound c
  pub turn : IsTurnAmong b cells x
  pub bytes : (s : Kept) → AreKept b x s → twig_bytes (told_pieces b e x s) ≤ 16000
  pub come : (s : Kept) → AreKept b x s → extra_twigs (told_pieces b e x s) ≤ u 2 x.twig.id
  pub before : (k : ℕ) → is_in (changed (without_bytes e)) k ≡ true → k < first_byte b
  pub lie : (k : ℕ) → is_in (changed (without_bytes e)) k ≡ true → LiesInLeaf cells k
  pub room : (c : CellSeen) → Contains cells c → c.level ≡ 1
      → is_met (changed (without_bytes e)) (rank c.lo) (rank c.hi) ≡ true
      → leaf_bytes (units_after None (without_bytes e) (node_of c)) ≤ 4068
  pub unplaced : AreUnplaced f
  pub numbers : f.next + numbers_turned b e cells ≤ f.end

-- ---- what it does

-- the cells whose edits follow: those that are not turned, and what stays of the leaves
abbrev pub cells_after : Turn → (kept cells : List CellSeen) → List CellSeen
cells_after x kept cells = without (ids_of (leaves_of x)) cells ++ kept

-- how many cells stay of the leaves: one of the first, where it begins below the body, and one of
-- the last, where it has a unit behind the blocks that come
abbrev pub kept_most : Body → Turn → ℕ
kept_most b x =
    (if nat_lt (rank x.leaf.lo) (first_byte b) then 1 else 0)
    + (if list_any (λ u. nat_le (end_after b) u.0) (node_of (last_of x)).units then 1 else 0)

-- how many new cells come at most, and go with the leaves: for each cell what may come in its
-- place, a new root, the blocks that come, and what stays of the leaves
abbrev pub most_turned : Body → Edits → Budget → Root → List CellSeen → Turn → ℕ
most_turned b e u r cells x = most_from u r cells + blocks_turned b e + kept_most b x

-- the keys that change: those in leaves, and those of the blocks that come
abbrev pub turned_keys : Body → Edits → (key : ℕ) → Bool
turned_keys b e k = is_in (changed (without_bytes e)) k || in_turned b k

-- what stands there: what is put there, in a leaf; else the byte that is set, the one that stood in
-- the leaves, or a zero, in an extent
abbrev pub turned_values : Body → Edits → Turn → (key : ℕ) → Option (Placed Value)
turned_values b e x k =
    if is_in (changed (without_bytes e)) k then set_by (without_bytes e) k
    else extent_values b e x k
