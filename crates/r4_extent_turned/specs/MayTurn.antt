-- When a command's whole change may be made of the cells of its task, where its body comes to
-- extents, as far as these cells tell it (docs/volume.md, "Bodies in extents"). A key is its rank.
use Rattle.std.specs.Prelude.{◌≡◌, ℕ, ◌+◌, ◌<◌, ◌≤◌, ◌&&◌, Bool, false, true, List, [], ◌∷◌}
use Rattle.std.specs.Prelude.{Contains, None}
use Rattle.std.specs.List.{list_all}
use Rattle.r4_base.specs.Key.{rank}
use Rattle.r4_base.specs.Value.{Value}
use Rattle.r4_base.specs.declared.key.Key.{Key}
use Rattle.r4_content.specs.Edited.{Edits, changed, is_in}
use Rattle.r4_extent_shrink.specs.r4_extent_growth.r4_build.Building.{LiesInLeaf}
use Rattle.r4_extent_shrink.specs.r4_extent_growth.r4_extent_build.Growing.{end_after}
use Rattle.r4_extent_shrink.specs.r4_extent_growth.r4_extent_build.Setting.{is_hole_of}
use Rattle.r4_extent_shrink.specs.r4_extent_growth.r4_extent_build.r4_extent_edit.Turning.{AreAround}
use Rattle.r4_extent_shrink.specs.r4_extent_growth.r4_extent_change.Beside.{without_bytes}
use Rattle.r4_extent_shrink.specs.r4_extent_growth.Lying.{have_room, lie_in_leaves}
use Rattle.r4_extent_shrink.specs.r4_extent_growth.r4_measure.r4_branch.Pieces.{twig_bytes}
use Rattle.r4_extent_shrink.specs.r4_extent_growth.r4_measure.r4_branch.declared.piece.TwigPiece.{TwigPiece}
use Rattle.r4_extent_shrink.specs.r4_extent_growth.r4_measure.r4_cell.Seen.{CellSeen, node_of}
use Rattle.r4_extent_shrink.specs.r4_extent_growth.r4_measure.r4_cell.declared.change.Fresh.{Fresh}
use Rattle.r4_extent_shrink.specs.r4_extent_growth.r4_measure.r4_leaf.Units.{leaf_bytes}
use Rattle.r4_extent_shrink.specs.r4_extent_growth.r4_measure.r4_path.Grafts.{extra_twigs}
use Rattle.r4_extent_shrink.specs.r4_extent_growth.r4_measure.r4_path.Sharing.{IsSound}
use Rattle.r4_extent_shrink.specs.r4_extent_growth.r4_measure.r4_path.Steps.{Follow}
use Rattle.r4_extent_shrink.specs.r4_extent_growth.r4_measure.r4_path.TwigPieces.{ArePiecesOf, twig_pieces}
use Rattle.r4_extent_shrink.specs.r4_extent_growth.r4_measure.r4_reach.Needs.{is_met, units_after}
use Rattle.r4_extent_shrink.specs.r4_extent_growth.r4_measure.r4_reach.Touched.{Body, first_byte, turns_out}
use Rattle.r4_extent_shrink.specs.r4_extent_growth.r4_measure.r4_work.Order.{HasKey}
use Rattle.r4_extent_turn.specs.Turning.{IsTurningBody, Turn, in_turned, last_of, leaves_of}
use Rattle.r4_extent_turned.specs.Suiting.{changes_before, has_leaves, leaves_suit, pieces_turned}
use Rattle.r4_extent_turned.specs.Suiting.{twig_suits}
use Rattle.r4_extent_turned.specs.Whole.{numbers_turned}

-- The body comes to extents. What is no byte lies in leaves, which have room for it, and before the
-- body. The leaves that are turned lie one beside the other around the blocks that come, and have
-- no unit there behind the body. The twig has their keys, and has room; there are numbers enough.
abbrev pub may_turn : Body → Edits → Fresh → List CellSeen → Turn → Bool
may_turn b e f cells x =
    (turns_out b && lie_in_leaves cells e)
    && ((have_room (without_bytes e) cells && list_all (changes_before b (without_bytes e)) cells)
    && (has_leaves b x.twig (last_of x)
    && (leaves_suit b x.leaf x.more && twig_suits b e f cells x.twig (last_of x))))

-- The same, in the words of `CanTurn`: all that it asks, but for what is known of the part of a
-- tree in which the cells stand, and of the budget.
pub record MayTurnWhole (b : Body) (e : Edits) (f : Fresh) (cells : List CellSeen) (x : Turn)
    : Type 0 where
  pub first : Key
  pub turning : IsTurningBody b first
  pub sound : (c : CellSeen) → Contains cells c → c.level ≡ 1 → IsSound c
  pub pieces : ArePiecesOf x.twig (twig_pieces x.twig)
  pub level : x.twig.level ≡ 2
  pub begins : HasKey x.twig (first_byte b)
  pub reaches : rank (last_of x).lo < rank x.twig.hi
  pub beside : Follow 1 (rank x.leaf.lo) (rank (last_of x).hi) (leaves_of x)
  pub around : AreAround x.leaf x.more (first_byte b) (end_after b)
  pub short : (c : CellSeen) (k : ℕ) (v : Value) → Contains (leaves_of x) c
      → Contains (node_of c).units (k, v) → in_turned b k ≡ true → k < first_byte b + b.was
  pub no_holes : (p : TwigPiece) → Contains (twig_pieces x.twig) p → is_hole_of b p ≡ false
  pub bytes : twig_bytes (pieces_turned b e x.twig (last_of x)) ≤ 16000
  pub before : (k : ℕ) → is_in (changed (without_bytes e)) k ≡ true → k < first_byte b
  pub lie : (k : ℕ) → is_in (changed (without_bytes e)) k ≡ true → LiesInLeaf cells k
  pub room : (c : CellSeen) → Contains cells c → c.level ≡ 1
      → is_met (changed (without_bytes e)) (rank c.lo) (rank c.hi) ≡ true
      → leaf_bytes (units_after None (without_bytes e) (node_of c)) ≤ 4068
  pub numbers : f.next + numbers_turned b e cells ≤ f.end

-- the twig's number, and how many twigs may come beside it once it has had its turn
abbrev pub coming_turned : Body → Edits → Turn → ℕ × ℕ
coming_turned b e x = (x.twig.id, extra_twigs (pieces_turned b e x.twig (last_of x)))

-- those of the one twig
abbrev pub twig_turning : Body → Edits → Turn → List (ℕ × ℕ)
twig_turning b e x = coming_turned b e x ∷ []
