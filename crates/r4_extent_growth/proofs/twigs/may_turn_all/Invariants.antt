use Rattle.std.proofs.Common.{◌≡◌, drop, map}
use Rattle.std.specs.Arc.{arc_value}
use Rattle.std.specs.Prelude.{Contains}
use Rattle.r4_content.specs.Held.{edits_of}
use Rattle.r4_extent_change.specs.r4_measure.r4_cell.Seen.{CellSeen}
use Rattle.r4_extent_change.specs.r4_measure.r4_path.TwigPieces.{ArePiecesOf, twig_pieces}
use Rattle.r4_extent_change.specs.Beside.{turning_among}
use Rattle.r4_extent_growth.specs.Turning.{may_turn_all}
use Rattle.r4_extent_growth.proofs.twigs.may_turn_all.Given as goal

abbrev pub invariant-loop-cell : goal.invariant-loop-cell
invariant-loop-cell l = record {
  exact : may_turn_all l.fn.body (edits_of l.fn.edits) (map (λ c. arc_value c) l.fn.cells) l.fn.numbers
      ≡ may_turn_all l.fn.body (edits_of l.fn.edits) (map (λ c. arc_value c) (drop l.cell-index l.fn.cells)) l.left;
  pieces : ((x : CellSeen) → Contains (turning_among l.fn.body (edits_of l.fn.edits) (map (λ c. arc_value c) (drop l.cell-index l.fn.cells))) x
      → ArePiecesOf x (twig_pieces x))
      → (x : CellSeen) → Contains (turning_among l.fn.body (edits_of l.fn.edits) (map (λ c. arc_value c) l.fn.cells)) x → ArePiecesOf x (twig_pieces x);
}
