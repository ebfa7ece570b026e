-- A shift is a patch, with the effect that its pieces have.
use Rattle.std.proofs.Common.{ℕ, List, arith}
use Rattle.std.specs.Prelude.{Bool, Option}
use Rattle.r4_base.specs.Tree.{Root, Store}
use Rattle.r4_base.specs.Value.{Value}
use Rattle.r4_branch.specs.declared.piece.TwigPiece.{TwigPiece}
use Rattle.r4_cell.specs.Patch.{IsChange, patch_of}
use Rattle.r4_cell.specs.Seen.{CellSeen}
use Rattle.r4_cell.specs.declared.change.Change.{Change}
use Rattle.r4_cell.specs.declared.change.Fresh.{Fresh}
use Rattle.r4_leaf.specs.Units.{is_between}
use Rattle.r4_patch.specs.Effect.{HasEffect, Placed, in_extent}
use Rattle.r4_patch.specs.Part.{MeetsPart}
use Rattle.r4_rows.proofs.NumberedBelow.{numbered_change}
use Rattle.r4_rows.proofs.RowCells.{rows_change, rows_meet}
use Rattle.r4_rows.proofs.RowUnits.{rows_effect}
use Rattle.r4_rows.proofs.Turned.{turned}
use Rattle.r4_rows.specs.Rows.{IsRowChange, Row}
use Rattle.r4_row_edit.specs.Shifting.{HaveUnitsOf, IsShiftIn, IsShifted, PiecesTakeEffect, PiecesTurn}
use Rattle.r4_row_edit.proofs.Shifts.{in_range, shifted}

module _ (t : Store Value) (r : Root) (b : Row) (row : List CellSeen) (ps : List TwigPiece)
    (above : List (List CellSeen)) (before after : Fresh) (c : Change) (i : IsShiftIn t r b row ps above before)
    (s : IsShifted b row ps above before after c) where
  abbrev twigs : Row
  twigs = record { old = row; new = s.cells }

  is_rows : IsRowChange t r 2 b twigs s.more s.over
  is_rows = numbered_change t r 2 before.next before.end b twigs s.more s.over
      (shifted t r b row s.cells ps above before s.mid after s.more s.over i s.twigs s.climbed)

  have_units : HaveUnitsOf ps s.cells
  have_units = (
    (λ x at. (in_range 2 s.twigs.from s.twigs.to s.cells x s.twigs.twigs.has.follow at).0),
    s.twigs.twigs.has.units,
  )

  pub shift_change : IsChange c.old c.new c.root
  shift_change = rw s.old (rw s.new (rw s.root (rows_change t r 2 b twigs s.more s.over is_rows)))

  pub shift_meets : MeetsPart (patch_of c.old c.new c.root) t r
  shift_meets = rw s.old (rw s.new (rw s.root (rows_meet t r 2 b twigs s.more s.over is_rows)))

  pub shift_effect : (at : ℕ → Bool) (to : ℕ → Option (Placed Value)) → PiecesTakeEffect b row ps at to
      → HasEffect (patch_of c.old c.new c.root) at to
  shift_effect at to e = rw s.old (rw s.new (rw s.root
      (rows_effect t r 2 b twigs s.more s.over is_rows at to (omega arith) (e s.cells have_units))))

  pub shift_turn : (from to : ℕ) (values : ℕ → Option Value) → PiecesTurn b row ps from to values
      → HasEffect (patch_of c.old c.new c.root) (is_between from to) (λ k. in_extent (values k))
  shift_turn from to values e = rw s.old (rw s.new (rw s.root
      (turned t r b twigs s.more s.over from to values is_rows (e s.cells have_units))))
