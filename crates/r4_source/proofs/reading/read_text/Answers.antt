use Rattle.std.proofs.Common.{◌∙◌, ap, arith}
use Rattle.r4_source.proofs.Pieces.{full_read, last_piece, next_piece, nothing_read, read_stopped}
use Rattle.r4_source.proofs.reading.read_text.Goals as goal
use Rattle.r4_source.proofs.reading.read_text.Goals.{else-pieces-test, then-pieces-test+in_ok-add_piece+then-branch-eq0}

pub pieces-init : goal.pieces-init
pieces-init g c = record {
  piece = c.in_ok-piece.ensures.len;
  read = nothing_read _ _ c.new-text.ensures.items;
}

pub returns-in_err-add_piece : goal.returns-in_err-add_piece
returns-in_err-add_piece g c =
    read_stopped _ _ _ c.pieces.text.items _ _ c.in_err-add_piece.field-0.0 _ c.pieces.invariant.read
    c.in_err-add_piece.ensures c.from_residual-in_err-add_piece.ensures.1

pub pieces-preserved : goal.pieces-preserved
pieces-preserved g c = record {
  piece = c.pieces.invariant.piece;
  read = next_piece _ _ c.pieces.text c.pieces.invariant.read c.deref_mut.result.now c.min-room.result _
      (c.deref_mut.ensures.len ∙ c.pieces.invariant.piece) (rw c.len-in-pieces.ensures at c.min-room.ensures)
      (omega (arith, c.len.ensures, c.pieces-test.true)) (omega arith) _ _ _ c.in_ok-add_piece.ensures;
}

pub returns : goal.returns
returns g c = elim c.pieces-test.branch [
  | else-pieces-test w ↦ full_read _ _ _ _ c.pieces.text w.text-is (ap g.S.Source.state w.source-is)
      c.pieces.invariant.read (omega (arith, c.len.ensures, w.pieces-test.false))
  | then-pieces-test+in_ok-add_piece+then-branch-eq0 w ↦ last_piece _ _ c.pieces.text c.pieces.invariant.read
      w.deref_mut.result.now w.min-room.result _ (w.deref_mut.ensures.len ∙ c.pieces.invariant.piece)
      (rw w.len-in-pieces.ensures at w.min-room.ensures) (omega (arith, c.len.ensures, w.pieces-test.true))
      (omega arith) _ _ _ w.add_piece.new.text _ w.text-is (ap g.S.Source.state w.source-is)
      w.if-branch-eq0.true w.in_ok-add_piece.ensures
]
