use Rattle.std.proofs.Common.{◌∙◌, [], sym, arith}
use Rattle.r4_path.specs.r4_branch.declared.piece.TwigPart.TheVariants.{Pointer}
use Rattle.r4_path.specs.r4_branch.declared.piece.TwigPiece.{TwigPiece}
use Rattle.r4_edit.proofs.CutPointers.{over_first, over_none, over_some}
use Rattle.r4_edit.proofs.cutting.pointer_at.Goals as goal
use Rattle.r4_edit.proofs.cutting.pointer_at.Goals.{else-at-gt0-via-then-at-gt0+else-ends_at, else-at-gt0-via-else-at-gt0}

abbrev unread : TwigPiece
unread = record { key = record { el = [] }; part = Pointer (record { 0 = 0 }) }

pub returns-then-ends_at : goal.returns-then-ends_at
returns-then-ends_at c = over_none c.args.pieces.now c.args.at c.args.end c.args.id.0 unread (omega arith) c.requires unread (omega arith) (sym c.ends_at.ensures ∙ c.if-ends_at.true)

pub returns : goal.returns
returns c = elim c.else-at-gt0.branch [
  | else-at-gt0-via-then-at-gt0+else-ends_at w ↦ over_some c.args.pieces.now c.args.at c.args.end c.args.id.0 unread (omega arith) c.requires unread (omega arith) (sym w.ends_at.ensures ∙ w.if-ends_at.false)
  | else-at-gt0-via-else-at-gt0 w ↦ over_first c.args.pieces.now c.args.at c.args.end c.args.id.0 unread (omega arith) c.requires (omega arith)
]
