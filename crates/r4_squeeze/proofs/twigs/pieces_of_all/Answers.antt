use Rattle.std.proofs.Common.{◌∙◌, ap, map, subst, sym, take, ◌++◌, ◌∷◌, []}
use Rattle.std.specs.Arc.{arc_value}
use Rattle.r4_path.specs.TwigPieces.{ArePiecesOf}
use Rattle.r4_rows.specs.Packed.{AreTheirPieces}
use Rattle.r4_squeeze.proofs.Cells.{joined_more, level_of_cell, one_more, theirs_more}
use Rattle.r4_squeeze.proofs.twigs.pieces_of_all.Goals as goal

pub pieces_of_cell-requires : goal.pieces_of_cell-requires
pieces_of_cell-requires c =
    let (from, both) = c.requires in
    let (to, follow) = both in
    ap (λ x. x.level) c.deref.ensures
    ∙ level_of_cell arc_value 2 from to c.loop-cell.cell-index c.args.slum.now c.cell-item.result follow
    c.loop-cell-test.true c.cell-item.is

pub loop-cell-preserved : goal.loop-cell-preserved
loop-cell-preserved c =
    let (each, theirs, same) = c.loop-cell.invariant in
    let more = c.in_ok-more.more.items in (
      each ++ more ∷ [],
      subst (λ cs. AreTheirPieces cs (each ++ more ∷ []))
          (sym (one_more arc_value c.args.slum.now c.loop-cell.cell-index c.cell-item.result
          c.loop-cell-test.true c.cell-item.is))
          (theirs_more (map arc_value (take c.loop-cell.cell-index c.args.slum.now)) each (arc_value c.cell-item.result)
          more theirs (subst (λ x. ArePiecesOf x more) c.deref.ensures c.in_ok-more.ensures)),
      c.in_ok-append.ensures.items ∙ (ap (λ ps. ps ++ more) same ∙ sym (joined_more each more)),
    )
