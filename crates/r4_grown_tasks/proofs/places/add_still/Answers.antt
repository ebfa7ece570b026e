use Rattle.std.proofs.Common.{◌≡◌, inl, inr, ◌+◌, ◌∷◌, List, drop, map, arith, sym, ap, subst, ◌∙◌}
use Rattle.std.proofs.lemmas.Grind.{common_steps}
use Rattle.std.specs.Arc.{arc_value}
use Rattle.r4_lost_tasks.proofs.r4_extent_growth.AllTurn.{rest_is}
use Rattle.r4_lost_tasks.proofs.r4_extent_growth.r4_extent_change.r4_extent_build.r4_patch.Members.{cases}
use Rattle.r4_lost_tasks.specs.r4_extent_growth.r4_measure.r4_cell.Seen.{CellSeen}
use Rattle.r4_lost_tasks.specs.r4_extent_growth.r4_measure.r4_path.TwigPieces.{ArePiecesOf, twig_pieces}
use Rattle.r4_grown_tasks.specs.Places.{AreRead}
use Rattle.r4_grown_tasks.proofs.places.add_still.Goals as goal

pub loop-cell-preserved : goal.loop-cell-preserved
loop-cell-preserved c =
    let i = c.loop-cell.cell-index in
    let first : CellSeen = c.deref.result.now in
    let rest : List CellSeen = map (λ x. arc_value x) (drop (i + 1) c.args.reads.now) in
    let is : map (λ x. arc_value x) (drop i c.args.reads.now) ≡ first ∷ rest
    = rest_is (λ x. arc_value x) c.args.reads.now i _ c.loop-cell-test.true first
    (c.deref.ensures ∙ ap (λ x. arc_value x) c.cell-item.is) in
    record {
      added = grind (arith, common_steps);
      read = λ others. c.loop-cell.invariant.read (subst AreRead (sym is) (λ x at. elim (cases first x rest at) [
        | inl same ↦ λ level. subst (λ (y : CellSeen). ArePiecesOf y (twig_pieces y)) (sym same)
            (c.in_ok-add_still_of.ensures.read (ap (λ (y : CellSeen). y.level) (sym same) ∙ level))
        | inr more ↦ others x more
      ]));
    }
