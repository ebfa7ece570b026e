use Rattle.std.proofs.Common.{◌≡◌, inl, inr, ◌+◌, ◌∷◌, List, drop, map, sym, ap, subst, ◌∙◌}
use Rattle.std.specs.Arc.{arc_value}
use Rattle.r4_turned_tasks.proofs.r4_extent_put.r4_extent_growth.AllTurn.{rest_is}
use Rattle.r4_turned_tasks.proofs.r4_extent_put.r4_extent_growth.r4_measure.r4_patch.Members.{cases}
use Rattle.r4_turned_tasks.specs.r4_extent_put.r4_extent_growth.r4_measure.r4_cell.Seen.{CellSeen}
use Rattle.r4_turned_tasks.specs.r4_extent_put.r4_extent_growth.r4_measure.r4_path.Sharing.{IsSound}
use Rattle.r4_put_tasks.specs.Put.{TwigsMayStand}
use Rattle.r4_put_tasks.proofs.standing.look_at_twigs.Goals as goal

pub loop-cell-preserved : goal.loop-cell-preserved
loop-cell-preserved c =
    let i = c.loop-cell.cell-index in
    let first : CellSeen = arc_value c.cell-item.result in
    let rest : List CellSeen = map (λ x. arc_value x) (drop (i + 1) c.args.cells.now) in
    let is : map (λ x. arc_value x) (drop i c.args.cells.now) ≡ first ∷ rest
    = rest_is (λ x. arc_value x) c.args.cells.now i _ c.loop-cell-test.true first (ap (λ x. arc_value x) c.cell-item.is) in
    λ others. c.loop-cell.invariant
    (subst TwigsMayStand (sym is) (λ x at. elim (cases first x rest at) [
      | inl same ↦ λ level. subst IsSound (sym same) (c.look_at.ensures (ap (λ (y : CellSeen). y.level) (sym same) ∙ level))
      | inr more ↦ others x more
    ]))
