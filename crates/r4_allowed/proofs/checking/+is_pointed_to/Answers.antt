use Rattle.std.proofs.Common.{◌≡◌, suc, map, true, ap, subst}
use Rattle.std.specs.Arc.{arc_value}
use Rattle.std.specs.Prelude.{◌↔◌}
use Rattle.r4_extent_put.specs.r4_extent_change.r4_measure.r4_cell.Seen.{CellSeen}
use Rattle.r4_allowed.specs.Allowing.{PointsTo}
use Rattle.r4_allowed.proofs.Searching.{one_later}
use Rattle.r4_allowed.proofs.checking.+is_pointed_to.Goals as goal

pub returns-else-points_from_above : goal.returns-else-points_from_above
returns-else-points_from_above t c =
    one_later (λ (x : CellSeen). x.level ≡ suc c.args.level) (λ (x : CellSeen). PointsTo x c.args.id.0) (arc_value c.in-Some.first.now)
    (map (λ x. arc_value x) c.in-Some.rest.now) (map (λ x. arc_value x) c.args.cells.now) c.points_from_above.result c.is_pointed_to.result
    (ap (map (λ x. arc_value x)) c.in-Some.ensures.cases.0) c.if-points_from_above.false
    (subst (λ (x : CellSeen). (c.points_from_above.result ≡ true) ↔ ((x.level ≡ suc c.args.level) × PointsTo x c.args.id.0)) c.deref.ensures c.points_from_above.ensures)
    c.is_pointed_to.ensures
