use Rattle.std.proofs.Common.{◌≡◌, map, true, ap, subst}
use Rattle.std.specs.Arc.{arc_value}
use Rattle.std.specs.Prelude.{◌↔◌}
use Rattle.r4_extent_put.specs.r4_extent_change.r4_measure.r4_cell.Seen.{CellSeen}
use Rattle.r4_allowed.proofs.Searching.{one_later}
use Rattle.r4_allowed.proofs.checking.+is_among.Goals as goal

pub returns-else-is_at : goal.returns-else-is_at
returns-else-is_at t c =
    one_later (λ (x : CellSeen). x.level ≡ c.args.level) (λ (x : CellSeen). x.id ≡ c.args.id.0) (arc_value c.in-Some.first.now)
    (map (λ x. arc_value x) c.in-Some.rest.now) (map (λ x. arc_value x) c.args.cells.now) c.is_at.result c.is_among.result
    (ap (map (λ x. arc_value x)) c.in-Some.ensures.cases.0) c.if-is_at.false
    (subst (λ (x : CellSeen). (c.is_at.result ≡ true) ↔ ((x.level ≡ c.args.level) × (x.id ≡ c.args.id.0))) c.deref.ensures c.is_at.ensures)
    c.is_among.ensures
