use Rattle.std.proofs.Common.{◌≡◌, map, true, ap, subst}
use Rattle.std.specs.Arc.{arc_value}
use Rattle.std.specs.Prelude.{◌↔◌}
use Rattle.r4_extent_put.specs.r4_extent_change.r4_measure.r4_cell.Seen.{CellSeen}
use Rattle.r4_allowed.specs.Allowing.{BearsBy}
use Rattle.r4_allowed.proofs.Searching.{all_later, not_first}
use Rattle.r4_allowed.proofs.checking.+all_bear.Goals as goal

pub returns-then-bears : goal.returns-then-bears
returns-then-bears t c =
    all_later (BearsBy c.args.table.now) (arc_value c.in-Some.first.now) (map (λ x. arc_value x) c.in-Some.rest.now)
    (map (λ x. arc_value x) c.args.cells.now) (ap (map (λ x. arc_value x)) c.in-Some.ensures.cases.0) c.bears.result c.all_bear.result c.if-bears.true
    (subst (λ (x : CellSeen). (c.bears.result ≡ true) ↔ BearsBy c.args.table.now x) c.deref.ensures c.bears.ensures) c.all_bear.ensures

pub returns-else-bears : goal.returns-else-bears
returns-else-bears t c =
    not_first (BearsBy c.args.table.now) (arc_value c.in-Some.first.now) (map (λ x. arc_value x) c.in-Some.rest.now)
    (map (λ x. arc_value x) c.args.cells.now) (ap (map (λ x. arc_value x)) c.in-Some.ensures.cases.0) c.bears.result c.if-bears.false
    (subst (λ (x : CellSeen). (c.bears.result ≡ true) ↔ BearsBy c.args.table.now x) c.deref.ensures c.bears.ensures)
