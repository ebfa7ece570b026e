use Rattle.std.proofs.Common.{◌∙◌, List, rules, subst, sym, ap}
use Rattle.std.specs.Arc.{arc_value}
use Rattle.r4_base.specs.Key.{rank}
use Rattle.r4_base.proofs.Keys.{is_key}
use Rattle.r4_edit.specs.r4_cell.Seen.{CellSeen}
use Rattle.r4_work.specs.Order.{AreRangesApart, IsAt, cell_at, is_at, place_of}
use Rattle.r4_work.proofs.Halving.{bound_in, ends_by, found, found_none, found_one, no_one}
use Rattle.r4_work.proofs.Places.{rank_small}
use Rattle.r4_work.proofs.ordered.OrderedCells.find.Goals as goal

pub returns-then-behind-eq0-clause-exact : goal.returns-then-behind-eq0-clause-exact
returns-then-behind-eq0-clause-exact c apart =
    let key = is_key c.args.key (search rules) (search rules) (search rules) (search rules) (search rules) in
    let within = bound_in c.self.inside.cells.items c.deref.result.now c.partition_point-behind.result c.deref.ensures.value c.partition_point-behind.ensures.bound in
    let ends = ends_by (λ y. arc_value y) (place_of c.args.level (rank c.args.key)) c.self.inside.cells.items c.deref.result.now c.partition_point-behind.result
    c.deref.ensures.value c.self.invariant c.partition_point-behind.ensures.partitioned (λ a r f' k. search rules) in
    sym (ap (λ (xs : List CellSeen). cell_at xs c.args.level (rank c.args.key)) (sym c.self.view_is)
    ∙ no_one (λ y. arc_value y) c.self.inside.cells.items c.args.level (rank c.args.key) c.partition_point-behind.result
    (rank_small c.args.key key) c.self.invariant ends within c.if-behind-eq0.true)

pub returns-then-has-clause-stands : goal.returns-then-has-clause-stands
returns-then-has-clause-stands c =
    let key = is_key c.args.key (search rules) (search rules) (search rules) (search rules) (search rules) in
    let within = bound_in c.self.inside.cells.items c.deref.result.now c.partition_point-behind.result c.deref.ensures.value c.partition_point-behind.ensures.bound in
    let ends = ends_by (λ y. arc_value y) (place_of c.args.level (rank c.args.key)) c.self.inside.cells.items c.deref.result.now c.partition_point-behind.result
    c.deref.ensures.value c.self.invariant c.partition_point-behind.ensures.partitioned (λ a r f' k. search rules) in
    subst (λ (xs : List CellSeen). IsAt xs c.args.level (rank c.args.key) (arc_value c.index-cell.result.now)) c.self.view_is
    (found (λ y. arc_value y) c.self.inside.cells.items c.args.level (rank c.args.key) c.partition_point-behind.result
    (rank_small c.args.key key) c.self.invariant ends within c.if-behind-eq0.false c.index-cell.result.now c.index-cell.ensures
    (sym c.if-has.true ∙ (c.has.ensures ∙ ap (is_at c.args.level (rank c.args.key)) c.deref-2.ensures)))

pub returns-then-has-clause-exact : goal.returns-then-has-clause-exact
returns-then-has-clause-exact c apart =
    let key = is_key c.args.key (search rules) (search rules) (search rules) (search rules) (search rules) in
    let within = bound_in c.self.inside.cells.items c.deref.result.now c.partition_point-behind.result c.deref.ensures.value c.partition_point-behind.ensures.bound in
    let ends = ends_by (λ y. arc_value y) (place_of c.args.level (rank c.args.key)) c.self.inside.cells.items c.deref.result.now c.partition_point-behind.result
    c.deref.ensures.value c.self.invariant c.partition_point-behind.ensures.partitioned (λ a r f' k. search rules) in
    sym (ap (λ (xs : List CellSeen). cell_at xs c.args.level (rank c.args.key)) (sym c.self.view_is)
    ∙ found_one (λ y. arc_value y) c.self.inside.cells.items c.args.level (rank c.args.key) c.partition_point-behind.result
    (rank_small c.args.key key) c.self.invariant ends within c.if-behind-eq0.false c.index-cell.result.now c.index-cell.ensures
    (sym c.if-has.true ∙ (c.has.ensures ∙ ap (is_at c.args.level (rank c.args.key)) c.deref-2.ensures)))

pub returns-else-has-clause-exact : goal.returns-else-has-clause-exact
returns-else-has-clause-exact c apart =
    let key = is_key c.args.key (search rules) (search rules) (search rules) (search rules) (search rules) in
    let within = bound_in c.self.inside.cells.items c.deref.result.now c.partition_point-behind.result c.deref.ensures.value c.partition_point-behind.ensures.bound in
    let ends = ends_by (λ y. arc_value y) (place_of c.args.level (rank c.args.key)) c.self.inside.cells.items c.deref.result.now c.partition_point-behind.result
    c.deref.ensures.value c.self.invariant c.partition_point-behind.ensures.partitioned (λ a r f' k. search rules) in
    sym (ap (λ (xs : List CellSeen). cell_at xs c.args.level (rank c.args.key)) (sym c.self.view_is)
    ∙ found_none (λ y. arc_value y) c.self.inside.cells.items c.args.level (rank c.args.key) c.partition_point-behind.result
    (rank_small c.args.key key) c.self.invariant ends within c.if-behind-eq0.false c.index-cell.result.now c.index-cell.ensures
    (subst AreRangesApart (sym c.self.view_is) apart)
    (sym c.if-has.false ∙ (c.has.ensures ∙ ap (is_at c.args.level (rank c.args.key)) c.deref-2.ensures)))
