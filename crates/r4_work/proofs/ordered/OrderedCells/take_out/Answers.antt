use Rattle.std.proofs.Common.{◌≡◌, ◌∙◌, map, not, rules, subst, sym, ap}
use Rattle.std.specs.Arc.{arc_value}
use Rattle.std.specs.List.{filter}
use Rattle.std.specs.Prelude.{◌==◌}
use Rattle.std.proofs.lemmas.List.Kept.{IsNonDecreasingBy-filter}
use Rattle.r4_work.specs.Order.{AreInOrder, place}
use Rattle.r4_work.proofs.Halving.{bound_in, ends_before, ends_by, in_turn, taken_out}
use Rattle.r4_work.proofs.ordered.OrderedCells.take_out.Goals as goal
use Rattle.r4_work.proofs.ordered.OrderedCells.take_out.Goals.{After-drop-drain}

pub drain-requires-clause-start_le_end : goal.drain-requires-clause-start_le_end
drain-requires-clause-start_le_end c =
    in_turn (λ y. arc_value y) c.self.inside.cells.items (place c.args.cell.now) c.partition_point-from.result c.partition_point-to.result
    (bound_in c.self.inside.cells.items c.deref.result.now c.partition_point-from.result c.deref.ensures.value c.partition_point-from.ensures.bound)
    (ends_before (λ y. arc_value y) (place c.args.cell.now) c.self.inside.cells.items c.deref.result.now c.partition_point-from.result
    c.deref.ensures.value c.self.invariant c.partition_point-from.ensures.partitioned (λ a r f' k. search rules))
    (ends_by (λ y. arc_value y) (place c.args.cell.now) c.self.inside.cells.items c.deref-2.result.now c.partition_point-to.result
    c.deref-2.ensures.value c.self.invariant c.partition_point-to.ensures.partitioned (λ a r f' k. search rules))

left : (c : After-drop-drain) → map (λ y. arc_value y) c.drop-drain.new.self.0.items
    ≡ filter (λ x. not (place c.args.cell.now == place x)) (map (λ y. arc_value y) c.self.inside.cells.items)
left c =
    ap (map (λ y. arc_value y)) (c.drop-drain.ensures.items ∙ c.drain.ensures.kept)
    ∙ taken_out (λ y. arc_value y) c.self.inside.cells.items (place c.args.cell.now) c.partition_point-from.result c.partition_point-to.result
    (bound_in c.self.inside.cells.items c.deref.result.now c.partition_point-from.result c.deref.ensures.value c.partition_point-from.ensures.bound)
    (ends_before (λ y. arc_value y) (place c.args.cell.now) c.self.inside.cells.items c.deref.result.now c.partition_point-from.result
    c.deref.ensures.value c.self.invariant c.partition_point-from.ensures.partitioned (λ a r f' k. search rules))
    (ends_by (λ y. arc_value y) (place c.args.cell.now) c.self.inside.cells.items c.deref-2.result.now c.partition_point-to.result
    c.deref-2.ensures.value c.self.invariant c.partition_point-to.ensures.partitioned (λ a r f' k. search rules))
    (bound_in c.self.inside.cells.items c.deref-2.result.now c.partition_point-to.result c.deref-2.ensures.value c.partition_point-to.ensures.bound)

pub invariant_of-self : goal.invariant_of-self
invariant_of-self c =
    subst AreInOrder (sym (left c))
    (IsNonDecreasingBy-filter place (λ x. not (place c.args.cell.now == place x)) (map (λ y. arc_value y) c.self.inside.cells.items) c.self.invariant)

pub returns : goal.returns
returns c = left c ∙ ap (filter (λ x. not (place c.args.cell.now == place x))) c.self.view_is
