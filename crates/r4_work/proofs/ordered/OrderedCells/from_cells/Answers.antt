use Rattle.std.proofs.Common.{map, rules, subst}
use Rattle.std.specs.Arc.{arc_value}
use Rattle.std.specs.List.Sorted.{IsPermutation}
use Rattle.std.proofs.lemmas.List.Sorted.{IsNonDecreasingBy-from_sort_by, IsPermutation-map}
use Rattle.r4_work.specs.Order.{place}
use Rattle.r4_work.proofs.Halving.{order_shown}
use Rattle.r4_work.proofs.ordered.OrderedCells.from_cells.Goals as goal

pub invariant_of-result : goal.invariant_of-result
invariant_of-result c =
    order_shown (λ x. arc_value x) c.sort_unstable_by.new.self.items
    (IsNonDecreasingBy-from_sort_by (λ x. place (arc_value x)) c.sort_unstable_by.new.self.items
    c.sort_unstable_by.ensures.sorted (λ a r f' k. search rules))

pub returns-clause-same : goal.returns-clause-same
returns-clause-same c =
    subst (λ ys. IsPermutation ys (map (λ x. arc_value x) c.sort_unstable_by.new.self.items)) c.in_ok-ordered.ensures
    (IsPermutation-map (λ x. arc_value x) c.in_ok-ordered.ordered.items c.sort_unstable_by.new.self.items
    c.sort_unstable_by.ensures.permutation)

pub returns-clause-order : goal.returns-clause-order
returns-clause-order c =
    order_shown (λ x. arc_value x) c.sort_unstable_by.new.self.items
    (IsNonDecreasingBy-from_sort_by (λ x. place (arc_value x)) c.sort_unstable_by.new.self.items
    c.sort_unstable_by.ensures.sorted (λ a r f' k. search rules))
