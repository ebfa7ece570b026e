use Rattle.std.proofs.Common.{map, rules, subst}
use Rattle.std.specs.Arc.{arc_value}
use Rattle.std.specs.List.Sorted.{IsPermutation}
use Rattle.std.proofs.lemmas.List.Sorted.{IsNonDecreasingBy-from_sort_by, IsPermutation-map}
use Rattle.r4_spared.specs.r4_work.Order.{place}
use Rattle.r4_spared.proofs.r4_work.Halving.{order_shown}
use Rattle.r4_reaching.proofs.Gathered.{all_met}
use Rattle.r4_reaching.proofs.gathering.in_order.Goals as goal

pub returns-clause-all : goal.returns-clause-all
returns-clause-all c =
    all_met c.args.met.now.entries c.requires.numbers c.in_ok-cells.ensures.unique
    (map (λ x. arc_value x) c.sort_unstable_by.new.self.items)
    (subst (λ ys. IsPermutation ys (map (λ x. arc_value x) c.sort_unstable_by.new.self.items)) c.in_ok-cells.ensures.cells
    (IsPermutation-map (λ x. arc_value x) c.in_ok-cells.cells.items c.sort_unstable_by.new.self.items
    c.sort_unstable_by.ensures.permutation))

pub returns-clause-order : goal.returns-clause-order
returns-clause-order c =
    order_shown (λ x. arc_value x) c.sort_unstable_by.new.self.items
    (IsNonDecreasingBy-from_sort_by (λ x. place (arc_value x)) c.sort_unstable_by.new.self.items
    c.sort_unstable_by.ensures.sorted (λ a r f' k. search rules))
