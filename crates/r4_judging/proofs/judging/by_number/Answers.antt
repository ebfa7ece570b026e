use Rattle.std.proofs.Common.{map, rules, subst, ap, ◌∙◌}
use Rattle.std.proofs.lemmas.List.{take_all}
use Rattle.std.specs.Arc.{arc_value}
use Rattle.std.specs.List.Sorted.{IsPermutation}
use Rattle.std.proofs.lemmas.List.Sorted.{IsNonDecreasingBy-from_sort_by_key, IsPermutation-map}
use Rattle.r4_judging.proofs.Numbers.{number, order_shown}
use Rattle.r4_judging.proofs.judging.by_number.Goals as goal

pub returns-clause-same : goal.returns-clause-same
returns-clause-same c =
    subst (λ ys. IsPermutation ys (map (λ x. arc_value x) c.sort_unstable_by_key.new.self.items))
    (c.loop-cell.invariant
    ∙ ap (map (λ x. arc_value x)) (take_all c.loop-cell.cell-index c.args.met.now c.loop-cell-test.false))
    (IsPermutation-map (λ x. arc_value x) c.loop-cell.cells.items c.sort_unstable_by_key.new.self.items
    c.sort_unstable_by_key.ensures.permutation)

pub returns-clause-order : goal.returns-clause-order
returns-clause-order c =
    order_shown (λ x. arc_value x) c.sort_unstable_by_key.new.self.items
    (IsNonDecreasingBy-from_sort_by_key (λ x. number (arc_value x)) c.sort_unstable_by_key.new.self.items
    c.sort_unstable_by_key.ensures.sorted (λ a r f' k. search rules))
