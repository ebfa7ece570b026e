use Rattle.std.proofs.Common.{rules}
use Rattle.std.proofs.lemmas.List.Sorted.{IsNonDecreasingBy-from_sort_by_key}
use Rattle.r4_wander.specs.Torn.{Write}
use Rattle.r4_wander.proofs.making.in_order.Goals as goal

pub returns-clause-rising : goal.returns-clause-rising
returns-clause-rising c = IsNonDecreasingBy-from_sort_by_key (λ (w : Write). w.0) _ c.in_ok-sort_by_key.ensures.sorted (λ a r q k. search rules)
