use Rattle.std.proofs.Common.{◌≡◌, ◌+◌, ◌≤◌, map, drop, take, length, rules, subst, ap, sym, ◌∙◌}
use Rattle.std.specs.Prelude.{Contains}
use Rattle.std.specs.List.Sorted.{IsNonDecreasingBy}
use Rattle.std.specs.Arc.{arc_value}
use Rattle.r4_judging.proofs.Numbers.{EndsBefore, ends_before, has_near, near_has, order_hidden, rest_in_order, number}
use Rattle.r4_judging.proofs.named.numbered.Goals as goal

pub returns : goal.returns
returns c =
    let xs = c.args.cells.now in
    let a = c.partition_point.result in
    let b = c.partition_point-2.result in
    let rest : c.split_at.result.1.now ≡ drop a xs = c.split_at.ensures.back in
    let order = order_hidden (λ x. arc_value x) xs c.requires in
    let low = ends_before (λ x. arc_value x) c.args.from xs a order c.partition_point.ensures.partitioned
    (λ r s f' k. search rules) in
    let high = subst (λ zs. EndsBefore (λ x. arc_value x) (c.args.from + c.args.count) zs b) rest
    (ends_before (λ x. arc_value x) (c.args.from + c.args.count) c.split_at.result.1.now b
    (subst (λ zs. IsNonDecreasingBy (λ x. number (arc_value x)) zs) (sym rest)
    (rest_in_order (λ x. number (arc_value x)) a xs order))
    c.partition_point-2.ensures.partitioned (λ r s f' k. search rules)) in
    let short = subst (λ zs. b ≤ length zs) rest c.partition_point-2.ensures.bound in
    let same : c.split_at-2.result.0.now ≡ take b (drop a xs) = c.split_at-2.ensures.front ∙ ap (take b) rest in
    λ cell. (
      (λ at. near_has (λ x. arc_value x) c.args.from c.args.count a b xs low c.partition_point.ensures.bound short high
          cell (subst (λ zs. Contains (map (λ x. arc_value x) zs) cell) same at)),
      (λ h. subst (λ zs. Contains (map (λ x. arc_value x) zs) cell) (sym same)
          (has_near (λ x. arc_value x) c.args.from c.args.count a b xs low c.partition_point.ensures.bound short high
          cell h.0 h.1 h.2)),
    )
