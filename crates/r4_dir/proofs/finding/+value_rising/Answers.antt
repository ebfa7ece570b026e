use Rattle.std.proofs.Common.{rules, ◌≡◌, ◌+◌, ◌/◌, ◌∙◌, arith}
use Rattle.r4_base.specs.Key.{rank}
use Rattle.r4_dir.proofs.Halves.{left_at, left_half, middle_at, none_too, right_at, right_half, some_too}
use Rattle.r4_dir.proofs.finding.+value_rising.Goals as goal

pub value_rising-requires : goal.value_rising-requires
value_rising-requires t c = (search rules, left_half c.args.parts.now _ c.index-parts-half.result (rank c.in-Some.first) (rank c.args.key) (search rules) c.index-parts-half.is c.in-Some.ensures c.requires)

pub value_rising-requires-else-is_below : goal.value_rising-requires-else-is_below
value_rising-requires-else-is_below t c = (search rules, right_half c.args.parts.now _ c.index-parts-half.result (rank c.in-Some.first) (rank c.args.key) (search rules) c.index-parts-half.is c.in-Some.ensures c.requires)

pub returns-then-is_same-clause-some : goal.returns-then-is_same-clause-some
returns-then-is_same-clause-some t c =
    some_too (λ v. v.now) c.value_in.result _ _ (middle_at c.args.parts.now _ c.index-parts-half.result (rank c.in-Some.first) (rank c.args.key) (search rules) c.index-parts-half.is c.in-Some.ensures c.requires c.if-is_same.ensures.ranks) c.value_in.ensures.some

pub returns-then-is_same-clause-none : goal.returns-then-is_same-clause-none
returns-then-is_same-clause-none t c = none_too c.value_in.result _ _ (middle_at c.args.parts.now _ c.index-parts-half.result (rank c.in-Some.first) (rank c.args.key) (search rules) c.index-parts-half.is c.in-Some.ensures c.requires c.if-is_same.ensures.ranks) c.value_in.ensures.none

pub returns-then-is_below-clause-some : goal.returns-then-is_below-clause-some
returns-then-is_below-clause-some t c =
    some_too (λ v. v.now) c.value_rising.result _ _ (left_at c.args.parts.now _ c.index-parts-half.result (rank c.in-Some.first) (rank c.args.key) (search rules) c.index-parts-half.is c.in-Some.ensures c.requires c.if-is_below.ensures) c.value_rising.ensures.some

pub returns-then-is_below-clause-none : goal.returns-then-is_below-clause-none
returns-then-is_below-clause-none t c = none_too c.value_rising.result _ _ (left_at c.args.parts.now _ c.index-parts-half.result (rank c.in-Some.first) (rank c.args.key) (search rules) c.index-parts-half.is c.in-Some.ensures c.requires c.if-is_below.ensures) c.value_rising.ensures.none

pub returns-else-is_below-clause-some : goal.returns-else-is_below-clause-some
returns-else-is_below-clause-some t c =
    some_too (λ v. v.now) c.value_rising-else-is_below.result _ _ (right_at c.args.parts.now _ c.index-parts-half.result (rank c.in-Some.first) (rank c.args.key) (search rules) c.index-parts-half.is c.in-Some.ensures c.requires c.if-is_below.ensures c.if-is_same.ensures.ranks) c.value_rising-else-is_below.ensures.some

pub returns-else-is_below-clause-none : goal.returns-else-is_below-clause-none
returns-else-is_below-clause-none t c = none_too c.value_rising-else-is_below.result _ _ (right_at c.args.parts.now _ c.index-parts-half.result (rank c.in-Some.first) (rank c.args.key) (search rules) c.index-parts-half.is c.in-Some.ensures c.requires c.if-is_below.ensures c.if-is_same.ensures.ranks) c.value_rising-else-is_below.ensures.none
