use Rattle.std.proofs.Common.{rules, ◌+◌, ◌^◌, sym, ◌∙◌}
use Rattle.std.specs.Prelude.{nat_le, nat_lt}
use Rattle.std.proofs.lemmas.Bool.{and_parts, leb-true, ltb-true}
use Rattle.r4_base.proofs.Keys.{is_key}
use Rattle.r4_base.specs.Key.{rank}
use Rattle.r4_content.specs.Edited.{is_between}
use Rattle.r4_bodies.specs.r4_leaf_edits.r4_reach.Touched.{first_byte}
use Rattle.r4_extent_demands.proofs.Firsts.{minor_is}
use Rattle.r4_extent_demands.proofs.Low.{of_body}
use Rattle.r4_extent_demands.proofs.sized_body.SizedBody.has.Goals as goal

pub returns-clause-body : goal.returns-clause-body
returns-clause-body c = λ t.
    let b = c.args.self.now in
    let k = c.args.key in
    let all = c.all_keys-all.ensures in
    let is = c.has.ensures ∙ (λ i. is_between (all.from i) (all.to i) (rank k)) in
    let (low, high) = and_parts (nat_le (first_byte b) (rank k)) (nat_lt (rank k) (first_byte b + 2 ^ 64)) (sym is ∙ t) in
    minor_is k (is_key k (search rules) (search rules) (search rules) (search rules) (search rules))
    (of_body b c.all_keys-all.result.from all.first (rank k) (leb-true (first_byte b) (rank k) low)
    (ltb-true (rank k) (first_byte b + 2 ^ 64) high))
