use Rattle.std.proofs.Common.{◌≡◌, ◌+◌, ap, sym, ◌∙◌}
use Rattle.std.specs.Prelude.{nat_lt, ◌&&◌}
use Rattle.r4_base.specs.Key.{rank}
use Rattle.r4_graft.proofs.Halves.{later_rank}
use Rattle.r4_bodies.specs.r4_leaf_edits.r4_reach.Touched.{Body, first_byte}
use Rattle.r4_extent_demands.proofs.sized_body.SizedBody.had_tails.Goals as goal

pub returns-then-turns_out : goal.returns-then-turns_out
returns-then-turns_out c =
    let b = c.args.self.now in
    let was : c.self.inside.before ≡ b.was = ap (λ (x : Body). x.was) c.self.view_is in
    let end : rank c.behind.result ≡ first_byte b + b.was = ap rank c.behind.ensures
    ∙ later_rank c.first_byte.result c.self.inside.before ∙ (λ i. c.first_byte.ensures.at i + was i) in
    c.is_below.ensures ∙ ap (nat_lt (rank c.args.key)) end
    ∙ sym (λ i. (sym c.turns_out.ensures ∙ c.if-turns_out.true) i && nat_lt (rank c.args.key) (first_byte b + b.was))
