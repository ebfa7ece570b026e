use Rattle.std.proofs.Common.{◌≡◌, ◌↔◌, ◌+◌, ◌*◌, ◌/◌, ◌^◌, ℕ, Bool, false, true, nat_lt, ◌∙◌, sym, ap, refl, subst}
use Rattle.std.proofs.Common.{arith}
use Rattle.r4_base.specs.Key.{rank}
use Rattle.r4_leaf_demands.specs.Touching.{HasKind}
use Rattle.r4_leaf_demands.proofs.BodyKeys.{first_number, of_body, other_next}
use Rattle.r4_leaf_demands.proofs.bodies.has_other.Goals as goal

pub overflow_add-from : goal.overflow_add-from
overflow_add-from c =
    let first = first_number c.args.from c.is_of.ensures.key in
    let four = of_body (rank c.args.from) (sym c.is_of.ensures.same ∙ c.if-not-is_of.false) in
    let small = c.is_of.ensures.key.small 0 in
    omega (arith, first, four, small)

pub returns : goal.returns
returns c =
    let a = rank c.args.from in
    let b = rank c.args.to in
    let first = first_number c.args.from c.is_of.ensures.key in
    let body = sym c.is_of.ensures.same ∙ c.if-not-is_of.false in
    let same : c.is_below.result ≡ nat_lt ((a / 2 ^ 192 + 1) * 2 ^ 192) b = c.is_below.ensures
    ∙ ap (λ (n : ℕ). nat_lt n b) (c.first_of.ensures ∙ ap (λ (n : ℕ). (n + 1) * 2 ^ 192) first) in
    subst (λ (t : Bool). (t ≡ true) ↔ HasKind false a b) (sym same) (other_next a b (a / 2 ^ 192 + 1) body refl)
