use Rattle.std.proofs.Common.{◌≡◌, ◌↔◌, ◌+◌, ◌-◌, ◌*◌, ◌/◌, ◌%◌, ◌^◌, ◌≤◌, ℕ, Bool, false, true, nat_lt, ◌∙◌, refl, sym}
use Rattle.std.proofs.Common.{ap, subst, arith, rules}
use Rattle.std.proofs.lemmas.Bool.{both_ways}
use Rattle.r4_base.proofs.Keys.{is_key}
use Rattle.r4_base.specs.Key.{rank}
use Rattle.r4_leaf_demands.specs.Touching.{HasKind}
use Rattle.r4_leaf_demands.proofs.BodyKeys.{below_all, body_next, first_number, none_next}
use Rattle.r4_leaf_demands.proofs.bodies.has_body.Goals as goal

pub returns-in-Some : goal.returns-in-Some
returns-in-Some c =
    let a = rank c.args.from in
    let b = rank c.args.to in
    let first = first_number c.args.from c.is_of.ensures.key in
    let told = c.in-Some.ensures in
    let next : c.in-Some.next ≡ a / 2 ^ 192 + (20 - a / 2 ^ 192 % 16) % 16 = told.1
    ∙ ap (λ (n : ℕ). n + (20 - n % 16) % 16) first in
    let none = sym c.is_of.ensures.same ∙ c.if-is_of.false in
    let same : c.is_below.result ≡ nat_lt (c.in-Some.next * 2 ^ 192) b = c.is_below.ensures
    ∙ ap (λ (n : ℕ). nat_lt n b) c.first_of.ensures in
    subst (λ (t : Bool). (t ≡ true) ↔ HasKind true a b) (sym same) (body_next a b c.in-Some.next none next)

pub returns-in-None : goal.returns-in-None
returns-in-None c =
    let a = rank c.args.from in
    let b = rank c.args.to in
    let first = first_number c.args.from c.is_of.ensures.key in
    let told = c.in-None.ensures in
    let none = sym c.is_of.ensures.same ∙ c.if-is_of.false in
    let big : 2 ^ 64 ≤ a / 2 ^ 192 + (20 - a / 2 ^ 192 % 16) % 16 = subst
    (λ (n : ℕ). 2 ^ 64 ≤ n + (20 - n % 16) % 16) first (omega (arith, told)) in
    let key = is_key c.args.to (search rules) (search rules) (search rules) (search rules) (search rules) in (
      (λ e. absurd (both_ways false refl e)),
      (λ h. absurd (none_next a b 0 (below_all c.args.to key) big h)),
    )
