use Rattle.std.proofs.Common.{◌≡◌, ◌↔◌, List, Bool, true, false, MatchBool, IsTrue, ℕ, nat_eq, sym, ◌∙◌, subst}
use Rattle.std.proofs.lemmas.Bool.{eqb-true, eqb-false}
use Rattle.r4_wander.specs.Parts.{FallsOn, Parts}
use Rattle.r4_wander.specs.Progress.{Progress}
use Rattle.r4_wander.specs.Torn.{IsTarget, Write}
use Rattle.r4_wander.proofs.Found.{falls_nowhere, falls_on_footer, falls_on_header}
use Rattle.r4_wander.proofs.writer.Writer.falls_on.Goals as goal
use Rattle.r4_wander.proofs.writer.Writer.falls_on.Goals.{then-is_among-via-else-is_among+then-is_among-2}
use Rattle.r4_wander.proofs.writer.Writer.falls_on.Goals.{then-is_among-via-then-is_among}

-- the slice is the part's
found : (t : Bool) (slice part : List Write) (b : ℕ) → IsTrue t ↔ IsTarget slice b → slice ≡ part → t ≡ true
    → IsTarget part b
found t slice part b both same is = subst (λ (l : List Write). IsTarget l b) same (both.0 is)

missed : (t : Bool) (slice part : List Write) (b : ℕ) → IsTrue t ↔ IsTarget slice b → slice ≡ part → t ≡ false
    → IsTarget part b → ⊥
missed t slice part b both same not is =
    absurd (cc (sym not ∙ both.1 (subst (λ (l : List Write). IsTarget l b) (sym same) is)))

pub returns-then-is_among : goal.returns-then-is_among
returns-then-is_among c = elim c.then-is_among.branch [
  | then-is_among-via-then-is_among w ↦
      subst (λ (p : Progress). FallsOn p.plan c.args.block.0) c.self.view_is
      (0, found c.is_among.result _ _ c.args.block.0 c.is_among.ensures c.as_slice.ensures.value w.if-is_among.true)
  | then-is_among-via-else-is_among+then-is_among-2 w ↦
      subst (λ (p : Progress). FallsOn p.plan c.args.block.0) c.self.view_is (
        2,
        found w.is_among-else-is_among.result _ _ c.args.block.0 w.is_among-else-is_among.ensures
            w.as_slice-else-is_among.ensures.value w.if-is_among-2.true,
      )
]

pub returns-then-eq : goal.returns-then-eq
returns-then-eq c =
    let is : c.args.block.0 ≡ 19 = eqb-true c.args.block.0 19 (sym c.eq.ensures ∙ c.if-eq.true) in
    subst (λ (t : Bool). MatchBool t (FallsOn c.args.self.now.plan c.args.block.0)
    (FallsOn c.args.self.now.plan c.args.block.0 → ⊥)) (sym c.if-eq.true)
    (falls_on_header c.args.self.now.plan c.args.block.0 is)

pub returns-else-eq : goal.returns-else-eq
returns-else-eq c = by c.eq-else-eq.result c.eq-else-eq.ensures
  where
    plan : Parts
    plan = c.args.self.now.plan

    b : ℕ
    b = c.args.block.0

    by : (t : Bool) → t ≡ nat_eq b 20 → MatchBool t (FallsOn plan b) (FallsOn plan b → ⊥)
    by true is = falls_on_footer plan b (eqb-true b 20 (sym is))
    by false is =
        subst (λ (p : Progress). FallsOn p.plan b → ⊥) c.self.view_is
        (falls_nowhere _ b
        (missed c.is_among.result _ _ b c.is_among.ensures c.as_slice.ensures.value c.if-is_among.false)
        (missed c.is_among-else-is_among.result _ _ b c.is_among-else-is_among.ensures
        c.as_slice-else-is_among.ensures.value c.if-is_among-2.false)
        (eqb-false b 19 (sym c.eq.ensures ∙ c.if-eq.false)) (eqb-false b 20 (sym is)))
