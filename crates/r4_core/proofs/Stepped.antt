-- What a step of a commit does, by the commit that a core has.
use Rattle.std.proofs.Common.{◌≡◌, ℕ, true, false, Option, Some, None, refl, sym, ◌∙◌, ap, subst}
use Rattle.std.specs.Option.{is_some}
use Rattle.r4_base.specs.declared.things.AtomNo.{AtomNo}
use Rattle.r4_ready.specs.r4_commit.Planned.{CommitSeen}
use Rattle.r4_outside.specs.Device.{State}
use Rattle.r4_ready.specs.r4_kept.Kept.{IsKept}
use Rattle.r4_ready.specs.r4_kept.Naming.{Naming}
use Rattle.r4_ready.specs.r4_kept.Steps.{IsAdvanced, IsAtNothing, IsAtPlan, StepsBy, TakesStep, Writes, WritesNothing, emptied}
use Rattle.r4_ready.specs.r4_kept.View.{CoreSeen, committing}
use Rattle.r4_ready.specs.r4_kept.declared.parts.Commit.{Commit}
use Rattle.r4_ready.specs.r4_kept.declared.parts.Step.{Step}
use Rattle.r4_ready.specs.r4_kept.declared.parts.Step.TheVariants.{Committed, Idle}

module _ {D : Type 0} (r : Naming) (d : State) (c : CoreSeen D) (h : IsKept r d c) (k : Commit)
    (at : c.commit ≡ Some k) where
  -- while a commit is under way no call failed
  sound : c.broken ≡ None
  sound = by c.broken refl
    where
      by : (o : Option ℕ) → c.broken ≡ o → c.broken ≡ None
      by None is = is
      by (Some clock) is = absurd (cc (sym (ap committing at) ∙ (h.history.told None tt).commit.none clock is))

  pub at_plan : is_some k.work ≡ true → IsAtPlan c
  at_plan some = by k.work refl some
    where
      by : (o : Option CommitSeen) → k.work ≡ o → is_some o ≡ true → IsAtPlan c
      by None is has = absurd (cc has)
      by (Some w) is has = (k, w, record { sound = sound; commit = at; work = is })

  pub at_nothing : is_some k.work ≡ false → IsAtNothing c
  at_nothing not_some = by k.work refl not_some
    where
      by : (o : Option CommitSeen) → k.work ≡ o → is_some o ≡ false → IsAtNothing c
      by None is none = (k, record { sound = sound; commit = at; nothing = is })
      by (Some w) is none = absurd (cc none)

  module _ (e : State) (new : CoreSeen D) where
    pub stepped : (step : Step) → is_some k.work ≡ true
        → ((m : Commit) (w : CommitSeen) → Writes c m w → IsAdvanced d e c new m w step)
        → TakesStep d e c new c.commit step
    stepped step some all = subst (λ (o : Option Commit). TakesStep d e c new o step) (sym at) (by k.work refl some)
      where
        by : (o : Option CommitSeen) → k.work ≡ o → is_some o ≡ true → StepsBy d e c new k k.work step
        by None is has = absurd (cc has)
        by (Some w) is has =
            subst (λ (o : Option CommitSeen). StepsBy d e c new k o step) (sym is)
            (all k w (record { sound = sound; commit = at; work = is }))

    pub never_idle : (step : Step) → is_some k.work ≡ true
        → ((m : Commit) (w : CommitSeen) → Writes c m w → IsAdvanced d e c new m w step)
        → (step ≡ Idle → c.commit ≡ None) × (c.commit ≡ None → step ≡ Idle)
    never_idle step some all = (
      (λ is. absurd (by k.work refl some is)),
      (λ none. absurd (cc (sym at ∙ none))),
    )
      where
        by : (o : Option CommitSeen) → k.work ≡ o → is_some o ≡ true → step ≡ Idle → ⊥
        by None is has idle = cc has
        by (Some w) is has idle =
            subst (IsAdvanced d e c new k w) idle (all k w (record { sound = sound; commit = at; work = is }))

    pub ended : (atom : AtomNo) → is_some k.work ≡ false
        → ((m : Commit) → WritesNothing c m → (new ≡ emptied c m d.clock) × (atom ≡ m.atom))
        → TakesStep d e c new c.commit (Committed atom)
    ended atom not_some all =
        subst (λ (o : Option Commit). TakesStep d e c new o (Committed atom)) (sym at) (by k.work refl not_some)
      where
        by : (o : Option CommitSeen) → k.work ≡ o → is_some o ≡ false → StepsBy d e c new k k.work (Committed atom)
        by (Some w) is none = absurd (cc none)
        by None is none =
            let both = all k (record { sound = sound; commit = at; nothing = is }) in
            subst (λ (o : Option CommitSeen). StepsBy d e c new k o (Committed atom)) (sym is)
            (ap (λ (a : AtomNo). Committed a) both.1, both.0)
