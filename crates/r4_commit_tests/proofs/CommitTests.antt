-- A writer that is not at its end, and a small plan.
use Rattle.std.proofs.Common.{◌≡◌, ◌≢◌, ℕ, zero, suc, ◌<◌, [], ◌∷◌, refl, arith}
use Rattle.std.proofs.lemmas.List.Elements.{All-same, All-cons, All-nil}
use Rattle.std.specs.Prelude.{All}
use Rattle.r4_wander.specs.Parts.{Parts, IsOrderOf}
use Rattle.r4_wander.specs.LogPlan.{parts_of}
use Rattle.r4_wander.specs.declared.plan.LogPlan.{LogPlan}
use Rattle.r4_wander.proofs.Fitting.{fits}
use Rattle.r4_wander.specs.declared.stage.Stage.TheVariants.{Footed}
use Rattle.r4_wander.specs.Progress.{FitOn, stage_at}

pub not_footed : (i k : ℕ) → stage_at i k ≢ Footed → i < 4
not_footed zero k other = omega arith
not_footed (suc zero) k other = omega arith
not_footed (suc (suc zero)) k other = omega arith
not_footed (suc (suc (suc zero))) k other = omega arith
not_footed (suc (suc (suc (suc i)))) k other = absurd (other refl)

pub fits_small : (p : LogPlan) (plan : Parts) → p.head.0 ≡ 22 → p.records ≡ 23 ∷ [] → All (λ c. c.at < 64) p.placed → All (λ w. (w.original < 64) × (w.copy < 64)) p.wandered → IsOrderOf (parts_of p) plan → FitOn 64 plan
fits_small p plan head records placed wandered order = fits 64 p (record {
  head = omega (arith, head);
  records = All-same (λ (b : ℕ). b < 64) p.records (23 ∷ []) records (All-cons (λ (b : ℕ). b < 64) 23 [] (omega arith) (All-nil (λ (b : ℕ). b < 64)));
  placed = placed;
  wandered = wandered;
}) plan (omega arith) order
