-- Changes of units, one after another.
use Rattle.std.proofs.Common.{◌≡◌, ℕ, Bool, true, false, refl, sym, ◌∙◌}
use Rattle.std.specs.Prelude.{◌||◌, Option, if◌then◌else◌}
use Rattle.r4_base.specs.Value.{Value}
use Rattle.r4_extent_demands.specs.r4_cell.Patch.{Patch}
use Rattle.r4_twig_turns.specs.r4_patch.Effect.{HasEffect, Placed, either, later}
use Rattle.r4_twig_turns.specs.r4_patch.Joining.{patch_of_change}
use Rattle.r4_twig_turns.specs.r4_work.Remaking.{Changes}
use Rattle.r4_twig_turns.specs.r4_work.declared.working.WorkingSet.{WorkingSet}

same_effect : (p : Patch Value) (at now : ℕ → Bool) (to then_to : ℕ → Option (Placed Value)) → HasEffect p at to → ((k : ℕ) → now k ≡ at k) → ((k : ℕ) → to k ≡ then_to k) → HasEffect p now then_to
same_effect p at now to then_to e same is = record {
  held = λ k h. e.held k (sym (same k) ∙ h);
  there = λ k u h. let a = sym (same k) ∙ h in (λ x. sym (is k) ∙ (e.there k u a).0 x, λ x. (e.there k u a).1 (is k ∙ x));
  others = λ k u h. e.others k u (sym (same k) ∙ h);
}

or_again : (a b c : Bool) → (a || (b || c)) ≡ ((a || b) || c)
or_again true b c = refl
or_again false b c = refl

both_set : (b c : Bool) (x y : Option (Placed Value)) → (if c then x else (if b then x else y)) ≡ (if b || c then x else y)
both_set true true x y = refl
both_set true false x y = refl
both_set false c x y = refl

-- two that set the same values
pub changes_both : (w v now : WorkingSet) (one two : ℕ → Bool) (to : ℕ → Option (Placed Value)) → Changes w v one to → Changes v now two to → Changes w now (λ k. one k || two k) to
changes_both w v now one two to c d = λ a f e.
    same_effect (patch_of_change now.change) (either (either a one) two) (either a (λ k. one k || two k)) (later two to (later one to f)) (later (λ k. one k || two k) to f)
    (d (either a one) (later one to f) (c a f e)) (λ k. or_again (a k) (one k) (two k)) (λ k. both_set (one k) (two k) (to k) (f k))

or_no : (a : Bool) → (a || false) ≡ a
or_no true = refl
or_no false = refl

-- nothing is changed
pub changes_none : (w : WorkingSet) (to : ℕ → Option (Placed Value)) → Changes w w (λ k. false) to
changes_none w to = λ a f e. same_effect (patch_of_change w.change) a (either a (λ k. false)) f (later (λ k. false) to f) e (λ k. or_no (a k)) (λ k. refl)
