-- Effects on units: in other words, and one after another.
use Rattle.std.proofs.Common.{◌≡◌, ℕ, Bool, true, false, refl, sym, ap, ◌∙◌}
use Rattle.std.specs.Prelude.{◌||◌, Option, None, if◌then◌else◌}
use Rattle.r4_base.specs.Value.{Value}
use Rattle.r4_measure.specs.r4_cell.Patch.{Patch}
use Rattle.r4_measure.specs.r4_patch.Effect.{HasEffect, Placed, either, later}
use Rattle.r4_measure.specs.r4_patch.Joining.{patch_of_change}
use Rattle.r4_measure.specs.r4_work.Remaking.{Changes}
use Rattle.r4_measure.specs.r4_work.declared.working.WorkingSet.{WorkingSet}

pub same_effect : (p : Patch Value) (at now : ℕ → Bool) (to then_to : ℕ → Option (Placed Value)) → HasEffect p at to → ((k : ℕ) → now k ≡ at k) → ((k : ℕ) → at k ≡ true → to k ≡ then_to k) → HasEffect p now then_to
same_effect p at now to then_to e same is = record {
  held = λ k h. e.held k (sym (same k) ∙ h);
  there = λ k u h. let a = sym (same k) ∙ h in (λ x. sym (is k a) ∙ (e.there k u a).0 x, λ x. (e.there k u a).1 (is k a ∙ x));
  others = λ k u h. e.others k u (sym (same k) ∙ h);
}

later_same : (b c : Bool) (x y z : Option (Placed Value)) → c ≡ b → (b ≡ true → x ≡ y) → (if b then x else z) ≡ (if c then y else z)
later_same true true x y z s is = is refl
later_same false false x y z s is = refl
later_same true false x y z s is = absurd cc
later_same false true x y z s is = absurd cc

pub same_changes : (w now : WorkingSet) (at others : ℕ → Bool) (to then_to : ℕ → Option (Placed Value)) → Changes w now at to → ((k : ℕ) → others k ≡ at k) → ((k : ℕ) → at k ≡ true → to k ≡ then_to k) → Changes w now others then_to
same_changes w now at others to then_to c same is = λ a f e.
    same_effect (patch_of_change now.change) (either a at) (either a others) (later at to f) (later others then_to f) (c a f e)
    (λ k. ap (λ (b : Bool). a k || b) (same k)) (λ k h. later_same (at k) (others k) (to k) (then_to k) (f k) (same k) (is k))

or_again : (a b c : Bool) → (a || (b || c)) ≡ ((a || b) || c)
or_again true b c = refl
or_again false b c = refl

both_set : (b c : Bool) (x y : Option (Placed Value)) → (if c then x else (if b then x else y)) ≡ (if b || c then x else y)
both_set true true x y = refl
both_set true false x y = refl
both_set false c x y = refl

-- two that set the same values
pub changes_both : (w v now : WorkingSet) (one two : ℕ → Bool) (to : ℕ → Option (Placed Value)) → Changes w v one to → Changes v now two to → Changes w now (λ k. one k || two k) to
changes_both w v now one two to c d = λ a f e.
    same_effect (patch_of_change now.change) (either (either a one) two) (either a (λ k. one k || two k)) (later two to (later one to f)) (later (λ k. one k || two k) to f)
    (d (either a one) (later one to f) (c a f e)) (λ k. or_again (a k) (one k) (two k)) (λ k h. both_set (one k) (two k) (to k) (f k))

or_no : (a : Bool) → (a || false) ≡ a
or_no true = refl
or_no false = refl

-- nothing is changed
pub changes_none : (w : WorkingSet) (at : ℕ → Bool) (to : ℕ → Option (Placed Value)) → ((k : ℕ) → at k ≡ false) → Changes w w at to
changes_none w at to no_key = λ a f e.
    same_effect (patch_of_change w.change) a (either a at) f (later at to f) e (λ k. ap (λ (b : Bool). a k || b) (no_key k) ∙ or_no (a k)) (λ k h. sym (ap (λ (b : Bool). if b then to k else f k) (no_key k)))

on_true : (b : Bool) (x y : Option (Placed Value)) → b ≡ true → (if b then x else y) ≡ x
on_true true x y h = refl
on_true false x y h = absurd cc

-- from nothing on
pub changes_all : (w now : WorkingSet) (at : ℕ → Bool) (to : ℕ → Option (Placed Value)) → HasEffect (patch_of_change w.change) (λ k. false) (λ k. None) → Changes w now at to → HasEffect (patch_of_change now.change) at to
changes_all w now at to start c =
    same_effect (patch_of_change now.change) (either (λ k. false) at) at (later at to (λ k. None)) to (c (λ k. false) (λ k. None) start) (λ k. refl) (λ k h. on_true (at k) (to k) None h)
