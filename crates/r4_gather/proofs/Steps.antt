-- Ways that go on, step by step.
use Rattle.std.proofs.Common.{◌≡◌, ℕ, suc, ◌+◌, ◌<◌, List, ◌∷◌, length, drop, get_or, ap, sym, subst, ◌∙◌, arith}
use Rattle.std.proofs.Math.Seq.{drop-cons}
use Rattle.r4_content.specs.Course.{Course}
use Rattle.r4_content.specs.Seen.{of_seen}
use Rattle.r4_content.specs.Ways.{Place, step, steps, to_object}
use Rattle.r4_gather.specs.Asking.{EndsIn, HasEnded, IsAt, IsLater, IsStopped, Sighting, asking}
use Rattle.r4_gather.specs.Walking.{IsWalking}
use Rattle.r4_gather.proofs.Beginning.{asking_goes, later_both}

pub drop_item : {A : Type 0} (xs : List A) (i : ℕ) (x : A) → i < length xs → x ≡ get_or xs i x
    → drop i xs ≡ x ∷ drop (i + 1) xs
drop_item xs i x l is = let e : suc i ≡ i + 1 = omega arith in
    drop-cons xs i x l ∙ ap (λ y. y ∷ drop (suc i) xs) (sym is) ∙ ap (λ k. x ∷ drop k xs) e

module _ (path left : List (List ℕ)) (old now : Sighting) (p : Place) (walk : IsWalking path left old now p)
    (n : List ℕ) (rest : List (List ℕ)) (is : left ≡ n ∷ rest) (new : Sighting) (later : IsLater now new) where
  to_step : (next : Place → Course) (last : Sighting) → IsLater new last
      → asking (to_object path next) (of_seen last.seen) old.asked
      ≡ asking (step n (steps rest next) p) (of_seen last.seen) now.asked
  to_step next last l = walk.at next last (later_both now new last later l)
      ∙ ap (λ xs. asking (steps xs next p) (of_seen last.seen) now.asked) is

  pub way_ends : HasEnded (λ next. step n next p) now new → HasEnded (to_object path) old new
  way_ends ends next last l = to_step next last l ∙ ends (steps rest next) last l

  pub way_stops : IsStopped (λ next. step n next p) now new → IsStopped (to_object path) old new
  way_stops stops next last l = subst (λ xs. EndsIn new.asked xs) (sym (to_step next last l))
      (stops (steps rest next) last l)

  pub way_goes_on : (q : Place) → IsAt (λ next. step n next p) now new q → IsWalking path rest old new q
  way_goes_on q at = record {
    later = later_both old now new walk.later later;
    at = λ next last l. to_step next last l ∙ at (steps rest next) last l;
  }

pub walking_stops : (path left : List (List ℕ)) (old now : Sighting) (p : Place) → IsWalking path left old now p
    → IsStopped (to_object path) old now
walking_stops path left old now p walk next last l =
    subst (λ xs. EndsIn now.asked xs) (sym (walk.at next last l))
    (asking_goes (steps left next p) (of_seen last.seen) now.asked)
