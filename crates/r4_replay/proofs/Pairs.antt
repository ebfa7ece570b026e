-- The pairs of a record, one after the other.
use Rattle.std.proofs.Common.{◌≡◌, ℕ, ◌+◌, ◌<◌, Bool, true, false, List, [], ◌∷◌, ◌++◌, length, take, get_or, Some, refl, sym, ap, ◌∙◌, append_assoc}
use Rattle.std.specs.Prelude.{slice_get, ◌&&◌}
use Rattle.std.specs.List.{list_all}
use Rattle.std.proofs.lemmas.List.{take_more}
use Rattle.std.proofs.lemmas.Option.{get_or_from_slice_get}
use Rattle.std.proofs.lemmas.List.Folds.{list_all_at, list_all_more}
use Rattle.r4_base.specs.Refusal.{is_log_block, is_original_number, pair_is_in_range}

pub first_bad : (n : ℕ) (p : ℕ × ℕ) → is_original_number n p.0 ≡ false → pair_is_in_range n p ≡ false
first_bad n p e = rw e refl

and_false : (a : Bool) → (a && false) ≡ false
and_false true = refl
and_false false = refl

pub second_bad : (n : ℕ) (p : ℕ × ℕ) → is_log_block n p.1 ≡ false → pair_is_in_range n p ≡ false
second_bad n p e = rw e (and_false (is_original_number n p.0))

pub both_good : (n : ℕ) (p : ℕ × ℕ) → is_original_number n p.0 ≡ true → is_log_block n p.1 ≡ true → pair_is_in_range n p ≡ true
both_good n p e f = rw (e, f) refl

is_at : (ps : List (ℕ × ℕ)) (i : ℕ) (p d : ℕ × ℕ) → slice_get ps i ≡ Some p → get_or ps i d ≡ p
is_at ps i p d e = get_or_from_slice_get ps i p d e

pub one_bad : (n : ℕ) (ps : List (ℕ × ℕ)) (i : ℕ) (p : ℕ × ℕ) → i < length ps → slice_get ps i ≡ Some p → pair_is_in_range n p ≡ false → list_all (pair_is_in_range n) ps ≡ false
one_bad n ps i p lt e bad = list_all_at (pair_is_in_range n) ps i p lt (ap (pair_is_in_range n) (is_at ps i p p e) ∙ bad)

pub one_good : (n : ℕ) (ps : List (ℕ × ℕ)) (i : ℕ) (p : ℕ × ℕ) → i < length ps → slice_get ps i ≡ Some p → pair_is_in_range n p ≡ true → list_all (pair_is_in_range n) (take i ps) ≡ true → list_all (pair_is_in_range n) (take (i + 1) ps) ≡ true
one_good n ps i p lt e good so_far = list_all_more (pair_is_in_range n) ps i p lt ∙ rw (so_far, is_at ps i p p e, good) refl

pub one_taken : (start now new ps : List (ℕ × ℕ)) (i : ℕ) (p : ℕ × ℕ) → i < length ps → slice_get ps i ≡ Some p → now ≡ start ++ take i ps → new ≡ now ++ p ∷ [] → new ≡ start ++ take (i + 1) ps
one_taken start now new ps i p lt e so_far more = more ∙ ap (λ (l : List (ℕ × ℕ)). l ++ p ∷ []) so_far ∙ append_assoc start (take i ps) (p ∷ []) ∙ ap (λ (l : List (ℕ × ℕ)). start ++ l) (sym (take_more ps i p lt ∙ ap (λ (q : ℕ × ℕ). take i ps ++ q ∷ []) (is_at ps i p p e)))
