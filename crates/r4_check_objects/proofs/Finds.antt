-- The first one that passes a test.
use Rattle.std.proofs.Common.{◌≡◌, Bool, true, false, cond, List, [], ◌∷◌, Some, None, refl, sym, ap, ◌∙◌}
use Rattle.std.specs.List.{filter, find}

module _ {X : Type 0} where
  -- it passes
  pub find_true : (p : X → Bool) (xs : List X) (x : X) → find p xs ≡ Some x → p x ≡ true
  find_true p [] x is = cc
  find_true p (y ∷ xs) x is = by (find_true p xs x) (p y) refl is
    where
      by : (find p xs ≡ Some x → p x ≡ true) → (b : Bool) → p y ≡ b → cond b (Some y) (find p xs) ≡ Some x → p x ≡ true
      by later true holds is = let same : y ≡ x = cc in ap p (sym same) ∙ holds
      by later false holds is = later is

  -- where none passes a test, the first one that passes another one fails it
  pub find_none : (p q : X → Bool) (xs : List X) (x : X) → find p xs ≡ None → find q xs ≡ Some x → p x ≡ false
  find_none p q [] x none is = cc
  find_none p q (y ∷ xs) x none is = by (find_none p q xs x) (p y) refl none (q y) refl is
    where
      by : (find p xs ≡ None → find q xs ≡ Some x → p x ≡ false) → (b : Bool) → p y ≡ b → cond b (Some y) (find p xs) ≡ None → (d : Bool) → q y ≡ d → cond d (Some y) (find q xs) ≡ Some x → p x ≡ false
      by later true fails none d is_d is = cc
      by later false fails none true is_d is = let same : y ≡ x = cc in ap p (sym same) ∙ fails
      by later false fails none false is_d is = later none is

  -- the first one of a wider test that passes a narrower one is also that one's first
  pub find_narrow : (p q : X → Bool) (xs : List X) (x : X) → ((y : X) → q y ≡ true → p y ≡ true) → find p xs ≡ Some x → q x ≡ true → find q xs ≡ Some x
  find_narrow p q [] x wide is good = cc
  find_narrow p q (y ∷ xs) x wide is good = by (find_narrow p q xs x wide) (p y) refl is (q y) refl
    where
      by : (find p xs ≡ Some x → q x ≡ true → find q xs ≡ Some x) → (b : Bool) → p y ≡ b → cond b (Some y) (find p xs) ≡ Some x → (d : Bool) → q y ≡ d → cond d (Some y) (find q xs) ≡ Some x
      by later true is_b is true is_d = is
      by later true is_b is false is_d = let same : y ≡ x = cc in let other : q y ≡ true = ap q same ∙ good in cc
      by later false is_b is true is_d = let other : p y ≡ true = wide y is_d in cc
      by later false is_b is false is_d = later is good

  -- a narrower test finds the same among those of a wider one
  pub find_filter : (p q : X → Bool) (xs : List X) → ((y : X) → q y ≡ true → p y ≡ true) → find q (filter p xs) ≡ find q xs
  find_filter p q [] wide = refl
  find_filter p q (y ∷ xs) wide = by (find_filter p q xs wide) (p y) refl (q y) refl
    where
      by : find q (filter p xs) ≡ find q xs → (b : Bool) → p y ≡ b → (d : Bool) → q y ≡ d → find q (cond b (y ∷ filter p xs) (filter p xs)) ≡ cond d (Some y) (find q xs)
      by later true is_b true is_d = ap (λ (t : Bool). cond t (Some y) (find q (filter p xs))) is_d
      by later true is_b false is_d = ap (λ (t : Bool). cond t (Some y) (find q (filter p xs))) is_d ∙ later
      by later false is_b true is_d = let other : p y ≡ true = wide y is_d in cc
      by later false is_b false is_d = later
