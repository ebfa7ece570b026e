-- Lists that are made of others, item by item, at once or one after the other in place.
use Rattle.std.proofs.Common.{◌≡◌, ℕ, zero, suc, ◌+◌, ◌<◌, ◌≤◌, List, [], ◌∷◌, ◌++◌, length, map, set, take, get_or, Some, refl}
use Rattle.std.proofs.Common.{sym, ap, ◌∙◌, subst, arith}
use Rattle.std.specs.Prelude.{slice_get}
use Rattle.std.proofs.lemmas.List.{map-append, take_more}
use Rattle.r4_flush.specs.Anew.{AreMade}

module _ {A B : Type 0} (R : A → B → Type 0) where
  -- one more at the end
  pub made_more : (xs : List A) (ys : List B) (x : A) (y : B) → AreMade R xs ys → R x y
      → AreMade R (xs ++ x ∷ []) (ys ++ y ∷ [])
  made_more [] [] x y all r = (r, tt)
  made_more [] (b ∷ ys) x y all r = absurd all
  made_more (a ∷ xs) [] x y all r = absurd all
  made_more (a ∷ xs) (b ∷ ys) x y all r = (all.0, made_more xs ys x y all.1 r)

  pub made_long : (xs : List A) (ys : List B) → AreMade R xs ys → length ys ≡ length xs
  made_long [] [] all = refl
  made_long [] (b ∷ ys) all = absurd all
  made_long (a ∷ xs) [] all = absurd all
  made_long (a ∷ xs) (b ∷ ys) all = ap (λ (n : ℕ). suc n) (made_long xs ys all.1)

-- where each is what a function makes of the old one
pub made_map : {A B : Type 0} (g : A → B) (xs : List A) (ys : List B) → AreMade (λ (x : A) (y : B). y ≡ g x) xs ys
    → ys ≡ map g xs
made_map g [] [] all = refl
made_map g [] (y ∷ ys) all = absurd all
made_map g (x ∷ xs) [] all = absurd all
made_map {A} {B} g (x ∷ xs) (y ∷ ys) all = ap (λ (b : B). b ∷ ys) all.0
    ∙ ap (λ (l : List B). g x ∷ l) (made_map g xs ys all.1)

module _ {A : Type 0} (R : A → A → Type 0) where
  -- the first n are made of the old ones, and the others are these
  abbrev pub AreMadeTo : ℕ → List A → List A → Type 0
  AreMadeTo zero xs ys = ys ≡ xs
  AreMadeTo (suc n) [] [] = Unit {0}
  AreMadeTo (suc n) [] (y ∷ ys) = ⊥
  AreMadeTo (suc n) (x ∷ xs) [] = ⊥
  AreMadeTo (suc n) (x ∷ xs) (y ∷ ys) = R x y × AreMadeTo n xs ys

  first : (xs : List A) (x y : A) → slice_get xs 0 ≡ Some x → R x y → AreMadeTo 1 xs (set xs 0 y)
  first [] x y at r = absurd cc
  first (a ∷ xs) x y at r = let same : x ≡ a = cc in (subst (λ (z : A). R z y) same r, refl)

  -- one more in place
  pub made_set : (n : ℕ) (xs ys : List A) (x y : A) → AreMadeTo n xs ys → slice_get ys n ≡ Some x → R x y
      → AreMadeTo (suc n) xs (set ys n y)
  made_set zero xs ys x y all at r =
      subst (λ (l : List A). slice_get l 0 ≡ Some x → AreMadeTo 1 xs (set l 0 y)) (sym all)
      (λ (e : slice_get xs 0 ≡ Some x). first xs x y e r) at
  made_set (suc n) [] [] x y all at r = absurd cc
  made_set (suc n) [] (b ∷ ys) x y all at r = absurd all
  made_set (suc n) (a ∷ xs) [] x y all at r = absurd all
  made_set (suc n) (a ∷ xs) (b ∷ ys) x y all at r = (all.0, made_set n xs ys x y all.1 at r)

  pub long_to : (n : ℕ) (xs ys : List A) → AreMadeTo n xs ys → length ys ≡ length xs
  long_to zero xs ys all = ap length all
  long_to (suc n) [] [] all = refl
  long_to (suc n) [] (b ∷ ys) all = absurd all
  long_to (suc n) (a ∷ xs) [] all = absurd all
  long_to (suc n) (a ∷ xs) (b ∷ ys) all = ap (λ (k : ℕ). suc k) (long_to n xs ys all.1)

  -- what is not yet made is as it was
  pub same_behind : (n k : ℕ) (xs ys : List A) → AreMadeTo n xs ys → n ≤ k → slice_get ys k ≡ slice_get xs k
  same_behind zero k xs ys all le = ap (λ (l : List A). slice_get l k) all
  same_behind (suc n) k [] [] all le = refl
  same_behind (suc n) k [] (b ∷ ys) all le = absurd all
  same_behind (suc n) k (a ∷ xs) [] all le = absurd all
  same_behind (suc n) zero (a ∷ xs) (b ∷ ys) all le = absurd (omega (arith, le))
  same_behind (suc n) (suc k) (a ∷ xs) (b ∷ ys) all le = same_behind n k xs ys all.1 (omega (arith, le))

  -- all of them
  pub made_all : (xs ys : List A) → AreMadeTo (length xs) xs ys → AreMade R xs ys
  made_all [] [] all = tt
  made_all [] (b ∷ ys) all = let none : b ∷ ys ≡ [] = all in absurd cc
  made_all (a ∷ xs) [] all = absurd all
  made_all (a ∷ xs) (b ∷ ys) all = (all.0, made_all xs ys all.1)

  -- each is made of itself
  pub made_self : (xs : List A) → ((k : ℕ) (x : A) → slice_get xs k ≡ Some x → R x x) → AreMade R xs xs
  made_self [] each = tt
  made_self (x ∷ xs) each = (each 0 x refl, made_self xs (λ k. each (suc k)))

-- one more of those that are made of what a function shows
pub made_next : {X A B : Type 0} (R : A → B → Type 0) (g : X → A) (xs : List X) (ys zs : List B) (i : ℕ) (x : X) (y : B)
    → AreMade R (map g (take i xs)) ys → i < length xs → x ≡ get_or xs i x → R (g x) y → zs ≡ ys ++ y ∷ []
    → AreMade R (map g (take (i + 1) xs)) zs
made_next {X} {A} {B} R g xs ys zs i x y all lt item r more =
    let same : map g (take (i + 1) xs) ≡ map g (take i xs) ++ g x ∷ [] =
    ap (map g) (take_more xs i x lt ∙ ap (λ (z : X). take i xs ++ z ∷ []) (sym item))
    ∙ map-append g (take i xs) (x ∷ []) in
    subst (λ (l : List A). AreMade R l zs) (sym same)
    (subst (AreMade R (map g (take i xs) ++ g x ∷ [])) (sym more) (made_more R (map g (take i xs)) ys (g x) y all r))
