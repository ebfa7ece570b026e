-- Places of lists, and of what is seen of them.
use Rattle.std.proofs.Common.{◌≡◌, ℕ, suc, ◌+◌, ◌<◌, List, ◌∷◌, arith, length, map, drop, get_or, ap, sym, subst, ◌∙◌}
use Rattle.std.proofs.Math.Seq.{drop-cons}
use Rattle.std.proofs.lemmas.List.{get_or-map, length-map}

module _ {A B : Type 0} (f : A → B) where
  -- what is seen at a place of a list is what is seen of the element there
  seen_there : (xs : List A) (i : ℕ) (x : A) → i < length xs → x ≡ get_or xs i x → get_or (map f xs) i (f x) ≡ f x
  seen_there xs i x lt is = get_or-map f xs i x (f x) lt ∙ ap f (sym is)

  -- of lists that are seen to be the same, so is what stands at one place
  pub same_there : (xs ys : List A) (i : ℕ) (x y : A) → i < length xs → i < length ys → x ≡ get_or xs i x
      → y ≡ get_or ys i y → map f xs ≡ map f ys → f x ≡ f y
  same_there xs ys i x y lt less is other e =
      sym (seen_there xs i x lt is)
      ∙ (ap (λ (l : List B). get_or l i (f x)) e
      ∙ (get_or-map f ys i y (f x) less ∙ ap f (sym other)))

  -- what is left from a place on begins with what is seen there
  pub left_from : (xs : List A) (seen : List B) (i : ℕ) (x : A) (y : B) → map f xs ≡ seen → i < length xs
      → x ≡ get_or xs i x → y ≡ f x → drop i seen ≡ y ∷ drop (i + 1) seen
  left_from xs seen i x y e lt is shown =
      let there : get_or seen i y ≡ y =
      subst (λ (z : B). get_or seen i z ≡ z) (sym shown)
      (subst (λ (l : List B). get_or l i (f x) ≡ f x) e (seen_there xs i x lt is)) in
      let less : i < length seen =
      subst (λ (l : List B). i < length l) e (subst (λ (n : ℕ). i < n) (sym (length-map xs f)) lt) in
      let next : suc i ≡ i + 1 = omega arith in
      drop-cons seen i y less
      ∙ (ap (λ (z : B). z ∷ drop (suc i) seen) there
      ∙ ap (λ (n : ℕ). y ∷ drop n seen) next)
