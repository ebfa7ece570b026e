-- What holds of each element of a list, as a loop goes over it.
use Rattle.std.proofs.Common.{◌≡◌, inl, inr, ℕ, zero, suc, ◌+◌, ◌<◌, ◌≤◌, List, [], ◌∷◌, ◌++◌, length, map, take}
use Rattle.std.proofs.Common.{arith, ap, get_or, subst, sym, ◌∙◌}
use Rattle.std.proofs.Math.Seq.{take-suc}
use Rattle.std.proofs.lemmas.List.{map-append, take_all}
use Rattle.std.proofs.lemmas.List.Elements.{Contains-append_cases}
use Rattle.std.specs.Prelude.{Contains}
use Rattle.r4_extent_reaching.proofs.r4_touching.r4_patch.Members.{cases, here, later, none}

pub member : {A B : Type 0} (f : A → B) (xs : List A) (i : ℕ) (d : A) → i < length xs
    → Contains (map f xs) (f (get_or xs i d))
member f [] i d less = absurd (omega (arith, less))
member f (x ∷ xs) zero d less = here (f x) (map f xs)
member f (x ∷ xs) (suc i) d less =
    later (f x) (f (get_or xs i d)) (map f xs) (member f xs i d (omega (arith, less)))

module _ {A B : Type 0} (f : A → B) (P : B → Type 0) (xs : List A) (i : ℕ) where
  up_to : (d : A) → i < length xs → map f (take (i + 1) xs) ≡ map f (take i xs) ++ (f (get_or xs i d) ∷ [])
  up_to d less =
      ap (λ (n : ℕ). map f (take n xs)) next
      ∙ (ap (map f) (take-suc xs i d less) ∙ map-append f (take i xs) (get_or xs i d ∷ []))
    where
      next : i + 1 ≡ suc i
      next = omega arith

  pub one_more : (d : A) → i < length xs → ((x : B) → Contains (map f (take i xs)) x → P x) → P (f (get_or xs i d))
      → (x : B) → Contains (map f (take (i + 1) xs)) x → P x
  one_more d less before own x among = elim (Contains-append_cases (map f (take i xs)) (f (get_or xs i d) ∷ []) x
      (subst (λ (l : List B). Contains l x) (up_to d less) among)) [
        | inl first ↦ before x first
        | inr last ↦ elim (cases (f (get_or xs i d)) x [] last) [
          | inl same ↦ subst P (sym same) own
          | inr never ↦ absurd (none x never)
        ]
      ]

  pub all_of : length xs ≤ i → ((x : B) → Contains (map f (take i xs)) x → P x) → (x : B) → Contains (map f xs) x → P x
  all_of le before = subst (λ (l : List A). (x : B) → Contains (map f l) x → P x) (take_all i xs le) before
