-- A part of a list, cut at its ends.
use Rattle.std.proofs.Common.{◌≡◌, inl, inr, ℕ, ◌+◌, ◌-◌, min, List, [], length, take, drop, sym, ◌∙◌, ap, arith}
use Rattle.std.proofs.lemmas.Bool.{cases_lt}
use Rattle.std.proofs.lemmas.List.{drop_all, take_all, length-drop}

pub cut_is : {X : Type 0} (xs : List X) (n m from to : ℕ) → from ≡ min n (length xs) → to ≡ min (from + m) (length xs) → take (to - from) (drop from xs) ≡ take m (drop n xs)
cut_is {X = X} xs n m from to f t = elim (cases_lt n (length xs)) [
  | inl lt ↦
      let at : from ≡ n = omega (arith, f, lt) in
      ap (λ (k : ℕ). take (to - from) (drop k xs)) at ∙ elim (cases_lt (n + m) (length xs)) [
        | inl inside ↦ let all : to - from ≡ m = omega (arith, t, at, inside) in ap (λ (k : ℕ). take k (drop n xs)) all
        | inr past ↦ take_all (to - from) (drop n xs) (omega (arith, t, at, past, lt, length-drop n xs)) ∙ sym (take_all m (drop n xs) (omega (arith, past, length-drop n xs)))
      ]
  | inr past ↦
      let at : from ≡ length xs = omega (arith, f, past) in
      let one : drop from xs ≡ [] = drop_all from xs (omega (arith, at)) in
      ap (λ (l : List X). take (to - from) l) one ∙ take_all (to - from) [] (omega arith) ∙ sym (ap (λ (l : List X). take m l) (drop_all n xs past) ∙ take_all m [] (omega arith))
]
