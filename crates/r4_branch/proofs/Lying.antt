-- Items that lie one after the other.
use Rattle.std.proofs.Common.{◌≡◌, ℕ, zero, suc, ◌+◌, ◌∙◌, List, [], ◌∷◌, drop, ap, subst, arith}
use Rattle.std.specs.Prelude.{slice_get, Some}
use Rattle.std.proofs.lemmas.Option.{same_Some}
use Rattle.r4_base.specs.Cell.{item_end}
use Rattle.r4_base.specs.Node.{Item}
use Rattle.r4_branch.specs.Items.{IsSoundItem, Lie}

pub drop_at : {A : Type 0} (i : ℕ) (xs : List A) (x : A) → slice_get xs i ≡ Some x → drop i xs ≡ x ∷ drop (i + 1) xs
drop_at zero [] x e = absurd cc
drop_at (suc i) [] x e = absurd cc
drop_at zero (y ∷ ys) x e = ap (λ z. z ∷ ys) (same_Some y x e)
drop_at (suc i) (y ∷ ys) x e = drop_at i ys x e ∙ ap (λ k. x ∷ drop k (y ∷ ys)) (let step : suc (i + 1) ≡ suc i + 1 = omega arith in step)

pub lie_sound : (from to : ℕ) (xs : List Item) (i : ℕ) (x : Item) → Lie from to xs → slice_get xs i ≡ Some x → IsSoundItem x
lie_sound from to [] i x h e = absurd cc
lie_sound from to (y ∷ ys) zero x h e = subst IsSoundItem (same_Some y x e) h.1
lie_sound from to (y ∷ ys) (suc i) x h e = lie_sound (item_end y) to ys i x h.2 e
