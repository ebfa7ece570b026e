-- The bodies of a node's items.
use Rattle.std.proofs.Common.{◌≡◌, ℕ, zero, suc, ◌+◌, ◌≤◌, List, [], ◌∷◌, length, get_or, refl, sym, ap, subst, ◌∙◌, arith}
use Rattle.std.specs.Prelude.{slice_get, Some}
use Rattle.std.specs.List.{sum_by}
use Rattle.std.proofs.lemmas.List.Sums.{sum_by-append}
use Rattle.std.proofs.lemmas.Option.{get_or_from_slice_get, same_Some, slice_get_within}
use Rattle.r4_base.specs.Node.{Item, count_of, item_at, items_of}
use Rattle.r4_node40.proofs.LaidItems.{item_bodied}
use Rattle.r4_node40.specs.Laid.{IsLaid, room_of}
use Rattle.r4_node40.proofs.Accepted.{space}
use Rattle.r4_node40.proofs.Laid.{get_or-items_of, length-items_of}

weight_of : Item → ℕ
weight_of x = 38 + length x.body

weight : List Item → ℕ
weight items = sum_by (λ (x : Item). 38 + length x.body) items

weight_cons : (x : Item) (xs : List Item) → weight (x ∷ xs) ≡ weight_of x + weight xs
unfolding weight weight_of
weight_cons x xs = let h = sum_by-append (λ (y : Item). 38 + length y.body) (x ∷ []) xs in omega (arith, h)

weighs_most : (xs : List Item) (k : ℕ) (x : Item) → slice_get xs k ≡ Some x → weight_of x ≤ weight xs
weighs_most [] k x e = absurd cc
weighs_most (y ∷ ys) zero x e = let same = ap weight_of (same_Some y x e) in let sum = weight_cons y ys in omega (arith, same, sum)
weighs_most (y ∷ ys) (suc k) x e = let h = weighs_most ys k x e in let sum = weight_cons y ys in omega (arith, h, sum)

pub bodied : (b : List ℕ) → IsLaid b → (k : ℕ) (x : Item) → slice_get (items_of b) k ≡ Some x → (1 ≤ length x.body) × (length x.body ≤ 4030)
unfolding weight weight_of
bodied b laid k x e =
    let within = slice_get_within (items_of b) k x e in
    let long = length-items_of b in
    let is : get_or (items_of b) k x ≡ item_at (count_of b) b k = get_or-items_of b (count_of b) k x refl (omega (arith, within, long)) in
    let at : x ≡ item_at (count_of b) b k = sym (get_or_from_slice_get (items_of b) k x x e) ∙ is in
    let most : 38 + length x.body ≤ weight (items_of b) = weighs_most (items_of b) k x e in
    let whole : room_of b + weight (items_of b) ≡ 4068 = space b laid in
    (subst (λ (y : Item). 1 ≤ length y.body) (sym at) (item_bodied b (count_of b) k laid refl (omega (arith, within, long))), omega (arith, most, whole))
