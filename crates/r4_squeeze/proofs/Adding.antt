-- Items put behind others, one after another.
use Rattle.std.proofs.Common.{◌≡◌, ℕ, zero, suc, ◌+◌, List, [], ◌∷◌, ◌++◌, drop, length, map, take, refl, sym, ap, ◌∙◌, arith}
use Rattle.std.specs.Prelude.{Some, slice_get}
use Rattle.std.proofs.lemmas.List.{append_assoc, map-append}
use Rattle.r4_base.specs.Node.{Item}
use Rattle.r4_path.proofs.Filling.{take_more}
use Rattle.r4_squeeze.specs.Items.{items_meant}
use Rattle.r4_squeeze.specs.declared.items.NodeItem.{NodeItem}

-- one more of a list of items comes behind those that were put
pub added : {A : Type 0} (f : A → Item) (xs : List A) (x : A) (base part : List Item) (n : ℕ) (it : Item)
    → map f xs ≡ base ++ take n part → slice_get part n ≡ Some it → f x ≡ it
    → map f (xs ++ x ∷ []) ≡ base ++ take (n + 1) part
added f xs x base part n it is at same = map-append f xs (x ∷ [])
    ∙ (ap (λ zs. zs ++ f x ∷ []) is ∙ (append_assoc base (take n part) (f x ∷ [])
    ∙ ap (λ zs. base ++ zs) (ap (λ y. take n part ++ y ∷ []) same ∙ sym (take_more n part it at))))

pub get_dropped : {A : Type 0} (xs : List A) (a k : ℕ) → slice_get (drop a xs) k ≡ slice_get xs (a + k)
get_dropped xs zero k = ap (slice_get xs) (let same : k ≡ 0 + k = omega arith in same)
get_dropped [] (suc a) k = refl
get_dropped (x ∷ xs) (suc a) k = get_dropped xs a k
    ∙ ap (slice_get (x ∷ xs)) (let step : suc (a + k) ≡ suc a + k = omega arith in step)

pub length_meant : (xs : List NodeItem) → length (items_meant xs) ≡ length xs
length_meant [] = refl
length_meant (x ∷ xs) = let h = length_meant xs in omega (arith, h)
