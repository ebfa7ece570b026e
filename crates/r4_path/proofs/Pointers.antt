-- Items that point to cells.
use Rattle.std.proofs.Common.{◌≡◌, ℕ, zero, suc, ◌*◌, ◌<◌, ◌≤◌, true, List, [], ◌∷◌, length, map, get_or, refl, ap, subst, ◌∙◌}
use Rattle.std.proofs.Common.{arith}
use Rattle.std.specs.Prelude.{slice_get, option_map, Some}
use Rattle.std.proofs.lemmas.Bool.Decides.{nat_tests}
use Rattle.std.proofs.lemmas.Option.{same_Some, slice_get-map, slice_get_read}
use Rattle.r4_base.specs.Bytes.{number_bytes}
use Rattle.r4_base.specs.Node.{Item, PluginsFit, fits_level}
use Rattle.r4_base.specs.declared.key.Key.{Key}
use Rattle.r4_base.proofs.Numbers.{length-number_bytes}
use Rattle.r4_patch.specs.r4_cell.Seen.{CellSeen}
use Rattle.r4_path.specs.Nodes.{pointer_item, weight}
use Rattle.r4_path.proofs.Filling.{weight_cons}

pub at_map : {A : Type 0} (f : A → Item) (xs : List A) (n : ℕ) (x : A) → n < length xs → x ≡ get_or xs n x
    → slice_get (map f xs) n ≡ Some (f x)
at_map f xs n x lt is = slice_get-map f xs n ∙ ap (option_map f) (slice_get_read xs (length xs) n x refl lt is)

pub pointed : (c : CellSeen) (key : Key) (body : List ℕ) → key ≡ c.lo → body ≡ number_bytes 8 c.id
    → record { key = key; plugin = 3; body = body } ≡ pointer_item c
pointed c key body k b = λ i. record { key = k i; plugin = 3; body = b i }

pub pointer_fits : (level : ℕ) → 2 ≤ level → fits_level level 3 ≡ true
pointer_fits level two = grind (arith, nat_tests)

pub pointers_fit : {A : Type 0} (f : A → CellSeen) (level : ℕ) (xs : List A) → 2 ≤ level
    → PluginsFit level (map (λ x. pointer_item (f x)) xs)
pointers_fit f level [] two k x e = absurd cc
pointers_fit f level (y ∷ ys) two zero x e = subst (λ (p : ℕ). fits_level level p ≡ true)
    (ap (λ (z : Item). z.plugin) (same_Some (pointer_item (f y)) x e)) (pointer_fits level two)
pointers_fit f level (y ∷ ys) two (suc k) x e = pointers_fit f level ys two k x e

pub pointers_weigh : {A : Type 0} (f : A → CellSeen) (xs : List A) → weight (map (λ x. pointer_item (f x)) xs) ≡ 46 * length xs
pointers_weigh f [] = refl
pointers_weigh f (y ∷ ys) = let long = length-number_bytes 8 (f y).id in let h = pointers_weigh f ys in
    let more = weight_cons (pointer_item (f y)) (map (λ x. pointer_item (f x)) ys) in omega (arith, long, h, more)
