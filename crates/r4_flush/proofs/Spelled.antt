-- Bodies that are written anew.
use Rattle.std.proofs.Common.{◌≡◌, ⊎_elim, ℕ, ◌/◌, ◌<◌, ◌≤◌, Bool, true, false, ◌&&◌, eqb, List, [], ◌∷◌, length, suc}
use Rattle.std.proofs.Common.{map, Some, None, refl, sym, ap, ◌∙◌, subst, arith}
use Rattle.std.specs.Prelude.{slice_get, if◌then◌else◌, nat_le}
use Rattle.std.specs.Option.{option_map}
use Rattle.std.proofs.lemmas.Bool.{eqb-true}
use Rattle.std.proofs.lemmas.Option.{same_Some, slice_get_within}
use Rattle.r4_base.specs.Bytes.{number_at}
use Rattle.r4_base.specs.Extents.{pointer_of, unit_at, units_of}
use Rattle.r4_base.specs.Node.{Item}
use Rattle.r4_base.specs.declared.items.Unit.{Unit as ExtentUnit}
use Rattle.r4_twig.proofs.Places.{get-units_of, length-units_of}
use Rattle.r4_flush.specs.Anew.{BecomeBlocks, IsItemAnew, unit_anew}
use Rattle.r4_flush.proofs.Faults.{high_fixed}

-- ---- pointers

pub pointer_long : (b : List ℕ) (to : ℕ) → pointer_of b ≡ Some to → length b ≡ 8
unfolding pointer_of
pointer_long b to is = go (eqb (length b) 8) (nat_le 22 (number_at 8 0 b)) refl is
  where
    go : (t u : Bool) → eqb (length b) 8 ≡ t → (if t && u then Some (number_at 8 0 b) else None) ≡ Some to
        → length b ≡ 8
    go true u e h = eqb-true (length b) 8 e
    go false u e h = absurd cc

pub still_high : (f : ℕ → ℕ) → BecomeBlocks f → (i : ℕ) → 22 ≤ i → 22 ≤ f i
still_high f blocks i high = ⊎_elim
    (λ stays. subst (λ (k : ℕ). 22 ≤ k) (sym stays) high)
    (λ (one, low, free). high_fixed f blocks (f i) free)
    (blocks i)

-- ---- units

map_same : {A : Type 0} (g : A → A) (xs : List A) → ((k : ℕ) (x : A) → slice_get xs k ≡ Some x → g x ≡ x)
    → map g xs ≡ xs
map_same g [] each = refl
map_same {A} g (x ∷ xs) each = ap (λ (y : A). y ∷ map g xs) (each 0 x refl)
    ∙ ap (λ (l : List A). x ∷ l) (map_same g xs (λ k. each (suc k)))

-- all units stay
pub units_same : (g : ExtentUnit → ExtentUnit) (b : List ℕ) (n : ℕ) → n ≡ length b / 16
    → ((k : ℕ) → k < n → g (unit_at b k) ≡ unit_at b k) → map g (units_of b) ≡ units_of b
units_same g b n all each = map_same g (units_of b) (λ k u is.
    let lt = slice_get_within (units_of b) k u is in
    let long = length-units_of b in
    let low : k < length b / 16 = omega (arith, lt, long) in
    let same : unit_at b k ≡ u = same_Some (unit_at b k) u (sym (get-units_of k b low) ∙ is) in
    subst (λ (v : ExtentUnit). g v ≡ v) same (each k (omega (arith, all, low))))

-- ---- an item whose names stay

pub item_same : (f : ℕ → ℕ) (it : Item) → (it.plugin ≡ 3 → option_map f (pointer_of it.body) ≡ pointer_of it.body)
    → (it.plugin ≡ 5 → map (unit_anew f) (units_of it.body) ≡ units_of it.body) → IsItemAnew f it it
item_same f it pointer extent = record {
  key = refl;
  plugin = refl;
  long = refl;
  pointer = λ e. sym (pointer (eqb-true it.plugin 3 e));
  extent = λ e. sym (extent (eqb-true it.plugin 5 e));
  other = λ e g. refl;
}
