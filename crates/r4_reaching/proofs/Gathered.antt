-- The cells that were met, as a list.
use Rattle.std.proofs.Common.{◌≡◌, ◌≢◌, inl, inr, ℕ, List, [], ◌∷◌, length, map, get_or, refl, sym, ap, subst, ◌∙◌}
use Rattle.std.proofs.Common.{arith, rules}
use Rattle.std.specs.Prelude.{Contains, Option, Some, None, nat_eq}
use Rattle.std.specs.Arc.{arc_value}
use Rattle.std.specs.Cmp.{nat_eq_equiv, unsigned_Decides}
use Rattle.std.specs.List.{IsDistinct}
use Rattle.std.specs.List.Sorted.{IsPermutation}
use Rattle.std.specs.Map.{keys_of, lookup, values_of}
use Rattle.std.specs.Option.{option_map}
use Rattle.std.proofs.lemmas.Bool.{eqb-true}
use Rattle.std.proofs.lemmas.List.{get_or-map, length-map}
use Rattle.std.proofs.lemmas.List.Sorted.{Contains-permutation, IsPermutation-map, IsPermutation-sym}
use Rattle.std.proofs.lemmas.Map.Keys.{IsDistinct-IsPermutation}
use Rattle.std.proofs.lemmas.Map.Made.{AllPairs-from_IsDistinct, Contains-from_values_of, Contains-values_of}
use Rattle.std.proofs.lemmas.Map.Views.{Contains-from_lookup, lookup-from_Contains}
use Rattle.r4_cell.specs.Patch.{HaveNames}
use Rattle.r4_cell.specs.Seen.{CellSeen}
use Rattle.r4_touching.proofs.r4_patch.Members.{cases, here, later, none}
use Rattle.r4_search.specs.Keeping.{Shared, met_in}
use Rattle.r4_reaching.specs.Gathering.{AreAllMet, HaveNumbers}

module _ {A B : Type 0} (f : A → B) where
  mapped : (xs : List A) (x : A) → Contains xs x → Contains (map f xs) (f x)
  mapped [] x at = absurd (none x at)
  mapped (y ∷ ys) x at = elim (cases y x ys at) [
    | inl is ↦ subst (λ z. Contains (map f (y ∷ ys)) (f z)) (sym is) (here (f y) (map f ys))
    | inr more ↦ later (f y) (f x) (map f ys) (mapped ys x more)
  ]

  from_mapped : (xs : List A) (b : B) → Contains (map f xs) b → (x : A) × Contains xs x × (f x ≡ b)
  from_mapped [] b at = absurd (none b at)
  from_mapped (y ∷ ys) b at = elim (cases (f y) b (map f ys) at) [
    | inl is ↦ (y, here y ys, sym is)
    | inr more ↦ let (x, among, is) = from_mapped ys b more in (x, later y x ys among, is)
  ]

-- cells whose numbers are distinct have different names
names_differ : (cells : List CellSeen) → IsDistinct nat_eq (map (λ (c : CellSeen). c.id) cells) → HaveNames cells
names_differ cells h i j d less l =
    let ids : List ℕ = map (λ (c : CellSeen). c.id) cells in
    let long : length ids ≡ length cells = length-map cells (λ (c : CellSeen). c.id) in
    let apart = AllPairs-from_IsDistinct unsigned_Decides ids h i j d.id less (omega (arith, l, long)) in
    subst (λ n. n ≢ (get_or cells j d).id) (get_or-map (λ (c : CellSeen). c.id) cells i d d.id (omega (arith, less, l)))
    (subst (λ n. get_or ids i d.id ≢ n) (get_or-map (λ (c : CellSeen). c.id) cells j d d.id l) apart)

-- the numbers of the cells are the keys
numbers_are : (es : List (ℕ × Shared)) → ((k : ℕ) (v : Shared) → Contains es (k, v) → (arc_value v).id ≡ k)
    → map (λ (c : CellSeen). c.id) (map (λ v. arc_value v) (values_of es)) ≡ keys_of es
numbers_are [] h = refl
numbers_are ((k, v) ∷ es) h =
    ap (λ n. n ∷ map (λ (c : CellSeen). c.id) (map (λ w. arc_value w) (values_of es))) (h k v (here (k, v) es))
    ∙ ap (λ ns. k ∷ ns) (numbers_are es (λ q w at. h q w (later (k, v) (q, w) es at)))

module _ (es : List (ℕ × Shared)) (numbers : HaveNumbers (met_in es)) (unique : IsDistinct nat_eq (keys_of es)) where
  abbrev all : List CellSeen
  all = map (λ v. arc_value v) (values_of es)

  stands : (k : ℕ) (v : Shared) → Contains es (k, v) → met_in es k ≡ Some (arc_value v)
  stands k v at = ap (option_map (λ x. arc_value x)) (lookup-from_Contains nat_eq_equiv k v es unique at)

  numbered : (k : ℕ) (v : Shared) → Contains es (k, v) → (arc_value v).id ≡ k
  numbered k v at = numbers k (arc_value v) (stands k v at)

  was_met : (c : CellSeen) → Contains all c → met_in es c.id ≡ Some c
  was_met c at =
      let (v, among, is) = from_mapped (λ v. arc_value v) (values_of es) c at in
      let (k, entry) = Contains-from_values_of es v among in
      subst (λ x. met_in es x.id ≡ Some x) is
      (subst (λ i. met_in es i ≡ Some (arc_value v)) (sym (numbered k v entry)) (stands k v entry))

  is_there : (c : CellSeen) → met_in es c.id ≡ Some c → Contains all c
  is_there c met = found (lookup (nat_eq c.id) es) refl met
    where
      found : (o : Option Shared) → lookup (nat_eq c.id) es ≡ o → option_map (λ x. arc_value x) o ≡ Some c → Contains all c
      found None was is = absurd cc
      found (Some v) was is =
          subst (λ x. Contains all x) (same_value is)
          (mapped (λ x. arc_value x) (values_of es) v
          (Contains-values_of es c.id v (Contains-from_lookup eqb-true c.id v es was)))
        where
          same_value : Some (arc_value v) ≡ Some c → arc_value v ≡ c
          same_value e = search rules

  abbrev ids : List ℕ
  ids = map (λ (c : CellSeen). c.id) all

  same : ids ≡ keys_of es
  same = numbers_are es numbered

  -- in every order
  pub all_met : (cells : List CellSeen) → IsPermutation all cells → AreAllMet (met_in es) cells
  all_met cells p = record {
    names = names_differ cells (IsDistinct-IsPermutation nat_eq nat_eq_equiv.symm ids (map (λ (c : CellSeen). c.id) cells)
        (IsPermutation-map (λ (c : CellSeen). c.id) all cells p) (subst (IsDistinct nat_eq) (sym same) unique));
    are = λ c. (
      λ at. was_met c (Contains-permutation cells all c (IsPermutation-sym all cells p) at),
      λ met. Contains-permutation all cells c p (is_there c met),
    );
  }
