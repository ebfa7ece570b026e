-- Ids that are reached, one after the other.
use Rattle.std.proofs.Common.{◌≡◌, ◌⊎◌, inl, inr, ℕ, zero, suc, ◌+◌, ◌<◌, ◌≤◌, ◌==◌, Bool, true, false, cond, ◌||◌, nat_eq, List, [], ◌∷◌, ◌++◌, length, take, get_or, Some, refl, sym, ap, ◌∙◌, subst, arith}
use Rattle.std.specs.Prelude.{slice_get}
use Rattle.std.specs.Cmp.{nat_eq_equiv}
use Rattle.std.specs.Global.{Vec}
use Rattle.std.specs.List.{IsDistinct}
use Rattle.std.proofs.lemmas.Bool.{cases_eq, eq-eqb, eqb-true}
use Rattle.std.proofs.lemmas.Bool.Decides.{nat_tests}
use Rattle.std.proofs.lemmas.List.{length-append, take_more}
use Rattle.std.proofs.lemmas.List.Folds.{list_any-append}
use Rattle.std.proofs.lemmas.Map.Keys.{IsDistinct-push, any_passes_from_place}
use Rattle.r4_check_objects.specs.Reach.{Adds, Grows, IsReach, is_among}
use Rattle.r4_check_objects.specs.Table.{value_at}
use Rattle.r4_check_objects.specs.declared.reach.Reach.{Reach}
use Rattle.r4_check_objects.specs.declared.table.Table.{Table}

-- ---- lists of numbers

pub swapped : (a b : ℕ) → (a == b) ≡ (b == a)
swapped a b = elim (cases_eq a b) [ inl is ↦ grind (arith, nat_tests) | inr other ↦ grind (arith, nat_tests) ]

or_false : (t : Bool) → (t || false) ≡ t
or_false true = refl
or_false false = refl

pub among_push : (q id : ℕ) (xs : List ℕ) → is_among q (xs ++ id ∷ []) ≡ (is_among q xs || q == id)
among_push q id xs = list_any-append (nat_eq q) xs (id ∷ []) ∙ ap (λ (t : Bool). is_among q xs || t) (or_false (q == id))

pub or_cases : (s t : Bool) → (s || t) ≡ true → (s ≡ true) ⊎ (t ≡ true)
or_cases true t is = inl refl
or_cases false t is = inr is

pub or_left : (s t : Bool) → s ≡ true → (s || t) ≡ true
or_left s t is = ap (λ (x : Bool). x || t) is

pub or_right : (s t : Bool) → t ≡ true → (s || t) ≡ true
or_right true t is = refl
or_right false t is = is

pub among_place : (q : ℕ) (xs : List ℕ) → is_among q xs ≡ true → (k : ℕ) × (slice_get xs k ≡ Some q)
among_place q [] is = cc
among_place q (x ∷ xs) is = by (among_place q xs) (or_cases (q == x) (is_among q xs) is)
  where
    by : (is_among q xs ≡ true → (k : ℕ) × (slice_get xs k ≡ Some q)) → ((q == x) ≡ true) ⊎ (is_among q xs ≡ true) → (k : ℕ) × (slice_get (x ∷ xs) k ≡ Some q)
    by later (inl same) = (0, ap (λ (y : ℕ). Some y) (sym (eqb-true q x same)))
    by later (inr more) = (suc (later more).0, (later more).1)

pub place_among : (q k : ℕ) (xs : List ℕ) → slice_get xs k ≡ Some q → is_among q xs ≡ true
place_among q k xs at = any_passes_from_place (nat_eq q) xs k q at (eq-eqb q q refl)

get_append : (xs ys : List ℕ) (k q : ℕ) → slice_get xs k ≡ Some q → slice_get (xs ++ ys) k ≡ Some q
get_append [] ys k q at = cc
get_append (x ∷ xs) ys zero q at = at
get_append (x ∷ xs) ys (suc k) q at = get_append xs ys k q at

get_push : (xs : List ℕ) (y k q : ℕ) → slice_get (xs ++ y ∷ []) k ≡ Some q → (slice_get xs k ≡ Some q) ⊎ ((k ≡ length xs) × (q ≡ y))
get_push [] y zero q at = let same : q ≡ y = cc in inr (refl, same)
get_push [] y (suc k) q at = cc
get_push (x ∷ xs) y zero q at = inl at
get_push (x ∷ xs) y (suc k) q at = by (get_push xs y k q at)
  where
    by : (slice_get xs k ≡ Some q) ⊎ ((k ≡ length xs) × (q ≡ y)) → (slice_get xs k ≡ Some q) ⊎ ((suc k ≡ suc (length xs)) × (q ≡ y))
    by (inl old) = inl old
    by (inr new) = inr (ap suc new.0, new.1)

-- ---- an id is added

or_swapped : (t s : Bool) → cond t true s ≡ (s || t)
or_swapped true true = refl
or_swapped true false = refl
or_swapped false true = refl
or_swapped false false = refl

pub adds_new : (id : ℕ) (old : Reach) (ids : Table Bool) (order : Vec ℕ) → IsReach old → value_at old.ids id ≡ false
    → ((q : ℕ) → value_at ids q ≡ cond (id == q) true (value_at old.ids q)) → order.items ≡ old.order.items ++ id ∷ []
    → Adds id old (record { ids = ids; order = order })
adds_new id old ids order good none u items =
    let absent : is_among id old.order.items ≡ false = sym (good.same id) ∙ none in
    record {
      good = record {
        same = λ q. u q ∙ ap (λ (t : Bool). cond t true (value_at old.ids q)) (swapped id q) ∙ or_swapped (q == id) (value_at old.ids q)
            ∙ ap (λ (s : Bool). s || q == id) (good.same q) ∙ sym (among_push q id old.order.items) ∙ ap (is_among q) (sym items);
        once = subst (IsDistinct nat_eq) (sym items) (IsDistinct-push nat_eq_equiv old.order.items id good.once absent);
      };
      order = items ∙ ap (λ (t : Bool). cond t old.order.items (old.order.items ++ id ∷ [])) (sym absent);
    }

pub adds_none : (id : ℕ) (old : Reach) → IsReach old → value_at old.ids id ≡ true → Adds id old old
adds_none id old good there = record {
  good = good;
  order = ap (λ (t : Bool). cond t old.order.items (old.order.items ++ id ∷ [])) (sym (sym (good.same id) ∙ there));
}

-- what an added id leaves
added_among : (id : ℕ) (old new : List ℕ) (b : Bool) → is_among id old ≡ b → new ≡ cond b old (old ++ id ∷ []) → (q : ℕ) → is_among q new ≡ (is_among q old || q == id)
added_among id old new true there is q = ap (is_among q) is ∙ by (cases_eq q id)
  where
    by : (q ≡ id) ⊎ (q ≡ id → ⊥) → is_among q old ≡ (is_among q old || q == id)
    by (inl same) = let here : is_among q old ≡ true = ap (λ (x : ℕ). is_among x old) same ∙ there in here ∙ sym (or_left (is_among q old) (q == id) here)
    by (inr other) = let no_more : (q == id) ≡ false = grind (arith, nat_tests) in sym (ap (λ (t : Bool). is_among q old || t) no_more ∙ or_false (is_among q old))
added_among id old new false there is q = ap (is_among q) is ∙ among_push q id old

added_kept : (id : ℕ) (old new : List ℕ) (b : Bool) → new ≡ cond b old (old ++ id ∷ []) → (k q : ℕ) → slice_get old k ≡ Some q → slice_get new k ≡ Some q
added_kept id old new true is k q at = ap (λ (l : List ℕ). slice_get l k) is ∙ at
added_kept id old new false is k q at = ap (λ (l : List ℕ). slice_get l k) is ∙ get_append old (id ∷ []) k q at

added_only : (id : ℕ) (old new : List ℕ) (b : Bool) → new ≡ cond b old (old ++ id ∷ []) → (k q : ℕ) → slice_get new k ≡ Some q → (slice_get old k ≡ Some q) ⊎ ((k ≡ length old) × (q ≡ id))
added_only id old new true is k q at = inl (ap (λ (l : List ℕ). slice_get l k) (sym is) ∙ at)
added_only id old new false is k q at = get_push old id k q (ap (λ (l : List ℕ). slice_get l k) (sym is) ∙ at)

added_long : (id : ℕ) (old new : List ℕ) (b : Bool) → new ≡ cond b old (old ++ id ∷ []) → length old ≤ length new
added_long id old new true is = omega (arith, ap (length {A = ℕ}) is)
added_long id old new false is = omega (arith, ap (length {A = ℕ}) is, length-append old (id ∷ []))

-- ---- ids are added

pub grows_none : (r : Reach) → IsReach r → Grows [] r r
grows_none r good = record { good = good; long = omega arith; kept = λ k q at. at; all = λ q is. cc; only = λ k q at. inl at }

pub grows_more : (ids : List ℕ) (i : ℕ) (d : ℕ) → i < length ids → (old mid new : Reach) → Grows (take i ids) old mid → Adds (get_or ids i d) mid new → Grows (take (i + 1) ids) old new
grows_more ids i d lt old mid new g a =
    let id : ℕ = get_or ids i d in
    let more : (q : ℕ) → is_among q (take (i + 1) ids) ≡ (is_among q (take i ids) || q == id) = λ q. ap (is_among q) (take_more ids i d lt) ∙ among_push q id (take i ids) in
    let has : (q : ℕ) → is_among q new.order.items ≡ (is_among q mid.order.items || q == id) = added_among id mid.order.items new.order.items (is_among id mid.order.items) refl a.order in
    record {
      good = a.good;
      long = omega (arith, g.long, added_long id mid.order.items new.order.items (is_among id mid.order.items) a.order);
      kept = λ k q at. added_kept id mid.order.items new.order.items (is_among id mid.order.items) a.order k q (g.kept k q at);
      all = λ q is. has q ∙ (elim (or_cases (is_among q (take i ids)) (q == id) (sym (more q) ∙ is)) as (λ x. (is_among q mid.order.items || q == id) ≡ true) [
        | inl there ↦ or_left (is_among q mid.order.items) (q == id) (g.all q there)
        | inr here ↦ or_right (is_among q mid.order.items) (q == id) here
      ]);
      only = λ k q at. only k q (added_only id mid.order.items new.order.items (is_among id mid.order.items) a.order k q at);
    }
  where
    wider : (q : ℕ) → is_among q (take i ids) ≡ true → is_among q (take (i + 1) ids) ≡ true
    wider q is = ap (is_among q) (take_more ids i d lt) ∙ among_push q (get_or ids i d) (take i ids) ∙ or_left (is_among q (take i ids)) (q == get_or ids i d) is

    is_new : (q : ℕ) → q ≡ get_or ids i d → is_among q (take (i + 1) ids) ≡ true
    is_new q is = ap (is_among q) (take_more ids i d lt) ∙ among_push q (get_or ids i d) (take i ids) ∙ or_right (is_among q (take i ids)) (q == get_or ids i d) (eq-eqb q (get_or ids i d) is)

    only : (k q : ℕ) → (slice_get mid.order.items k ≡ Some q) ⊎ ((k ≡ length mid.order.items) × (q ≡ get_or ids i d))
        → (slice_get old.order.items k ≡ Some q) ⊎ ((length old.order.items ≤ k) × (is_among q (take (i + 1) ids) ≡ true))
    only k q (inl there) = elim (g.only k q there) [ inl first ↦ inl first | inr later ↦ inr (later.0, wider q later.1) ]
    only k q (inr here) = let long = g.long in let end = here.0 in inr (omega (arith, long, end), is_new q here.1)
