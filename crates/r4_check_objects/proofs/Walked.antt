-- What the root reaches, as it is found.
use Rattle.std.proofs.Common.{◌≡◌, ◌⊎◌, inl, inr, ℕ, zero, suc, ◌+◌, ◌-◌, ◌<◌, ◌≤◌, ◌==◌, Bool, true, false, cond, ◌&&◌, nat_eq, List, [], ◌∷◌, ◌++◌, length, map, get_or, Option, Some, None, refl, sym, ap, ◌∙◌, subst, arith}
use Rattle.std.specs.Prelude.{IsSome, slice_get}
use Rattle.std.specs.BTreeMap.{BTreeMap, get}
use Rattle.std.specs.Cmp.{nat_eq_equiv}
use Rattle.std.specs.Global.{Vec}
use Rattle.std.specs.List.{IsDistinct, list_any}
use Rattle.std.specs.Map.{lookup}
use Rattle.std.specs.Option.{option_map_or}
use Rattle.std.specs.Ordering.{nat_cmp}
use Rattle.std.proofs.lemmas.Bool.{cases_lt, eq-eqb, eqb-true}
use Rattle.std.proofs.lemmas.Map.Steps.{length-le_from_keys}
use Rattle.std.proofs.lemmas.Option.{slice_get_within}
use Rattle.r4_check_objects.specs.Held.{id_of}
use Rattle.r4_check_objects.specs.Objects.{is_reached, is_reached_by, leads_to}
use Rattle.r4_check_objects.specs.Reach.{Adds, AreNamed, Grows, IsReach, is_among, is_named, leads}
use Rattle.r4_check_objects.specs.Table.{value_at}
use Rattle.r4_check_objects.specs.declared.held.Held.{Held}
use Rattle.r4_check_objects.specs.declared.held.Thing.{Thing}
use Rattle.r4_check_objects.specs.declared.held.Thing.TheVariants.{Stat, Entry, Tail, Extent}
use Rattle.r4_check_objects.specs.declared.reach.Reach.{Reach}
use Rattle.r4_check_objects.proofs.Among.{among_place, or_cases, or_left, or_right, place_among}
use Rattle.r4_check_objects.proofs.FirstThings.{first_of_two, second_of_two}

-- The first i ids were looked at: what they name is there, and each id is reached by as many entries as stand before it at most.
pub record IsWalked (found : List Held) (named : BTreeMap ℕ (Vec ℕ)) (r : Reach) (i : ℕ) : Type 0 where
  pub good : IsReach r
  pub root : is_among 42 r.order.items ≡ true
  pub sound : (k q : ℕ) → slice_get r.order.items k ≡ Some q → is_reached_by k found q ≡ true
  pub closed : (k d q : ℕ) → k < i → slice_get r.order.items k ≡ Some d → is_named named d q ≡ true → is_among q r.order.items ≡ true

-- ---- one of a list

pub any_one : (p : Held → Bool) (xs : List Held) → list_any p xs ≡ true → (h : Held) × (p h ≡ true) × ((r : Held → Bool) → r h ≡ true → list_any r xs ≡ true)
any_one p [] is = cc
any_one p (x ∷ xs) is = by (any_one p xs) (or_cases (p x) (list_any p xs) is)
  where
    by : (list_any p xs ≡ true → (h : Held) × (p h ≡ true) × ((r : Held → Bool) → r h ≡ true → list_any r xs ≡ true)) → (p x ≡ true) ⊎ (list_any p xs ≡ true)
        → (h : Held) × (p h ≡ true) × ((r : Held → Bool) → r h ≡ true → list_any r (x ∷ xs) ≡ true)
    by later (inl here) = (x, here, λ r is. or_left (r x) (list_any r xs) is)
    by later (inr more) = let one = later more in (one.0, one.1, λ r is. or_right (r x) (list_any r xs) (one.2 r is))

both : (s t : Bool) → s ≡ true → t ≡ true → (s && t) ≡ true
both s t a b = ap (λ (x : Bool). x && t) a ∙ b

-- ---- by more entries as much is reached

by_one_more : (n : ℕ) (found : List Held) (q : ℕ) → is_reached_by n found q ≡ true → is_reached_by (suc n) found q ≡ true
unfolding is_reached_by
by_one_more n found q is = or_left (is_reached_by n found q) (list_any (λ h. leads_to q h.thing && is_reached_by n found (id_of h)) found) is

by_more : (more n : ℕ) (found : List Held) (q : ℕ) → is_reached_by n found q ≡ true → is_reached_by (n + more) found q ≡ true
by_more zero n found q is = subst (λ (k : ℕ). is_reached_by k found q ≡ true) (omega arith) is
by_more (suc more) n found q is = subst (λ (k : ℕ). is_reached_by k found q ≡ true) (omega arith) (by_one_more (n + more) found q (by_more more n found q is))

pub by_at_most : (m n : ℕ) (found : List Held) (q : ℕ) → n ≤ m → is_reached_by n found q ≡ true → is_reached_by m found q ≡ true
by_at_most m n found q le is = subst (λ (k : ℕ). is_reached_by k found q ≡ true) (omega (arith, le)) (by_more (m - n) n found q is)

-- an entry leads one further
reached_next : (n : ℕ) (found : List Held) (d q : ℕ) → is_reached_by n found d ≡ true → list_any (leads d q) found ≡ true → is_reached_by (suc n) found q ≡ true
unfolding is_reached_by
reached_next n found d q there is =
    let one = any_one (leads d q) found is in
    let h : Held = one.0 in
    let from : id_of h ≡ d = eqb-true _ _ (second_of_two (leads_to q h.thing) (id_of h == d) one.1) in
    or_right (is_reached_by n found q) (list_any (λ h. leads_to q h.thing && is_reached_by n found (id_of h)) found)
    (one.2 (λ h. leads_to q h.thing && is_reached_by n found (id_of h)) (both (leads_to q h.thing) (is_reached_by n found (id_of h)) (first_of_two (leads_to q h.thing) (id_of h == d) one.1) (ap (is_reached_by n found) from ∙ there)))

-- ---- how many ids there may be: the root's, and one for each entry

abbrev to_of : Thing → ℕ
to_of (Stat f) = 42
to_of (Entry t) = t.oid.0
to_of (Tail n) = 42
to_of (Extent n) = 42

abbrev end_of : Held → ℕ × ℕ
end_of h = (to_of h.thing, zero)

abbrev tails_of : List Held → List (ℕ × ℕ)
tails_of found = map end_of found

abbrev ends_of : List Held → List (ℕ × ℕ)
ends_of found = (42, zero) ∷ tails_of found

long_tails : (found : List Held) → length (tails_of found) ≡ length found
long_tails [] = refl
long_tails (h ∷ found) = ap suc (long_tails found)

leads_is : (q : ℕ) (t : Thing) → leads_to q t ≡ true → (q == to_of t) ≡ true
leads_is q (Stat f) is = cc
leads_is q (Entry t) is = eq-eqb q t.oid.0 (sym (eqb-true _ _ is))
leads_is q (Tail n) is = cc
leads_is q (Extent n) is = cc

end_among : (q : ℕ) (found : List Held) → list_any (λ h. leads_to q h.thing) found ≡ true → IsSome (lookup (nat_eq q) (tails_of found))
end_among q [] is = cc
end_among q (h ∷ found) is = by (q == to_of h.thing) refl (end_among q found) (or_cases (leads_to q h.thing) (list_any (λ h. leads_to q h.thing) found) is)
  where
    by : (b : Bool) → (q == to_of h.thing) ≡ b → (list_any (λ h. leads_to q h.thing) found ≡ true → IsSome (lookup (nat_eq q) (tails_of found)))
        → (leads_to q h.thing ≡ true) ⊎ (list_any (λ h. leads_to q h.thing) found ≡ true) → IsSome (cond b (Some zero) (lookup (nat_eq q) (tails_of found)))
    by true is later c = refl
    by false is later (inl here) = let other : (q == to_of h.thing) ≡ true = leads_is q h.thing here in cc
    by false is later (inr more) = later more

root_or : (q : ℕ) (o : Option ℕ) (b : Bool) → IsSome o → IsSome (cond b (Some zero) o)
root_or q o true is = refl
root_or q o false is = is

reached_end : (n : ℕ) (found : List Held) (q : ℕ) → is_reached_by n found q ≡ true → IsSome (lookup (nat_eq q) (ends_of found))
unfolding is_reached_by
reached_end zero found q is = subst (λ (b : Bool). IsSome (cond b (Some zero) (lookup (nat_eq q) (tails_of found)))) (sym is) refl
reached_end (suc n) found q is = by (reached_end n found q) (or_cases (is_reached_by n found q) (list_any (λ h. leads_to q h.thing && is_reached_by n found (id_of h)) found) is)
  where
    by : (is_reached_by n found q ≡ true → IsSome (lookup (nat_eq q) (ends_of found))) → (is_reached_by n found q ≡ true) ⊎ (list_any (λ h. leads_to q h.thing && is_reached_by n found (id_of h)) found ≡ true)
        → IsSome (lookup (nat_eq q) (ends_of found))
    by later (inl there) = later there
    by later (inr more) =
        let one = any_one (λ h. leads_to q h.thing && is_reached_by n found (id_of h)) found more in
        root_or q (lookup (nat_eq q) (tails_of found)) (q == 42) (end_among q found (one.2 (λ h. leads_to q h.thing) (first_of_two (leads_to q one.0.thing) (is_reached_by n found (id_of one.0)) one.1)))

module _ (found : List Held) (named : BTreeMap ℕ (Vec ℕ)) (r : Reach) (i : ℕ) (w : IsWalked found named r i) where
  pub few_ids : length r.order.items ≤ length found + 1
  few_ids =
      let few = length-le_from_keys nat_eq_equiv r.order.items (ends_of found) w.good.once (λ q is. let at = among_place q r.order.items is in reached_end at.0 found q (w.sound at.0 q at.1)) in
      omega (arith, few, long_tails found)

  -- ---- at the end these are the ids that are reached

  pub reached_are_there : AreNamed found named → length r.order.items ≤ i → (n q : ℕ) → is_reached_by n found q ≡ true → is_among q r.order.items ≡ true
  unfolding is_reached_by
  reached_are_there names end zero q is = subst (λ (x : ℕ). is_among x r.order.items ≡ true) (sym (eqb-true q 42 is)) w.root
  reached_are_there names end (suc n) q is = by (reached_are_there names end n) (or_cases (is_reached_by n found q) (list_any (λ h. leads_to q h.thing && is_reached_by n found (id_of h)) found) is)
    where
      by : ((d : ℕ) → is_reached_by n found d ≡ true → is_among d r.order.items ≡ true) → (is_reached_by n found q ≡ true) ⊎ (list_any (λ h. leads_to q h.thing && is_reached_by n found (id_of h)) found ≡ true) → is_among q r.order.items ≡ true
      by later (inl there) = later q there
      by later (inr more) =
          let one = any_one (λ h. leads_to q h.thing && is_reached_by n found (id_of h)) found more in
          let h : Held = one.0 in
          let at = among_place (id_of h) r.order.items (later (id_of h) (second_of_two (leads_to q h.thing) (is_reached_by n found (id_of h)) one.1)) in
          let within = slice_get_within r.order.items at.0 (id_of h) at.1 in
          let leads_there : list_any (leads (id_of h) q) found ≡ true = one.2 (leads (id_of h) q) (both (leads_to q h.thing) (id_of h == id_of h) (first_of_two (leads_to q h.thing) (is_reached_by n found (id_of h)) one.1) (eq-eqb (id_of h) (id_of h) refl)) in
          w.closed at.0 (id_of h) q (omega (arith, within, end)) at.1 (names.each (id_of h) q ∙ leads_there)

  pub all_reached : AreNamed found named → length r.order.items ≤ i → (q : ℕ) → value_at r.ids q ≡ is_reached found q
  all_reached names end q = w.good.same q ∙ same (is_among q r.order.items) (is_reached found q)
      (λ is. let at = among_place q r.order.items is in let within = slice_get_within r.order.items at.0 q at.1 in by_at_most (length found) at.0 found q (omega (arith, within, few_ids)) (w.sound at.0 q at.1))
      (reached_are_there names end (length found) q)
    where
      same : (a b : Bool) → (a ≡ true → b ≡ true) → (b ≡ true → a ≡ true) → a ≡ b
      same true true f g = refl
      same true false f g = sym (f refl)
      same false true f g = g refl
      same false false f g = refl

-- ---- the walk goes on

get_place : (xs : List ℕ) (i d : ℕ) → i < length xs → slice_get xs i ≡ Some (get_or xs i d)
get_place [] i d lt = absurd (omega (arith, lt))
get_place (x ∷ xs) zero d lt = refl
get_place (x ∷ xs) (suc i) d lt = get_place xs i d (omega (arith, lt))

pub no_ids : (r : Reach) → ((q : ℕ) → value_at r.ids q ≡ false) → r.order.items ≡ [] → IsReach r
unfolding IsDistinct
no_ids r ids order = record {
  same = λ q. ids q ∙ sym (ap (is_among q) order);
  once = subst (IsDistinct nat_eq) (sym order) tt;
}

only_root : (xs : List ℕ) → xs ≡ 42 ∷ [] → (k q : ℕ) → slice_get xs k ≡ Some q → (k ≡ 0) × (q ≡ 42)
only_root xs is k q at = by k (ap (λ (l : List ℕ). slice_get l k) (sym is) ∙ at)
  where
    by : (k : ℕ) → slice_get (42 ∷ []) k ≡ Some q → (k ≡ 0) × (q ≡ 42)
    by zero at = let same : q ≡ 42 = cc in (refl, same)
    by (suc k) at = cc

pub walked_first : (found : List Held) (named : BTreeMap ℕ (Vec ℕ)) (old new : Reach) → old.order.items ≡ [] → Adds 42 old new → IsWalked found named new 0
unfolding is_reached_by
walked_first found named old new none a =
    let order : new.order.items ≡ 42 ∷ [] = a.order ∙ ap (λ (l : List ℕ). cond (is_among 42 l) l (l ++ 42 ∷ [])) none in
    record {
      good = a.good;
      root = ap (is_among 42) order;
      sound = λ k q at. let is = only_root new.order.items order k q at in subst (λ (n : ℕ). is_reached_by n found q ≡ true) (sym is.0) (eq-eqb q 42 is.1);
      closed = λ k d q lt. absurd (omega (arith, lt));
    }

pub walked_more : (found : List Held) (named : BTreeMap ℕ (Vec ℕ)) (old new : Reach) (i d x : ℕ) (ids : Vec ℕ) → AreNamed found named → IsWalked found named old i → i < length old.order.items → d ≡ get_or old.order.items i x
    → get nat_cmp named d ≡ Some ids → Grows ids.items old new → IsWalked found named new (i + 1)
walked_more found named old new i d x ids names w lt is has g = record {
  good = g.good;
  root = there 42 w.root;
  sound = λ k q at. (elim (g.only k q at) [
    | inl first ↦ w.sound k q first
    | inr later ↦ by_at_most k (suc i) found q (omega (arith, lt, later.0)) (reached_next i found d q (w.sound i d at_i) (sym (names.each d q) ∙ ap (λ (o : Option (Vec ℕ)). option_map_or (λ v. is_among q v.items) o false) has ∙ later.1))
  ]);
  closed = λ k e q below at name. closed k e q (below_or k i below) at name;
}
  where
    at_i : slice_get old.order.items i ≡ Some d
    at_i = get_place old.order.items i x lt ∙ ap (λ (y : ℕ). Some y) (sym is)

    there : (q : ℕ) → is_among q old.order.items ≡ true → is_among q new.order.items ≡ true
    there q among = let place = among_place q old.order.items among in place_among q place.0 new.order.items (g.kept place.0 q place.1)

    below_or : (k i : ℕ) → k < i + 1 → (k < i) ⊎ (k ≡ i)
    below_or k i below = elim (cases_lt k i) [ inl less ↦ inl less | inr more ↦ inr (omega (arith, below, more)) ]

    old_place : (k e : ℕ) → k < length old.order.items → slice_get new.order.items k ≡ Some e → slice_get old.order.items k ≡ Some e
    old_place k e within at = elim (g.only k e at) [ inl first ↦ first | inr later ↦ absurd (omega (arith, within, later.0)) ]

    closed : (k e q : ℕ) → (k < i) ⊎ (k ≡ i) → slice_get new.order.items k ≡ Some e → is_named named e q ≡ true → is_among q new.order.items ≡ true
    closed k e q (inl less) at name = there q (w.closed k e q less (old_place k e (omega (arith, less, lt)) at) name)
    closed k e q (inr here) at name =
        let same : e ≡ d = let f = old_place k e (omega (arith, here, lt)) at in let s : slice_get old.order.items k ≡ Some d = ap (slice_get old.order.items) here ∙ at_i in cc in
        g.all q (sym (ap (λ (o : Option (Vec ℕ)). option_map_or (λ v. is_among q v.items) o false) has) ∙ ap (λ (y : ℕ). is_named named y q) (sym same) ∙ name)

pub walked_none : (found : List Held) (named : BTreeMap ℕ (Vec ℕ)) (old : Reach) (i d x : ℕ) → IsWalked found named old i → i < length old.order.items → d ≡ get_or old.order.items i x → get nat_cmp named d ≡ None → IsWalked found named old (i + 1)
walked_none found named old i d x w lt is has = record {
  good = w.good;
  root = w.root;
  sound = w.sound;
  closed = λ k e q below at name. closed k e q (below_or k i below) at name;
}
  where
    below_or : (k i : ℕ) → k < i + 1 → (k < i) ⊎ (k ≡ i)
    below_or k i below = elim (cases_lt k i) [ inl less ↦ inl less | inr more ↦ inr (omega (arith, below, more)) ]

    closed : (k e q : ℕ) → (k < i) ⊎ (k ≡ i) → slice_get old.order.items k ≡ Some e → is_named named e q ≡ true → is_among q old.order.items ≡ true
    closed k e q (inl less) at name = w.closed k e q less at name
    closed k e q (inr here) at name =
        let place : slice_get old.order.items i ≡ Some d = get_place old.order.items i x lt ∙ ap (λ (y : ℕ). Some y) (sym is) in
        let same : e ≡ d = let s : slice_get old.order.items k ≡ Some d = ap (slice_get old.order.items) here ∙ place in cc in
        let fails : is_named named e q ≡ false = ap (λ (y : ℕ). is_named named y q) same ∙ ap (λ (o : Option (Vec ℕ)). option_map_or (λ v. is_among q v.items) o false) has in
        cc
