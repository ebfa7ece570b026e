-- Objects that are the same, and the first thing that passes a test.
use Rattle.std.proofs.Common.{◌≡◌, ℕ, ◌==◌, Bool, true, false, cond, ◌&&◌, List, [], ◌∷◌, Some, is_some, refl, sym, ap, ◌∙◌}
use Rattle.std.specs.List.{find}
use Rattle.std.specs.Prelude.{option_and_then}
use Rattle.std.proofs.lemmas.Bool.{and_parts, eq-eqb, eqb-true}
use Rattle.r4_base.specs.Volume.{object_of}
use Rattle.r4_base.specs.declared.items.Target.{Target}
use Rattle.r4_check_objects.specs.Held.{id_of, is_placed, is_stat_data}
use Rattle.r4_check_objects.specs.Objects.{facts_as, facts_at, facts_in, is_object_at, is_same, is_stat_of, owner_of}
use Rattle.r4_check_objects.specs.declared.held.Held.{Held}
use Rattle.r4_check_objects.specs.declared.held.Thing.{Thing}
use Rattle.r4_check_objects.specs.declared.held.Thing.TheVariants.{Stat, Entry, Tail, Extent}

first_of_two : (s t : Bool) → (s && t) ≡ true → s ≡ true
first_of_two s t is = (and_parts s t is).0

second_of_two : (s t : Bool) → (s && t) ≡ true → t ≡ true
second_of_two s t is = (and_parts s t is).1

module _ {X : Type 0} where
  -- it passes
  pub find_true : (p : X → Bool) (xs : List X) (x : X) → find p xs ≡ Some x → p x ≡ true
  find_true p [] x is = cc
  find_true p (y ∷ xs) x is = by (find_true p xs x) (p y) refl is
    where
      by : (find p xs ≡ Some x → p x ≡ true) → (b : Bool) → p y ≡ b → cond b (Some y) (find p xs) ≡ Some x → p x ≡ true
      by later true holds is = let same : y ≡ x = cc in ap p (sym same) ∙ holds
      by later false holds is = later is

  -- the first one of a wider test that passes a narrower one is also that one's first
  pub find_narrow : (p q : X → Bool) (xs : List X) (x : X) → ((y : X) → q y ≡ true → p y ≡ true) → find p xs ≡ Some x → q x ≡ true → find q xs ≡ Some x
  find_narrow p q [] x wide is good = cc
  find_narrow p q (y ∷ xs) x wide is good = by (find_narrow p q xs x wide) (p y) refl is (q y) refl
    where
      by : (find p xs ≡ Some x → q x ≡ true → find q xs ≡ Some x) → (b : Bool) → p y ≡ b → cond b (Some y) (find p xs) ≡ Some x → (d : Bool) → q y ≡ d → cond d (Some y) (find q xs) ≡ Some x
      by later true is_b is true is_d = is
      by later true is_b is false is_d = let same : y ≡ x = cc in let other : q y ≡ true = ap q same ∙ good in cc
      by later false is_b is true is_d = let other : p y ≡ true = wide y is_d in cc
      by later false is_b is false is_d = later is good

-- ---- the same object

abbrev made : (locality ordering oid : ℕ) → Target
made l k i = record { locality = l; ordering = k; oid = record { 0 = i } }

pub same_is : (p o : Target) → is_same p o ≡ true → p ≡ o
same_is p o same =
    let locality : p.locality ≡ o.locality = eqb-true _ _ (first_of_two _ _ (first_of_two _ _ same)) in
    let ordering : p.ordering ≡ o.ordering = eqb-true _ _ (second_of_two _ _ (first_of_two _ _ same)) in
    let oid : p.oid.0 ≡ o.oid.0 = eqb-true _ _ (second_of_two _ _ same) in
    ap (λ (x : ℕ). made x p.ordering p.oid.0) locality ∙ ap (λ (x : ℕ). made o.locality x p.oid.0) ordering ∙ ap (made o.locality o.ordering) oid

-- ---- stat data at their key are under their object's id

stat_thing : (b : Bool) (t : Thing) → is_some (facts_as b t) ≡ true → (k : Held) → k.thing ≡ t → is_stat_data k ≡ true
stat_thing b (Stat f) is k thing = ap (λ (x : Thing). is_stat_data (record k { thing = x })) thing
stat_thing b (Entry t) is k thing = cc
stat_thing b (Tail n) is k thing = cc
stat_thing b (Extent n) is k thing = cc

stat_id : (t : Thing) (b : Bool) → is_some (facts_as b t) ≡ true → (h : Held) → h.thing ≡ t → id_of h ≡ (object_of h.key).oid.0
stat_id (Stat f) b is h thing = ap (λ (x : Thing). id_of (record h { thing = x })) thing
stat_id (Entry t) b is h thing = cc
stat_id (Tail n) b is h thing = cc
stat_id (Extent n) b is h thing = cc

both : (s t : Bool) → s ≡ true → t ≡ true → (s && t) ≡ true
both s t a b = ap (λ (x : Bool). x && t) a ∙ b

pub object_stat : (o : Target) (h : Held) → is_object_at o h ≡ true → is_stat_of o.oid.0 h ≡ true
object_stat o h is =
    let stat = first_of_two (is_some (facts_in h)) (is_same (object_of h.key) o) is in
    let same : object_of h.key ≡ o = same_is _ _ (second_of_two (is_some (facts_in h)) (is_same (object_of h.key) o) is) in
    both (is_stat_data h) (id_of h == o.oid.0) (stat_thing (is_placed h) h.thing stat h refl) (eq-eqb _ _ (stat_id h.thing (is_placed h) stat h refl ∙ ap (λ (p : Target). p.oid.0) same))

-- ---- the facts of an object: those of the owner of its id, or of another object

pub facts_owner : (found : List Held) (o : Target) (h : Held) → owner_of found o.oid.0 ≡ Some h → is_object_at o h ≡ true → facts_at found o ≡ facts_in h
unfolding facts_at owner_of
facts_owner found o h owner is = ap (option_and_then facts_in) (find_narrow (is_stat_of o.oid.0) (is_object_at o) found h (object_stat o) owner is)
