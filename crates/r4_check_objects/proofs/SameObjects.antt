-- Objects, and where their stat data stand.
use Rattle.std.proofs.Common.{◌≡◌, ℕ, ◌==◌, Bool, true, false, not, ◌&&◌, List, Some, refl, ap, ◌∙◌}
use Rattle.std.specs.Prelude.{is_some, option_and_then}
use Rattle.std.specs.List.{filter, find}
use Rattle.std.proofs.lemmas.Bool.{eq-eqb, eqb-true}
use Rattle.r4_base.specs.Volume.{object_of}
use Rattle.r4_base.specs.declared.items.Target.{Target}
use Rattle.r4_check_objects.specs.Held.{id_of, is_placed, is_stat_data}
use Rattle.r4_check_objects.specs.Known.{is_other}
use Rattle.r4_check_objects.specs.Objects.{facts_as, facts_at, facts_in, is_object_at, is_owner, is_same, is_stat_of, owner_of}
use Rattle.r4_check_objects.specs.declared.held.Held.{Held}
use Rattle.r4_check_objects.specs.declared.held.Thing.{Thing}
use Rattle.r4_check_objects.specs.declared.held.Thing.TheVariants.{Stat, Entry, Tail, Extent}
use Rattle.r4_check_objects.proofs.Finds.{find_filter, find_narrow}
use Rattle.r4_check_objects.proofs.FirstThings.{first_of_two, second_of_two}

-- ---- the same object

abbrev made : (locality ordering oid : ℕ) → Target
made l k i = record { locality = l; ordering = k; oid = record { 0 = i } }

pub same_is : (p o : Target) → is_same p o ≡ true → p ≡ o
same_is p o same =
    let locality : p.locality ≡ o.locality = eqb-true _ _ (first_of_two _ _ (first_of_two _ _ same)) in
    let ordering : p.ordering ≡ o.ordering = eqb-true _ _ (second_of_two _ _ (first_of_two _ _ same)) in
    let oid : p.oid.0 ≡ o.oid.0 = eqb-true _ _ (second_of_two _ _ same) in
    ap (λ (x : ℕ). made x p.ordering p.oid.0) locality ∙ ap (λ (x : ℕ). made o.locality x p.oid.0) ordering ∙ ap (made o.locality o.ordering) oid

-- ---- stat data at their key are under their object's id

stat_thing : (b : Bool) (t : Thing) → is_some (facts_as b t) ≡ true → (k : Held) → k.thing ≡ t → is_stat_data k ≡ true
stat_thing b (Stat f) is k thing = ap (λ (x : Thing). is_stat_data (record k { thing = x })) thing
stat_thing b (Entry t) is k thing = cc
stat_thing b (Tail n) is k thing = cc
stat_thing b (Extent n) is k thing = cc

stat_id : (t : Thing) (b : Bool) → is_some (facts_as b t) ≡ true → (h : Held) → h.thing ≡ t → id_of h ≡ (object_of h.key).oid.0
stat_id (Stat f) b is h thing = ap (λ (x : Thing). id_of (record h { thing = x })) thing
stat_id (Entry t) b is h thing = cc
stat_id (Tail n) b is h thing = cc
stat_id (Extent n) b is h thing = cc

both : (s t : Bool) → s ≡ true → t ≡ true → (s && t) ≡ true
both s t a b = ap (λ (x : Bool). x && t) a ∙ b

pub object_stat : (o : Target) (h : Held) → is_object_at o h ≡ true → is_stat_of o.oid.0 h ≡ true
object_stat o h is =
    let stat = first_of_two (is_some (facts_in h)) (is_same (object_of h.key) o) is in
    let same : object_of h.key ≡ o = same_is _ _ (second_of_two (is_some (facts_in h)) (is_same (object_of h.key) o) is) in
    both (is_stat_data h) (id_of h == o.oid.0) (stat_thing (is_placed h) h.thing stat h refl) (eq-eqb _ _ (stat_id h.thing (is_placed h) stat h refl ∙ ap (λ (p : Target). p.oid.0) same))

-- ---- the facts of an object: those of the owner of its id, or of another object

pub facts_owner : (found : List Held) (o : Target) (h : Held) → owner_of found o.oid.0 ≡ Some h → is_object_at o h ≡ true → facts_at found o ≡ facts_in h
unfolding facts_at owner_of
facts_owner found o h owner is = ap (option_and_then facts_in) (find_narrow (is_stat_of o.oid.0) (is_object_at o) found h (object_stat o) owner is)

other_true : (found : List Held) (o : Target) → is_owner found o ≡ false → (h : Held) → is_object_at o h ≡ true → is_other found h ≡ true
other_true found o own h is =
    let same : object_of h.key ≡ o = same_is _ _ (second_of_two (is_some (facts_in h)) (is_same (object_of h.key) o) is) in
    both (is_some (facts_in h)) (not (is_owner found (object_of h.key))) (first_of_two (is_some (facts_in h)) (is_same (object_of h.key) o) is) (ap (λ (p : Target). not (is_owner found p)) same ∙ ap not own)

pub facts_other : (found : List Held) (o : Target) → is_owner found o ≡ false → option_and_then facts_in (find (is_object_at o) (filter (is_other found) found)) ≡ facts_at found o
unfolding facts_at
facts_other found o own = ap (option_and_then facts_in) (find_filter (is_other found) (is_object_at o) found (other_true found o own))
