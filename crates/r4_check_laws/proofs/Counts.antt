-- How many units of a kind a content has, by what was found.
use Rattle.std.proofs.Common.{◌≡◌, inl, inr, ℕ, Bool, true, false, cond, ◌&&◌, ◌==◌, List, refl, sym, ap, ◌∙◌, arith}
use Rattle.std.specs.Prelude.{Contains, sum_by, count_by, if◌then◌else◌, is_some}
use Rattle.std.specs.FinMap.{entries}
use Rattle.std.specs.Option.{option_map_or}
use Rattle.std.proofs.lemmas.Bool.{and_parts, cases_eq, eq-eqb, eqb-true}
use Rattle.std.proofs.lemmas.Bool.Decides.{nat_tests}
use Rattle.r4_base.specs.Key.{IsKey, key_of_rank, minor_of, offset_of, rank}
use Rattle.r4_base.specs.Name.{dir_of_key}
use Rattle.r4_base.specs.Value.{Byte, Entry as EntryValue, Stat as StatValue, Value, at_key}
use Rattle.r4_base.specs.Volume.{directories_in, entries_in, is_directory_value, is_entry_in, is_stat_value, links_to, names_directory, names_object, object_of, objects_in, stat_rank}
use Rattle.r4_base.specs.declared.items.Attr.{Attr}
use Rattle.r4_base.specs.declared.items.Target.{Target}
use Rattle.r4_base.specs.declared.key.Key.{Key}
use Rattle.r4_check_objects.specs.Held.{facts_of, fits_key, id_of, id_under, is_stat_data, is_stat_thing}
use Rattle.r4_check_objects.specs.Objects.{is_directory_at, is_object_at, is_owner, is_same, named_id, names_one, once, owner_of, stats_of, target_of}
use Rattle.r4_check_objects.specs.declared.held.Facts.{Facts}
use Rattle.r4_check_objects.specs.declared.held.Held.{Held}
use Rattle.r4_check_objects.specs.declared.held.Thing.{Thing}
use Rattle.r4_check_objects.specs.declared.held.Thing.TheVariants.{Entry, Extent, Stat, Tail}
use Rattle.r4_check_laws.proofs.Contents.{AreApart, HaveOne, PassesNamed, Units, counted_raw, raw_of}
use Rattle.r4_check_laws.proofs.Keys.{key_again}
use Rattle.r4_check_laws.proofs.Lists.{sums_alike}
use Rattle.r4_check_laws.proofs.Pairs.{IsBare, IsSame, Mirrors, Pair, is_body}
use Rattle.r4_check_laws.proofs.Rights.{IsOwner, directories_at, entries_at, links_at}

-- ---- things and values

pub stat_value : (f : Facts) (v : Value) → IsSame (Stat f) v → (a : Attr) × (v ≡ StatValue a) × (f ≡ facts_of a)
stat_value f (StatValue a) same = (a, refl, same)
stat_value f (EntryValue n o) same = absurd same
stat_value f (Byte x) same = absurd same

pub entry_value : (t : Target) (v : Value) → IsSame (Entry t) v → (n : List ℕ) × (v ≡ EntryValue n t)
entry_value t (StatValue a) same = absurd same
entry_value t (EntryValue n o) same = (n, ap (EntryValue n) (sym same))
entry_value t (Byte x) same = absurd same

pub stat_thing : (t : Thing) (a : Attr) → IsSame t (StatValue a) → t ≡ Stat (facts_of a)
stat_thing (Stat f) a same = ap (λ (x : Facts). Stat x) same
stat_thing (Entry t) a same = absurd same
stat_thing (Tail n) a same = absurd same
stat_thing (Extent n) a same = absurd same

pub entry_thing : (t : Thing) (n : List ℕ) (o : Target) → IsSame t (EntryValue n o) → t ≡ Entry o
entry_thing (Stat f) n o same = absurd same
entry_thing (Entry t) n o same = ap (λ (x : Target). Entry x) same
entry_thing (Tail k) n o same = absurd same
entry_thing (Extent k) n o same = absurd same

pub stat_placed : (h : Held) (t : Thing) (f : Facts) → h.thing ≡ t → t ≡ Stat f → fits_key h.key t ≡ true → (minor_of h.key ≡ 1) × (offset_of h.key ≡ 0)
stat_placed h (Stat g) f e is fits = let parts = and_parts (minor_of h.key == 1) (offset_of h.key == 0) fits in (eqb-true _ _ parts.0, eqb-true _ _ parts.1)
stat_placed h (Entry t) f e is fits = absurd (cc)
stat_placed h (Tail n) f e is fits = absurd (cc)
stat_placed h (Extent n) f e is fits = absurd (cc)

-- ---- same objects

pub swapped : (a b : ℕ) → (a == b) ≡ (b == a)
swapped a b = elim (cases_eq a b) [ inl is ↦ grind (arith, nat_tests) | inr other ↦ grind (arith, nat_tests) ]

pub same_swapped : (p o : Target) → is_same p o ≡ is_same o p
same_swapped p o = let a = swapped p.locality o.locality in let b = swapped p.ordering o.ordering in let c = swapped p.oid.0 o.oid.0 in rw (a, b, c) refl

pub same_itself : (o : Target) → is_same o o ≡ true
same_itself o = let a = eq-eqb o.locality o.locality refl in let b = eq-eqb o.ordering o.ordering refl in let c = eq-eqb o.oid.0 o.oid.0 refl in rw (a, b, c) refl

pub and_false : (b c : Bool) → c ≡ false → (b && c) ≡ false
and_false true c e = e
and_false false c e = refl

pub if_none : (b : Bool) → ◌≡◌ {A = ℕ} (if b then 0 else 0) 0
if_none true = refl
if_none false = refl

pub if_true : (b x y : Bool) → b ≡ true → (if b then x else y) ≡ true → x ≡ true
if_true true x y e h = h
if_true false x y e h = absurd (cc)

pub if_false : (b x y : Bool) → b ≡ false → (if b then x else y) ≡ true → y ≡ true
if_false false x y e h = h
if_false true x y e h = absurd (cc)

module _ (found : List Held) (us : Units) (one : HaveOne us) (apart : AreApart us) (ps : List Pair) (m : Mirrors found us ps) where
  -- ---- counts

  -- what is added up of what was found is as many as the units of the content that pass a test
  pub counted_as : (f : Held → ℕ) (p : ℕ × Value → Bool) → IsBare f → PassesNamed p → ((h : Held) (u : ℕ × Value) → Contains ps (h, u) → f h ≡ cond (p u) 1 0) → count_by p (entries (raw_of us)) ≡ sum_by f found
  counted_as f p bare named same =
      counted_raw p named us one apart ∙ m.counts p named
      ∙ sym (sums_alike (λ (x : Pair). f x.0) (λ (x : Pair). cond (p x.1) 1 0) ps (λ x at. same x.0 x.1 at)) ∙ sym (m.sums f bare)

  -- a pair is stat data or an entry
  by_pair : (P : Held → ℕ × Value → Type 0)
      → ((h : Held) (k : ℕ) (a : Attr) → Contains found h → IsKey h.key → k ≡ rank h.key → h.thing ≡ Stat (facts_of a) → P h (k, StatValue a))
      → ((h : Held) (k : ℕ) (n : List ℕ) (t : Target) → Contains found h → IsKey h.key → k ≡ rank h.key → h.thing ≡ Entry t → P h (k, EntryValue n t))
      → (h : Held) (u : ℕ × Value) → Contains ps (h, u) → P h u
  by_pair P stat entry h u at =
      let p = m.pair (h, u) at in
      by u.1 refl p.same (m.to_held (h, u) at) p.key p.at
    where
      by : (v : Value) → u.1 ≡ v → IsSame h.thing v → Contains found h → IsKey h.key → u.0 ≡ rank h.key → P h (u.0, v)
      by (StatValue a) e same there key is = stat h u.0 a there key is (stat_thing h.thing a same)
      by (EntryValue n t) e same there key is = entry h u.0 n t there key is (entry_thing h.thing n t same)
      by (Byte x) e same there key is = absurd (no_byte h.thing same)
        where
          no_byte : (t : Thing) → IsSame t (Byte x) → ⊥
          no_byte (Stat f) same = same
          no_byte (Entry t) same = same
          no_byte (Tail n) same = same
          no_byte (Extent n) same = same

  no_target : (h : Held) (p : Target → Bool) → is_body h.thing ≡ true → names_one p h ≡ false
  no_target h p body = by h.thing body
    where
      by : (t : Thing) → is_body t ≡ true → option_map_or p (target_of t) false ≡ false
      by (Stat f) e = absurd (cc)
      by (Entry t) e = absurd (cc)
      by (Tail n) e = refl
      by (Extent n) e = refl

  once_none : (b c : Bool) → c ≡ false → (if b then once c else 0) ≡ 0
  once_none b c e = ap (λ (x : Bool). if b then once x else 0) e ∙ if_none b

  pub entries_counted : (o : Target) → entries_in (raw_of us) o ≡ entries_at found o.oid.0
  entries_counted o =
      counted_as (λ h. if id_of h == o.oid.0 then once (names_one (λ t. true) h) else 0) (is_entry_in o.oid.0)
      (λ h body. once_none (id_of h == o.oid.0) (names_one (λ t. true) h) (no_target h (λ t. true) body))
      named
      (by_pair (λ h u. (if id_of h == o.oid.0 then once (names_one (λ t. true) h) else 0) ≡ cond (is_entry_in o.oid.0 u) 1 0) stat entry)
    where
      named : PassesNamed (is_entry_in o.oid.0)
      named k (StatValue a) e = absurd (cc)
      named k (EntryValue n t) e = refl
      named k (Byte x) e = absurd (cc)

      stat : (h : Held) (k : ℕ) (a : Attr) → Contains found h → IsKey h.key → k ≡ rank h.key → h.thing ≡ Stat (facts_of a) → (if id_of h == o.oid.0 then once (names_one (λ t. true) h) else 0) ≡ 0
      stat h k a at key is thing = once_none (id_of h == o.oid.0) (names_one (λ t. true) h) (ap (λ (t : Thing). option_map_or (λ x. true) (target_of t) false) thing)

      entry : (h : Held) (k : ℕ) (n : List ℕ) (t : Target) → Contains found h → IsKey h.key → k ≡ rank h.key → h.thing ≡ Entry t → (if id_of h == o.oid.0 then once (names_one (λ t. true) h) else 0) ≡ cond (dir_of_key (key_of_rank k) == o.oid.0) 1 0
      entry h k n t at key is thing =
          ap (λ (x : Thing). if id_under h.key x == o.oid.0 then once (option_map_or (λ y. true) (target_of x) false) else 0) thing
          ∙ ap (λ (j : Key). cond (dir_of_key j == o.oid.0) 1 0) (sym (ap key_of_rank is ∙ key_again h.key key))

  pub stats_counted : objects_in (raw_of us) ≡ stats_of found
  stats_counted =
      counted_as (λ h. cond (is_stat_data h) 1 0) (λ u. is_stat_value u.1) bare named (by_pair (λ h u. cond (is_stat_data h) 1 0 ≡ cond (is_stat_value u.1) 1 0) stat entry)
    where
      bare : IsBare (λ h. cond (is_stat_data h) 1 0)
      bare h body = by h.thing body
        where
          by : (t : Thing) → is_body t ≡ true → cond {A = ℕ} (is_stat_thing t) 1 0 ≡ 0
          by (Stat f) e = absurd (cc)
          by (Entry t) e = absurd (cc)
          by (Tail n) e = refl
          by (Extent n) e = refl

      named : PassesNamed (λ u. is_stat_value u.1)
      named k (StatValue a) e = refl
      named k (EntryValue n t) e = absurd (cc)
      named k (Byte x) e = absurd (cc)

      stat : (h : Held) (k : ℕ) (a : Attr) → Contains found h → IsKey h.key → k ≡ rank h.key → h.thing ≡ Stat (facts_of a) → cond {A = ℕ} (is_stat_data h) 1 0 ≡ 1
      stat h k a at key is thing = ap (λ (t : Thing). cond {A = ℕ} (is_stat_thing t) 1 0) thing

      entry : (h : Held) (k : ℕ) (n : List ℕ) (t : Target) → Contains found h → IsKey h.key → k ≡ rank h.key → h.thing ≡ Entry t → cond {A = ℕ} (is_stat_data h) 1 0 ≡ 0
      entry h k n t at key is thing = ap (λ (t : Thing). cond {A = ℕ} (is_stat_thing t) 1 0) thing

  -- who is named: the owner of an id by each entry that names it
  pub links_counted : (o : Target) → IsOwner found o → links_to (raw_of us) o ≡ links_at found o.oid.0
  links_counted o w =
      counted_as (λ h. if named_id h.thing == o.oid.0 then once (names_one (is_owner found) h) else 0) (λ u. names_object o u.1)
      (λ h body. once_none (named_id h.thing == o.oid.0) (names_one (is_owner found) h) (no_target h (is_owner found) body))
      named
      (by_pair (λ h u. (if named_id h.thing == o.oid.0 then once (names_one (is_owner found) h) else 0) ≡ cond (names_object o u.1) 1 0) stat entry)
    where
      named : PassesNamed (λ u. names_object o u.1)
      named k (StatValue a) e = absurd (cc)
      named k (EntryValue n t) e = refl
      named k (Byte x) e = absurd (cc)

      stat : (h : Held) (k : ℕ) (a : Attr) → Contains found h → IsKey h.key → k ≡ rank h.key → h.thing ≡ Stat (facts_of a) → (if named_id h.thing == o.oid.0 then once (names_one (is_owner found) h) else 0) ≡ 0
      stat h k a at key is thing = once_none (named_id h.thing == o.oid.0) (names_one (is_owner found) h) (ap (λ (t : Thing). option_map_or (is_owner found) (target_of t) false) thing)

      own : (t : Target) → t.oid.0 ≡ o.oid.0 → is_owner found t ≡ is_same t o
      own t same =
          ap (λ r. option_map_or (is_object_at t) r false) (ap (owner_of found) same ∙ w.owner)
          ∙ ap (λ r. is_some r && is_same (object_of w.held.key) t) w.fact ∙ ap (λ (x : Target). is_same x t) w.object ∙ same_swapped o t

      chosen : (t : Target) (b : Bool) → (t.oid.0 == o.oid.0) ≡ b → (if b then once (is_owner found t) else 0) ≡ cond (is_same t o) 1 0
      chosen t true e = ap once (own t (eqb-true _ _ e))
      chosen t false e = ap (λ (x : Bool). cond {A = ℕ} x 1 0) (sym (and_false (t.locality == o.locality && t.ordering == o.ordering) (t.oid.0 == o.oid.0) e))

      entry : (h : Held) (k : ℕ) (n : List ℕ) (t : Target) → Contains found h → IsKey h.key → k ≡ rank h.key → h.thing ≡ Entry t → (if named_id h.thing == o.oid.0 then once (names_one (is_owner found) h) else 0) ≡ cond (is_same t o) 1 0
      entry h k n t at key is thing =
          ap (λ (x : Thing). if named_id x == o.oid.0 then once (option_map_or (is_owner found) (target_of x) false) else 0) thing ∙ chosen t (t.oid.0 == o.oid.0) refl

  pub directories_counted : ((h : Held) (t : Target) → Contains found h → h.thing ≡ Entry t → is_directory_at found t ≡ is_directory_value (at_key (raw_of us) (stat_rank t))) → (o : Target) → directories_in (raw_of us) o ≡ directories_at found o.oid.0
  directories_counted targets o =
      counted_as (λ h. if id_of h == o.oid.0 then once (names_one (is_directory_at found) h) else 0) (λ u. is_entry_in o.oid.0 u && names_directory (raw_of us) u.1)
      (λ h body. once_none (id_of h == o.oid.0) (names_one (is_directory_at found) h) (no_target h (is_directory_at found) body))
      named
      (by_pair (λ h u. (if id_of h == o.oid.0 then once (names_one (is_directory_at found) h) else 0) ≡ cond (is_entry_in o.oid.0 u && names_directory (raw_of us) u.1) 1 0) stat entry)
    where
      named : PassesNamed (λ u. is_entry_in o.oid.0 u && names_directory (raw_of us) u.1)
      named k (StatValue a) e = absurd (cc)
      named k (EntryValue n t) e = refl
      named k (Byte x) e = absurd (cc)

      stat : (h : Held) (k : ℕ) (a : Attr) → Contains found h → IsKey h.key → k ≡ rank h.key → h.thing ≡ Stat (facts_of a) → (if id_of h == o.oid.0 then once (names_one (is_directory_at found) h) else 0) ≡ 0
      stat h k a at key is thing = once_none (id_of h == o.oid.0) (names_one (is_directory_at found) h) (ap (λ (t : Thing). option_map_or (is_directory_at found) (target_of t) false) thing)

      both : (b c : Bool) → (if b then once c else 0) ≡ cond (b && c) 1 0
      both true c = refl
      both false c = refl

      entry : (h : Held) (k : ℕ) (n : List ℕ) (t : Target) → Contains found h → IsKey h.key → k ≡ rank h.key → h.thing ≡ Entry t
          → (if id_of h == o.oid.0 then once (names_one (is_directory_at found) h) else 0) ≡ cond (dir_of_key (key_of_rank k) == o.oid.0 && is_directory_value (at_key (raw_of us) (stat_rank t))) 1 0
      entry h k n t at key is thing =
          ap (λ (x : Thing). if id_under h.key x == o.oid.0 then once (option_map_or (is_directory_at found) (target_of x) false) else 0) thing
          ∙ both (dir_of_key h.key == o.oid.0) (is_directory_at found t)
          ∙ ap (λ (x : Bool). cond {A = ℕ} (dir_of_key h.key == o.oid.0 && x) 1 0) (targets h t at thing)
          ∙ ap (λ (j : Key). cond {A = ℕ} (dir_of_key j == o.oid.0 && is_directory_value (at_key (raw_of us) (stat_rank t))) 1 0) (sym (ap key_of_rank is ∙ key_again h.key key))
