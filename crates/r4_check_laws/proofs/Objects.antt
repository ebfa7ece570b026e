-- Where no object has a fault, what was found is a content whose objects, directories and entries are right.
use Rattle.std.proofs.Common.{◌≡◌, ◌≢◌, ◌⊎◌, inl, inr, ℕ, zero, suc, ◌+◌, ◌≤◌, Bool, true, false, not, ◌&&◌, ◌||◌, ◌==◌, List, [], ◌∷◌, length, Option, Some, None, refl, sym, ap, subst, ◌∙◌, arith}
use Rattle.std.specs.Prelude.{Contains, if◌then◌else◌, is_some, option_and_then}
use Rattle.std.specs.List.{list_any}
use Rattle.std.specs.Option.{option_map_or}
use Rattle.std.proofs.lemmas.Bool.{and_parts, eqb-true}
use Rattle.std.proofs.lemmas.Bool.Decides.{nat_tests}
use Rattle.std.proofs.lemmas.Option.{same_Some}
use Rattle.r4_base.proofs.FreshVolume.{same_attr}
use Rattle.r4_base.specs.Key.{IsKey, key_of_rank, rank}
use Rattle.r4_base.specs.Name.{dir_of_key}
use Rattle.r4_base.specs.Value.{Content, Entry as EntryValue, Stat as StatValue, Value, at_key}
use Rattle.r4_base.specs.Volume.{HasIds, HasObjects, HasStat, IsReached, directories_in, entries_in, is_directory, is_directory_value, links_to, object_of, root_object, stat_rank}
use Rattle.r4_base.specs.declared.items.Attr.{Attr}
use Rattle.r4_base.specs.declared.items.Target.{Target}
use Rattle.r4_base.specs.declared.superblock.Super40.{Super40}
use Rattle.r4_check_objects.specs.Held.{facts_of, id_of, id_under, is_placed, is_stat_data}
use Rattle.r4_check_objects.specs.Objects.{facts_at, facts_in, is_directory_at, is_directory_id, is_object_at, is_owner, is_reached, is_reached_by, is_root, is_same, is_stat_of, leads_to, named_id, names_fit, names_one, once, owner_of, target_of}
use Rattle.r4_check_objects.specs.declared.held.Facts.{Facts}
use Rattle.r4_check_objects.specs.declared.held.Held.{Held}
use Rattle.r4_check_objects.specs.declared.held.Thing.{Thing}
use Rattle.r4_check_objects.specs.declared.held.Thing.TheVariants.{Entry, Extent, Stat, Tail}
use Rattle.r4_check_laws.proofs.Contents.{AreApart, HaveOne, Units, in_raw, in_units, raw_of}
use Rattle.r4_check_laws.proofs.Counts.{directories_counted, entries_counted, entry_thing, entry_value, if_false, if_true, links_counted, same_itself, stat_placed, stat_thing, stat_value, stats_counted}
use Rattle.r4_check_laws.proofs.Keys.{at_stat_rank, key_again, stat_rank_is, is_object}
use Rattle.r4_check_laws.proofs.Lists.{here, later, some_term, sums_below}
use Rattle.r4_check_laws.proofs.Pairs.{IsSame, Mirrors, Pair, is_body}
use Rattle.r4_check_laws.proofs.Rights.{AreRight, IsOwner, directories_at, entries_at, entry_fine, found_facts, found_there, id_fine, is_owned, links_at, links_fine, links_rule, met, owner_made, placed, root_owner, size_fine, size_rule, stat_fine, stat_with}
use Rattle.r4_check_laws.proofs.Same.{facts_owner, find_true, same_is}

module _ (s : Super40) (found : List Held) (right : AreRight s found) (us : Units) (one : HaveOne us) (apart : AreApart us) (ps : List Pair) (m : Mirrors found us ps) where
  abbrev raw : Content
  raw = raw_of us

  -- ---- what was found is in the content

  pub stat_there : (h : Held) (f : Facts) → Contains found h → h.thing ≡ Stat f → (a : Attr) × (f ≡ facts_of a) × HasStat (raw_of us) (object_of h.key) a
  stat_there h f at is =
      let pair = m.held h at (ap is_body is) in
      let u = pair.0 in
      let p = m.pair (h, u) pair.1 in
      let (a, val, e) = stat_value f u.1 (subst (λ (t : Thing). IsSame t u.1) is p.same) in
      let place = stat_placed h h.thing f refl is (placed s found right h at) in
      let here_at = in_raw us one u.0 u.1 (m.to_unit (h, u) pair.1) ∙ ap (λ (v : Value). Some v) val in
      let key = p.at ∙ stat_rank_is h.key p.key place.0 place.1 in
      (a, e, (is_object h.key p.key, subst (λ (k : ℕ). at_key (raw_of us) k ≡ Some (StatValue a)) key here_at))

  pub owner_stat : (o : Target) (w : IsOwner found o) → (a : Attr) × (w.facts ≡ facts_of a) × HasStat (raw_of us) o a
  owner_stat o w = let (a, e, has) = stat_there w.held w.facts w.there w.thing in (a, e, subst (λ (p : Target). HasStat (raw_of us) p a) w.object has)

  one_attr : (o : Target) (a b : Attr) → HasStat (raw_of us) o a → HasStat (raw_of us) o b → a ≡ b
  one_attr o a b x y = same_attr a b (same_Some (StatValue a) (StatValue b) (sym x.1 ∙ y.1))

  pub stat_owner : (o : Target) (a : Attr) → HasStat (raw_of us) o a → (w : IsOwner found o) × (w.facts ≡ facts_of a)
  stat_owner o a has =
      let (h, at_pair) = m.unit (stat_rank o, StatValue a) (in_units us (stat_rank o) (StatValue a) has.1) refl in
      let p = m.pair (h, (stat_rank o, StatValue a)) at_pair in
      let at = m.to_held (h, (stat_rank o, StatValue a)) at_pair in
      let thing = stat_thing h.thing a p.same in
      let object = at_stat_rank h.key o p.key has.0 (sym p.at) in
      let own = (stat_fine s found right h (facts_of a) at thing).0 in
      let w = is_owned found o (subst (λ (x : Target). is_owner found x ≡ true) object own) in
      let (b, e, also) = owner_stat o w in
      (w, e ∙ ap facts_of (one_attr o b a also has))

  pub entry_there : (h : Held) (t : Target) → Contains found h → h.thing ≡ Entry t → (n : List ℕ) × (at_key (raw_of us) (rank h.key) ≡ Some (EntryValue n t)) × IsKey h.key
  entry_there h t at is =
      let pair = m.held h at (ap is_body is) in
      let u = pair.0 in
      let p = m.pair (h, u) pair.1 in
      let (n, val) = entry_value t u.1 (subst (λ (x : Thing). IsSame x u.1) is p.same) in
      let here_at = in_raw us one u.0 u.1 (m.to_unit (h, u) pair.1) ∙ ap (λ (v : Value). Some v) val in
      (n, subst (λ (k : ℕ). at_key (raw_of us) k ≡ Some (EntryValue n t)) p.at here_at, p.key)

  pub there_entry : (k : ℕ) (n : List ℕ) (t : Target) → at_key (raw_of us) k ≡ Some (EntryValue n t) → (h : Held) × Contains found h × (h.thing ≡ Entry t) × (k ≡ rank h.key) × IsKey h.key
  there_entry k n t at =
      let (h, at_pair) = m.unit (k, EntryValue n t) (in_units us k (EntryValue n t) at) refl in
      let p = m.pair (h, (k, EntryValue n t)) at_pair in
      (h, m.to_held (h, (k, EntryValue n t)) at_pair, entry_thing h.thing n t p.same, p.at, p.key)

  -- an entry that stands names an object
  target_there : (h : Held) (t : Target) → Contains found h → h.thing ≡ Entry t → (w : IsOwner found t) × (a : Attr) × (w.facts ≡ facts_of a) × HasStat (raw_of us) t a
  target_there h t at is = let w = found_facts s found right t (entry_fine s found right h t at is).1 in let (a, e, has) = owner_stat t w in (w, a, e, has)

  directory_target : (t : Target) (w : IsOwner found t) (a : Attr) → w.facts ≡ facts_of a → HasStat (raw_of us) t a → is_directory_at found t ≡ is_directory_value (at_key (raw_of us) (stat_rank t))
  directory_target t w a e has = ap (λ r. option_map_or (λ f. f.directory) r false) (facts_owned t w ∙ ap (λ (f : Facts). Some f) e) ∙ sym (ap is_directory_value has.1)
    where
      object_at : (t : Target) (w : IsOwner found t) → is_object_at t w.held ≡ true
      object_at t w = ap (λ r. is_some r && is_same (object_of w.held.key) t) w.fact ∙ ap (λ (x : Target). is_same x t) w.object ∙ same_itself t

      facts_owned : (t : Target) (w : IsOwner found t) → facts_at found t ≡ Some w.facts
      facts_owned t w = facts_owner found t w.held w.owner (object_at t w) ∙ w.fact

  targets_there : (h : Held) (t : Target) → Contains found h → h.thing ≡ Entry t → is_directory_at found t ≡ is_directory_value (at_key (raw_of us) (stat_rank t))
  targets_there h t at is = let (w, a, e, has) = target_there h t at is in directory_target t w a e has

  -- ---- directories

  -- the directory of an entry
  pub record HasDirectory (q : ℕ) : Type 0 where
    pub object : Target
    pub own : IsOwner found object
    pub id : object.oid.0 ≡ q
    pub directory : own.facts.directory ≡ true

  holder_there : (q : ℕ) → is_directory_id found q ≡ true → HasDirectory q
  unfolding owner_of
  holder_there q is = by (owner_of found q) refl is
    where
      by_facts : (g : Held) → owner_of found q ≡ Some g → (r : Option Facts) → facts_in g ≡ r → option_map_or (λ f. f.directory) r false ≡ true → HasDirectory q
      by_facts g e None f h = absurd (cc)
      by_facts g e (Some x) f h =
          let at = found_there (is_stat_of q) found g e in
          let own = and_parts (is_stat_data g) (id_of g == q) (find_true (is_stat_of q) found g e) in
          let id = eqb-true (id_of g) q own.1 in
          let some : is_some (facts_in g) ≡ true = ap is_some f in
          let stat = stat_with g g.thing (is_placed g) refl refl some in
          let number : id_of g ≡ (object_of g.key).oid.0 = ap (id_under g.key) stat.1 in
          let at_object : is_object_at (object_of g.key) g ≡ true = ap (λ (b : Bool). b && is_same (object_of g.key) (object_of g.key)) some ∙ same_itself (object_of g.key) in
          let w = owner_made found (object_of g.key) g (ap (owner_of found) (sym number ∙ id) ∙ e) at_object in
          let held : w.held ≡ g = same_Some w.held g (sym w.owner ∙ ap (owner_of found) (sym number ∙ id) ∙ e) in
          let same : w.facts ≡ x = same_Some w.facts x (sym w.fact ∙ ap (λ (y : Held). facts_in y) held ∙ f) in
          record { object = object_of g.key; own = w; id = sym number ∙ id; directory = ap (λ (y : Facts). y.directory) same ∙ h }

      by : (r : Option Held) → owner_of found q ≡ r → option_map_or (λ f. f.directory) (option_and_then facts_in r) false ≡ true → HasDirectory q
      by None e h = absurd (cc)
      by (Some g) e h = by_facts g e (facts_in g) refl h

  one_owner : (o p : Target) → IsOwner found o → IsOwner found p → o.oid.0 ≡ p.oid.0 → o ≡ p
  one_owner o p v w same =
      let held : v.held ≡ w.held = same_Some v.held w.held (sym v.owner ∙ ap (owner_of found) same ∙ w.owner) in
      sym v.object ∙ ap (λ (h : Held). object_of h.key) held ∙ w.object

  -- ---- what the root reaches

  any_there : (p : Held → Bool) (xs : List Held) → list_any p xs ≡ true → (h : Held) × Contains xs h × (p h ≡ true)
  any_there p [] e = absurd (cc)
  any_there p (x ∷ xs) e = by (p x) refl e (any_there p xs)
    where
      by : (b : Bool) → p x ≡ b → (b || list_any p xs) ≡ true → (list_any p xs ≡ true → (h : Held) × Contains xs h × (p h ≡ true)) → (h : Held) × Contains (x ∷ xs) h × (p h ≡ true)
      by true t is more = (x, here x xs, t)
      by false t is more = let rest = more is in (rest.0, later x xs rest.0 rest.1, rest.2)

  leads : (t : Thing) (q : ℕ) → leads_to q t ≡ true → (o : Target) × (t ≡ Entry o) × (o.oid.0 ≡ q)
  leads (Stat f) q e = absurd (cc)
  leads (Entry o) q e = (o, refl, eqb-true o.oid.0 q e)
  leads (Tail n) q e = absurd (cc)
  leads (Extent n) q e = absurd (cc)

  abbrev pub IsMet : Target → Type 0
  IsMet o = (n : ℕ) × IsReached (raw_of us) n o

  step : (h : Held) (t o : Target) → Contains found h → h.thing ≡ Entry t → t ≡ o → (d : HasDirectory (id_of h)) → IsMet d.object → IsMet o
  step h t o at is same d (n, way) =
      let (name, has, key) = entry_there h t at is in
      let held : at_key (raw_of us) (rank h.key) ≡ Some (EntryValue name o) = has ∙ ap (λ (x : Target). Some (EntryValue name x)) same in
      let dir : dir_of_key (key_of_rank (rank h.key)) ≡ d.object.oid.0 = ap dir_of_key (key_again h.key key) ∙ ap (id_under h.key) (sym is) ∙ sym d.id in
      (suc n, (d.object, way, (rank h.key, name, held, dir)))

  reach_by : (steps q : ℕ) → is_reached_by steps found q ≡ true → (o : Target) → IsOwner found o → o.oid.0 ≡ q → IsMet o
  unfolding is_reached_by
  reach_by zero q e o w id = (0, one_owner o root_object w (root_owner s found right) (id ∙ eqb-true q 42 e))
  reach_by (suc steps) q e o w id = elim (or_either (is_reached_by steps found q) _ e) [
    | inl before ↦ reach_by steps q before o w id
    | inr now ↦
        let (h, at, is) = any_there (λ h. leads_to q h.thing && is_reached_by steps found (id_of h)) found now in
        let parts = and_parts (leads_to q h.thing) (is_reached_by steps found (id_of h)) is in
        let (t, thing, number) = leads h.thing q parts.0 in
        let d = holder_there (id_of h) (entry_fine s found right h t at thing).0 in
        let v = found_facts s found right t (entry_fine s found right h t at thing).1 in
        step h t o at thing (one_owner t o v w (number ∙ sym id)) d (reach_by steps (id_of h) parts.1 d.object d.own d.id)
  ]
    where
      or_either : (a b : Bool) → (a || b) ≡ true → (a ≡ true) ⊎ (b ≡ true)
      or_either true b e = inl refl
      or_either false b e = inr e

  -- an entry that is counted among those that reach an id
  reaching : (h : Held) (q : ℕ) → 1 ≤ (if named_id h.thing == q then once (names_one (is_owner found) h && is_reached found (id_of h)) else 0)
      → (t : Target) × (h.thing ≡ Entry t) × (t.oid.0 ≡ q) × (is_reached found (id_of h) ≡ true)
  reaching h q some = by h.thing refl (named_id h.thing == q) refl (is_reached found (id_of h)) refl some
    where
      by : (t : Thing) → h.thing ≡ t → (b : Bool) → (named_id h.thing == q) ≡ b → (c : Bool) → is_reached found (id_of h) ≡ c → 1 ≤ (if b then once (option_map_or (is_owner found) (target_of t) false && c) else 0)
          → (x : Target) × (h.thing ≡ Entry x) × (x.oid.0 ≡ q) × (is_reached found (id_of h) ≡ true)
      by t e false f c g n = absurd (omega (arith, n))
      by (Stat y) e true f c g n = absurd (omega (arith, n))
      by (Tail y) e true f c g n = absurd (omega (arith, n))
      by (Extent y) e true f c g n = absurd (omega (arith, n))
      by (Entry x) e true f true g n = (x, e, ap named_id (sym e) ∙ eqb-true _ _ f, g)
      by (Entry x) e true f false g n = absurd (never (is_owner found x) n)
        where
          never : (b : Bool) → 1 ≤ once (b && false) → ⊥
          never true n = omega (arith, n)
          never false n = omega (arith, n)

  reached_there : (o : Target) → IsOwner found o → IsMet o
  reached_there o w = by (is_root o) refl
    where
      by : (b : Bool) → is_root o ≡ b → IsMet o
      by true e = (0, same_is o root_object e)
      by false e =
          let (h, at, some) = some_term (λ (h : Held). if named_id h.thing == o.oid.0 then once (names_one (is_owner found) h && is_reached found (id_of h)) else 0) found (met s found right o w e) in
          let (t, thing, number, way) = reaching h o.oid.0 some in
          let d = holder_there (id_of h) (entry_fine s found right h t at thing).0 in
          let v = found_facts s found right t (entry_fine s found right h t at thing).1 in
          step h t o at thing (one_owner t o v w number) d (reach_by (length found) (id_of h) way d.object d.own d.id)

  -- ---- the rules

  pub objects_right : HasObjects (raw_of us)
  objects_right = record {
    root = root;
    root_unnamed = root_unnamed;
    named_once = named_once;
    directories = directories;
    files = files;
    holder = holder;
    target = target;
    one_id = λ o p a b x y same. one_owner o p (stat_owner o a x).0 (stat_owner p b y).0 (ap (λ i. i.0) same);
    reached = λ o a x. reached_there o (stat_owner o a x).0;
  }
    where
      directory_rule : (o : Target) (w : IsOwner found o) → w.facts.directory ≡ true → (w.facts.size ≡ entries_at found o.oid.0) × (w.facts.nlink ≡ 2 + directories_at found o.oid.0) × (names_fit (is_root o) (links_at found o.oid.0) ≡ true)
      directory_rule o w is =
          let size = sym (size_rule found o.oid.0 w.facts) ∙ size_fine s found right o w in
          let links = sym (links_rule found o.oid.0 (is_root o) w.facts) ∙ links_fine s found right o w in
          let sized = if_true w.facts.directory _ _ is (and_parts (w.facts.bytes == w.facts.size) _ size).1 in
          let linked = if_true w.facts.directory _ _ is links in
          let both = and_parts (w.facts.nlink == 2 + directories_at found o.oid.0) (names_fit (is_root o) (links_at found o.oid.0)) linked in
          (eqb-true _ _ sized, eqb-true _ _ both.0, both.1)

      is_directory_facts : (a : Attr) (f : Facts) → f ≡ facts_of a → f.directory ≡ is_directory a
      is_directory_facts a f e = ap (λ (x : Facts). x.directory) e

      root : (a : Attr) × HasStat (raw_of us) root_object a × (is_directory a ≡ true)
      root =
          let w = root_owner s found right in
          let (a, e, has) = owner_stat root_object w in
          let fine = (stat_fine s found right w.held w.facts w.there w.thing).1 in
          let is : is_root (object_of w.held.key) ≡ true = ap is_root w.object in
          (a, has, sym (is_directory_facts a w.facts e) ∙ directory_of (is_root (object_of w.held.key)) w.facts.directory is fine)
        where
          directory_of : (root dir : Bool) → root ≡ true → (root && not dir) ≡ false → dir ≡ true
          directory_of true true e f = refl
          directory_of true false e f = absurd (cc)
          directory_of false dir e f = absurd (cc)

      fits_root : (root : Bool) (n : ℕ) → root ≡ true → names_fit root n ≡ true → n ≡ 0
      fits_root true n e f = grind (arith, nat_tests)
      fits_root false n e f = absurd (cc)

      fits_other : (root : Bool) (n : ℕ) → root ≡ false → names_fit root n ≡ true → 1 ≤ n → n ≡ 1
      fits_other true n e f some = absurd (cc)
      fits_other false n e f some = grind (arith, nat_tests)

      root_unnamed : links_to (raw_of us) root_object ≡ 0
      root_unnamed =
          let w = root_owner s found right in
          let (a, e, has) = owner_stat root_object w in
          let (b, also, directory) = root in
          let dir : w.facts.directory ≡ true = is_directory_facts a w.facts e ∙ ap is_directory (one_attr root_object a b has also) ∙ directory in
          links_counted found us one apart ps m root_object w ∙ fits_root (is_root root_object) (links_at found root_object.oid.0) refl (directory_rule root_object w dir).2

      few_met : (b c : Bool) → once (b && c) ≤ once b
      few_met true true = omega arith
      few_met true false = omega arith
      few_met false c = omega arith

      under : (t b c : Bool) → (if t then once (b && c) else 0) ≤ (if t then once b else 0)
      under true b c = few_met b c
      under false b c = omega arith

      named_once : (o : Target) (a : Attr) → HasStat (raw_of us) o a → is_directory a ≡ true → o ≢ root_object → links_to (raw_of us) o ≡ 1
      named_once o a has dir other =
          let (w, e) = stat_owner o a has in
          let root_not : is_root o ≡ false = not_root (is_root o) refl in
          let some = met s found right o w root_not in
          let few = sums_below (λ (h : Held). if named_id h.thing == o.oid.0 then once (names_one (is_owner found) h && is_reached found (id_of h)) else 0) (λ (h : Held). if named_id h.thing == o.oid.0 then once (names_one (is_owner found) h) else 0) found
          (λ h at. under (named_id h.thing == o.oid.0) (names_one (is_owner found) h) (is_reached found (id_of h))) in
          links_counted found us one apart ps m o w ∙ fits_other (is_root o) (links_at found o.oid.0) root_not (directory_rule o w (is_directory_facts a w.facts e ∙ dir)).2 (omega (arith, some, few))
        where
          not_root : (b : Bool) → is_root o ≡ b → is_root o ≡ false
          not_root true e = absurd (other (same_is o root_object e))
          not_root false e = e

      directories : (o : Target) (a : Attr) → HasStat (raw_of us) o a → is_directory a ≡ true → (a.size ≡ entries_in (raw_of us) o) × (a.nlink ≡ 2 + directories_in (raw_of us) o)
      directories o a has dir =
          let (w, e) = stat_owner o a has in
          let rule = directory_rule o w (is_directory_facts a w.facts e ∙ dir) in
          (ap (λ (f : Facts). f.size) (sym e) ∙ rule.0 ∙ sym (entries_counted found us one apart ps m o), ap (λ (f : Facts). f.nlink) (sym e) ∙ rule.1 ∙ ap (λ (n : ℕ). 2 + n) (sym (directories_counted found us one apart ps m targets_there o)))

      files : (o : Target) (a : Attr) → HasStat (raw_of us) o a → is_directory a ≡ false → a.nlink ≡ links_to (raw_of us) o
      files o a has file =
          let (w, e) = stat_owner o a has in
          let is : w.facts.directory ≡ false = is_directory_facts a w.facts e ∙ file in
          let links = sym (links_rule found o.oid.0 (is_root o) w.facts) ∙ links_fine s found right o w in
          let linked = if_false w.facts.directory _ _ is links in
          ap (λ (f : Facts). f.nlink) (sym e) ∙ eqb-true _ _ linked ∙ sym (links_counted found us one apart ps m o w)

      holder : (k : ℕ) (n : List ℕ) (o : Target) → at_key (raw_of us) k ≡ Some (EntryValue n o) → (p : Target) × (a : Attr) × HasStat (raw_of us) p a × (is_directory a ≡ true) × (dir_of_key (key_of_rank k) ≡ p.oid.0)
      holder k n o at =
          let (h, there, thing, is, key) = there_entry k n o at in
          let d = holder_there (id_of h) (entry_fine s found right h o there thing).0 in
          let (a, e, has) = owner_stat d.object d.own in
          (d.object, a, has, sym (is_directory_facts a d.own.facts e) ∙ d.directory, ap dir_of_key (ap key_of_rank is ∙ key_again h.key key) ∙ ap (id_under h.key) (sym thing) ∙ sym d.id)

      target : (k : ℕ) (n : List ℕ) (o : Target) → at_key (raw_of us) k ≡ Some (EntryValue n o) → (a : Attr) × HasStat (raw_of us) o a
      target k n o at =
          let (h, there, thing, is, key) = there_entry k n o at in
          let (w, a, e, has) = target_there h o there thing in
          (a, has)

  pub ids_right : HasIds s (raw_of us)
  ids_right = record {
    ids = λ o a x. id_fine s found right o (stat_owner o a x).0;
    count = right.files ∙ sym (stats_counted found us one apart ps m);
  }
