-- What holds of each id where no object has a fault.
use Rattle.std.proofs.Common.{◌≡◌, inl, inr, ℕ, ◌+◌, ◌<◌, ◌≤◌, Bool, true, false, not, ◌&&◌, ◌||◌, ◌==◌, List, [], ◌∷◌, ◌++◌, map, Option, Some, None, Ordering, Less, Equal, Greater, nat_cmp, refl, sym, ap, subst, ◌∙◌, arith}
use Rattle.std.specs.Prelude.{Contains, fold, sum_by, nat_le, nat_lt, if◌then◌else◌, is_some, is_none, option_and_then, find}
use Rattle.std.specs.Option.{option_map, option_map_or}
use Rattle.std.specs.BTreeSet.{insert_key}
use Rattle.std.specs.FinMap.{nat_cmp-IsAntisymmetric}
use Rattle.std.specs.List.{flat_map}
use Rattle.std.specs.Ordering.{match_ordering}
use Rattle.std.proofs.lemmas.Bool.{and_parts, eq-eqb, eqb-true, or_parts}
use Rattle.std.proofs.lemmas.Bool.Decides.{nat_tests}
use Rattle.r4_base.specs.Volume.{object_of, root_object}
use Rattle.r4_base.specs.declared.items.Target.{Target}
use Rattle.r4_base.specs.declared.superblock.Super40.{Super40}
use Rattle.r4_check_laws.proofs.Same.{find_true, object_stat, same_is}
use Rattle.r4_check_objects.specs.Faults.{fault_at}
use Rattle.r4_check_objects.specs.Held.{id_of, is_placed, is_stat_data}
use Rattle.r4_check_objects.specs.Objects.{block_of, body_fits, count_faults, extent_blocks, is_directory_at, is_own, is_past, is_reached, named_id, names_fit, names_one, tail_bytes, facts_as, facts_at, facts_in, faults_under, id_is_wrong, ids_of, is_directory_id, is_lost, is_object_at, is_owner, is_root, is_stray, judged_owner, links_are_wrong, links_fit, object_faults, once, owner_of, size_fits, size_is_wrong, stats_of, strays, sum_of, what_if, wrongs_of}
use Rattle.r4_check_objects.specs.declared.fault.What.{What}
use Rattle.r4_check_objects.specs.declared.fault.What.TheVariants.{Files, Id, Links as LinksWrong, Lost, Size}
use Rattle.r4_check_objects.specs.declared.held.Facts.{Facts}
use Rattle.r4_check_objects.specs.declared.held.Held.{Held}
use Rattle.r4_check_objects.specs.declared.held.Thing.{Thing}
use Rattle.r4_check_objects.specs.declared.held.Thing.TheVariants.{Entry, Extent, Stat, Tail}
use Rattle.r4_check_laws.proofs.Lists.{here, later, none_in, one_adds, one_of}

-- ---- ids

module _ (k : ℕ) where
  insert_has : (xs : List ℕ) → Contains (insert_key nat_cmp xs k) k
  insert_has [] = here k []
  insert_has (x ∷ xs) = by (nat_cmp k x) refl (insert_has xs)
    where
      by : (o : Ordering) → nat_cmp k x ≡ o → Contains (insert_key nat_cmp xs k) k → Contains (match_ordering o (k ∷ x ∷ xs) (x ∷ xs) (x ∷ insert_key nat_cmp xs k)) k
      by Less is more = here k (x ∷ xs)
      by Equal is more = subst (Contains (x ∷ xs)) (sym (nat_cmp-IsAntisymmetric k x is)) (here x xs)
      by Greater is more = later x (insert_key nat_cmp xs k) k more

  insert_keeps : (xs : List ℕ) (y : ℕ) → Contains xs y → Contains (insert_key nat_cmp xs k) y
  insert_keeps [] y at = absurd (none_in y at)
  insert_keeps (x ∷ xs) y at = by (nat_cmp k x) (insert_keeps xs y)
    where
      by : (o : Ordering) → (Contains xs y → Contains (insert_key nat_cmp xs k) y) → Contains (match_ordering o (k ∷ x ∷ xs) (x ∷ xs) (x ∷ insert_key nat_cmp xs k)) y
      by Less more = later k (x ∷ xs) y at
      by Equal more = at
      by Greater more = elim (one_of x xs y at) [
        | inl e ↦ subst (Contains (x ∷ insert_key nat_cmp xs k)) e (here x (insert_key nat_cmp xs k))
        | inr rest ↦ later x (insert_key nat_cmp xs k) y (more rest)
      ]

fold_keeps : (ks xs : List ℕ) (y : ℕ) → Contains xs y → Contains (fold (insert_key nat_cmp) xs ks) y
fold_keeps [] xs y at = at
fold_keeps (k ∷ ks) xs y at = fold_keeps ks (insert_key nat_cmp xs k) y (insert_keeps k xs y at)

fold_has : (ks xs : List ℕ) (y : ℕ) → Contains ks y → Contains (fold (insert_key nat_cmp) xs ks) y
fold_has [] xs y at = absurd (none_in y at)
fold_has (k ∷ ks) xs y at = elim (one_of k ks y at) [
  | inl e ↦ fold_keeps ks (insert_key nat_cmp xs k) y (subst (Contains (insert_key nat_cmp xs k)) e (insert_has k xs))
  | inr more ↦ fold_has ks (insert_key nat_cmp xs k) y more
]

mapped : (hs : List Held) (h : Held) → Contains hs h → Contains (map id_of hs) (id_of h)
mapped [] h at = absurd (none_in h at)
mapped (g ∷ hs) h at = elim (one_of g hs h at) [
  | inl e ↦ subst (λ (x : Held). Contains (id_of g ∷ map id_of hs) (id_of x)) e (here (id_of g) (map id_of hs))
  | inr more ↦ later (id_of g) (map id_of hs) (id_of h) (mapped hs h more)
]

pub has_id : (found : List Held) (h : Held) → Contains found h → Contains (ids_of found) (id_of h)
unfolding ids_of
has_id found h at = fold_has (map id_of found) (42 ∷ []) (id_of h) (mapped found h at)

pub has_root_id : (found : List Held) → Contains (ids_of found) 42
unfolding ids_of
has_root_id found = fold_keeps (map id_of found) (42 ∷ []) 42 (here 42 [])

-- ---- no fault

none_both : {X : Type 0} (xs ys : List X) → xs ++ ys ≡ [] → (xs ≡ []) × (ys ≡ [])
none_both [] ys e = (refl, e)
none_both (x ∷ xs) ys e = absurd (cc)

none_mapped : {X Y : Type 0} (f : X → Y) (xs : List X) → map f xs ≡ [] → xs ≡ []
none_mapped f [] e = refl
none_mapped f (x ∷ xs) e = absurd (cc)

none_flat : {X Y : Type 0} (f : X → List Y) (xs : List X) → flat_map f xs ≡ [] → (x : X) → Contains xs x → f x ≡ []
none_flat f [] e x at = absurd (none_in x at)
none_flat f (y ∷ xs) e x at =
    let both = none_both (f y) (flat_map f xs) e in
    elim (one_of y xs x at) [
      | inl is ↦ ap f (sym is) ∙ both.0
      | inr more ↦ none_flat f xs both.1 x more
    ]

not_wrong : (b : Bool) (what : What) → what_if b what ≡ [] → b ≡ false
not_wrong true what e = absurd (cc)
not_wrong false what e = refl

pub record NoWrongs (s : Super40) (found : List Held) (q : ℕ) : Type 0 where
  pub size : size_is_wrong found q ≡ false
  pub links : links_are_wrong found q ≡ false
  pub lost : is_lost found q ≡ false
  pub id : id_is_wrong s found q ≡ false

no_wrongs : (s : Super40) (found : List Held) (q : ℕ) → wrongs_of s found q ≡ [] → NoWrongs s found q
unfolding wrongs_of
no_wrongs s found q e =
    let a = none_both (what_if (size_is_wrong found q) Size) _ e in
    let b = none_both (what_if (links_are_wrong found q) LinksWrong) _ a.1 in
    let c = none_both (what_if (is_lost found q) Lost) _ b.1 in
    record { size = not_wrong _ Size a.0; links = not_wrong _ LinksWrong b.0; lost = not_wrong _ Lost c.0; id = not_wrong _ Id c.1 }

files_right : (b : Bool) → (if b then [] else (fault_at 17 Files ∷ [])) ≡ [] → b ≡ true
files_right true e = refl
files_right false e = absurd (cc)

pub record AreRight (s : Super40) (found : List Held) : Type 0 where
  pub each : (q : ℕ) → Contains (ids_of found) q → NoWrongs s found q
  pub files : s.file_count ≡ stats_of found

pub are_right : (s : Super40) (leaf : ℕ) (found : List Held) → object_faults s leaf found ≡ [] → AreRight s found
unfolding object_faults
are_right s leaf found e =
    let both = none_both (flat_map (faults_under s leaf found) (ids_of found)) (count_faults s found) e in
    record {
      each = λ q at. no_wrongs s found q (none_mapped (fault_at (block_of leaf found q)) (wrongs_of s found q) (none_flat (faults_under s leaf found) (ids_of found) both.0 q at));
      files = eqb-true s.file_count (stats_of found) (files_right (s.file_count == stats_of found) both.1);
    }

-- ---- owners

-- the object owns its id: the id's first stat data are its
pub record IsOwner (found : List Held) (o : Target) : Type 0 where
  pub held : Held
  pub there : Contains found held
  pub owner : owner_of found o.oid.0 ≡ Some held
  pub facts : Facts
  pub thing : held.thing ≡ Stat facts
  pub placed : is_placed held ≡ true
  pub object : object_of held.key ≡ o
  pub fact : facts_in held ≡ Some facts
  pub id : id_of held ≡ o.oid.0

pub found_there : (p : Held → Bool) (xs : List Held) (x : Held) → find p xs ≡ Some x → Contains xs x
found_there p [] x e = absurd (cc)
found_there p (y ∷ xs) x e = by (p y) refl e (found_there p xs x)
  where
    by : (b : Bool) → p y ≡ b → (if b then Some y else find p xs) ≡ Some x → (find p xs ≡ Some x → Contains xs x) → Contains (y ∷ xs) x
    by true t is more = let same : y ≡ x = cc in subst (Contains (y ∷ xs)) same (here y xs)
    by false t is more = later y xs x (more is)

pub stat_with : (h : Held) (t : Thing) (b : Bool) → h.thing ≡ t → is_placed h ≡ b → is_some (facts_as b t) ≡ true → (f : Facts) × (t ≡ Stat f) × (b ≡ true)
stat_with h (Stat f) true e g is = (f, refl, refl)
stat_with h (Stat f) false e g is = absurd (cc)
stat_with h (Entry t) b e g is = absurd (cc)
stat_with h (Tail n) b e g is = absurd (cc)
stat_with h (Extent n) b e g is = absurd (cc)

pub facts_are : (h : Held) (f : Facts) → h.thing ≡ Stat f → is_placed h ≡ true → facts_in h ≡ Some f
facts_are h f thing placed = ap (λ (t : Thing). facts_as (is_placed h) t) thing ∙ ap (λ (b : Bool). facts_as b (Stat f)) placed

pub owner_made : (found : List Held) (o : Target) (g : Held) → owner_of found o.oid.0 ≡ Some g → is_object_at o g ≡ true → IsOwner found o
unfolding owner_of
owner_made found o g is at =
    let parts = and_parts (is_some (facts_in g)) _ at in
    let stat = stat_with g g.thing (is_placed g) refl refl parts.0 in
    let own = and_parts (is_stat_data g) (id_of g == o.oid.0) (object_stat o g at) in
    record {
      held = g;
      there = found_there _ found g is;
      owner = is;
      facts = stat.0;
      thing = stat.1;
      placed = stat.2;
      object = same_is (object_of g.key) o parts.1;
      fact = facts_are g stat.0 stat.1 stat.2;
      id = eqb-true (id_of g) o.oid.0 own.1;
    }

pub is_owned : (found : List Held) (o : Target) → is_owner found o ≡ true → IsOwner found o
is_owned found o is = by (owner_of found o.oid.0) refl is
  where
    by : (r : Option Held) → owner_of found o.oid.0 ≡ r → option_map_or (is_object_at o) r false ≡ true → IsOwner found o
    by None e h = absurd (cc)
    by (Some g) e h = owner_made found o g e h

-- ---- the sums, as they are

abbrev pub strays_at : List Held → ℕ → ℕ
strays_at found q = sum_by (λ h. if id_of h == q then once (is_stray found h) else 0) found

abbrev pub entries_at : List Held → ℕ → ℕ
entries_at found q = sum_by (λ h. if id_of h == q then once (names_one (λ t. true) h) else 0) found

abbrev pub directories_at : List Held → ℕ → ℕ
directories_at found q = sum_by (λ h. if id_of h == q then once (names_one (is_directory_at found) h) else 0) found

abbrev pub links_at : List Held → ℕ → ℕ
links_at found q = sum_by (λ h. if named_id h.thing == q then once (names_one (is_owner found) h) else 0) found

abbrev pub reached_at : List Held → ℕ → ℕ
reached_at found q = sum_by (λ h. if named_id h.thing == q then once (names_one (is_owner found) h && is_reached found (id_of h)) else 0) found

abbrev pub tails_at : List Held → ℕ → ℕ
tails_at found q = sum_by (λ h. if id_of h == q then (if is_own found h then tail_bytes h.thing else 0) else 0) found

abbrev pub blocks_at : List Held → ℕ → ℕ
blocks_at found q = sum_by (λ h. if id_of h == q then (if is_own found h then extent_blocks h.thing else 0) else 0) found

abbrev pub past_at : List Held → ℕ → ℕ
past_at found q = sum_by (λ h. if id_of h == q then once (is_past found h) else 0) found

-- the rules on size and links, with these
pub size_rule : (found : List Held) (q : ℕ) (f : Facts) → size_fits found q f
    ≡ (f.bytes == f.size && (if f.directory then f.size == entries_at found q else (nat_le f.size 1073741824 && past_at found q == 0 && body_fits f.size (tails_at found q) (blocks_at found q))))
unfolding sum_of
size_rule found q f = refl

pub links_rule : (found : List Held) (q : ℕ) (root : Bool) (f : Facts) → links_fit found q root f
    ≡ (if f.directory then (f.nlink == 2 + directories_at found q && names_fit root (links_at found q)) else (f.nlink == links_at found q))
unfolding sum_of
links_rule found q root f = refl

unnot : (b : Bool) → not b ≡ false → b ≡ true
unnot true e = refl
unnot false e = absurd (cc)

pub at_own : (q n m : ℕ) → q ≡ n → (if q == n then m else 0) ≡ m
at_own q n m e = let t = eq-eqb q n e in rw t refl

not_none : (b : Bool) (n : ℕ) → nat_lt 0 n ≡ false → n ≡ 0
not_none b n e = grind (arith, nat_tests)

never_once : (b : Bool) → once b ≡ 0 → b ≡ false
never_once true e = absurd (omega (arith, e))
never_once false e = refl

-- ---- what is fine, thing by thing and object by object

module _ (s : Super40) (found : List Held) (right : AreRight s found) where
  pub no_stray : (h : Held) → Contains found h → is_stray found h ≡ false
  unfolding sum_of
  no_stray h at =
      let lost = (right.each (id_of h) (has_id found h at)).lost in
      let a = or_parts _ _ lost in
      let b = or_parts (nat_lt 0 (strays_at found (id_of h))) _ a.0 in
      let none : strays_at found (id_of h) ≡ 0 = not_none true (strays_at found (id_of h)) b.0 in
      let one = one_adds (λ (g : Held). if id_of g == id_of h then once (is_stray found g) else 0) found h at in
      let own = at_own (id_of h) (id_of h) (once (is_stray found h)) refl in
      never_once (is_stray found h) (omega (arith, one, own, none))

  pub placed : (h : Held) → Contains found h → is_placed h ≡ true
  placed h at = unnot (is_placed h) (or_parts (not (is_placed h)) (strays found h h.thing) (no_stray h at)).0

  not_strange : (h : Held) (t : Thing) → Contains found h → h.thing ≡ t → strays found h t ≡ false
  not_strange h t at e = ap (strays found h) (sym e) ∙ (or_parts (not (is_placed h)) (strays found h h.thing) (no_stray h at)).1

  pub stat_fine : (h : Held) (f : Facts) → Contains found h → h.thing ≡ Stat f → (is_owner found (object_of h.key) ≡ true) × ((is_root (object_of h.key) && not f.directory) ≡ false)
  stat_fine h f at e = let parts = or_parts (not (is_owner found (object_of h.key))) _ (not_strange h (Stat f) at e) in (unnot _ parts.0, parts.1)

  pub entry_fine : (h : Held) (t : Target) → Contains found h → h.thing ≡ Entry t → (is_directory_id found (id_of h) ≡ true) × (is_none (facts_at found t) ≡ false)
  entry_fine h t at e = let parts = or_parts (not (is_directory_id found (id_of h))) _ (not_strange h (Entry t) at e) in (unnot _ parts.0, parts.1)

  pub tail_fine : (h : Held) (n : ℕ) → Contains found h → h.thing ≡ Tail n → (is_owner found (object_of h.key) ≡ true) × (is_directory_id found (id_of h) ≡ false)
  tail_fine h n at e = let parts = or_parts (not (is_owner found (object_of h.key))) _ (not_strange h (Tail n) at e) in (unnot _ parts.0, parts.1)

  pub extent_fine : (h : Held) (n : ℕ) → Contains found h → h.thing ≡ Extent n → (is_owner found (object_of h.key) ≡ true) × (is_directory_id found (id_of h) ≡ false)
  extent_fine h n at e = let parts = or_parts (not (is_owner found (object_of h.key))) _ (not_strange h (Extent n) at e) in (unnot _ parts.0, parts.1)

  module _ (o : Target) (w : IsOwner found o) where
    pub owned_id : Contains (ids_of found) o.oid.0
    owned_id = subst (Contains (ids_of found)) w.id (has_id found w.held w.there)

    pub judged_is : judged_owner found o.oid.0 ≡ Some (is_root o, w.facts)
    judged_is = ap (option_and_then (λ h. option_map (λ f. (is_root (object_of h.key), f)) (facts_in h))) w.owner
        ∙ ap (option_map (λ f. (is_root (object_of w.held.key), f))) w.fact ∙ ap (λ (p : Target). Some (is_root p, w.facts)) w.object

    pub size_fine : size_fits found o.oid.0 w.facts ≡ true
    size_fine = unnot _ (sym (ap (λ j. option_map_or (λ p. not (size_fits found o.oid.0 p.1)) j false) judged_is) ∙ (right.each o.oid.0 owned_id).size)

    pub links_fine : links_fit found o.oid.0 (is_root o) w.facts ≡ true
    links_fine = unnot _ (sym (ap (λ j. option_map_or (λ p. not (links_fit found o.oid.0 p.0 p.1)) j false) judged_is) ∙ (right.each o.oid.0 owned_id).links)

    pub met : is_root o ≡ false → 1 ≤ reached_at found o.oid.0
    unfolding sum_of
    met other =
        let lost = (right.each o.oid.0 owned_id).lost in
        let b = or_parts (nat_lt 0 (strays_at found o.oid.0)) _ (or_parts _ _ lost).0 in
        let unmet : (not (is_root o) && reached_at found o.oid.0 == 0) ≡ false = sym (ap (λ j. option_map_or (λ p. not p.0 && reached_at found o.oid.0 == 0) j false) judged_is) ∙ b.1 in
        some_met (is_root o) (reached_at found o.oid.0) other unmet
      where
        some_met : (root : Bool) (n : ℕ) → root ≡ false → (not root && n == 0) ≡ false → 1 ≤ n
        some_met true n e h = absurd (cc)
        some_met false n e h = grind (arith, nat_tests)

    pub id_fine : (42 ≤ o.oid.0) × (o.oid.0 < s.oid)
    id_fine =
        let there : is_some (owner_of found o.oid.0) ≡ true = ap is_some w.owner in
        within o.oid.0 (sym (ap (λ t. t && (nat_lt o.oid.0 42 || nat_le s.oid o.oid.0)) there) ∙ (right.each o.oid.0 owned_id).id)
      where
        within : (q : ℕ) → (nat_lt q 42 || nat_le s.oid q) ≡ false → (42 ≤ q) × (q < s.oid)
        within q e = let parts = or_parts (nat_lt q 42) (nat_le s.oid q) e in (grind (arith, nat_tests, parts), grind (arith, nat_tests, parts))

  -- an object whose facts are found owns its id
  pub found_facts : (t : Target) → is_none (facts_at found t) ≡ false → IsOwner found t
  unfolding facts_at
  found_facts t some = by (find (is_object_at t) found) refl some
    where
      by : (r : Option Held) → find (is_object_at t) found ≡ r → is_none (option_and_then facts_in r) ≡ false → IsOwner found t
      by None e h = absurd (cc)
      by (Some g) e h =
          let at = found_there (is_object_at t) found g e in
          let is = find_true (is_object_at t) found g e in
          let parts = and_parts (is_some (facts_in g)) _ is in
          let stat = stat_with g g.thing (is_placed g) refl refl parts.0 in
          let own = (stat_fine g stat.0 at stat.1).0 in
          is_owned found t (subst (λ (o : Target). is_owner found o ≡ true) (same_is (object_of g.key) t parts.1) own)

  pub root_owner : IsOwner found root_object
  root_owner = found_facts root_object (or_parts _ _ (right.each 42 (has_root_id found)).lost).1
