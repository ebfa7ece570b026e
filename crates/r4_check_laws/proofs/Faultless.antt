-- What a tree holds that has a content has no fault.
use Rattle.std.proofs.Common.{◌≡◌, ◌⊎◌, inl, inr, ℕ, zero, suc, ◌+◌, ◌*◌, ◌^◌, ◌≤◌, Bool, true, false, not, ◌&&◌, ◌||◌, ◌==◌, List, [], ◌∷◌, length, Some, refl, sym, ap, subst, ◌∙◌, arith}
use Rattle.std.specs.Prelude.{Contains, if◌then◌else◌, is_some, is_none}
use Rattle.std.specs.List.{find}
use Rattle.std.specs.Option.{option_map_or}
use Rattle.std.proofs.lemmas.Bool.{and_parts, eq-eqb, eqb-true}
use Rattle.std.proofs.lemmas.Option.{same_Some}
use Rattle.r4_base.proofs.FreshVolume.{same_attr}
use Rattle.r4_base.specs.Extents.{AreLawfulUnits, blocks_in, units_of}
use Rattle.r4_base.specs.declared.items.Unit.{Unit as ExtentUnit}
use Rattle.r4_twig.proofs.Faults.{body_lawful, has_unit}
use Rattle.r4_twig.proofs.Places.{length-units_of}
use Rattle.r4_base.specs.Key.{IsKey, key_of_rank, minor_of, offset_of, rank}
use Rattle.r4_base.specs.Name.{dir_of_key}
use Rattle.r4_base.specs.Tree.{Name, Node}
use Rattle.r4_base.specs.Value.{Byte, Entry as EntryValue, Stat as StatValue, Value, at_key}
use Rattle.r4_base.specs.Volume.{HasFiles, HasObjects, HasStat, IsReached, is_directory, object_of, root_object, stat_rank}
use Rattle.r4_base.specs.declared.items.Attr.{Attr}
use Rattle.r4_base.specs.declared.items.Target.{Target}
use Rattle.r4_base.specs.declared.key.Key.{Key}
use Rattle.r4_base.specs.declared.superblock.Super40.{Super40}
use Rattle.r4_base.specs.declared.things.Oid.{Oid}
use Rattle.r4_check.specs.Walk.{found_in}
use Rattle.r4_check_objects.specs.Held.{facts_of, fits_key, id_of, id_under, is_placed, is_stat_data, is_stat_thing}
use Rattle.r4_check_objects.specs.Objects.{facts_at, is_directory_id, is_object_at, is_owner, is_reached, is_reached_by, is_root, is_same, is_stat_of, is_stray, leads_to, named_id, names_one, once, owner_facts, owner_of, strays, target_of}
use Rattle.r4_check_objects.specs.declared.held.Facts.{Facts}
use Rattle.r4_check_objects.specs.declared.held.Held.{Held}
use Rattle.r4_check_objects.specs.declared.held.Thing.{Thing}
use Rattle.r4_check_objects.specs.declared.held.Thing.TheVariants.{Entry, Extent, Stat, Tail}
use Rattle.r4_check_laws.proofs.Bodies.{extent_has, tail_has}
use Rattle.r4_check_laws.proofs.Contents.{AreApart, HaveOne, in_raw, in_units, raw_of}
use Rattle.r4_check_laws.proofs.Counts.{entry_thing, entry_value, same_itself, stat_thing, stat_value}
use Rattle.r4_check_laws.proofs.Files.{IsPart, facts_by, in_all}
use Rattle.r4_check_laws.proofs.Keys.{at_stat_rank, is_object, key_again, stat_rank_is}
use Rattle.r4_check_laws.proofs.Lists.{no_terms, none_in, one_adds, one_of}
use Rattle.r4_check_laws.proofs.Pairs.{IsSame, Mirrors, Pair, all_units, is_body, item_keys}
use Rattle.r4_check_laws.proofs.Parts.{AreRead, extent_part, tail_part}
use Rattle.r4_check_laws.proofs.Reaching.{both_true, enough, step_by}
use Rattle.r4_check_laws.proofs.Rights.{IsOwner, at_own, facts_are, found_there, owner_made, reached_at, strays_at}
use Rattle.r4_check_laws.proofs.Same.{facts_owner, find_true, same_is}
use Rattle.r4_check_laws.proofs.Stores.{Cells, store_of}
use Rattle.r4_check_laws.proofs.Trees.{AreLinked}

-- ---- tests

pub none_or : (a b : Bool) → a ≡ false → b ≡ false → (a || b) ≡ false
none_or true b e f = absurd (cc)
none_or false b e f = f

pub untrue : (b : Bool) → b ≡ true → not b ≡ false
untrue true e = refl
untrue false e = absurd (cc)

find_some : (p : Held → Bool) (xs : List Held) (h : Held) → Contains xs h → p h ≡ true → (g : Held) × (find p xs ≡ Some g)
find_some p [] h at e = absurd (none_in h at)
find_some p (x ∷ xs) h at e = by (p x) refl (one_of x xs h at) (find_some p xs h)
  where
    by : (b : Bool) → p x ≡ b → (x ≡ h) ⊎ Contains xs h → (Contains xs h → p h ≡ true → (g : Held) × (find p xs ≡ Some g)) → (g : Held) × ((if b then Some x else find p xs) ≡ Some g)
    by true t or more = (x, refl)
    by false t (inl is) more = let same : p x ≡ true = ap p is ∙ e in absurd (cc)
    by false t (inr rest) more = more rest e

pub stat_by : (t : Thing) → is_stat_thing t ≡ true → (f : Facts) × (t ≡ Stat f)
stat_by (Stat f) e = (f, refl)
stat_by (Entry t) e = absurd (cc)
stat_by (Tail n) e = absurd (cc)
stat_by (Extent n) e = absurd (cc)

abbrev made : ℕ → Oid
made n = record { 0 = n }

pub object_true : (found : List Held) (o : Target) (w : IsOwner found o) → is_object_at o w.held ≡ true
object_true found o w = ap (λ r. is_some r && is_same (object_of w.held.key) o) w.fact ∙ ap (λ (x : Target). is_same x o) w.object ∙ same_itself o

pub owned_true : (found : List Held) (o : Target) (w : IsOwner found o) → is_owner found o ≡ true
owned_true found o w = ap (λ r. option_map_or (is_object_at o) r false) w.owner ∙ object_true found o w

pub facts_true : (found : List Held) (o : Target) (w : IsOwner found o) → facts_at found o ≡ Some w.facts
facts_true found o w = facts_owner found o w.held w.owner (object_true found o w) ∙ w.fact

pub directory_true : (found : List Held) (q : ℕ) (o : Target) (w : IsOwner found o) → q ≡ o.oid.0 → is_directory_id found q ≡ w.facts.directory
directory_true found q o w e = ap (λ r. option_map_or (λ f. f.directory) r false) (ap (owner_facts found) e ∙ facts_by found o w)

-- an extent that was accepted has a block at least
lawful_some : (us : List ExtentUnit) → AreLawfulUnits true (2 ^ 64) us → 1 ≤ length us → 1 ≤ blocks_in us
lawful_some [] lawful some = absurd (omega (arith, some))
lawful_some (u ∷ us) lawful some = elim lawful.0 [
  | inl unplaced ↦ let one = unplaced.2 in omega (arith, one)
  | inr (inl hole) ↦ let one = hole.1 in omega (arith, one)
  | inr (inr run) ↦ let one = run.width in omega (arith, one)
]

pub some_blocks : (blocks : ℕ) (cells : Cells) → AreRead blocks cells → (h : Held) (n : ℕ) → Contains (found_in cells) h → h.thing ≡ Extent n → 1 ≤ n
some_blocks blocks cells read h n at is =
    let p = extent_part blocks cells read h n at is in
    let long = p.long in
    let lawful = body_lawful true (2 ^ 64) p.item.body p.extent.body in
    let count = length-units_of p.item.body in
    let bytes = has_unit true (2 ^ 64) p.item.body p.extent.body in
    let some = lawful_some (units_of p.item.body) lawful.2 (omega (arith, count, bytes)) in
    omega (arith, long, some)

pub some_tail : (blocks : ℕ) (cells : Cells) → AreRead blocks cells → (h : Held) (n : ℕ) → Contains (found_in cells) h → h.thing ≡ Tail n → 1 ≤ n
some_tail blocks cells read h n at is =
    let p = tail_part blocks cells read h n at is in
    let long = p.long in
    let some = p.tail.some in
    omega (arith, long, some)

module _ (s : Super40) (blocks : ℕ) (cells : Cells) (root : Name) (linked : AreLinked cells root) (read : AreRead blocks cells)
    (one : HaveOne (all_units cells)) (apart : AreApart (all_units cells)) (ps : List Pair) (m : Mirrors (found_in cells) (all_units cells) ps)
    (files : HasFiles (store_of cells) (raw_of (all_units cells))) (objects : HasObjects (raw_of (all_units cells))) where
  one_attr : (o : Target) (a b : Attr) → HasStat (raw_of (all_units cells)) o a → HasStat (raw_of (all_units cells)) o b → a ≡ b
  one_attr o a b x y = same_attr a b (same_Some (StatValue a) (StatValue b) (sym x.1 ∙ y.1))

  -- ---- stat data

  pub stat_in : (h : Held) (f : Facts) → Contains (found_in cells) h → h.thing ≡ Stat f → (a : Attr) × (f ≡ facts_of a) × HasStat (raw_of (all_units cells)) (object_of h.key) a × (is_placed h ≡ true)
  stat_in h f at is =
      let pair = m.held h at (ap is_body is) in
      let u = pair.0 in
      let p = m.pair (h, u) pair.1 in
      let (a, val, e) = stat_value f u.1 (subst (λ (t : Thing). IsSame t u.1) is p.same) in
      let there = in_raw (all_units cells) one u.0 u.1 (m.to_unit (h, u) pair.1) ∙ ap (λ (v : Value). Some v) val in
      let here_at = subst (λ (k : ℕ). at_key (raw_of (all_units cells)) k ≡ Some (StatValue a)) p.at there in
      let fits = files.keys (rank h.key) (StatValue a) here_at in
      let key = key_again h.key p.key in
      let minor : minor_of h.key ≡ 1 = ap minor_of (sym key) ∙ fits.0 in
      let offset : offset_of h.key ≡ 0 = ap offset_of (sym key) ∙ fits.1 in
      let place = ap (fits_key h.key) is ∙ both_true (minor_of h.key == 1) (offset_of h.key == 0) (eq-eqb _ _ minor) (eq-eqb _ _ offset) in
      (a, e, (is_object h.key p.key, subst (λ (k : ℕ). at_key (raw_of (all_units cells)) k ≡ Some (StatValue a)) (stat_rank_is h.key p.key minor offset) here_at), place)

  pub own_of : (h : Held) (f : Facts) → Contains (found_in cells) h → h.thing ≡ Stat f → IsOwner (found_in cells) (object_of h.key)
  unfolding owner_of
  own_of h f at is =
      let q : ℕ = (object_of h.key).oid.0 in
      let test : is_stat_of q h ≡ true = both_true (is_stat_data h) (id_of h == q) (ap is_stat_thing is) (eq-eqb _ _ (ap (id_under h.key) is)) in
      let (g, e) = find_some (is_stat_of q) (found_in cells) h at test in
      let g_at = found_there (is_stat_of q) (found_in cells) g e in
      let g_is = and_parts (is_stat_data g) (id_of g == q) (find_true (is_stat_of q) (found_in cells) g e) in
      let (x, thing) = stat_by g.thing g_is.0 in
      let (b, eb, has_b, place) = stat_in g x g_at thing in
      let (a, ea, has_a, mine) = stat_in h f at is in
      let id : (object_of g.key).oid.0 ≡ q = ap (id_under g.key) (sym thing) ∙ eqb-true (id_of g) q g_is.1 in
      let same : object_of g.key ≡ object_of h.key = objects.one_id (object_of g.key) (object_of h.key) b a has_b has_a (ap made id) in
      let facts = facts_are g x thing place in
      let object : is_object_at (object_of h.key) g ≡ true = ap (λ r. is_some r && is_same (object_of g.key) (object_of h.key)) facts ∙ ap (λ (y : Target). is_same y (object_of h.key)) same ∙ same_itself (object_of h.key) in
      owner_made (found_in cells) (object_of h.key) g e object

  pub stat_own : (o : Target) (a : Attr) → HasStat (raw_of (all_units cells)) o a → (w : IsOwner (found_in cells) o) × (w.facts ≡ facts_of a)
  stat_own o a has =
      let (h, at_pair) = m.unit (stat_rank o, StatValue a) (in_units (all_units cells) (stat_rank o) (StatValue a) has.1) refl in
      let p = m.pair (h, (stat_rank o, StatValue a)) at_pair in
      let there = m.to_held (h, (stat_rank o, StatValue a)) at_pair in
      let object = at_stat_rank h.key o p.key has.0 (sym p.at) in
      let w = subst (IsOwner (found_in cells)) object (own_of h (facts_of a) there (stat_thing h.thing a p.same)) in
      (w, facts_are_of o a has w)
    where
      facts_are_of : (o : Target) (a : Attr) → HasStat (raw_of (all_units cells)) o a → (w : IsOwner (found_in cells) o) → w.facts ≡ facts_of a
      facts_are_of o a has w =
          let (b, e, also, place) = stat_in w.held w.facts w.there w.thing in
          let mine = subst (λ (x : Target). HasStat (raw_of (all_units cells)) x b) w.object also in
          e ∙ ap facts_of (one_attr o b a mine has)

  pub root_own : IsOwner (found_in cells) root_object
  root_own = (stat_own root_object objects.root.0 objects.root.1).0

  -- ---- entries

  entry_in : (h : Held) (t : Target) → Contains (found_in cells) h → h.thing ≡ Entry t → (n : List ℕ) × (at_key (raw_of (all_units cells)) (rank h.key) ≡ Some (EntryValue n t)) × IsKey h.key × (is_placed h ≡ true)
  entry_in h t at is =
      let pair = m.held h at (ap is_body is) in
      let u = pair.0 in
      let p = m.pair (h, u) pair.1 in
      let (n, val) = entry_value t u.1 (subst (λ (x : Thing). IsSame x u.1) is p.same) in
      let there = in_raw (all_units cells) one u.0 u.1 (m.to_unit (h, u) pair.1) ∙ ap (λ (v : Value). Some v) val in
      let here_at = subst (λ (k : ℕ). at_key (raw_of (all_units cells)) k ≡ Some (EntryValue n t)) p.at there in
      let minor : minor_of h.key ≡ 0 = ap minor_of (sym (key_again h.key p.key)) ∙ files.keys (rank h.key) (EntryValue n t) here_at in
      (n, here_at, p.key, ap (fits_key h.key) is ∙ eq-eqb (minor_of h.key) 0 minor)

  -- the directory of an entry
  record InDirectory (h : Held) : Type 0 where
    object : Target
    own : IsOwner (found_in cells) object
    id : id_of h ≡ object.oid.0
    directory : own.facts.directory ≡ true

  in_directory : (h : Held) (t : Target) → Contains (found_in cells) h → h.thing ≡ Entry t → InDirectory h
  in_directory h t at is =
      let (n, there, key, place) = entry_in h t at is in
      let (p, a, has, dir, e) = objects.holder (rank h.key) n t there in
      let (w, facts) = stat_own p a has in
      record { object = p; own = w; id = ap (id_under h.key) is ∙ ap dir_of_key (sym (key_again h.key key)) ∙ e; directory = ap (λ (f : Facts). f.directory) facts ∙ dir }

  pub target_in : (h : Held) (t : Target) → Contains (found_in cells) h → h.thing ≡ Entry t → (a : Attr) × HasStat (raw_of (all_units cells)) t a × (w : IsOwner (found_in cells) t) × (w.facts ≡ facts_of a)
  target_in h t at is =
      let (n, there, key, place) = entry_in h t at is in
      let (a, has) = objects.target (rank h.key) n t there in
      let (w, e) = stat_own t a has in
      (a, has, w, e)

  -- ---- parts of bodies

  record HasFile (h : Held) (long : ℕ) : Type 0 where
    part : IsPart (found_in cells) h (object_of h.key) long
    placed : is_placed h ≡ true
    attr : Attr
    has : HasStat (raw_of (all_units cells)) (object_of h.key) attr
    file : is_directory attr ≡ false

  body_in : (h : Held) (long x : ℕ) → Contains (found_in cells) h → IsKey h.key → at_key (raw_of (all_units cells)) (rank h.key) ≡ Some (Byte x) → is_placed h ≡ (minor_of h.key == 4) → id_of h ≡ (object_of h.key).oid.0 → offset_of h.key + long ≤ 2 ^ 64 → HasFile h long
  body_in h long x at key byte place id fits =
      let all = files.keys (rank h.key) (Byte x) byte in
      let again = key_again h.key key in
      let minor : minor_of h.key ≡ 4 = ap minor_of (sym again) ∙ all.0 in
      let has = subst (λ (k : Key). HasStat (raw_of (all_units cells)) (object_of k) all.1.0) again all.1.1 in
      let good = place ∙ eq-eqb (minor_of h.key) 4 minor in
      let (w, e) = stat_own (object_of h.key) all.1.0 has in
      let own = owned_true (found_in cells) (object_of h.key) w in
      record {
        part = record {
          there = at;
          key = key;
          minor = minor;
          object = refl;
          own = own;
          file = directory_true (found_in cells) (object_of h.key).oid.0 (object_of h.key) w refl ∙ ap (λ (f : Facts). f.directory) e ∙ all.1.2;
          id = id;
          is_own = both_true (is_placed h) (is_owner (found_in cells) (object_of h.key)) good own;
          fits = fits;
        };
        placed = good;
        attr = all.1.0;
        has = has;
        file = all.1.2;
      }

  byte_at : (k x i : ℕ) (c : Node Value) → Contains cells (i, c) → Contains c.units (k, Byte x) → at_key (raw_of (all_units cells)) k ≡ Some (Byte x)
  byte_at k x i c there unit = in_raw (all_units cells) one k (Byte x) (in_all cells i c (k, Byte x) there unit)

  tail_in : (h : Held) (n : ℕ) → Contains (found_in cells) h → h.thing ≡ Tail n → HasFile h n × (1 ≤ n)
  tail_in h n at is =
      let p = tail_part blocks cells read h n at is in
      let long = p.long in
      let some = p.tail.some in
      let short = p.tail.short in
      let key = ap offset_of p.key in
      let (x, (i, c, there, level, unit)) = tail_has blocks cells read h n (rank h.key) at is (omega arith, omega (arith, long, some)) in
      (body_in h n x at (subst IsKey (sym p.key) (item_keys p.bytes p.item p.has)) (byte_at (rank h.key) x i c there unit) (ap (fits_key h.key) is) (ap (id_under h.key) is) (omega (arith, long, key, short)), omega (arith, long, some))

  extent_in : (h : Held) (n : ℕ) → Contains (found_in cells) h → h.thing ≡ Extent n → (1 ≤ n) → HasFile h (4096 * n)
  extent_in h n at is some =
      let p = extent_part blocks cells read h n at is in
      let long = p.long in
      let short = p.extent.fits in
      let key = ap offset_of p.key in
      let (x, (i, c, there, level, unit)) = extent_has blocks cells root linked read h n (rank h.key) at is (omega arith, omega (arith, some)) in
      body_in h (4096 * n) x at (subst IsKey (sym p.key) (item_keys p.bytes p.item p.has)) (byte_at (rank h.key) x i c there unit) (ap (fits_key h.key) is) (ap (id_under h.key) is) (omega (arith, long, key, short))

  pub tail_part_of : (h : Held) (n : ℕ) → Contains (found_in cells) h → h.thing ≡ Tail n → IsPart (found_in cells) h (object_of h.key) n
  tail_part_of h n at is = (tail_in h n at is).0.part

  pub extent_part_of : (h : Held) (n : ℕ) → Contains (found_in cells) h → h.thing ≡ Extent n → IsPart (found_in cells) h (object_of h.key) (4096 * n)
  extent_part_of h n at is = (extent_in h n at is (some_blocks blocks cells read h n at is)).part

  -- ---- nothing strays

  stat_good : (h : Held) (f : Facts) → Contains (found_in cells) h → h.thing ≡ Stat f → (is_root (object_of h.key) && not f.directory) ≡ false
  stat_good h f at is = by (is_root (object_of h.key)) refl
    where
      by : (b : Bool) → is_root (object_of h.key) ≡ b → (b && not f.directory) ≡ false
      by false e = refl
      by true e =
          let (a, ea, has, place) = stat_in h f at is in
          let same = same_is (object_of h.key) root_object e in
          let (b, also, dir) = objects.root in
          let attr : a ≡ b = one_attr root_object a b (subst (λ (o : Target). HasStat (raw_of (all_units cells)) o a) same has) also in
          untrue f.directory (ap (λ (x : Facts). x.directory) ea ∙ ap is_directory attr ∙ dir)

  entry_good : (h : Held) (t : Target) → Contains (found_in cells) h → h.thing ≡ Entry t → (not (is_directory_id (found_in cells) (id_of h)) || is_none (facts_at (found_in cells) t)) ≡ false
  entry_good h t at is =
      let d = in_directory h t at is in
      let (a, has, w, e) = target_in h t at is in
      none_or (not (is_directory_id (found_in cells) (id_of h))) (is_none (facts_at (found_in cells) t)) (untrue _ (directory_true (found_in cells) (id_of h) d.object d.own d.id ∙ d.directory)) (ap is_none (facts_true (found_in cells) t w))

  part_good : (h : Held) (long : ℕ) → HasFile h long → (not (is_owner (found_in cells) (object_of h.key)) || is_directory_id (found_in cells) (id_of h)) ≡ false
  part_good h long f =
      none_or (not (is_owner (found_in cells) (object_of h.key))) (is_directory_id (found_in cells) (id_of h)) (untrue _ f.part.own) (ap (is_directory_id (found_in cells)) f.part.id ∙ f.part.file)

  not_stray : (h : Held) → Contains (found_in cells) h → is_stray (found_in cells) h ≡ false
  not_stray h at = by h.thing refl
    where
      as_is : (t : Thing) → h.thing ≡ t → is_placed h ≡ true → strays (found_in cells) h t ≡ false → is_stray (found_in cells) h ≡ false
      as_is t e place good = none_or (not (is_placed h)) (strays (found_in cells) h h.thing) (untrue (is_placed h) place) (ap (strays (found_in cells) h) e ∙ good)

      by_extent : (n : ℕ) → h.thing ≡ Extent n → (k : ℕ) → n ≡ k → is_stray (found_in cells) h ≡ false
      by_extent n e zero none =
          let some = some_blocks blocks cells read h n at e in
          absurd (omega (arith, some, none))
      by_extent n e (suc k) some = let f = extent_in h n at e (omega (arith, some)) in as_is (Extent n) e f.placed (part_good h (4096 * n) f)

      by : (t : Thing) → h.thing ≡ t → is_stray (found_in cells) h ≡ false
      by (Stat f) e =
          let (a, ea, has, place) = stat_in h f at e in
          as_is (Stat f) e place (none_or (not (is_owner (found_in cells) (object_of h.key))) (is_root (object_of h.key) && not f.directory) (untrue _ (owned_true (found_in cells) (object_of h.key) (own_of h f at e))) (stat_good h f at e))
      by (Entry t) e = let (n, there, key, place) = entry_in h t at e in as_is (Entry t) e place (entry_good h t at e)
      by (Tail n) e = let (f, some) = tail_in h n at e in as_is (Tail n) e f.placed (part_good h n f)
      by (Extent n) e = by_extent n e n refl

  pub no_strays : (q : ℕ) → strays_at (found_in cells) q ≡ 0
  no_strays q = no_terms (λ (h : Held). if id_of h == q then once (is_stray (found_in cells) h) else 0) (found_in cells) (λ h at. zero_if (id_of h == q) (is_stray (found_in cells) h) (not_stray h at))
    where
      zero_if : (b c : Bool) → c ≡ false → (if b then once c else 0) ≡ 0
      zero_if true true e = absurd (cc)
      zero_if true false e = refl
      zero_if false c e = refl

  -- ---- what the root reaches

  reach_of : (n : ℕ) (o : Target) → IsReached (raw_of (all_units cells)) n o → is_reached_by n (found_in cells) o.oid.0 ≡ true
  unfolding is_reached_by
  reach_of zero o e = eq-eqb o.oid.0 42 (ap (λ (x : Target). x.oid.0) e)
  reach_of (suc n) o (p, way, (k, name, at, dir)) =
      let (h, there, is, id) = entry_at k name o p at dir in
      step_by (found_in cells) n o.oid.0 h there (ap (leads_to o.oid.0) is ∙ eq-eqb o.oid.0 o.oid.0 refl) (subst (λ (q : ℕ). is_reached_by n (found_in cells) q ≡ true) (sym id) (reach_of n p way))
    where
      entry_at : (k : ℕ) (name : List ℕ) (o p : Target) → at_key (raw_of (all_units cells)) k ≡ Some (EntryValue name o) → dir_of_key (key_of_rank k) ≡ p.oid.0 → (h : Held) × Contains (found_in cells) h × (h.thing ≡ Entry o) × (id_of h ≡ p.oid.0)
      entry_at k name o p at dir =
          let (h, at_pair) = m.unit (k, EntryValue name o) (in_units (all_units cells) k (EntryValue name o) at) refl in
          let x = m.pair (h, (k, EntryValue name o)) at_pair in
          let thing = entry_thing h.thing name o x.same in
          (h, m.to_held (h, (k, EntryValue name o)) at_pair, thing, ap (id_under h.key) thing ∙ ap dir_of_key (sym (ap key_of_rank x.at ∙ key_again h.key x.key)) ∙ dir)

  pub met_some : (o : Target) (a : Attr) → HasStat (raw_of (all_units cells)) o a → is_root o ≡ false → 1 ≤ reached_at (found_in cells) o.oid.0
  met_some o a has other = by (objects.reached o a has)
    where
      one_of_it : (h : Held) → h.thing ≡ Entry o → is_owner (found_in cells) o ≡ true → is_reached (found_in cells) (id_of h) ≡ true
          → (if named_id h.thing == o.oid.0 then once (names_one (is_owner (found_in cells)) h && is_reached (found_in cells) (id_of h)) else 0) ≡ 1
      one_of_it h is own way =
          at_own (named_id h.thing) o.oid.0 (once (names_one (is_owner (found_in cells)) h && is_reached (found_in cells) (id_of h))) (ap named_id is)
          ∙ ap once (both_true (names_one (is_owner (found_in cells)) h) (is_reached (found_in cells) (id_of h)) (ap (λ (t : Thing). option_map_or (is_owner (found_in cells)) (target_of t) false) is ∙ own) way)

      by : ((n : ℕ) × IsReached (raw_of (all_units cells)) n o) → 1 ≤ reached_at (found_in cells) o.oid.0
      by (zero, e) = let same : is_root o ≡ true = ap is_root e in absurd (cc)
      by (suc n, (p, way, (k, name, at, dir))) =
          let (h, at_pair) = m.unit (k, EntryValue name o) (in_units (all_units cells) k (EntryValue name o) at) refl in
          let x = m.pair (h, (k, EntryValue name o)) at_pair in
          let thing = entry_thing h.thing name o x.same in
          let there = m.to_held (h, (k, EntryValue name o)) at_pair in
          let id : id_of h ≡ p.oid.0 = ap (id_under h.key) thing ∙ ap dir_of_key (sym (ap key_of_rank x.at ∙ key_again h.key x.key)) ∙ dir in
          let reached = enough (found_in cells) n (id_of h) (subst (λ (q : ℕ). is_reached_by n (found_in cells) q ≡ true) (sym id) (reach_of n p way)) in
          let own = owned_true (found_in cells) o (stat_own o a has).0 in
          let one_is = one_of_it h thing own reached in
          let adds = one_adds (λ (g : Held). if named_id g.thing == o.oid.0 then once (names_one (is_owner (found_in cells)) g && is_reached (found_in cells) (id_of g)) else 0) (found_in cells) h there in
          omega (arith, one_is, adds)
