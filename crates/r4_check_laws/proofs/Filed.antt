-- Where no object has a fault, keys fit their values, and each file has its body in tails alone or in extents alone.
use Rattle.std.proofs.Common.{◌≡◌, ◌⊎◌, inl, inr, ℕ, ◌+◌, ◌*◌, ◌^◌, ◌<◌, ◌≤◌, Bool, true, false, ◌&&◌, ◌||◌, ◌==◌, List, [], ◌∷◌, Some, refl, sym, ap, subst, ◌∙◌, arith}
use Rattle.std.specs.Prelude.{Contains, nat_le, nat_lt, if◌then◌else◌}
use Rattle.std.specs.Option.{option_map_or}
use Rattle.std.proofs.lemmas.Bool.{and_parts, cases_eq, eqb-true, le-leb, leb-true}
use Rattle.std.proofs.lemmas.Bool.Decides.{nat_tests}
use Rattle.r4_base.specs.Key.{IsKey, key_of_rank, minor_of, offset_of}
use Rattle.r4_base.specs.Tree.{Name}
use Rattle.r4_base.specs.Value.{Byte, Entry as EntryValue, Stat as StatValue, Value, at_key}
use Rattle.r4_base.specs.Volume.{HasExtents, HasFiles, HasStat, HasTails, InExtent, InTail, IsObject, KeyFits, blocks_for, byte_rank, is_directory, object_of}
use Rattle.r4_base.proofs.Visible.{byte_back}
use Rattle.r4_base.specs.declared.items.Attr.{Attr}
use Rattle.r4_base.specs.declared.items.Target.{Target}
use Rattle.r4_base.specs.declared.key.Key.{Key}
use Rattle.r4_base.specs.declared.superblock.Super40.{Super40}
use Rattle.r4_check.specs.Walk.{found_in}
use Rattle.r4_check_objects.specs.Held.{facts_of, fits_key, id_of, id_under}
use Rattle.r4_check_objects.specs.Objects.{body_fits, ends_past, extent_blocks, is_directory_id, is_own, is_owner, is_past, once, owner_facts, tail_bytes}
use Rattle.r4_check_objects.specs.declared.held.Facts.{Facts}
use Rattle.r4_check_objects.specs.declared.held.Held.{Held}
use Rattle.r4_check_objects.specs.declared.held.Thing.TheVariants.{Extent, Tail}
use Rattle.r4_check_laws.proofs.Bodies.{LiesIn, extent_has, extent_of, tail_has, tail_of}
use Rattle.r4_check_laws.proofs.Contents.{AreApart, HaveOne, in_raw, in_units, raw_of}
use Rattle.r4_check_laws.proofs.Files.{IsPart, covered, extent_long, facts_by, in_all, of_all, part_key, scaled, tail_long}
use Rattle.r4_check_laws.proofs.Keys.{byte_object, byte_rank_up, key_again}
use Rattle.r4_check_laws.proofs.OfKinds.{is_extent, is_tail, one_extent, one_tail, some_blocks}
use Rattle.r4_check_laws.proofs.Lists.{one_adds, sums_alike}
use Rattle.r4_check_laws.proofs.Counts.{if_false, stat_placed, stat_thing}
use Rattle.r4_check_laws.proofs.Objects.{owner_stat, stat_owner, there_entry}
use Rattle.r4_check_laws.proofs.Pairs.{Mirrors, Pair, all_units, item_keys}
use Rattle.r4_check_laws.proofs.Parts.{AreRead, extent_part, tail_part}
use Rattle.r4_check_laws.proofs.Rights.{AreRight, IsOwner, at_own, blocks_at, extent_fine, is_owned, past_at, placed, size_fine, size_rule, tail_fine, tails_at}
use Rattle.r4_check_laws.proofs.Stores.{Cells, in_cells, store_of, stored}
use Rattle.r4_check_laws.proofs.Trees.{AreLinked}

not_below : (a b : ℕ) → nat_lt a b ≡ false → b ≤ a
not_below a b e = grind (arith, nat_tests)

is_zero : (n : ℕ) → (n == 0) ≡ true → n ≡ 0
is_zero n e = eqb-true n 0 e

never_once : (b : Bool) → once b ≡ 0 → b ≡ false
never_once true e = absurd (omega (arith, e))
never_once false e = refl

module _ (s : Super40) (blocks : ℕ) (cells : Cells) (root : Name) (linked : AreLinked cells root) (read : AreRead blocks cells) (right : AreRight s (found_in cells))
    (one : HaveOne (all_units cells)) (apart : AreApart (all_units cells)) (ps : List Pair) (m : Mirrors (found_in cells) (all_units cells) ps) where
  abbrev pub found : List Held
  found = found_in cells

  tail_is_part : (h : Held) (n : ℕ) → Contains (found_in cells) h → h.thing ≡ Tail n → IsPart (found_in cells) h (object_of h.key) n
  tail_is_part h n at is =
      let p = tail_part blocks cells read h n at is in
      let good = placed s (found_in cells) right h at in
      let fine = tail_fine s (found_in cells) right h n at is in
      let id = ap (id_under h.key) is in
      let long = p.long in
      let key = ap offset_of p.key in
      let short = p.tail.short in
      record {
        there = at;
        key = subst IsKey (sym p.key) (item_keys p.bytes p.item p.has);
        minor = eqb-true (minor_of h.key) 4 (ap (fits_key h.key) (sym is) ∙ good);
        object = refl;
        own = fine.0;
        file = ap (is_directory_id (found_in cells)) (sym id) ∙ fine.1;
        id = id;
        is_own = ap (λ (b : Bool). b && is_owner (found_in cells) (object_of h.key)) good ∙ fine.0;
        fits = omega (arith, long, key, short);
      }

  extent_is_part : (h : Held) (n : ℕ) → Contains (found_in cells) h → h.thing ≡ Extent n → IsPart (found_in cells) h (object_of h.key) (4096 * n)
  extent_is_part h n at is =
      let p = extent_part blocks cells read h n at is in
      let good = placed s (found_in cells) right h at in
      let fine = extent_fine s (found_in cells) right h n at is in
      let id = ap (id_under h.key) is in
      let long = p.long in
      let key = ap offset_of p.key in
      let short = p.extent.fits in
      record {
        there = at;
        key = subst IsKey (sym p.key) (item_keys p.bytes p.item p.has);
        minor = eqb-true (minor_of h.key) 4 (ap (fits_key h.key) (sym is) ∙ good);
        object = refl;
        own = fine.0;
        file = ap (is_directory_id (found_in cells)) (sym id) ∙ fine.1;
        id = id;
        is_own = ap (λ (b : Bool). b && is_owner (found_in cells) (object_of h.key)) good ∙ fine.0;
        fits = omega (arith, long, key, short);
      }

  each_tail : (h : Held) → Contains (found_in cells) h → 1 ≤ tail_long h.thing → IsPart (found_in cells) h (object_of h.key) (tail_long h.thing)
  each_tail h at some =
      let (n, is) = is_tail h.thing some in
      let long : tail_long h.thing ≡ n = ap tail_bytes is in
      subst (λ (k : ℕ). IsPart (found_in cells) h (object_of h.key) k) (sym long) (tail_is_part h n at is)

  each_extent : (h : Held) → Contains (found_in cells) h → 1 ≤ extent_long h.thing → IsPart (found_in cells) h (object_of h.key) (extent_long h.thing)
  each_extent h at some =
      let (n, is) = is_extent h.thing (some_blocks (extent_blocks h.thing) some) in
      let long : extent_long h.thing ≡ 4096 * n = ap extent_long is in
      subst (λ (k : ℕ). IsPart (found_in cells) h (object_of h.key) k) (sym long) (extent_is_part h n at is)

  -- ---- a unit of a file

  file_of : (o : Target) (h : Held) (long : ℕ) → IsPart (found_in cells) h o long → (a : Attr) × HasStat (raw_of (all_units cells)) o a × (is_directory a ≡ false)
  file_of o h long p =
      let w = is_owned (found_in cells) o p.own in
      let (a, e, has) = owner_stat s (found_in cells) right (all_units cells) one apart ps m o w in
      let dir : w.facts.directory ≡ false = sym (ap (λ r. option_map_or (λ f. f.directory) r false) (facts_by (found_in cells) o w)) ∙ p.file in
      (a, has, ap (λ (f : Facts). f.directory) (sym e) ∙ dir)

  byte_fits : (k : ℕ) (x : ℕ) (h : Held) (long : ℕ) → IsPart (found_in cells) h (object_of h.key) long → LiesIn h long k → KeyFits (raw_of (all_units cells)) (key_of_rank k) (Byte x)
  byte_fits k x h long p lies =
      let (y, small, low, high, is, minor, object) = part_key (found_in cells) h (object_of h.key) long k p lies in
      let (a, has, file) = file_of (object_of h.key) h long p in
      (minor, (a, subst (λ (o : Target). HasStat (raw_of (all_units cells)) o a) (sym object) has, file))

  keys : (k : ℕ) (v : Value) → at_key (raw_of (all_units cells)) k ≡ Some v → KeyFits (raw_of (all_units cells)) (key_of_rank k) v
  keys k (StatValue a) at =
      let (h, at_pair) = m.unit (k, StatValue a) (in_units (all_units cells) k (StatValue a) at) refl in
      let p = m.pair (h, (k, StatValue a)) at_pair in
      let there = m.to_held (h, (k, StatValue a)) at_pair in
      let place = stat_placed h h.thing (facts_of a) refl (stat_thing h.thing a p.same) (placed s (found_in cells) right h there) in
      let key : key_of_rank k ≡ h.key = ap key_of_rank p.at ∙ key_again h.key p.key in
      (ap minor_of key ∙ place.0, ap offset_of key ∙ place.1)
  keys k (EntryValue n t) at =
      let (h, there, thing, is, key) = there_entry s (found_in cells) right (all_units cells) one apart ps m k n t at in
      let good = placed s (found_in cells) right h there in
      ap minor_of (ap key_of_rank is ∙ key_again h.key key) ∙ eqb-true (minor_of h.key) 0 (ap (fits_key h.key) (sym thing) ∙ good)
  keys k (Byte x) at =
      let (i, c, there, has) = of_all cells (k, Byte x) (in_units (all_units cells) k (Byte x) at) in
      elim (cases_eq c.level 1) [
        | inl leaf ↦ (let (h, n, in_found, thing, lies) = tail_of blocks cells read k x (i, c, there, leaf, has) in byte_fits k x h n (tail_is_part h n in_found thing) lies)
        | inr other ↦ (let (h, n, in_found, thing, lies) = extent_of blocks cells root linked read k (Byte x) (i, c, there, other, has) in byte_fits k x h (4096 * n) (extent_is_part h n in_found thing) lies)
      ]

  -- ---- bodies

  -- a key of the object is a key at an offset
  one_offset : (o : Target) (y : ℕ) (h : Held) (long : ℕ) → IsObject o → y < 2 ^ 64 → IsPart (found_in cells) h (object_of h.key) long → LiesIn h long (byte_rank o y) → IsPart (found_in cells) h o long × (y < offset_of h.key + long)
  one_offset o y h long is small p lies =
      let (z, fits, low, high, at, minor, object) = part_key (found_in cells) h (object_of h.key) long (byte_rank o y) p lies in
      let same : object_of h.key ≡ o = sym object ∙ ap object_of (byte_back o y is small) ∙ byte_object o y in
      let a = byte_rank_up o y in
      let b = byte_rank_up (object_of h.key) z in
      let c : byte_rank (object_of h.key) 0 ≡ byte_rank o 0 = ap (λ (x : Target). byte_rank x 0) same in
      (subst (λ (x : Target). IsPart (found_in cells) h x long) same p, omega (arith, at, a, b, c, high))

  -- the rules of a file
  pub record IsFile (o : Target) (a : Attr) : Type 0 where
    pub own : IsOwner (found_in cells) o
    pub bytes : a.bytes ≡ a.size
    pub size : own.facts.size ≡ a.size
    pub small : a.size ≤ 1073741824
    pub past : past_at (found_in cells) o.oid.0 ≡ 0
    pub body : body_fits a.size (tails_at (found_in cells) o.oid.0) (blocks_at (found_in cells) o.oid.0) ≡ true

  bytes_right : (o : Target) (a : Attr) → HasStat (raw_of (all_units cells)) o a → a.bytes ≡ a.size
  bytes_right o a has =
      let (w, e) = stat_owner s (found_in cells) right (all_units cells) one apart ps m o a has in
      let rule = sym (size_rule (found_in cells) o.oid.0 w.facts) ∙ size_fine s (found_in cells) right o w in
      let same = eqb-true w.facts.bytes w.facts.size (and_parts (w.facts.bytes == w.facts.size) _ rule).0 in
      ap (λ (f : Facts). f.bytes) (sym e) ∙ same ∙ ap (λ (f : Facts). f.size) e

  file_rule : (o : Target) (a : Attr) → HasStat (raw_of (all_units cells)) o a → is_directory a ≡ false → IsFile o a
  file_rule o a has file =
      let (w, e) = stat_owner s (found_in cells) right (all_units cells) one apart ps m o a has in
      let rule = sym (size_rule (found_in cells) o.oid.0 w.facts) ∙ size_fine s (found_in cells) right o w in
      let dir : w.facts.directory ≡ false = ap (λ (f : Facts). f.directory) e ∙ file in
      let size : w.facts.size ≡ a.size = ap (λ (f : Facts). f.size) e in
      let rest = if_false w.facts.directory _ _ dir (and_parts (w.facts.bytes == w.facts.size) _ rule).1 in
      let x = and_parts (nat_le w.facts.size 1073741824 && past_at (found_in cells) o.oid.0 == 0) _ rest in
      let y = and_parts (nat_le w.facts.size 1073741824) (past_at (found_in cells) o.oid.0 == 0) x.0 in
      let small = leb-true w.facts.size 1073741824 y.0 in
      record {
        own = w;
        bytes = bytes_right o a has;
        size = size;
        small = omega (arith, small, size);
        past = is_zero _ y.1;
        body = ap (λ (n : ℕ). body_fits n (tails_at (found_in cells) o.oid.0) (blocks_at (found_in cells) o.oid.0)) (sym size) ∙ x.1;
      }

  module _ (o : Target) (a : Attr) (has : HasStat (raw_of (all_units cells)) o a) (f : IsFile o a) where
    -- no part goes past the end
    within : (h : Held) (long : ℕ) → IsPart (found_in cells) h o long → ends_past a.size (offset_of h.key) h.thing ≡ false
    within h long p =
        let adds = one_adds (λ (g : Held). if id_of g == o.oid.0 then once (is_past (found_in cells) g) else 0) (found_in cells) h p.there in
        let own = at_own (id_of h) o.oid.0 (once (is_past (found_in cells) h)) p.id in
        let none = f.past in
        let not_past : is_past (found_in cells) h ≡ false = never_once (is_past (found_in cells) h) (omega (arith, adds, own, none)) in
        let facts : owner_facts (found_in cells) (id_of h) ≡ Some f.own.facts = ap (owner_facts (found_in cells)) p.id ∙ facts_by (found_in cells) o f.own in
        let small = f.small in
        let size = f.size in
        let most : nat_le f.own.facts.size 1073741824 ≡ true = le-leb f.own.facts.size 1073741824 (omega (arith, small, size)) in
        sym (ap (λ (b : Bool). b && ends_past a.size (offset_of h.key) h.thing) most)
        ∙ ap (λ (n : ℕ). nat_le f.own.facts.size 1073741824 && ends_past n (offset_of h.key) h.thing) (sym size)
        ∙ sym (ap (λ r. option_map_or (λ x. nat_le x.size 1073741824 && ends_past x.size (offset_of h.key) h.thing) r false) facts)
        ∙ sym (ap (λ (b : Bool). b && option_map_or (λ x. nat_le x.size 1073741824 && ends_past x.size (offset_of h.key) h.thing) (owner_facts (found_in cells) (id_of h)) false) p.is_own)
        ∙ not_past

    tail_within : (h : Held) → Contains (found_in cells) h → 1 ≤ tail_long h.thing → IsPart (found_in cells) h o (tail_long h.thing) → offset_of h.key + tail_long h.thing ≤ a.size
    tail_within h at some p =
        let (n, is) = is_tail h.thing some in
        let past : nat_lt a.size (offset_of h.key + n) ≡ false = ap (ends_past a.size (offset_of h.key)) (sym is) ∙ within h (tail_long h.thing) p in
        let long : tail_long h.thing ≡ n = ap tail_long is in
        let low = not_below a.size (offset_of h.key + n) past in
        omega (arith, low, long)

    extent_within : (h : Held) → Contains (found_in cells) h → 1 ≤ extent_long h.thing → IsPart (found_in cells) h o (extent_long h.thing) → offset_of h.key + extent_long h.thing ≤ 4096 * blocks_for a.size
    extent_within h at some p =
        let (n, is) = is_extent h.thing (some_blocks (extent_blocks h.thing) some) in
        let past : nat_lt (4096 * blocks_for a.size) (offset_of h.key + 4096 * n) ≡ false = ap (ends_past a.size (offset_of h.key)) (sym is) ∙ within h (extent_long h.thing) p in
        let long : extent_long h.thing ≡ 4096 * n = ap extent_long is in
        let low = not_below (4096 * blocks_for a.size) (offset_of h.key + 4096 * n) past in
        omega (arith, low, long)

    tail_key : (h : Held) (n y : ℕ) → y < 2 ^ 64 → Contains (found_in cells) h → h.thing ≡ Tail n → LiesIn h n (byte_rank o y) → IsPart (found_in cells) h o n × (y < a.size)
    tail_key h n y small at is lies =
        let p = one_offset o y h n has.0 small (tail_is_part h n at is) lies in
        let long : tail_long h.thing ≡ n = ap tail_long is in
        let within_end = tail_within h at (omega (arith, long, lies)) (subst (λ (k : ℕ). IsPart (found_in cells) h o k) (sym long) p.0) in
        let high = p.1 in
        (p.0, omega (arith, within_end, long, high))

    extent_key : (h : Held) (n y : ℕ) → y < 2 ^ 64 → Contains (found_in cells) h → h.thing ≡ Extent n → LiesIn h (4096 * n) (byte_rank o y) → IsPart (found_in cells) h o (4096 * n) × (y < 4096 * blocks_for a.size)
    extent_key h n y small at is lies =
        let p = one_offset o y h (4096 * n) has.0 small (extent_is_part h n at is) lies in
        let long : extent_long h.thing ≡ 4096 * n = ap extent_long is in
        let within_end = extent_within h at (omega (arith, long, lies)) (subst (λ (k : ℕ). IsPart (found_in cells) h o k) (sym long) p.0) in
        let high = p.1 in
        (p.0, omega (arith, within_end, long, high))

    -- what is the object's counts
    adds_tail : (h : Held) (n : ℕ) → IsPart (found_in cells) h o n → h.thing ≡ Tail n → n ≤ tails_at (found_in cells) o.oid.0
    adds_tail h n p is =
        let adds = one_adds (λ (g : Held). if id_of g == o.oid.0 then (if is_own (found_in cells) g then tail_bytes g.thing else 0) else 0) (found_in cells) h p.there in
        let own = at_own (id_of h) o.oid.0 (if is_own (found_in cells) h then tail_bytes h.thing else 0) p.id in
        let mine : (if is_own (found_in cells) h then tail_bytes h.thing else 0) ≡ n = ap (λ (b : Bool). if b then tail_bytes h.thing else 0) p.is_own ∙ ap tail_bytes is in
        omega (arith, adds, own, mine)

    adds_extent : (h : Held) (n : ℕ) → IsPart (found_in cells) h o (4096 * n) → h.thing ≡ Extent n → n ≤ blocks_at (found_in cells) o.oid.0
    adds_extent h n p is =
        let adds = one_adds (λ (g : Held). if id_of g == o.oid.0 then (if is_own (found_in cells) g then extent_blocks g.thing else 0) else 0) (found_in cells) h p.there in
        let own = at_own (id_of h) o.oid.0 (if is_own (found_in cells) h then extent_blocks h.thing else 0) p.id in
        let mine : (if is_own (found_in cells) h then extent_blocks h.thing else 0) ≡ n = ap (λ (b : Bool). if b then extent_blocks h.thing else 0) p.is_own ∙ ap extent_blocks is in
        omega (arith, adds, own, mine)

    -- units of leaves and of others at a key of the object
    tail_in : (y : ℕ) → y < 2 ^ 64 → InTail (store_of cells) (byte_rank o y) → (h : Held) × (n : ℕ) × Contains (found_in cells) h × (h.thing ≡ Tail n) × LiesIn h n (byte_rank o y)
    tail_in y small (i, c, v, at, level, unit) =
        let there = in_cells cells i c at in
        let fits = keys (byte_rank o y) v (in_raw (all_units cells) one (byte_rank o y) v (in_all cells i c (byte_rank o y, v) there unit)) in
        let back = byte_back o y has.0 small in
        by v (subst (λ (k : Key). KeyFits (raw_of (all_units cells)) k v) back fits) there level unit
      where
        by : (v : Value) → KeyFits (raw_of (all_units cells)) (record { el = (o.locality * 16 + 4) ∷ o.ordering ∷ o.oid.0 ∷ y ∷ [] }) v → Contains cells (i, c) → c.level ≡ 1 → Contains c.units (byte_rank o y, v)
            → (h : Held) × (n : ℕ) × Contains (found_in cells) h × (h.thing ≡ Tail n) × LiesIn h n (byte_rank o y)
        by (StatValue b) fits there level unit = let minor = fits.0 in absurd (omega (arith, minor))
        by (EntryValue n t) fits there level unit = absurd (omega (arith, fits))
        by (Byte x) fits there level unit = tail_of blocks cells read (byte_rank o y) x (i, c, there, level, unit)

    extent_in : (y : ℕ) → InExtent (store_of cells) (byte_rank o y) → (h : Held) × (n : ℕ) × Contains (found_in cells) h × (h.thing ≡ Extent n) × LiesIn h (4096 * n) (byte_rank o y)
    extent_in y (i, c, v, at, level, unit) = extent_of blocks cells root linked read (byte_rank o y) v (i, c, in_cells cells i c at, level, unit)

    in_tails : tails_at (found_in cells) o.oid.0 ≡ a.size → blocks_at (found_in cells) o.oid.0 ≡ 0 → HasTails (store_of cells) o a.size
    in_tails all none = record {
      offsets = λ y small. (λ unit. (let (h, n, at, is, lies) = tail_in y small unit in (tail_key h n y small at is lies).1), there y);
      no_extents = λ y small unit. (
          let (h, n, at, is, lies) = extent_in y unit in
          let p = (extent_key h n y small at is lies).0 in
          let adds = adds_extent h n p is in
          omega (arith, adds, none, lies)
          );
    }
      where
        own_sum : (b c : Bool) (n : ℕ) → (if b && c then n else 0) ≡ (if b then (if c then n else 0) else 0)
        own_sum true c n = refl
        own_sum false c n = refl

        there : (y : ℕ) → y < a.size → InTail (store_of cells) (byte_rank o y)
        there y lt =
            let same = sums_alike (λ h. if id_of h == o.oid.0 && is_own (found_in cells) h then tail_long h.thing else 0) (λ h. if id_of h == o.oid.0 then (if is_own (found_in cells) h then tail_bytes h.thing else 0) else 0) (found_in cells)
            (λ h at. own_sum (id_of h == o.oid.0) (is_own (found_in cells) h) (tail_bytes h.thing)) in
            let (h, at, some, lies) = covered (found_in cells) o f.own tail_long a.size each_tail tail_within (one_tail blocks cells root linked read) (same ∙ all) y lt in
            let (n, is) = is_tail h.thing some in
            let long : tail_long h.thing ≡ n = ap tail_long is in
            let (x, (i, c, cell, level, unit)) = tail_has blocks cells read h n (byte_rank o y) at is (omega (arith, lies), omega (arith, lies, long)) in
            (i, c, Byte x, stored cells linked.once i c cell, level, unit)

    in_extents : tails_at (found_in cells) o.oid.0 ≡ 0 → blocks_at (found_in cells) o.oid.0 ≡ blocks_for a.size → HasExtents (store_of cells) o a.size
    in_extents none all = record {
      offsets = λ y small. (λ unit. (let (h, n, at, is, lies) = extent_in y unit in (extent_key h n y small at is lies).1), there y);
      no_tails = λ y small unit. (
          let (h, n, at, is, lies) = tail_in y small unit in
          let p = (tail_key h n y small at is lies).0 in
          let adds = adds_tail h n p is in
          omega (arith, adds, none, lies)
          );
    }
      where
        own_sum : (b c : Bool) (n : ℕ) → (if b && c then 4096 * n else 0) ≡ 4096 * (if b then (if c then n else 0) else 0)
        own_sum true true n = refl
        own_sum true false n = omega arith
        own_sum false c n = omega arith

        there : (y : ℕ) → y < 4096 * blocks_for a.size → InExtent (store_of cells) (byte_rank o y)
        there y lt =
            let same = sums_alike (λ h. if id_of h == o.oid.0 && is_own (found_in cells) h then extent_long h.thing else 0) (λ h. 4096 * (if id_of h == o.oid.0 then (if is_own (found_in cells) h then extent_blocks h.thing else 0) else 0)) (found_in cells)
            (λ h at. own_sum (id_of h == o.oid.0) (is_own (found_in cells) h) (extent_blocks h.thing)) in
            let scale = scaled 4096 (λ h. if id_of h == o.oid.0 then (if is_own (found_in cells) h then extent_blocks h.thing else 0) else 0) (found_in cells) in
            let (h, at, some, lies) = covered (found_in cells) o f.own extent_long (4096 * blocks_for a.size) each_extent extent_within (one_extent blocks cells root linked read) (same ∙ scale ∙ ap (λ (k : ℕ). 4096 * k) all) y lt in
            let (n, is) = is_extent h.thing (some_blocks (extent_blocks h.thing) some) in
            let long : extent_long h.thing ≡ 4096 * n = ap extent_long is in
            let (x, (i, c, cell, level, unit)) = extent_has blocks cells root linked read h n (byte_rank o y) at is (omega (arith, lies), omega (arith, lies, long)) in
            (i, c, Byte x, stored cells linked.once i c cell, level, unit)

    body_there : HasTails (store_of cells) o a.size ⊎ HasExtents (store_of cells) o a.size
    body_there = either (tails_at (found_in cells) o.oid.0 == a.size && blocks_at (found_in cells) o.oid.0 == 0) refl
      where
        either : (b : Bool) → (tails_at (found_in cells) o.oid.0 == a.size && blocks_at (found_in cells) o.oid.0 == 0) ≡ b → HasTails (store_of cells) o a.size ⊎ HasExtents (store_of cells) o a.size
        either true e = let p = and_parts (tails_at (found_in cells) o.oid.0 == a.size) _ e in inl (in_tails (eqb-true _ _ p.0) (eqb-true _ _ p.1))
        either false e =
            let rest : (tails_at (found_in cells) o.oid.0 == 0 && blocks_at (found_in cells) o.oid.0 == blocks_for a.size) ≡ true
            = sym (ap (λ (b : Bool). b || tails_at (found_in cells) o.oid.0 == 0 && blocks_at (found_in cells) o.oid.0 == blocks_for a.size) e) ∙ f.body in
            let p = and_parts (tails_at (found_in cells) o.oid.0 == 0) _ rest in
            inr (in_extents (eqb-true _ _ p.0) (eqb-true _ _ p.1))

  pub files_right : HasFiles (store_of cells) (raw_of (all_units cells))
  files_right = record {
    keys = keys;
    bodies = λ o a has file. (let f = file_rule o a has file in (f.small, body_there o a has f));
    bytes = bytes_right;
  }
