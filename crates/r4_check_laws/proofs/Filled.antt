-- Files of a content have parts that are as long as they should be, and none that goes past the end.
use Rattle.std.proofs.Common.{◌≡◌, ℕ, ◌+◌, ◌*◌, ◌-◌, ◌/◌, ◌^◌, ◌<◌, ◌≤◌, Bool, true, false, ◌&&◌, ◌==◌, List, [], ◌∷◌, Some, refl, sym, ap, subst, ◌∙◌, arith}
use Rattle.std.specs.Prelude.{Contains, sum_by, nat_le, nat_lt, if◌then◌else◌}
use Rattle.std.specs.Option.{option_map_or}
use Rattle.std.proofs.lemmas.Bool.{eqb-true}
use Rattle.std.proofs.lemmas.Bool.Decides.{nat_tests}
use Rattle.r4_base.proofs.Visible.{byte_back}
use Rattle.r4_base.specs.Key.{offset_of, rank}
use Rattle.r4_base.specs.Tree.{Name}
use Rattle.r4_base.specs.Value.{Byte, Entry as EntryValue, Stat as StatValue, Value}
use Rattle.r4_base.specs.Volume.{HasExtents, HasFiles, HasObjects, HasStat, HasTails, InExtent, InTail, KeyFits, blocks_for, byte_rank, object_of}
use Rattle.r4_base.specs.declared.items.Attr.{Attr}
use Rattle.r4_base.specs.declared.items.Target.{Target}
use Rattle.r4_base.specs.declared.key.Key.{Key}
use Rattle.r4_base.specs.declared.superblock.Super40.{Super40}
use Rattle.r4_check.specs.Walk.{found_in}
use Rattle.r4_check_objects.specs.Held.{id_of}
use Rattle.r4_check_objects.specs.Objects.{ends_past, extent_blocks, is_own, is_past, once, owner_facts, tail_bytes}
use Rattle.r4_check_objects.specs.declared.held.Held.{Held}
use Rattle.r4_check_objects.specs.declared.held.Thing.{Thing}
use Rattle.r4_check_objects.specs.declared.held.Thing.TheVariants.{Entry, Extent, Stat, Tail}
use Rattle.r4_check_laws.proofs.Bodies.{LiesIn, extent_has, extent_of, tail_has, tail_of}
use Rattle.r4_check_laws.proofs.Contents.{AreApart, HaveOne, in_raw, raw_of}
use Rattle.r4_check_laws.proofs.Counts.{and_false}
use Rattle.r4_check_laws.proofs.Faultless.{extent_part_of, some_blocks, some_tail, tail_part_of}
use Rattle.r4_check_laws.proofs.Files.{IsPart, extent_long, facts_by, filled, in_all, one_owner, part_key, scaled, tail_long}
use Rattle.r4_check_laws.proofs.Keys.{body_rank_is, byte_object, byte_rank_up}
use Rattle.r4_check_laws.proofs.OfKinds.{is_extent, is_tail, one_extent, one_tail, some_blocks as some_of}
use Rattle.r4_check_laws.proofs.Lists.{no_terms, sums_alike}
use Rattle.r4_check_laws.proofs.Pairs.{Mirrors, Pair, all_units}
use Rattle.r4_check_laws.proofs.Parts.{AreRead}
use Rattle.r4_check_laws.proofs.Rights.{IsOwner, blocks_at, is_owned, past_at, tails_at}
use Rattle.r4_check_laws.proofs.Stores.{Cells, in_cells, store_of, stored}
use Rattle.r4_check_laws.proofs.Trees.{AreLinked}

pub own_sum : (b c : Bool) (n : ℕ) → (if b && c then n else 0) ≡ (if b then (if c then n else 0) else 0)
own_sum true c n = refl
own_sum false c n = refl

own_scaled : (b c : Bool) (n : ℕ) → (if b && c then 4096 * n else 0) ≡ 4096 * (if b then (if c then n else 0) else 0)
own_scaled true true n = refl
own_scaled true false n = omega arith
own_scaled false c n = omega arith

one_quarter : (a b : ℕ) → 4096 * a ≡ 4096 * b → a ≡ b
one_quarter a b e = omega (arith, e)

not_lt : (a b : ℕ) → b ≤ a → nat_lt a b ≡ false
not_lt a b le = grind (arith, nat_tests)

module _ (s : Super40) (blocks : ℕ) (cells : Cells) (root : Name) (linked : AreLinked cells root) (read : AreRead blocks cells)
    (one : HaveOne (all_units cells)) (apart : AreApart (all_units cells)) (ps : List Pair) (m : Mirrors (found_in cells) (all_units cells) ps)
    (files : HasFiles (store_of cells) (raw_of (all_units cells))) (objects : HasObjects (raw_of (all_units cells))) where
  each_tail : (h : Held) → Contains (found_in cells) h → 1 ≤ tail_long h.thing → IsPart (found_in cells) h (object_of h.key) (tail_long h.thing)
  each_tail h at some =
      let (n, is) = is_tail h.thing some in
      let long : tail_long h.thing ≡ n = ap tail_bytes is in
      subst (λ (k : ℕ). IsPart (found_in cells) h (object_of h.key) k) (sym long) (tail_part_of s blocks cells root linked read one apart ps m files objects h n at is)

  each_extent : (h : Held) → Contains (found_in cells) h → 1 ≤ extent_long h.thing → IsPart (found_in cells) h (object_of h.key) (extent_long h.thing)
  each_extent h at some =
      let (n, is) = is_extent h.thing (some_of (extent_blocks h.thing) some) in
      let long : extent_long h.thing ≡ 4096 * n = ap extent_long is in
      subst (λ (k : ℕ). IsPart (found_in cells) h (object_of h.key) k) (sym long) (extent_part_of s blocks cells root linked read one apart ps m files objects h n at is)

  module _ (o : Target) (a : Attr) (has : HasStat (raw_of (all_units cells)) o a) (w : IsOwner (found_in cells) o) where
    part_of_o : (h : Held) (long : ℕ) → IsPart (found_in cells) h (object_of h.key) long → id_of h ≡ o.oid.0 → IsPart (found_in cells) h o long
    part_of_o h long p id = subst (λ (x : Target). IsPart (found_in cells) h x long) (one_owner (found_in cells) (object_of h.key) o (is_owned (found_in cells) (object_of h.key) p.own) w (sym p.id ∙ id)) p

    key_in : (h : Held) (long y : ℕ) → IsPart (found_in cells) h o long → offset_of h.key ≤ y → y < offset_of h.key + long → LiesIn h long (byte_rank o y)
    key_in h long y p low high =
        let key : rank h.key ≡ byte_rank o (offset_of h.key) = body_rank_is h.key p.key p.minor ∙ ap (λ (x : Target). byte_rank x (offset_of h.key)) p.object in
        let b = byte_rank_up o (offset_of h.key) in
        let c = byte_rank_up o y in
        (omega (arith, key, b, c, low), omega (arith, key, b, c, high))

    part_at : (y : ℕ) (h : Held) (long : ℕ) → y < 2 ^ 64 → IsPart (found_in cells) h (object_of h.key) long → LiesIn h long (byte_rank o y) → IsPart (found_in cells) h o long
    part_at y h long small p lies =
        let (z, fits, low, high, at, minor, object) = part_key (found_in cells) h (object_of h.key) long (byte_rank o y) p lies in
        let same : object_of h.key ≡ o = sym object ∙ ap object_of (byte_back o y has.0 small) ∙ byte_object o y in
        subst (λ (x : Target). IsPart (found_in cells) h x long) same p

    -- a tail and an extent of the object have units
    tail_unit : (h : Held) (n y : ℕ) → Contains (found_in cells) h → h.thing ≡ Tail n → IsPart (found_in cells) h o n → offset_of h.key ≤ y → y < offset_of h.key + n → InTail (store_of cells) (byte_rank o y)
    tail_unit h n y at is p low high =
        let (x, (i, c, there, level, unit)) = tail_has blocks cells read h n (byte_rank o y) at is (key_in h n y p low high) in
        (i, c, Byte x, stored cells linked.once i c there, level, unit)

    extent_unit : (h : Held) (n y : ℕ) → Contains (found_in cells) h → h.thing ≡ Extent n → IsPart (found_in cells) h o (4096 * n) → offset_of h.key ≤ y → y < offset_of h.key + 4096 * n → InExtent (store_of cells) (byte_rank o y)
    extent_unit h n y at is p low high =
        let (x, (i, c, there, level, unit)) = extent_has blocks cells root linked read h n (byte_rank o y) at is (key_in h (4096 * n) y p low high) in
        (i, c, Byte x, stored cells linked.once i c there, level, unit)

    -- and the units at its keys are those of parts
    unit_tail : (y : ℕ) → y < 2 ^ 64 → InTail (store_of cells) (byte_rank o y) → (h : Held) × (n : ℕ) × Contains (found_in cells) h × (h.thing ≡ Tail n) × LiesIn h n (byte_rank o y)
    unit_tail y small (i, c, v, at, level, unit) =
        let there = in_cells cells i c at in
        let fits = files.keys (byte_rank o y) v (in_raw (all_units cells) one (byte_rank o y) v (in_all cells i c (byte_rank o y, v) there unit)) in
        by v (subst (λ (k : Key). KeyFits (raw_of (all_units cells)) k v) (byte_back o y has.0 small) fits) there level unit
      where
        by : (v : Value) → KeyFits (raw_of (all_units cells)) (record { el = (o.locality * 16 + 4) ∷ o.ordering ∷ o.oid.0 ∷ y ∷ [] }) v → Contains cells (i, c) → c.level ≡ 1 → Contains c.units (byte_rank o y, v)
            → (h : Held) × (n : ℕ) × Contains (found_in cells) h × (h.thing ≡ Tail n) × LiesIn h n (byte_rank o y)
        by (StatValue b) fits there level unit = let minor = fits.0 in absurd (omega (arith, minor))
        by (EntryValue n t) fits there level unit = absurd (omega (arith, fits))
        by (Byte x) fits there level unit = tail_of blocks cells read (byte_rank o y) x (i, c, there, level, unit)

    unit_extent : (y : ℕ) → InExtent (store_of cells) (byte_rank o y) → (h : Held) × (n : ℕ) × Contains (found_in cells) h × (h.thing ≡ Extent n) × LiesIn h (4096 * n) (byte_rank o y)
    unit_extent y (i, c, v, at, level, unit) = extent_of blocks cells root linked read (byte_rank o y) v (i, c, in_cells cells i c at, level, unit)

    -- what is under the object's id has nothing past the end
    abbrev pub NothingPast : Type 0
    NothingPast = (h : Held) → Contains (found_in cells) h → id_of h ≡ o.oid.0 → ends_past a.size (offset_of h.key) h.thing ≡ false

    pub past_none : w.facts.size ≡ a.size → NothingPast → past_at (found_in cells) o.oid.0 ≡ 0
    past_none size none = no_terms (λ (h : Held). if id_of h == o.oid.0 then once (is_past (found_in cells) h) else 0) (found_in cells) (λ h at. by h at (id_of h == o.oid.0) refl)
      where
        no_past : (h : Held) → Contains (found_in cells) h → id_of h ≡ o.oid.0 → is_past (found_in cells) h ≡ false
        no_past h at id =
            let facts : owner_facts (found_in cells) (id_of h) ≡ Some w.facts = ap (owner_facts (found_in cells)) id ∙ facts_by (found_in cells) o w in
            let ends : ends_past w.facts.size (offset_of h.key) h.thing ≡ false = ap (λ (n : ℕ). ends_past n (offset_of h.key) h.thing) size ∙ none h at id in
            and_false (is_own (found_in cells) h) _ (ap (λ r. option_map_or (λ x. nat_le x.size 1073741824 && ends_past x.size (offset_of h.key) h.thing) r false) facts ∙ and_false (nat_le w.facts.size 1073741824) (ends_past w.facts.size (offset_of h.key) h.thing) ends)

        zero_if : (b c : Bool) → c ≡ false → (if b then once c else 0) ≡ 0
        zero_if true true e = absurd (cc)
        zero_if true false e = refl
        zero_if false c e = refl

        other : (b : Bool) (n : ℕ) → b ≡ false → (if b then n else 0) ≡ 0
        other true n e = absurd (cc)
        other false n e = refl

        by : (h : Held) → Contains (found_in cells) h → (b : Bool) → (id_of h == o.oid.0) ≡ b → (if id_of h == o.oid.0 then once (is_past (found_in cells) h) else 0) ≡ 0
        by h at true e = zero_if (id_of h == o.oid.0) (is_past (found_in cells) h) (no_past h at (eqb-true (id_of h) o.oid.0 e))
        by h at false e = other (id_of h == o.oid.0) (once (is_past (found_in cells) h)) e

    -- a sum under the id is 0 where each term is
    none_under : (f : Held → ℕ) → ((h : Held) → Contains (found_in cells) h → id_of h ≡ o.oid.0 → f h ≡ 0) → sum_by (λ (h : Held). if id_of h == o.oid.0 then (if is_own (found_in cells) h then f h else 0) else 0) (found_in cells) ≡ 0
    none_under f none = no_terms (λ (h : Held). if id_of h == o.oid.0 then (if is_own (found_in cells) h then f h else 0) else 0) (found_in cells) (λ h at. by h at (id_of h == o.oid.0) refl)
      where
        inner : (b : Bool) (n : ℕ) → n ≡ 0 → (if b then n else 0) ≡ 0
        inner true n e = e
        inner false n e = refl

        outer : (b : Bool) (n : ℕ) → b ≡ false → (if b then n else 0) ≡ 0
        outer true n e = absurd (cc)
        outer false n e = refl

        by : (h : Held) → Contains (found_in cells) h → (b : Bool) → (id_of h == o.oid.0) ≡ b → (if id_of h == o.oid.0 then (if is_own (found_in cells) h then f h else 0) else 0) ≡ 0
        by h at true e = inner (id_of h == o.oid.0) _ (inner (is_own (found_in cells) h) (f h) (none h at (eqb-true (id_of h) o.oid.0 e)))
        by h at false e = outer (id_of h == o.oid.0) _ e

    module _ (small : a.size ≤ 1073741824) where
      -- ---- in tails

      module _ (t : HasTails (store_of cells) o a.size) where
        tail_ends : (h : Held) (n : ℕ) → Contains (found_in cells) h → h.thing ≡ Tail n → 1 ≤ n → IsPart (found_in cells) h o n → offset_of h.key + n ≤ a.size
        tail_ends h n at is some p =
            let fits = p.fits in
            let last = (t.offsets (offset_of h.key + (n - 1)) (omega (arith, fits, some))).0 (tail_unit h n (offset_of h.key + (n - 1)) at is p (omega arith) (omega (arith, some))) in
            omega (arith, last, some)

        no_extent : (h : Held) (n : ℕ) → Contains (found_in cells) h → h.thing ≡ Extent n → id_of h ≡ o.oid.0 → ⊥
        no_extent h n at is id =
            let some = some_blocks blocks cells read h n at is in
            let p = part_of_o h (4096 * n) (extent_part_of s blocks cells root linked read one apart ps m files objects h n at is) id in
            let fits = p.fits in
            t.no_extents (offset_of h.key) (omega (arith, fits, some)) (extent_unit h n (offset_of h.key) at is p (omega arith) (omega (arith, some)))

        tails_end : (h : Held) → Contains (found_in cells) h → 1 ≤ tail_long h.thing → IsPart (found_in cells) h o (tail_long h.thing) → offset_of h.key + tail_long h.thing ≤ a.size
        tails_end h at some p =
            let (n, is) = is_tail h.thing some in
            let long : tail_long h.thing ≡ n = ap tail_bytes is in
            let end = tail_ends h n at is (omega (arith, some, long)) (subst (λ (k : ℕ). IsPart (found_in cells) h o k) long p) in
            omega (arith, end, long)

        pub tails_past : NothingPast
        tails_past h at id = by h.thing refl
          where
            by : (x : Thing) → h.thing ≡ x → ends_past a.size (offset_of h.key) x ≡ false
            by (Stat f) e = refl
            by (Entry x) e = refl
            by (Tail n) e =
                let p = part_of_o h n (tail_part_of s blocks cells root linked read one apart ps m files objects h n at e) id in
                not_lt a.size (offset_of h.key + n) (tail_ends h n at e (some_tail blocks cells read h n at e) p)
            by (Extent n) e = absurd (no_extent h n at e id)

        pub tails_fit : (tails_at (found_in cells) o.oid.0 ≡ a.size) × (blocks_at (found_in cells) o.oid.0 ≡ 0)
        tails_fit =
            let all = filled (found_in cells) o w tail_long a.size each_tail tails_end (one_tail blocks cells root linked read) there in
            let same = sums_alike (λ h. if id_of h == o.oid.0 && is_own (found_in cells) h then tail_long h.thing else 0) (λ h. if id_of h == o.oid.0 then (if is_own (found_in cells) h then tail_bytes h.thing else 0) else 0) (found_in cells)
            (λ h at. own_sum (id_of h == o.oid.0) (is_own (found_in cells) h) (tail_bytes h.thing)) in
            (sym same ∙ all, none_under (λ h. extent_blocks h.thing) (λ h at id. no_blocks h at id h.thing refl))
          where
            no_blocks : (h : Held) → Contains (found_in cells) h → id_of h ≡ o.oid.0 → (x : Thing) → h.thing ≡ x → extent_blocks h.thing ≡ 0
            no_blocks h at id (Stat f) e = ap extent_blocks e
            no_blocks h at id (Entry x) e = ap extent_blocks e
            no_blocks h at id (Tail n) e = ap extent_blocks e
            no_blocks h at id (Extent n) e = absurd (no_extent h n at e id)

            there : (y : ℕ) → y < a.size → (h : Held) × Contains (found_in cells) h × IsPart (found_in cells) h o (tail_long h.thing) × LiesIn h (tail_long h.thing) (byte_rank o y)
            there y lt =
                let (h, n, at, is, lies) = unit_tail y (omega (arith, lt, small)) ((t.offsets y (omega (arith, lt, small))).1 lt) in
                let long : tail_long h.thing ≡ n = ap tail_bytes is in
                let p = part_at y h n (omega (arith, lt, small)) (tail_part_of s blocks cells root linked read one apart ps m files objects h n at is) lies in
                (h, at, subst (λ (k : ℕ). IsPart (found_in cells) h o k) (sym long) p, subst (λ (k : ℕ). LiesIn h k (byte_rank o y)) (sym long) lies)

      -- ---- in extents

      module _ (t : HasExtents (store_of cells) o a.size) where
        extent_ends : (h : Held) (n : ℕ) → Contains (found_in cells) h → h.thing ≡ Extent n → 1 ≤ n → IsPart (found_in cells) h o (4096 * n) → offset_of h.key + 4096 * n ≤ 4096 * blocks_for a.size
        extent_ends h n at is some p =
            let fits = p.fits in
            let last = (t.offsets (offset_of h.key + (4096 * n - 1)) (omega (arith, fits, some))).0 (extent_unit h n (offset_of h.key + (4096 * n - 1)) at is p (omega arith) (omega (arith, some))) in
            omega (arith, last, some)

        no_tail : (h : Held) (n : ℕ) → Contains (found_in cells) h → h.thing ≡ Tail n → id_of h ≡ o.oid.0 → ⊥
        no_tail h n at is id =
            let some = some_tail blocks cells read h n at is in
            let p = part_of_o h n (tail_part_of s blocks cells root linked read one apart ps m files objects h n at is) id in
            let fits = p.fits in
            t.no_tails (offset_of h.key) (omega (arith, fits, some)) (tail_unit h n (offset_of h.key) at is p (omega arith) (omega (arith, some)))

        extents_end : (h : Held) → Contains (found_in cells) h → 1 ≤ extent_long h.thing → IsPart (found_in cells) h o (extent_long h.thing) → offset_of h.key + extent_long h.thing ≤ 4096 * blocks_for a.size
        extents_end h at some p =
            let (n, is) = is_extent h.thing (some_of (extent_blocks h.thing) some) in
            let long : extent_long h.thing ≡ 4096 * n = ap extent_long is in
            let end = extent_ends h n at is (omega (arith, some, long)) (subst (λ (k : ℕ). IsPart (found_in cells) h o k) long p) in
            omega (arith, end, long)

        pub extents_past : NothingPast
        extents_past h at id = by h.thing refl
          where
            by : (x : Thing) → h.thing ≡ x → ends_past a.size (offset_of h.key) x ≡ false
            by (Stat f) e = refl
            by (Entry x) e = refl
            by (Tail n) e = absurd (no_tail h n at e id)
            by (Extent n) e =
                let p = part_of_o h (4096 * n) (extent_part_of s blocks cells root linked read one apart ps m files objects h n at e) id in
                not_lt (4096 * blocks_for a.size) (offset_of h.key + 4096 * n) (extent_ends h n at e (some_blocks blocks cells read h n at e) p)

        pub extents_fit : (tails_at (found_in cells) o.oid.0 ≡ 0) × (blocks_at (found_in cells) o.oid.0 ≡ blocks_for a.size)
        extents_fit =
            let all = filled (found_in cells) o w extent_long (4096 * blocks_for a.size) each_extent extents_end (one_extent blocks cells root linked read) there in
            let same = sums_alike (λ h. if id_of h == o.oid.0 && is_own (found_in cells) h then extent_long h.thing else 0) (λ h. 4096 * (if id_of h == o.oid.0 then (if is_own (found_in cells) h then extent_blocks h.thing else 0) else 0)) (found_in cells)
            (λ h at. own_scaled (id_of h == o.oid.0) (is_own (found_in cells) h) (extent_blocks h.thing)) in
            let scale = scaled 4096 (λ h. if id_of h == o.oid.0 then (if is_own (found_in cells) h then extent_blocks h.thing else 0) else 0) (found_in cells) in
            (none_under (λ h. tail_bytes h.thing) (λ h at id. no_bytes h at id h.thing refl), one_quarter _ (blocks_for a.size) (sym scale ∙ sym same ∙ all))
          where
            no_bytes : (h : Held) → Contains (found_in cells) h → id_of h ≡ o.oid.0 → (x : Thing) → h.thing ≡ x → tail_bytes h.thing ≡ 0
            no_bytes h at id (Stat f) e = ap tail_bytes e
            no_bytes h at id (Entry x) e = ap tail_bytes e
            no_bytes h at id (Tail n) e = absurd (no_tail h n at e id)
            no_bytes h at id (Extent n) e = ap tail_bytes e

            few_bytes : (size y : ℕ) → size ≤ 1073741824 → y < 4096 * ((size + 4095) / 4096) → y < 2 ^ 64
            few_bytes size y le lt = omega (arith, le, lt)

            there : (y : ℕ) → y < 4096 * blocks_for a.size → (h : Held) × Contains (found_in cells) h × IsPart (found_in cells) h o (extent_long h.thing) × LiesIn h (extent_long h.thing) (byte_rank o y)
            there y lt =
                let below : y < 2 ^ 64 = few_bytes a.size y small lt in
                let (h, n, at, is, lies) = unit_extent y ((t.offsets y below).1 lt) in
                let long : extent_long h.thing ≡ 4096 * n = ap extent_long is in
                let p = part_at y h (4096 * n) below (extent_part_of s blocks cells root linked read one apart ps m files objects h n at is) lies in
                (h, at, subst (λ (k : ℕ). IsPart (found_in cells) h o k) (sym long) p, subst (λ (k : ℕ). LiesIn h k (byte_rank o y)) (sym long) lies)
