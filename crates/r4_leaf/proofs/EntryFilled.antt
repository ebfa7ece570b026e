-- A leaf that takes an entry.
use Rattle.std.proofs.Common.{◌≡◌, ◌⊎◌, ℕ, ◌+◌, ◌-◌, ◌/◌, ◌^◌, ◌<◌, ◌≤◌, Bool, true, false, List, [], ◌∷◌, ◌++◌, length, map, take, inl, inr, refl, sym, ap, subst, ◌∙◌, arith}
use Rattle.std.specs.Prelude.{slice_get, slice_index, Option, Some, None, ◌==◌, if◌then◌else◌}
use Rattle.std.proofs.lemmas.Bool.Decides.{nat_tests}
use Rattle.std.proofs.lemmas.Bool.{cases_lt, eqb-true}
use Rattle.std.proofs.lemmas.List.{length-append}
use Rattle.std.proofs.lemmas.Option.{same_Some}
use Rattle.r4_base.specs.Cell.{entry_unit, item_body_fault, item_units, units_in}
use Rattle.r4_base.specs.Dir.{Entry as DirEntry, entries_from, entries_of, entry_at, entry_count, entry_key_at}
use Rattle.r4_base.specs.Key.{IsKey, rank}
use Rattle.r4_base.specs.Node.{Item, count_of, items_of}
use Rattle.r4_base.specs.declared.key.Key.{Key}
use Rattle.r4_base.proofs.Dirs.{entry_key_fits, get-entries_of, length-entries_of}
use Rattle.r4_base.proofs.EntryLists.{entry_of}
use Rattle.r4_node40.specs.Edits.{GoesBetween}
use Rattle.r4_node40.specs.Laid.{room_of}
use Rattle.r4_node40.proofs.Laid.{length-items_of}
use Rattle.r4_leaf.specs.Filling.{HasEntry, Holds, IsFilled, IsFullFor, IsPlaceFor, Puts, TakesEntry, continues_item, entry_need, last_of, need}
use Rattle.r4_leaf.specs.Items.{IsSoundItem, Lie}
use Rattle.r4_leaf.specs.Units.{LeafUnit, bytes_behind, continues_entries, unit_bytes}
use Rattle.r4_leaf.proofs.EntryPieces.{some_entries}
use Rattle.r4_leaf.proofs.EntryWritten.{no_count}
use Rattle.r4_leaf.proofs.Filled.{Grows, filled_more, goes_last, last_item, lie_last, no_tip, tip}
use Rattle.r4_leaf.proofs.Lying.{lie_sound}
use Rattle.r4_leaf.proofs.Opened.{nothing, split_last}
use Rattle.r4_leaf.proofs.SoundItems.{entries_item, stat_item, tail_item}
use Rattle.r4_leaf.proofs.TailFilled.{both_tests, need_is}
use Rattle.r4_leaf.proofs.Weighed.{behind_one, first_number, last_byte, last_entry}
use Rattle.r4_leaf.specs.Measure.{last_or}

-- ---- whether an entry continues the last unit

own_number : (it : Item) (e : DirEntry) (k : ℕ) → IsKey it.key → slice_get (entries_of it.key it.body) k ≡ Some e → rank e.key / 2 ^ 192 ≡ slice_index it.key.el 0
unfolding entry_at entry_key_at
own_number it e k is at =
    let same = ap (λ (x : DirEntry). x.key) (entry_of it.key it.body k e at).is in
    ap (λ (x : Key). rank x / 2 ^ 192) same ∙ first_number (entry_key_at it.key it.body k) (entry_key_fits it.key it.body k is)

entries_of_item : (it : Item) (key : Key) (before : Option LeafUnit) → IsKey key → IsSoundItem it → continues_entries (last_or before (item_units it)) (rank key) ≡ continues_item it key 2
entries_of_item it key before is_key s = by_plugin s.plugin
  where
    by_plugin : (it.plugin ≡ 0) ⊎ ((it.plugin ≡ 2) ⊎ (it.plugin ≡ 6)) → continues_entries (last_or before (item_units it)) (rank key) ≡ continues_item it key 2
    by_plugin (inl is) =
        let test : (it.plugin == 2) ≡ false = ap (λ (x : ℕ). x == 2) is in
        ap (λ us. continues_entries (last_or before us) (rank key)) (stat_item it is s).units ∙ rw test refl
    by_plugin (inr (inl is)) =
        let test : (it.plugin == 2) ≡ true = ap (λ (x : ℕ). x == 2) is in
        let e = entries_item it is s in
        let l = last_entry before (entries_of it.key it.body) (some_entries it is s) in
        ap (λ us. continues_entries (last_or before us) (rank key)) e.units ∙ (ap (λ u. continues_entries u (rank key)) l.2
        ∙ ((λ j. own_number it l.0 (length (entries_of it.key it.body) - 1) s.key l.1 j == first_number key is_key j) ∙ rw test refl))
    by_plugin (inr (inr is)) =
        let test : (it.plugin == 2) ≡ false = ap (λ (x : ℕ). x == 2) is in
        let t = tail_item it is s in
        let l = last_byte before (rank it.key) it.body t.some in
        ap (λ us. continues_entries (last_or before us) (rank key)) t.units ∙ (ap (λ u. continues_entries u (rank key)) l.3 ∙ rw test refl)

module _ (lo mid : ℕ) (us : List LeafUnit) (b : List ℕ) (key : Key) (i used : ℕ) (is_key : IsKey key) (f : IsFilled lo mid us b) (p : IsPlaceFor b key 2 i used) where
  pub entries_new : used ≡ 0 → continues_entries (last_of us) (rank key) ≡ false
  entries_new none = elim (cases_lt 0 (count_of b)) [
    | inl some ↦ new_some (omega (arith, some))
    | inr past ↦ ap (λ u. continues_entries u (rank key)) (no_tip lo mid us b f (omega (arith, past)))
  ]
    where
      new_some : 1 ≤ count_of b → continues_entries (last_of us) (rank key) ≡ false
      new_some some =
          let it = last_item b some in
          let t = tip lo mid us b it.0 f some it.1 in
          ap (λ u. continues_entries u (rank key)) t.1 ∙ (entries_of_item it.0 key (last_or None (units_in t.0)) is_key (lie_sound lo mid (items_of b) _ it.0 f.lie it.1) ∙ (p.new none).1 it.0 it.1)

  pub entries_old : 1 ≤ used → continues_entries (last_of us) (rank key) ≡ true
  entries_old some =
      let o = p.old some in
      let next = o.1 in
      let at : slice_get (items_of b) (count_of b - 1) ≡ Some o.0 = subst (λ k. slice_get (items_of b) k ≡ Some o.0) (omega (arith, next)) o.2 in
      let t = tip lo mid us b o.0 f (omega (arith, next)) at in
      ap (λ u. continues_entries u (rank key)) t.1 ∙ (entries_of_item o.0 key (last_or None (units_in t.0)) is_key (lie_sound lo mid (items_of b) _ o.0 f.lie at) ∙ o.4)

old_zero : (used : ℕ) → 0 < used → (let h : ℕ = if used == 0 then 38 else 0 in h) ≡ 0
old_zero used more = grind (arith, nat_tests, more)

new_zero : (used : ℕ) → used ≤ 0 → (let h : ℕ = if used == 0 then 38 else 0 in h) ≡ 38
new_zero used past = grind (arith, nat_tests, past)

old_two : (used : ℕ) → 0 < used → (let h : ℕ = if used == 0 then 2 else 0 in h) ≡ 0
old_two used more = grind (arith, nat_tests, more)

new_two : (used : ℕ) → used ≤ 0 → (let h : ℕ = if used == 0 then 2 else 0 in h) ≡ 2
new_two used past = grind (arith, nat_tests, past)

-- ---- the item that takes it

own_key : (it : Item) (x : DirEntry) (k : ℕ) → slice_get (entries_of it.key it.body) k ≡ Some x → x.key ≡ entry_key_at it.key it.body k
unfolding entry_at
own_key it x k is = ap (λ (y : DirEntry). y.key) (entry_of it.key it.body k x is).is

no_entries : (key : Key) → entries_of key [] ≡ []
unfolding entries_of entries_from
no_entries key = ap (λ n. entries_from key n 0 []) no_count

module _ (lo mid : ℕ) (us : List LeafUnit) (b : List ℕ) (e : DirEntry) (i used at : ℕ) (is_key : IsKey e.key) (f : IsFilled lo mid us b) (low : mid ≤ rank e.key) (p : IsPlaceFor b e.key 2 i used)
    (none : used ≡ 0 → at ≡ 0) (count : 1 ≤ used → (it : Item) → slice_get (items_of b) i ≡ Some it → at ≡ entry_count it.body) where
  takes_first : used ≡ 0 → TakesEntry b i used at (record { key = e.key; plugin = 2; body = [] }) e
  takes_first zero_used = record {
    place = record {
      node = f.node;
      level = f.level;
      plugin = inr (inl refl);
      new = λ x. ((p.new zero_used).0, subst (λ k. GoesBetween (items_of b) k e.key) (sym (p.new zero_used).0) (goes_last lo mid us b e.key f low));
      old = λ some. absurd (omega (arith, some));
    };
    plugin = refl;
    receives = record {
      long = sym zero_used;
      new = λ x. refl;
      key = is_key;
      same = refl;
      good = λ some. absurd (omega (arith, some, zero_used));
      count = none zero_used ∙ sym (ap length (no_entries e.key));
      above = λ k x next is. let a = none zero_used in absurd (omega (arith, next, a));
    };
  }

  takes_next : (some : 1 ≤ used) → TakesEntry b i used at (p.old some).0 e
  takes_next some =
      let o = p.old some in
      let t = both_tests (o.0.plugin == 2) (slice_index o.0.key.el 0 == slice_index e.key.el 0) o.4 in
      let plugin = eqb-true _ _ t.0 in
      let long = o.3 in
      let sound = lie_sound lo mid (items_of b) i o.0 f.lie o.2 in
      let own = entries_item o.0 plugin sound in
      let n = length-entries_of o.0.key o.0.body in
      let last = split_last i (items_of b) o.0 (o.1 ∙ sym (length-items_of b)) o.2 in
      let ends = (lie_last lo mid (take i (items_of b)) o.0 (subst (λ xs. Lie lo mid xs) last f.lie)).2 in
      let end = own.end in
      record {
        place = record {
          node = f.node;
          level = f.level;
          plugin = inr (inl plugin);
          new = λ x. absurd (omega (arith, x, long, some));
          old = λ x. (o.1, o.2);
        };
        plugin = plugin;
        receives = record {
          long = o.3;
          new = λ x. absurd (omega (arith, x, some));
          key = sound.key;
          same = eqb-true _ _ t.1;
          good = λ x. own.body;
          count = count some o.0 o.2 ∙ sym n;
          above = λ k x next is.
              let same : x.key ≡ entry_key_at o.0.key o.0.body k = own_key o.0 x k is in
              let r = ap rank same in
              let a = count some o.0 o.2 in
              let at_last : rank (entry_key_at o.0.key o.0.body k) ≡ rank (entry_key_at o.0.key o.0.body (entry_count o.0.body - 1)) = ap (λ (m : ℕ). rank (entry_key_at o.0.key o.0.body m)) (omega (arith, next, a)) in
              omega (arith, r, at_last, end, ends, low);
        };
      }

  pub takes_entry : (it : Item) × TakesEntry b i used at it e
  takes_entry = elim (cases_lt 0 used) [
    | inl some ↦ ((p.old some).0, takes_next some)
    | inr past ↦ (record { key = e.key; plugin = 2; body = [] }, takes_first (omega (arith, past)))
  ]

  module _ (it : Item) (t : TakesEntry b i used at it e) (ws : List ℕ) (h : HasEntry it e ws) where
    dir_sound : IsSoundItem (record { key = it.key; plugin = it.plugin; body = ws })
    unfolding item_body_fault
    dir_sound =
        let a : (it.plugin == 0) ≡ false = ap (λ (x : ℕ). x == 0) t.plugin in
        let d : (it.plugin == 2) ≡ true = ap (λ (x : ℕ). x == 2) t.plugin in
        let q : (it.plugin == 3) ≡ false = ap (λ (x : ℕ). x == 3) t.plugin in
        let good = h.good in
        record { plugin = inr (inl t.plugin); body = rw (a, d, good) refl; fits = rw (a, d, q) refl; key = t.receives.key }

    last_is_e : rank (entry_key_at it.key ws (entry_count ws - 1)) ≡ rank e.key
    unfolding entry_at
    last_is_e =
        let n = length-entries_of it.key ws in
        let long = ap length h.entries in
        let both = length-append (entries_of it.key it.body) (e ∷ []) in
        let there = get-entries_of it.key ws (entry_count ws - 1) (omega (arith, n, long, both)) in
        let place : entry_count ws - 1 ≡ length (entries_of it.key it.body) = omega (arith, n, long, both) in
        let end : slice_get (entries_of it.key ws) (entry_count ws - 1) ≡ Some e = (λ j. slice_get (h.entries j) (place j)) ∙ at_end (entries_of it.key it.body) in
        ap (λ (x : DirEntry). rank x.key) (same_Some _ _ (sym there ∙ end))
      where
        at_end : (es : List DirEntry) → slice_get (es ++ e ∷ []) (length es) ≡ Some e
        at_end [] = refl
        at_end (x ∷ es) = at_end es

    map_append : (es fs : List DirEntry) → map entry_unit (es ++ fs) ≡ map entry_unit es ++ map entry_unit fs
    map_append [] fs = refl
    map_append (x ∷ es) fs = ap (λ us. entry_unit x ∷ us) (map_append es fs)

    entry_cost : bytes_behind (last_of us) (entry_unit e ∷ []) + length it.body ≡ need it (length ws)
    unfolding unit_bytes
    entry_cost =
        let long = t.receives.long in
        let size = h.long in
        let same = ap (λ n. entry_need n e) long in
        let one = behind_one (last_of us) (entry_unit e) in
        let n = need_is it used (length ws) long in
        elim (cases_lt 0 used) [
          | inl more ↦
              let go = ap {B = ℕ} (λ (x : Bool). if x then 0 else 40) (entries_old lo mid us b e.key i used is_key f p more) in
              let z = old_zero used more in
              let w = old_two used more in
              omega (arith, long, size, same, one, n, go, z, w)
          | inr past ↦
              let go = ap {B = ℕ} (λ (x : Bool). if x then 0 else 40) (entries_new lo mid us b e.key i used is_key f p (omega (arith, past))) in
              let z = new_zero used past in
              let w = new_two used past in
              omega (arith, long, size, same, one, n, go, z, w)
        ]

    pub entry_grows : Grows us (rank e.key) (rank e.key + 1) (entry_unit e ∷ []) it ws
    unfolding unit_bytes
    entry_grows =
        let own = entries_item (record { key = it.key; plugin = it.plugin; body = ws }) t.plugin dir_sound in
        let end = own.end in
        let last = last_is_e in
        let long = t.receives.long in
        let units = own.units ∙ (ap (map entry_unit) h.entries ∙ map_append (entries_of it.key it.body) (e ∷ [])) in
        let size = h.long in
        let same = ap (λ n. entry_need n e) long in
        record {
          sound = dir_sound;
          end = omega (arith, end, last);
          start = λ x. let k = ap rank (t.receives.new (omega (arith, x, long))) in omega (arith, k);
          new = λ x. units ∙ ap (λ es. map entry_unit es ++ entry_unit e ∷ []) (ap (entries_of it.key) (nothing it.body x) ∙ no_entries it.key);
          old = λ x. units ∙ ap (λ vs. vs ++ entry_unit e ∷ []) (sym (entries_item it t.plugin (sound_old (omega (arith, x, long)))).units);
          cost = entry_cost;
        }
      where
        sound_old : 1 ≤ used → IsSoundItem it
        sound_old some = let at_old = (t.place.old (let l = t.receives.long in omega (arith, l, some))).1 in lie_sound lo mid (items_of b) i it f.lie at_old

-- ---- what was put, and what there is no room for

module _ (b : List ℕ) (e : DirEntry) (i used : ℕ) (is_key : IsKey e.key) (p : IsPlaceFor b e.key 2 i used) where
  pub entry_puts : (c : List ℕ) (at : ℕ) → (used ≡ 0 → at ≡ 0) → (1 ≤ used → (it : Item) → slice_get (items_of b) i ≡ Some it → at ≡ entry_count it.body) → entry_need used e + (if used == 0 then 38 else 0) ≤ room_of b
      → ((it : Item) → TakesEntry b i used at it e → need it (entry_need used e) ≤ room_of b → (ws : List ℕ) × HasEntry it e ws × Holds b i it ws c) → Puts (rank e.key) (rank e.key + 1) (entry_unit e ∷ []) b c
  entry_puts c at none count room holds = record {
    filled = λ lo mid us f le.
        let t = takes_entry lo mid us b e i used at is_key f le p none count in
        let n = need_is t.0 used (entry_need used e) t.1.receives.long in
        let h = holds t.0 t.1 (omega (arith, n, room)) in
        filled_more lo mid us b i t.0 h.0 c (entry_unit e ∷ []) (rank e.key) (rank e.key + 1) f t.1.place h.2 le (entry_grows lo mid us b e i used at is_key f le p none count t.0 t.1 h.0 h.1);
    mkfs_id = λ lo mid us f le.
        let t = takes_entry lo mid us b e i used at is_key f le p none count in
        let n = need_is t.0 used (entry_need used e) t.1.receives.long in
        (holds t.0 t.1 (omega (arith, n, room))).2.mkfs_id;
  }

  pub full_for_entry : room_of b < entry_need used e + (if used == 0 then 38 else 0) → IsFullFor (entry_unit e) b
  unfolding unit_bytes
  full_for_entry low = record {
    full = λ lo mid us f. elim (cases_lt 0 used) [
      | inl more ↦
          let r = f.room in
          let go = ap {B = ℕ} (λ (x : Bool). if x then 0 else 40) (entries_old lo mid us b e.key i used is_key f p more) in
          let z = old_zero used more in
          let w = old_two used more in
          omega (arith, r, go, z, w, low)
      | inr past ↦
          let r = f.room in
          let go = ap {B = ℕ} (λ (x : Bool). if x then 0 else 40) (entries_new lo mid us b e.key i used is_key f p (omega (arith, past))) in
          let z = new_zero used past in
          let w = new_two used past in
          omega (arith, r, go, z, w, low)
    ];
  }
