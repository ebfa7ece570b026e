-- A leaf that takes bytes of a tail, or stat data.
use Rattle.std.proofs.Common.{◌≡◌, ◌⊎◌, ℕ, ◌+◌, ◌-◌, ◌*◌, ◌^◌, ◌<◌, ◌≤◌, Bool, true, false, List, [], ◌∷◌, ◌++◌, length, inl, inr, refl, sym, ap, subst, ◌∙◌, arith}
use Rattle.std.specs.Prelude.{slice_get, Option, Some, None, ◌==◌, nat_le, if◌then◌else◌}
use Rattle.std.proofs.lemmas.Bool.Decides.{nat_tests}
use Rattle.std.proofs.lemmas.Bool.{cases_lt, eqb-true, le-leb}
use Rattle.std.proofs.lemmas.List.{append-nil, length-append}
use Rattle.r4_base.specs.Cell.{bytes_from, fault_in, item_body_fault, item_units, units_in}
use Rattle.r4_base.specs.Dir.{entries_of}
use Rattle.r4_base.specs.Key.{IsKey, offset_of, rank}
use Rattle.r4_base.specs.Node.{Item, count_of, items_of}
use Rattle.r4_base.specs.Stat.{attr_of, stat_of}
use Rattle.r4_base.specs.Value.{Stat, Byte}
use Rattle.r4_base.specs.declared.key.Key.{Key}
use Rattle.r4_node40.specs.Laid.{room_of}
use Rattle.r4_leaf.specs.Filling.{Holds, IsFilled, IsPlace, IsFullFor, IsPlaceFor, Puts, continues_item, last_of, need}
use Rattle.r4_leaf.specs.Items.{IsSoundItem}
use Rattle.r4_leaf.specs.Units.{LeafUnit, continues_tail, leaf_bytes, unit_bytes}
use Rattle.r4_node40.specs.Edits.{GoesBetween}
use Rattle.r4_leaf.proofs.CutPieces.{rank_is, upper}
use Rattle.r4_leaf.proofs.EntryPieces.{some_entries}
use Rattle.r4_leaf.proofs.Filled.{Grows, filled_more, goes_last, last_item, lie_wider, no_tip, tip}
use Rattle.r4_leaf.proofs.Lying.{lie_sound}
use Rattle.r4_leaf.proofs.Opened.{need_new, need_old}
use Rattle.r4_leaf.proofs.Rising.{bytes_append}
use Rattle.r4_leaf.proofs.SoundItems.{entries_item, stat_item, stat_long, tail_item}
use Rattle.r4_leaf.proofs.Weighed.{byte_cost, last_byte, last_entry, run_cost, behind_one}
use Rattle.r4_leaf.specs.Measure.{last_or}

-- ---- items that are sound

pub tail_sound : (key : Key) (plugin : ℕ) (body : List ℕ) → plugin ≡ 6 → IsKey key → 1 ≤ length body → offset_of key + length body ≤ 16384 → IsSoundItem (record { key = key; plugin = plugin; body = body })
unfolding item_body_fault
tail_sound key plugin body is is_key some short =
    let a : (plugin == 0) ≡ false = ap (λ (x : ℕ). x == 0) is in
    let b : (plugin == 2) ≡ false = ap (λ (x : ℕ). x == 2) is in
    let d : (plugin == 3) ≡ false = ap (λ (x : ℕ). x == 3) is in
    let e : (plugin == 5) ≡ false = ap (λ (x : ℕ). x == 5) is in
    let one : nat_le 1 (length body) ≡ true = le-leb _ _ some in
    let two : nat_le (offset_of key + length body) 16384 ≡ true = le-leb _ _ short in
    let far : nat_le (offset_of key + length body) (2 ^ 64) ≡ true = le-leb _ _ (omega (arith, short)) in
    record { plugin = inr (inr is); body = rw (a, b, d, e, one, two) refl; fits = rw (a, d, b, e) far; key = is_key }

pub stat_sound : (key : Key) (plugin : ℕ) (body : List ℕ) → plugin ≡ 0 → IsKey key → fault_in (stat_of body) ≡ None → IsSoundItem (record { key = key; plugin = plugin; body = body })
unfolding item_body_fault
stat_sound key plugin body is is_key good =
    let a : (plugin == 0) ≡ true = ap (λ (x : ℕ). x == 0) is in
    record { plugin = inl is; body = rw (a, good) refl; fits = rw a refl; key = is_key }

-- ---- whether a byte continues the last unit

same_test : (a b : Bool) → (a ≡ true → b ≡ true) → (b ≡ true → a ≡ true) → a ≡ b
same_test true b f g = sym (f refl)
same_test false true f g = g refl
same_test false false f g = refl

tail_of_item : (it : Item) (key : Key) (before : Option LeafUnit) → IsSoundItem it → continues_tail (last_or before (item_units it)) (rank key) ≡ continues_item it key 6
tail_of_item it key before s = by_plugin s.plugin
  where
    by_plugin : (it.plugin ≡ 0) ⊎ ((it.plugin ≡ 2) ⊎ (it.plugin ≡ 6)) → continues_tail (last_or before (item_units it)) (rank key) ≡ continues_item it key 6
    by_plugin (inl is) =
        let test : (it.plugin == 6) ≡ false = ap (λ (x : ℕ). x == 6) is in
        ap (λ us. continues_tail (last_or before us) (rank key)) (stat_item it is s).units ∙ rw test refl
    by_plugin (inr (inl is)) =
        let test : (it.plugin == 6) ≡ false = ap (λ (x : ℕ). x == 6) is in
        let e = entries_item it is s in
        let last = some_entries it is s in
        let l = last_entry before (entries_of it.key it.body) last in
        ap (λ us. continues_tail (last_or before us) (rank key)) e.units ∙ (ap (λ u. continues_tail u (rank key)) l.2 ∙ rw test refl)
    by_plugin (inr (inr is)) =
        let test : (it.plugin == 6) ≡ true = ap (λ (x : ℕ). x == 6) is in
        let t = tail_item it is s in
        let l = last_byte before (rank it.key) it.body t.some in
        ap (λ us. continues_tail (last_or before us) (rank key)) t.units ∙ (ap (λ u. continues_tail u (rank key)) l.3 ∙ (ap (λ j. j == rank key) l.2 ∙ rw test refl))

module _ (lo mid : ℕ) (us : List LeafUnit) (b : List ℕ) (key : Key) (i used : ℕ) (f : IsFilled lo mid us b) (p : IsPlaceFor b key 6 i used) where
  pub tail_new : used ≡ 0 → continues_tail (last_of us) (rank key) ≡ false
  tail_new none = elim (cases_lt 0 (count_of b)) [
    | inl some ↦ new_some (omega (arith, some))
    | inr past ↦ ap (λ u. continues_tail u (rank key)) (no_tip lo mid us b f (omega (arith, past)))
  ]
    where
      new_some : 1 ≤ count_of b → continues_tail (last_of us) (rank key) ≡ false
      new_some some =
          let it = last_item b some in
          let t = tip lo mid us b it.0 f some it.1 in
          ap (λ u. continues_tail u (rank key)) t.1 ∙ (tail_of_item it.0 key (last_or None (units_in t.0)) (lie_sound lo mid (items_of b) _ it.0 f.lie it.1) ∙ (p.new none).1 it.0 it.1)

  pub tail_old : 1 ≤ used → continues_tail (last_of us) (rank key) ≡ true
  tail_old some =
      let o = p.old some in
      let next = o.1 in
      let at : slice_get (items_of b) (count_of b - 1) ≡ Some o.0 = subst (λ k. slice_get (items_of b) k ≡ Some o.0) (omega (arith, next)) o.2 in
      let t = tip lo mid us b o.0 f (omega (arith, next)) at in
      ap (λ u. continues_tail u (rank key)) t.1 ∙ (tail_of_item o.0 key (last_or None (units_in t.0)) (lie_sound lo mid (items_of b) _ o.0 f.lie at) ∙ o.4)

-- ---- the place of a run of bytes, and what becomes of the item there

pub both_tests : (a c : Bool) → (if a then c else false) ≡ true → (a ≡ true) × (c ≡ true)
both_tests true c h = (refl, h)
both_tests false c h = absurd cc

same_offset : (x y k e n : ℕ) → x * 2 ^ 64 + k + n ≡ y * 2 ^ 64 + e → k + n ≤ 16384 → e < 2 ^ 64 → e ≡ k + n
same_offset x y k e n same short small = omega arith

nothing_of : (xs : List ℕ) → length xs ≡ 0 → xs ≡ []
nothing_of [] e = refl
nothing_of (x ∷ xs) e = absurd (omega (arith, e))

-- The item that takes a run of bytes, at the place of its key.
pub record TakesBytes (b : List ℕ) (key : Key) (i used : ℕ) (it : Item) : Type 0 where
  pub place : IsPlace b i it
  pub long : length it.body ≡ used
  pub plugin : it.plugin ≡ 6
  pub new : used ≡ 0 → it.key ≡ key
  pub next : 1 ≤ used → rank it.key + used ≡ rank key
  pub sound : 1 ≤ used → IsSoundItem it

module _ (lo mid : ℕ) (us : List LeafUnit) (b : List ℕ) (key : Key) (i used : ℕ) (f : IsFilled lo mid us b) (low : mid ≤ rank key) (p : IsPlaceFor b key 6 i used) where
  takes_new : used ≡ 0 → TakesBytes b key i used (record { key = key; plugin = 6; body = [] })
  takes_new none = record {
    place = record {
      node = f.node;
      level = f.level;
      plugin = inr (inr refl);
      new = λ e. ((p.new none).0, subst (λ k. GoesBetween (items_of b) k key) (sym (p.new none).0) (goes_last lo mid us b key f low));
      old = λ some. absurd (omega (arith, some));
    };
    long = sym none;
    plugin = refl;
    new = λ e. refl;
    next = λ some. absurd (omega (arith, some, none));
    sound = λ some. absurd (omega (arith, some, none));
  }

  takes_old : (some : 1 ≤ used) → TakesBytes b key i used (p.old some).0
  takes_old some =
      let o = p.old some in
      let t = both_tests (o.0.plugin == 6) (rank o.0.key + length o.0.body == rank key) o.4 in
      let next : rank o.0.key + length o.0.body ≡ rank key = eqb-true _ _ t.1 in
      let long = o.3 in
      record {
        place = record {
          node = f.node;
          level = f.level;
          plugin = inr (inr (eqb-true _ _ t.0));
          new = λ none. absurd (omega (arith, none, long, some));
          old = λ e. (o.1, o.2);
        };
        long = o.3;
        plugin = eqb-true _ _ t.0;
        new = λ none. absurd (omega (arith, none, some));
        next = λ e. omega (arith, next, long);
        sound = λ e. lie_sound lo mid (items_of b) i o.0 f.lie o.2;
      }

  pub takes_bytes : (it : Item) × TakesBytes b key i used it
  takes_bytes = elim (cases_lt 0 used) [
    | inl some ↦ ((p.old some).0, takes_old some)
    | inr past ↦ (record { key = key; plugin = 6; body = [] }, takes_new (omega (arith, past)))
  ]

  module _ (it : Item) (t : TakesBytes b key i used it) (is_key : IsKey key) (bytes : List ℕ) (some : 1 ≤ length bytes) (short : offset_of key + length bytes ≤ 16384) where
    key_fits : IsKey it.key
    key_fits = elim (cases_lt 0 used) [
      | inl more ↦ (t.sound more).key
      | inr past ↦ subst IsKey (sym (t.new (omega (arith, past)))) is_key
    ]

    same_rank : rank it.key + used ≡ rank key
    same_rank = elim (cases_lt 0 used) [
      | inl more ↦ t.next more
      | inr past ↦ let e = ap rank (t.new (omega (arith, past))) in omega (arith, e, past)
    ]

    offset_next : offset_of it.key + used ≡ offset_of key
    offset_next = elim (cases_lt 0 used) [
      | inl more ↦
          let own = (tail_item it t.plugin (t.sound more)).short in
          let long = t.long in
          let next = same_rank in
          let a = rank_is it.key in
          let c = rank_is key in
          let small = is_key.small 3 in
          sym (same_offset (upper it.key) (upper key) (offset_of it.key) (offset_of key) used (omega (arith, a, c, next)) (omega (arith, own, long)) small)
      | inr past ↦ let e = ap offset_of (t.new (omega (arith, past))) in omega (arith, e, past)
    ]

    pub tail_grows : Grows us (rank key) (rank key + length bytes) (bytes_from (rank key) bytes) it (it.body ++ bytes)
    tail_grows =
        let both = length-append it.body bytes in
        let long = t.long in
        let off = offset_next in
        let next = same_rank in
        let sound = tail_sound it.key it.plugin (it.body ++ bytes) t.plugin key_fits (omega (arith, both, some)) (omega (arith, both, long, off, short)) in
        let own = tail_item (record { key = it.key; plugin = it.plugin; body = it.body ++ bytes }) t.plugin sound in
        let end = own.end in
        record {
          sound = sound;
          end = omega (arith, end, both, long, next);
          start = λ none. omega (arith, next, none, long);
          new = λ none. own.units ∙ ((λ j. bytes_from (rank it.key) (nothing_of it.body none j ++ bytes)) ∙ ap (λ k. bytes_from k bytes) (let e : rank it.key ≡ rank key = omega (arith, next, none, long) in e));
          old = λ more. own.units ∙ (bytes_append (rank it.key) it.body bytes ∙ (λ j. sym (tail_item it t.plugin (t.sound (omega (arith, more, long)))).units j ++ bytes_from (let e : rank it.key + length it.body ≡ rank key = omega (arith, next, long) in e j) bytes));
          cost = elim (cases_lt 0 used) [
            | inl more ↦
                let c = run_cost (last_of us) (rank key) bytes some in
                let n = need_old it (length (it.body ++ bytes)) (omega (arith, long, more)) in
                let go = ap {B = ℕ} (λ (x : Bool). if x then 0 else 38) (tail_old lo mid us b key i used f p more) in
                omega (arith, c, n, go, both)
            | inr past ↦
                let c = run_cost (last_of us) (rank key) bytes some in
                let n = need_new it (length (it.body ++ bytes)) (omega (arith, long, past)) in
                let go = ap {B = ℕ} (λ (x : Bool). if x then 0 else 38) (tail_new lo mid us b key i used f p (omega (arith, past))) in
                omega (arith, c, n, go, both, long, past)
          ];
        }

-- ---- stat data

module _ (lo mid : ℕ) (us : List LeafUnit) (b : List ℕ) (key : Key) (i used : ℕ) (f : IsFilled lo mid us b) (low : mid ≤ rank key) (p : IsPlaceFor b key 0 i used) where
  never : (it : Item) → continues_item it key 0 ≡ true → ⊥
  never it h = let t = both_tests (it.plugin == 0) false h in let wrong = t.1 in absurd cc

  pub stat_alone : used ≡ 0
  stat_alone = elim (cases_lt 0 used) [
    | inl some ↦ absurd (never (p.old some).0 (p.old some).4)
    | inr past ↦ omega (arith, past)
  ]

  pub stat_place : IsPlace b i (record { key = key; plugin = 0; body = [] })
  stat_place = record {
    node = f.node;
    level = f.level;
    plugin = inl refl;
    new = λ e. ((p.new stat_alone).0, subst (λ k. GoesBetween (items_of b) k key) (sym (p.new stat_alone).0) (goes_last lo mid us b key f low));
    old = λ some. absurd (omega (arith, some));
  }

  pub stat_grows : IsKey key → (body : List ℕ) → fault_in (stat_of body) ≡ None → Grows us (rank key) (rank key + 1) ((rank key, Stat (attr_of body)) ∷ []) (record { key = key; plugin = 0; body = [] }) body
  unfolding unit_bytes
  stat_grows is_key body good =
      let sound = stat_sound key 0 body refl is_key good in
      let own = stat_item (record { key = key; plugin = 0; body = body }) refl sound in
      let long = stat_long body good in
      let end = own.end in
      let one = behind_one (last_of us) (rank key, Stat (attr_of body)) in
      let n = need_new (record { key = key; plugin = 0; body = [] }) (length body) refl in
      record {
        sound = sound;
        end = omega (arith, end);
        start = λ e. omega arith;
        new = λ e. own.units;
        old = λ some. absurd (omega (arith, some));
        cost = omega (arith, one, n, long);
      }

-- ---- what was put, and what there is no room for

pub need_is : (it : Item) (used n : ℕ) → length it.body ≡ used → need it n ≡ n + (if used == 0 then 38 else 0)
need_is it used n is = ap (λ (m : ℕ). n + (if m == 0 then 38 else 0)) is

pub puts_none : (from : ℕ) (b : List ℕ) → Puts from (from + 0) [] b b
puts_none from b = record { filled = λ lo mid us f le. record { node = f.node; level = f.level; lie = lie_wider lo mid (from + 0) (items_of b) (omega (arith, le)) f.lie; units = f.units ∙ sym (append-nil us); room = ap (λ vs. room_of b + leaf_bytes vs) (append-nil us) ∙ f.room }; mkfs_id = λ lo mid us f le. refl }

module _ (b c : List ℕ) (key : Key) (i used : ℕ) (p : IsPlaceFor b key 6 i used) (is_key : IsKey key) (bytes : List ℕ) (some : 1 ≤ length bytes) (short : offset_of key + length bytes ≤ 16384)
    (room : length bytes + (if used == 0 then 38 else 0) ≤ room_of b)
    (holds : (it : Item) → IsPlace b i it → length it.body ≡ used → it.plugin ≡ 6 → (used ≡ 0 → it.key ≡ key) → need it (length bytes) ≤ room_of b → Holds b i it (it.body ++ bytes) c) where
  held : (it : Item) → TakesBytes b key i used it → Holds b i it (it.body ++ bytes) c
  held it t = let n = need_is it used (length bytes) t.long in holds it t.place t.long t.plugin t.new (omega (arith, n, room))

  pub run_puts : Puts (rank key) (rank key + length bytes) (bytes_from (rank key) bytes) b c
  run_puts = record {
    filled = λ lo mid us f le.
        let t = takes_bytes lo mid us b key i used f le p in
        filled_more lo mid us b i t.0 (t.0.body ++ bytes) c (bytes_from (rank key) bytes) (rank key) (rank key + length bytes) f t.1.place (held t.0 t.1) le (tail_grows lo mid us b key i used f le p t.0 t.1 is_key bytes some short);
    mkfs_id = λ lo mid us f le. let t = takes_bytes lo mid us b key i used f le p in (held t.0 t.1).mkfs_id;
  }

  pub room_left : (lo mid : ℕ) (us : List LeafUnit) → IsFilled lo mid us b → mid ≤ rank key → room_of c + (length bytes + (if used == 0 then 38 else 0)) ≡ room_of b
  room_left lo mid us f le =
      let t = takes_bytes lo mid us b key i used f le p in
      let h = (held t.0 t.1).room in
      let n = need_is t.0 used (length (t.0.body ++ bytes)) t.1.long in
      let both = length-append t.0.body bytes in
      omega (arith, h, n, both)

pub full_without_room : (k x : ℕ) (b : List ℕ) → room_of b ≡ 0 → IsFullFor (k, Byte x) b
full_without_room k x b none = record { full = λ lo mid us f. let r = f.room in let c = byte_cost (last_of us) k x in omega (arith, r, c, none) }

old_header : (used : ℕ) → 0 < used → (let h : ℕ = if used == 0 then 38 else 0 in h) ≡ 0
old_header used more = grind (arith, nat_tests, more)

new_header : (used : ℕ) → used ≤ 0 → (let h : ℕ = if used == 0 then 38 else 0 in h) ≡ 38
new_header used past = grind (arith, nat_tests, past)

pub full_at_once : (b : List ℕ) (key : Key) (i used x : ℕ) → IsPlaceFor b key 6 i used → room_of b ≤ (if used == 0 then 38 else 0) → IsFullFor (rank key + 0, Byte x) b
full_at_once b key i used x p low = record {
  full = λ lo mid us f. elim (cases_lt 0 used) [
    | inl more ↦
        let r = f.room in
        let c = byte_cost (last_of us) (rank key + 0) x in
        let none = old_header used more in
        omega (arith, r, c, low, none)
    | inr past ↦
        let r = f.room in
        let c = byte_cost (last_of us) (rank key + 0) x in
        let at : rank key + 0 ≡ rank key = omega arith in
        let go = ap {B = ℕ} (λ (t : Bool). if t then 0 else 38) (ap (continues_tail (last_of us)) at ∙ tail_new lo mid us b key i used f p (omega (arith, past))) in
        let all = new_header used past in
        omega (arith, r, c, low, go, all)
  ];
}

module _ (b c : List ℕ) (key : Key) (i used : ℕ) (p : IsPlaceFor b key 0 i used) (is_key : IsKey key) (body : List ℕ) (good : fault_in (stat_of body) ≡ None) where
  pub stat_puts : Holds b i (record { key = key; plugin = 0; body = [] }) body c → Puts (rank key) (rank key + 1) ((rank key, Stat (attr_of body)) ∷ []) b c
  stat_puts h = record {
    filled = λ lo mid us f le.
        filled_more lo mid us b i (record { key = key; plugin = 0; body = [] }) body c ((rank key, Stat (attr_of body)) ∷ []) (rank key) (rank key + 1) f (stat_place lo mid us b key i used f le p) h le (stat_grows lo mid us b key i used f le p is_key body good);
    mkfs_id = λ lo mid us f le. h.mkfs_id;
  }

pub full_for_stat : (k : ℕ) (b body : List ℕ) → fault_in (stat_of body) ≡ None → room_of b < length body + 38 → IsFullFor (k, Stat (attr_of body)) b
unfolding unit_bytes
full_for_stat k b body good low = record { full = λ lo mid us f. let r = f.room in let long = stat_long body good in omega (arith, r, low, long) }
