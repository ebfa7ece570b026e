-- Keys, sizes and bytes stay lawful where one object's attributes and bytes change.
use Rattle.std.specs.Prelude.{◌≡◌, ◌⊎◌, ◌↔◌, ℕ, ◌+◌, ◌^◌, ◌<◌, ◌≤◌, List, [], ◌∷◌, Bool, true, false, ◌&&◌, ◌||◌, ◌==◌, cond, nat_lt, length, Some, None, if◌then◌else◌}
use Rattle.std.proofs.Common.{arith, inl, inr, refl, sym, ap, subst, ◌∙◌}
use Rattle.std.proofs.lemmas.Bool.{cases_lt, lt-ltb}
use Rattle.std.proofs.lemmas.Grind.{common_steps}
use Rattle.std.proofs.lemmas.Option.{same_Some}
use Rattle.std.specs.Cmp.{unsigned_tied}
use Rattle.std.specs.FinMap.{find}
use Rattle.std.specs.Ordering.{nat_cmp}
use Rattle.r4_base.proofs.Visible.{byte_back, byte_object}
use Rattle.r4_base.specs.Key.{key_of_rank, minor_of}
use Rattle.r4_base.specs.Value.{Value, Stat, Entry, Byte, Content, at_key}
use Rattle.r4_base.specs.Volume.{HasStat, IsObject, KeyFits, byte_rank, is_directory, object_of, stat_rank}
use Rattle.r4_base.specs.declared.items.Attr.{Attr}
use Rattle.r4_base.specs.declared.items.Target.{Target}
use Rattle.r4_content.specs.Bodies.{fill_gap, larger, resize, truncated, written}
use Rattle.r4_content.specs.Edited.{Edits, and_also, edited, is_between, no_edits}
use Rattle.r4_content.specs.Lawful.{HasBodies, HasByte}
use Rattle.r4_content.specs.Objects.{Object, byte_pairs, cut_body, is_dir, is_same_target, set_attr, set_body, sized, zero_body}
use Rattle.r4_content.proofs.BytePairs.{keys_in}
use Rattle.r4_content.proofs.EditLaws.{at_edited, edited_off}
use Rattle.r4_content.proofs.EditParts.{IsOff, edited_first, is_off, off_both, true_not_false}
use Rattle.r4_content.proofs.FileEdits.{EditsFile, IsElsewhere, off_attr, off_resize, other_stat, put_itself, resized, resized_kind, resized_size}
use Rattle.r4_content.proofs.Gaining.{stat_same}
use Rattle.r4_content.proofs.Keeping.{IsKeptFile, IsWholeFile, bodies_kept, stat_fit}
use Rattle.r4_content.proofs.Ranks.{byte_after, same_bytes, same_itself, stat_not_byte, told_same}
use Rattle.r4_content.proofs.SameWay.{IsThere}
use Rattle.r4_content.proofs.Shapes.{where_is}
use Rattle.r4_content.proofs.Writing.{cut_or_grown, written_bytes}

-- What stands where after one object's stat data changed, and its bytes with them.
pub record ChangesOne (limit : ℕ) (m n : Content) (o : Object) (b : Attr) : Type 0 where
  pub was : HasStat m o.target o.attr
  pub kind : is_directory b ≡ is_directory o.attr
  pub bytes : b.bytes ≡ b.size
  pub now : at_key n (stat_rank o.target) ≡ Some (Stat b)
  pub elsewhere : (k : ℕ) → IsElsewhere o.target k → at_key n k ≡ at_key m k
  pub body : (x : ℕ) (v : Value) → x < 2 ^ 64 → at_key n (byte_rank o.target x) ≡ Some v → KeyFits n (key_of_rank (byte_rank o.target x)) v
  pub file : is_directory b ≡ false → IsKeptFile m n o.target b ⊎ IsWholeFile limit n o.target b

module _ (limit : ℕ) (m n : Content) (o : Object) (b : Attr) (bodies : HasBodies limit m) (h : ChangesOne limit m n o b) where
  other_at : (t : Target) → IsObject t → is_same_target t o.target ≡ false → at_key n (stat_rank t) ≡ at_key m (stat_rank t)
  other_at t is other = h.elsewhere (stat_rank t) (record { stat = other_stat t o.target is h.was.0 other; bytes = λ x lt e. stat_not_byte t o.target x is h.was.0 lt e })

  other_bytes : (t : Target) (x : ℕ) → IsObject t → x < 2 ^ 64 → is_same_target t o.target ≡ false → at_key n (byte_rank t x) ≡ at_key m (byte_rank t x)
  other_bytes t x is lt other = h.elsewhere (byte_rank t x) (record {
    stat = λ e. stat_not_byte o.target t x h.was.0 is lt (sym e);
    bytes = λ y ly e. true_not_false (sym (same_itself t) ∙ ap (is_same_target t) (same_bytes t o.target x y is h.was.0 lt ly e) ∙ other);
  })

  fits : (k : ℕ) (v : Value) → at_key n k ≡ Some v → (at_key m k ≡ Some v) ⊎ KeyFits n (key_of_rank k) v
  fits k v at = elim (where_is o.target k) [
    | inl is ↦
        let same = same_Some (Stat b) v (sym h.now ∙ ap (at_key n) (sym is) ∙ at) in
        inr (subst (λ (w : Value). KeyFits n (key_of_rank k) w) same (subst (λ (x : ℕ). KeyFits n (key_of_rank x) (Stat b)) (sym is) (stat_fit o.target b h.was.0)))
    | inr other ↦ elim other [
      | inl (x, lt, is) ↦ inr (subst (λ (y : ℕ). KeyFits n (key_of_rank y) v) (sym is) (h.body x v lt (ap (at_key n) (sym is) ∙ at)))
      | inr elsewhere ↦ inl (sym (h.elsewhere k elsewhere) ∙ at)
    ]
  ]

  alive : (t : Target) (a : Attr) → HasStat m t a → is_directory a ≡ false → (c : Attr) × HasStat n t c × (is_directory c ≡ false)
  alive t a was file = by_target (is_same_target t o.target) refl
    where
      by_target : (c : Bool) → is_same_target t o.target ≡ c → (c : Attr) × HasStat n t c × (is_directory c ≡ false)
      by_target true e =
          let same = told_same t o.target e in
          let attr = stat_same a o.attr (sym was.1 ∙ ap (λ (u : Target). at_key m (stat_rank u)) same ∙ h.was.1) in
          (b, (was.0, ap (λ (u : Target). at_key n (stat_rank u)) same ∙ h.now), h.kind ∙ ap is_directory (sym attr) ∙ file)
      by_target false e = (a, (was.0, other_at t was.0 e ∙ was.1), file)

  same_now : (t : Target) (c : Attr) → HasStat n t c → is_same_target t o.target ≡ true → c ≡ b
  same_now t c there e = stat_same c b (sym there.1 ∙ ap (λ (u : Target). at_key n (stat_rank u)) (told_same t o.target e) ∙ h.now)

  kept_or_whole : (t : Target) (c : Attr) → t ≡ o.target → c ≡ b → is_directory c ≡ false → IsKeptFile m n t c ⊎ IsWholeFile limit n t c
  kept_or_whole t c same attr file =
      let now = h.file (ap is_directory (sym attr) ∙ file) in
      subst (λ (u : Target). IsKeptFile m n u c ⊎ IsWholeFile limit n u c) (sym same) (subst (λ (x : Attr). IsKeptFile m n o.target x ⊎ IsWholeFile limit n o.target x) (sym attr) now)

  files : (t : Target) (c : Attr) → HasStat n t c → is_directory c ≡ false → IsKeptFile m n t c ⊎ IsWholeFile limit n t c
  files t c there file = by_target (is_same_target t o.target) refl
    where
      by_target : (d : Bool) → is_same_target t o.target ≡ d → IsKeptFile m n t c ⊎ IsWholeFile limit n t c
      by_target true e = kept_or_whole t c (told_same t o.target e) (same_now t c there e) file
      by_target false e = inl (record { old = c; stat = (there.0, sym (other_at t there.0 e) ∙ there.1); file = file; size = refl; same = λ x lt. other_bytes t x there.0 lt e })

  lengths : (t : Target) (c : Attr) → HasStat n t c → c.bytes ≡ c.size
  lengths t c there = by_target (is_same_target t o.target) refl
    where
      by_target : (d : Bool) → is_same_target t o.target ≡ d → c.bytes ≡ c.size
      by_target true e = subst (λ (x : Attr). x.bytes ≡ x.size) (sym (same_now t c there e)) h.bytes
      by_target false e = bodies.bytes t c (there.0, sym (other_at t there.0 e) ∙ there.1)

  pub one_bodies : HasBodies limit n
  one_bodies = bodies_kept limit m n bodies (record {
    fits = fits;
    alive = λ t a x y was file lt at. alive t a was file;
    files = λ t c there file. elim (files t c there file) [ inl kept ↦ inl kept | inr whole ↦ inr (inr whole) ];
    bytes = lengths;
  })

-- ---- attributes alone

pub attr_bodies : (limit : ℕ) (m : Content) (o : Object) (b : Attr) → HasBodies limit m → HasStat m o.target o.attr → is_directory b ≡ is_directory o.attr → b.size ≡ o.attr.size → b.bytes ≡ o.attr.bytes → HasBodies limit (edited (set_attr o b) m)
attr_bodies limit m o b bodies was kind size length_too = one_bodies limit m (edited (set_attr o b) m) o b bodies (record {
  was = was;
  kind = kind;
  bytes = length_too ∙ bodies.bytes o.target o.attr was ∙ sym size;
  now = put_itself m (stat_rank o.target) (Stat b);
  elsewhere = λ k e. edited_off (set_attr o b) m k (is_off (set_attr o b) k (off_attr o b k e.stat));
  body = λ x v lt at. by_value x lt v at (bodies.keys (byte_rank o.target x) v (sym (same_byte x lt) ∙ at));
  file = λ f. inl (record { old = o.attr; stat = was; file = sym kind ∙ f; size = size; same = same_byte });
})
  where
    same_byte : (x : ℕ) → x < 2 ^ 64 → at_key (edited (set_attr o b) m) (byte_rank o.target x) ≡ at_key m (byte_rank o.target x)
    same_byte x lt =
        edited_off (set_attr o b) m (byte_rank o.target x) (is_off (set_attr o b) (byte_rank o.target x) (off_attr o b (byte_rank o.target x) (λ e. stat_not_byte o.target o.target x was.0 was.0 lt (sym e))))

    by_value : (x : ℕ) → x < 2 ^ 64 → (v : Value) → at_key (edited (set_attr o b) m) (byte_rank o.target x) ≡ Some v → KeyFits m (key_of_rank (byte_rank o.target x)) v → KeyFits (edited (set_attr o b) m) (key_of_rank (byte_rank o.target x)) v
    by_value x lt (Stat a) at f = f
    by_value x lt (Entry s t) at f = f
    by_value x lt (Byte y) at (minor, (a, stat, file)) =
        let back : object_of (key_of_rank (byte_rank o.target x)) ≡ o.target = ap object_of (byte_back o.target x was.0 lt) ∙ byte_object o.target x in
        let attr = stat_same a o.attr (sym stat.1 ∙ ap (λ (u : Target). at_key m (stat_rank u)) back ∙ was.1) in
        (minor, (b, subst (λ (u : Target). HasStat (edited (set_attr o b) m) u b) (sym back) (was.0, put_itself m (stat_rank o.target) (Stat b)), kind ∙ ap is_directory (sym attr) ∙ file))

-- ---- a file that is written, cut or grown

-- a key of the body has a byte, or what it had, or nothing
pub record Touches (m : Content) (o : Object) (n : ℕ) (e : Edits) : Type 0 where
  pub offsets : (x : ℕ) → x < 2 ^ 64 → HasByte (edited e m) o.target x ↔ (x < n)
  pub values : (x : ℕ) → x < 2 ^ 64 → HasByte (edited e m) o.target x ⊎ ((at_key (edited e m) (byte_rank o.target x) ≡ at_key m (byte_rank o.target x)) ⊎ (at_key (edited e m) (byte_rank o.target x) ≡ None))

pub file_bodies : (limit : ℕ) (m : Content) (o : Object) (n : ℕ) (e : Edits) → HasBodies limit m → HasStat m o.target o.attr → is_dir o ≡ false → n ≤ limit → EditsFile m o n e → Touches m o n e → HasBodies limit (edited e m)
file_bodies limit m o n e bodies was file small edits touches = one_bodies limit m (edited e m) o (resized n o.attr) bodies (record {
  was = was;
  kind = resized_kind n o.attr;
  bytes = length_of;
  now = edits.size;
  elsewhere = λ k off. edited_off e m k (is_off e k (edits.elsewhere k off));
  body = body;
  file = λ f. inr (record {
    small = let is = resized_size n o.attr in omega arith;
    offsets = λ x lt. let (a, b) = touches.offsets x lt in let is = resized_size n o.attr in ((λ has. let below = a has in omega arith), (λ below. b (omega arith)));
  });
})
  where
    length_of : (resized n o.attr).bytes ≡ (resized n o.attr).size
    length_of = by_size (o.attr.size == n)
      where
        by_size : (b : Bool) → (if b then o.attr else sized o.attr n).bytes ≡ (if b then o.attr else sized o.attr n).size
        by_size true = bodies.bytes o.target o.attr was
        by_size false = refl

    byte_fit : (x y : ℕ) → x < 2 ^ 64 → KeyFits (edited e m) (key_of_rank (byte_rank o.target x)) (Byte y)
    byte_fit x y lt =
        let back = byte_back o.target x was.0 lt in
        let aims : object_of (key_of_rank (byte_rank o.target x)) ≡ o.target = ap object_of back ∙ byte_object o.target x in
        (ap minor_of back ∙ omega arith, (resized n o.attr, subst (λ (u : Target). HasStat (edited e m) u (resized n o.attr)) (sym aims) (was.0, edits.size), resized_kind n o.attr ∙ file))

    by_value : (x : ℕ) → x < 2 ^ 64 → (v : Value) → KeyFits m (key_of_rank (byte_rank o.target x)) v → KeyFits (edited e m) (key_of_rank (byte_rank o.target x)) v
    by_value x lt (Stat a) f = f
    by_value x lt (Entry s t) f = f
    by_value x lt (Byte y) f = byte_fit x y lt

    body : (x : ℕ) (v : Value) → x < 2 ^ 64 → at_key (edited e m) (byte_rank o.target x) ≡ Some v → KeyFits (edited e m) (key_of_rank (byte_rank o.target x)) v
    body x v lt at = elim (touches.values x lt) [
      | inl (y, has) ↦ subst (λ (w : Value). KeyFits (edited e m) (key_of_rank (byte_rank o.target x)) w) (same_Some (Byte y) v (sym has ∙ at)) (byte_fit x y lt)
      | inr other ↦ elim other [
        | inl same ↦ by_value x lt v (bodies.keys (byte_rank o.target x) v (sym same ∙ at))
        | inr none ↦ absurd (no_value v (sym at ∙ none))
      ]
    ]
      where
        no_value : (w : Value) → Some w ≡ None → ⊥
        no_value w g = cc

between_bytes : (t : Target) (i j x : ℕ) → is_between (byte_rank t i) (byte_rank t j) (byte_rank t x) ≡ is_between i j x
between_bytes t i j x =
    let a : byte_rank t (0 + i) ≡ byte_rank t 0 + i = byte_after t 0 i in
    let b : byte_rank t (0 + j) ≡ byte_rank t 0 + j = byte_after t 0 j in
    let c : byte_rank t (0 + x) ≡ byte_rank t 0 + x = byte_after t 0 x in
    shifted (byte_rank t 0) (byte_rank t i) (byte_rank t j) (byte_rank t x) (ap (byte_rank t) (omega arith) ∙ a) (ap (byte_rank t) (omega arith) ∙ b) (ap (byte_rank t) (omega arith) ∙ c)
  where
    shifted : (r p q s : ℕ) → p ≡ r + i → q ≡ r + j → s ≡ r + x → is_between p q s ≡ is_between i j x
    shifted r p q s e f g = grind (arith, common_steps)

between_cases : (a b x : ℕ) (c : Bool) → is_between a b x ≡ c → ((c ≡ true) × (a ≤ x) × (x < b)) ⊎ ((c ≡ false) × ((x < a) ⊎ (b ≤ x)))
between_cases a b x c e = elim (cases_lt x a) [
  | inl low ↦ inr (sym e ∙ grind (arith, common_steps), inl low)
  | inr ge ↦ elim (cases_lt x b) [
    | inl lt ↦ inl (sym e ∙ grind (arith, common_steps), ge, lt)
    | inr high ↦ inr (sym e ∙ grind (arith, common_steps), inr high)
  ]
]

found_byte : (from : ℕ) (xs : List ℕ) (k : ℕ) → is_between from (from + length xs) k ≡ true → (y : ℕ) × (find nat_cmp k (byte_pairs from xs) ≡ Some (Byte y))
found_byte from [] k e = absurd (nothing_in e)
  where
    nothing_in : is_between from (from + 0) k ≡ true → ⊥
    nothing_in h = elim (between_cases from (from + 0) k true h) [ inl (a, b, c) ↦ absurd (omega arith) | inr (a, b) ↦ absurd (true_not_false a) ]
found_byte from (x ∷ xs) k e = by_first (k == from) refl (found_byte (from + 1) xs k)
  where
    by_first : (b : Bool) → (k == from) ≡ b → (is_between (from + 1) (from + 1 + length xs) k ≡ true → (y : ℕ) × (find nat_cmp k (byte_pairs (from + 1) xs) ≡ Some (Byte y)))
        → (y : ℕ) × (find nat_cmp k (byte_pairs from (x ∷ xs)) ≡ Some (Byte y))
    by_first true is rest = (x, ap (λ (b : Bool). cond b (Some (Byte x)) (find nat_cmp k (byte_pairs (from + 1) xs))) (unsigned_tied k from ∙ is))
    by_first false is rest =
        let (y, found) = rest (later is) in
        (y, ap (λ (b : Bool). cond b (Some (Byte x)) (find nat_cmp k (byte_pairs (from + 1) xs))) (unsigned_tied k from ∙ is) ∙ found)
      where
        later : (k == from) ≡ false → is_between (from + 1) (from + 1 + length xs) k ≡ true
        later ne = grind (arith, common_steps)

-- the zeros of a gap
gap_at : (m : Content) (o : Object) (to x : ℕ) → at_key (edited (fill_gap o to) m) (byte_rank o.target x) ≡ cond (nat_lt o.attr.size to && is_between o.attr.size to x) (Some (Byte 0)) (at_key m (byte_rank o.target x))
gap_at m o to x = by_size (nat_lt o.attr.size to)
  where
    or_nothing : (b : Bool) → (b || false) ≡ b
    or_nothing true = refl
    or_nothing false = refl

    by_size : (b : Bool) → at_key (edited (if b then zero_body o o.attr.size to else no_edits) m) (byte_rank o.target x) ≡ cond (b && is_between o.attr.size to x) (Some (Byte 0)) (at_key m (byte_rank o.target x))
    by_size true =
        at_edited (zero_body o o.attr.size to) m (byte_rank o.target x)
        ∙ ap (λ (c : Bool). cond c (Some (Byte 0)) (at_key m (byte_rank o.target x))) (or_nothing (is_between (byte_rank o.target o.attr.size) (byte_rank o.target to) (byte_rank o.target x)) ∙ between_bytes o.target o.attr.size to x)
    by_size false = refl

in_gap : (a b x : ℕ) → (nat_lt a b && is_between a b x) ≡ true → (a ≤ x) × (x < b)
in_gap a b x e = elim (between_cases a b x (is_between a b x) refl) [
  | inl (y, low, high) ↦ (low, high)
  | inr (y, other) ↦ absurd (true_not_false (sym e ∙ ap (λ (c : Bool). nat_lt a b && c) y ∙ and_false (nat_lt a b)))
]
  where
    and_false : (c : Bool) → (c && false) ≡ false
    and_false true = refl
    and_false false = refl

not_in_gap : (a b x : ℕ) → (nat_lt a b && is_between a b x) ≡ false → a ≤ x → x < b → ⊥
not_in_gap a b x e low high = elim (between_cases a b x (is_between a b x) refl) [
  | inl (y, c, d) ↦ true_not_false (sym (ap (λ (p : Bool). p && is_between a b x) (lt-ltb a b (omega arith)) ∙ y) ∙ e)
  | inr (y, other) ↦ elim other [ inl below ↦ absurd (omega arith) | inr above ↦ absurd (omega arith) ]
]

pub larger_cases : (a b : ℕ) → ((larger a b ≡ a) × (b ≤ a)) ⊎ ((larger a b ≡ b) × (a < b))
larger_cases a b = elim (cases_lt a b) [
  | inl lt ↦ inr (grind (arith, common_steps), lt)
  | inr ge ↦ inl (grind (arith, common_steps), ge)
]

pub write_touches : (limit : ℕ) (m : Content) (o : Object) (from : ℕ) (xs : List ℕ) → HasBodies limit m → HasStat m o.target o.attr → IsThere m o → is_dir o ≡ false → from + length xs ≤ 2 ^ 64 → 0 < length xs
    → Touches m o (larger o.attr.size (from + length xs)) (written o from xs)
write_touches limit m o from xs bodies was there file fits some = record { offsets = λ x lt. (all x lt).0; values = λ x lt. (all x lt).1 }
  where
    inside_bytes : (x : ℕ) (b : Bool) → is_between from (from + length xs) x ≡ b → is_between (byte_rank o.target from) (byte_rank o.target from + length xs) (byte_rank o.target x) ≡ b
    inside_bytes x b e = ap (λ (end : ℕ). is_between (byte_rank o.target from) end (byte_rank o.target x)) (sym (byte_after o.target from (length xs))) ∙ between_bytes o.target from (from + length xs) x ∙ e

    outside : (x : ℕ) → x < 2 ^ 64 → is_between from (from + length xs) x ≡ false
        → at_key (edited (written o from xs) m) (byte_rank o.target x) ≡ cond (nat_lt o.attr.size from && is_between o.attr.size from x) (Some (Byte 0)) (at_key m (byte_rank o.target x))
    outside x lt e =
        let n = larger o.attr.size (from + length xs) in
        let body_off : IsOff (set_body o from xs) (byte_rank o.target x) = record { puts = keys_in (byte_rank o.target from) xs (byte_rank o.target x) ∙ inside_bytes x false e; zeros = refl; cuts = refl } in
        let size_off = off_resize o n (byte_rank o.target x) (λ s. stat_not_byte o.target o.target x was.0 was.0 lt (sym s)) in
        edited_first (fill_gap o from) (and_also (set_body o from xs) (resize o n)) m (byte_rank o.target x) (off_both (set_body o from xs) (resize o n) (byte_rank o.target x) body_off size_off) ∙ gap_at m o from x

    all : (x : ℕ) → x < 2 ^ 64 → (HasByte (edited (written o from xs) m) o.target x ↔ (x < larger o.attr.size (from + length xs)))
        × (HasByte (edited (written o from xs) m) o.target x
        ⊎ ((at_key (edited (written o from xs) m) (byte_rank o.target x) ≡ at_key m (byte_rank o.target x)) ⊎ (at_key (edited (written o from xs) m) (byte_rank o.target x) ≡ None)))
    all x lt = by_inside (is_between from (from + length xs) x) (nat_lt o.attr.size from && is_between o.attr.size from x) refl refl
      where
        by_inside : (p q : Bool) → is_between from (from + length xs) x ≡ p → (nat_lt o.attr.size from && is_between o.attr.size from x) ≡ q
            → (HasByte (edited (written o from xs) m) o.target x ↔ (x < larger o.attr.size (from + length xs)))
            × (HasByte (edited (written o from xs) m) o.target x
            ⊎ ((at_key (edited (written o from xs) m) (byte_rank o.target x) ≡ at_key m (byte_rank o.target x)) ⊎ (at_key (edited (written o from xs) m) (byte_rank o.target x) ≡ None)))
        by_inside true q e f =
            let bytes_in_it = inside_bytes x true e in
            let (y, found) = found_byte (byte_rank o.target from) xs (byte_rank o.target x) bytes_in_it in
            let has : HasByte (edited (written o from xs) m) o.target x = (y, written_bytes m o there from xs fits (byte_rank o.target x) bytes_in_it ∙ found) in
            (((λ h. below e), (λ h. has)), inl has)
          where
            below : is_between from (from + length xs) x ≡ true → x < larger o.attr.size (from + length xs)
            below g = elim (between_cases from (from + length xs) x true g) [
              | inl (a, b, c) ↦ elim (larger_cases o.attr.size (from + length xs)) [ inl (d, i) ↦ omega arith | inr (d, i) ↦ omega arith ]
              | inr (a, b) ↦ absurd (true_not_false a)
            ]
        by_inside false true e f =
            let has : HasByte (edited (written o from xs) m) o.target x = (0, outside x lt e ∙ ap (λ (c : Bool). cond c (Some (Byte 0)) (at_key m (byte_rank o.target x))) f) in
            let (low, high) = in_gap o.attr.size from x f in
            (((λ h. elim (larger_cases o.attr.size (from + length xs)) [ inl (d, i) ↦ omega arith | inr (d, i) ↦ omega arith ]), (λ h. has)), inl has)
        by_inside false false e f =
            let same = outside x lt e ∙ ap (λ (c : Bool). cond c (Some (Byte 0)) (at_key m (byte_rank o.target x))) f in
            let (has_below, below_has) = bodies.offsets o.target o.attr was file x lt in (
              (
                (λ (y, at). let below = has_below (y, sym same ∙ at) in elim (larger_cases o.attr.size (from + length xs)) [ inl (d, i) ↦ omega arith | inr (d, i) ↦ omega arith ]),
                (λ h. let (y, at) = below_has (old_below e f h) in (y, same ∙ at)),
              ),
              inr (inl same),
            )
          where
            old_below : is_between from (from + length xs) x ≡ false → (nat_lt o.attr.size from && is_between o.attr.size from x) ≡ false → x < larger o.attr.size (from + length xs) → x < o.attr.size
            old_below g i h = elim (cases_lt x o.attr.size) [
              | inl lt_size ↦ lt_size
              | inr ge ↦ elim (larger_cases o.attr.size (from + length xs)) [
                | inl (d, j) ↦ absurd (omega arith)
                | inr (d, j) ↦ elim (between_cases from (from + length xs) x false g) [
                  | inl (a, b, c) ↦ absurd (true_not_false (sym a))
                  | inr (a, b) ↦ elim b [ inl before ↦ absurd (not_in_gap o.attr.size from x i ge before) | inr behind ↦ absurd (omega arith) ]
                ]
              ]
            ]

pub truncate_touches : (limit : ℕ) (m : Content) (o : Object) (n : ℕ) → HasBodies limit m → HasStat m o.target o.attr → is_dir o ≡ false → Touches m o n (truncated o n)
truncate_touches limit m o n bodies was file = record { offsets = λ x lt. (all x lt).0; values = λ x lt. (all x lt).1 }
  where
    first_alone : (x : ℕ) → x < 2 ^ 64 → at_key (edited (truncated o n) m) (byte_rank o.target x) ≡ at_key (edited (cut_or_grown o n (nat_lt n o.attr.size)) m) (byte_rank o.target x)
    first_alone x lt =
        edited_first (cut_or_grown o n (nat_lt n o.attr.size)) (resize o n) m (byte_rank o.target x) (off_resize o n (byte_rank o.target x) (λ s. stat_not_byte o.target o.target x was.0 was.0 lt (sym s)))

    or_nothing : (b : Bool) → (b || false) ≡ b
    or_nothing true = refl
    or_nothing false = refl

    cut_at_it : (x : ℕ) → at_key (edited (cut_body o n o.attr.size) m) (byte_rank o.target x) ≡ cond (is_between n o.attr.size x) None (at_key m (byte_rank o.target x))
    cut_at_it x =
        at_edited (cut_body o n o.attr.size) m (byte_rank o.target x)
        ∙ ap (λ (c : Bool). cond c None (at_key m (byte_rank o.target x))) (or_nothing (is_between (byte_rank o.target n) (byte_rank o.target o.attr.size) (byte_rank o.target x)) ∙ between_bytes o.target n o.attr.size x)

    all : (x : ℕ) → x < 2 ^ 64 → (HasByte (edited (truncated o n) m) o.target x ↔ (x < n))
        × (HasByte (edited (truncated o n) m) o.target x
        ⊎ ((at_key (edited (truncated o n) m) (byte_rank o.target x) ≡ at_key m (byte_rank o.target x)) ⊎ (at_key (edited (truncated o n) m) (byte_rank o.target x) ≡ None)))
    all x lt = by_cut (nat_lt n o.attr.size) (is_between n o.attr.size x) (nat_lt o.attr.size n && is_between o.attr.size n x) refl refl refl
      where
        no_value : (y : ℕ) → Some (Byte y) ≡ None → ⊥
        no_value y g = cc

        at_first : (b : Bool) → nat_lt n o.attr.size ≡ b → at_key (edited (truncated o n) m) (byte_rank o.target x) ≡ at_key (edited (cut_or_grown o n b) m) (byte_rank o.target x)
        at_first b e = first_alone x lt ∙ ap (λ (c : Bool). at_key (edited (cut_or_grown o n c) m) (byte_rank o.target x)) e

        not_less : nat_lt n o.attr.size ≡ false → o.attr.size ≤ n
        not_less e = grind (arith, common_steps)

        less : nat_lt n o.attr.size ≡ true → n < o.attr.size
        less e = grind (arith, common_steps)

        by_cut : (p q r : Bool) → nat_lt n o.attr.size ≡ p → is_between n o.attr.size x ≡ q → (nat_lt o.attr.size n && is_between o.attr.size n x) ≡ r
            → (HasByte (edited (truncated o n) m) o.target x ↔ (x < n))
            × (HasByte (edited (truncated o n) m) o.target x
            ⊎ ((at_key (edited (truncated o n) m) (byte_rank o.target x) ≡ at_key m (byte_rank o.target x)) ⊎ (at_key (edited (truncated o n) m) (byte_rank o.target x) ≡ None)))
        by_cut true true r e f g =
            let none = at_first true e ∙ cut_at_it x ∙ ap (λ (c : Bool). cond c None (at_key m (byte_rank o.target x))) f in
            (((λ (y, at). absurd (no_value y (sym at ∙ none))), (λ h. absurd (not_cut h))), inr (inr none))
          where
            not_cut : x < n → ⊥
            not_cut h = elim (between_cases n o.attr.size x true f) [ inl (a, b, c) ↦ absurd (omega arith) | inr (a, b) ↦ absurd (true_not_false a) ]
        by_cut true false r e f g =
            let same = at_first true e ∙ cut_at_it x ∙ ap (λ (c : Bool). cond c None (at_key m (byte_rank o.target x))) f in
            let (has_below, below_has) = bodies.offsets o.target o.attr was file x lt in
            let small = less e in
            (((λ (y, at). outside (has_below (y, sym same ∙ at))), (λ h. let (y, at) = below_has (omega arith) in (y, same ∙ at))), inr (inl same))
          where
            outside : x < o.attr.size → x < n
            outside h = elim (between_cases n o.attr.size x false f) [
              | inl (a, b, c) ↦ absurd (true_not_false (sym a))
              | inr (a, b) ↦ elim b [ inl before ↦ before | inr behind ↦ absurd (omega arith) ]
            ]
        by_cut false q true e f g =
            let has : HasByte (edited (truncated o n) m) o.target x = (0, at_first false e ∙ gap_at m o n x ∙ ap (λ (c : Bool). cond c (Some (Byte 0)) (at_key m (byte_rank o.target x))) g) in
            let (low, high) = in_gap o.attr.size n x g in
            (((λ h. high), (λ h. has)), inl has)
        by_cut false q false e f g =
            let same = at_first false e ∙ gap_at m o n x ∙ ap (λ (c : Bool). cond c (Some (Byte 0)) (at_key m (byte_rank o.target x))) g in
            let (has_below, below_has) = bodies.offsets o.target o.attr was file x lt in
            let le = not_less e in
            (((λ (y, at). let below = has_below (y, sym same ∙ at) in omega arith), (λ h. let (y, at) = below_has (old_below h) in (y, same ∙ at))), inr (inl same))
          where
            old_below : x < n → x < o.attr.size
            old_below h = elim (cases_lt x o.attr.size) [ inl below ↦ below | inr ge ↦ absurd (not_in_gap o.attr.size n x g ge h) ]
