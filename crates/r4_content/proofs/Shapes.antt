-- Changes that leave entries, links and directories as they are.
use Rattle.std.specs.Prelude.{◌≡◌, ◌≢◌, ◌⊎◌, ℕ, ◌+◌, ◌*◌, ◌/◌, ◌%◌, ◌^◌, ◌<◌, List, [], ◌∷◌, Bool, true, false, ◌==◌, nat_le, nat_lt, slice_index, All, Option, Some, None, if◌then◌else◌}
use Rattle.std.proofs.Common.{arith, inl, inr, lit<, refl, sym, ap, subst, ◌∙◌}
use Rattle.std.proofs.lemmas.Bool.{and_from, eqb-true, le-leb, lt-ltb}
use Rattle.std.proofs.lemmas.Option.{same_Some}
use Rattle.r4_base.specs.Key.{key_of_rank, minor_of, rank, stat_key}
use Rattle.r4_base.specs.Name.{dir_of_key, key_of_name}
use Rattle.r4_base.specs.Value.{Value, Stat, Entry, Byte, Content, at_key}
use Rattle.r4_base.specs.Volume.{HasObjects, HasStat, IsObject, byte_rank, is_directory, is_entry_in, root_object, stat_rank}
use Rattle.r4_base.specs.declared.key.Key.{Key}
use Rattle.r4_base.specs.declared.items.Attr.{Attr}
use Rattle.r4_base.specs.declared.items.Target.{Target}
use Rattle.r4_base.proofs.Visible.{byte_back}
use Rattle.r4_content.specs.Edited.{is_between}
use Rattle.r4_content.specs.Lawful.{HasBodies}
use Rattle.r4_content.specs.Objects.{Object, entry_rank, is_same_target}
use Rattle.r4_content.specs.Ways.{entry_in}
use Rattle.r4_content.proofs.Counting.{not_same}
use Rattle.r4_content.proofs.EditParts.{true_not_false}
use Rattle.r4_content.proofs.FileEdits.{IsElsewhere, other_stat}
use Rattle.r4_content.proofs.Ranks.{byte_after, first_of_name, in_body, name_fits, stat_not_byte, told_same}
use Rattle.r4_content.proofs.Rewired.{OnEntries, both_here, directory_in, directory_on, entry_on, here_empty, named, named_on, not_entry, rewired_lawful}

-- ---- keys of ranks

parts : (a b c d : ℕ) → b < 2 ^ 64 → c < 2 ^ 64 → d < 2 ^ 64 → let r = a * 2 ^ 192 + (b * 2 ^ 128 + (c * 2 ^ 64 + d)) in (r / 2 ^ 192 ≡ a) × (r / 2 ^ 128 % 2 ^ 64 ≡ b) × (r / 2 ^ 64 % 2 ^ 64 ≡ c) × (r % 2 ^ 64 ≡ d)
parts a b c d lb lc ld = (omega (arith, lb, lc, ld), omega (arith, lb, lc, ld), omega (arith, lb, lc, ld), omega (arith, lb, lc, ld))

key_back : (a b c d : ℕ) → b < 2 ^ 64 → c < 2 ^ 64 → d < 2 ^ 64 → key_of_rank (rank (record { el = a ∷ b ∷ c ∷ d ∷ [] })) ≡ record { el = a ∷ b ∷ c ∷ d ∷ [] }
unfolding key_of_rank rank
key_back a b c d lb lc ld = let p = parts a b c d lb lc ld in rw (p.0, p.1, p.2, p.3) refl

pub stat_back : (o : Target) → IsObject o → key_of_rank (stat_rank o) ≡ stat_key o.locality o.ordering o.oid
stat_back o is = key_back (o.locality * 16 + 1) o.ordering o.oid.0 0 is.1 is.2 (lit< tt)

pub entry_back : (d : Target) (n : List ℕ) → d.oid.0 < 2 ^ 60 → All (λ x. x < 256) n → key_of_rank (entry_rank d n) ≡ key_of_name d.oid.0 n
unfolding key_of_name
entry_back d n small bytes =
    let fits = name_fits d n small bytes in
    key_back (d.oid.0 * 16) _ _ _ (fits.small 1) (fits.small 2) (fits.small 3)

pub entry_dir : (d : Target) (n : List ℕ) → d.oid.0 < 2 ^ 60 → All (λ x. x < 256) n → (dir_of_key (key_of_rank (entry_rank d n)) ≡ d.oid.0) × (minor_of (key_of_rank (entry_rank d n)) ≡ 0)
entry_dir d n small bytes =
    let key = entry_back d n small bytes in
    let first = first_of_name d.oid.0 n in
    let is : slice_index (key_of_rank (entry_rank d n)).el 0 ≡ d.oid.0 * 16 = ap (λ (k : Key). slice_index k.el 0) key ∙ first in
    (ap (λ (x : ℕ). x / 16) is ∙ omega arith, ap (λ (x : ℕ). x % 16) is ∙ omega arith)

-- which key of an object it is, if any
pub where_is : (t : Target) (k : ℕ) → (k ≡ stat_rank t) ⊎ (((x : ℕ) × (x < 2 ^ 64) × (k ≡ byte_rank t x)) ⊎ IsElsewhere t k)
where_is t k = by_test (k == stat_rank t) (is_between (byte_rank t 0) (byte_rank t (2 ^ 64)) k) refl refl
  where
    by_test : (a b : Bool) → (k == stat_rank t) ≡ a → is_between (byte_rank t 0) (byte_rank t (2 ^ 64)) k ≡ b → (k ≡ stat_rank t) ⊎ (((x : ℕ) × (x < 2 ^ 64) × (k ≡ byte_rank t x)) ⊎ IsElsewhere t k)
    by_test true b e f = inl (eqb-true k (stat_rank t) e)
    by_test false true e f = let (x, is, low, high) = in_body t 0 (2 ^ 64) k f in inr (inl (x, high, is))
    by_test false false e f = inr (inr (record { stat = not_same k (stat_rank t) e; bytes = λ x lt is. true_not_false (sym (between x lt is) ∙ f) }))
      where
        between : (x : ℕ) → x < 2 ^ 64 → k ≡ byte_rank t x → is_between (byte_rank t 0) (byte_rank t (2 ^ 64)) k ≡ true
        between x lt is =
            let low : byte_rank t (0 + x) ≡ byte_rank t 0 + x = byte_after t 0 x in
            let zero_x : byte_rank t (0 + x) ≡ byte_rank t x = ap (byte_rank t) (omega arith) in
            let high : byte_rank t (0 + 2 ^ 64) ≡ byte_rank t 0 + 2 ^ 64 = byte_after t 0 (2 ^ 64) in
            and_from (nat_le (byte_rank t 0) k) (nat_lt k (byte_rank t (2 ^ 64))) (le-leb _ _ (omega arith)) (lt-ltb _ _ (omega arith))

-- ---- attributes alone

module _ (m n : Content) (i j : ℕ) (g : Target → Attr → Attr) (lawful : HasObjects m) (apart : i ≢ j) (none_i : entry_in (at_key m i) ≡ None) (none_j : entry_in (at_key m j) ≡ None)
    (entries : (k : ℕ) → entry_in (at_key m k) ≡ entry_in (at_key n k))
    (kept : (t : Target) (a : Attr) → HasStat m t a → HasStat n t (g t a))
    (from : (t : Target) (b : Attr) → HasStat n t b → (a : Attr) × HasStat m t a × (b ≡ g t a))
    (kind : (t : Target) (a : Attr) → HasStat m t a → is_directory (g t a) ≡ is_directory a)
    (nlink : (t : Target) (a : Attr) → HasStat m t a → (g t a).nlink ≡ a.nlink)
    (size : (t : Target) (a : Attr) → HasStat m t a → is_directory a ≡ true → (g t a).size ≡ a.size) where
  abbrev became : Target → Attr → Option Attr
  became t a = Some (g t a)

  nothing_here : (p : ℕ × Value → Bool) → OnEntries p → (both_here p i j m ≡ 0) × (both_here p i j n ≡ 0)
  nothing_here p on =
      let a = here_empty p i (at_key m i) on none_i in
      let b = here_empty p j (at_key m j) on none_j in
      let c = here_empty p i (at_key n i) on (sym (entries i) ∙ none_i) in
      let d = here_empty p j (at_key n j) on (sym (entries j) ∙ none_j) in
      (omega arith, omega arith)

  none_at : (k : ℕ) → (k ≡ i) ⊎ (k ≡ j) → entry_in (at_key m k) ≡ None
  none_at k h = elim h [ inl e ↦ ap (λ (x : ℕ). entry_in (at_key m x)) e ∙ none_i | inr e ↦ ap (λ (x : ℕ). entry_in (at_key m x)) e ∙ none_j ]

  pub shape_lawful : HasObjects n
  shape_lawful = rewired_lawful m n i j became (λ t b. ⊥) lawful (record {
    apart = apart;
    others = λ k a b. entries k;
    kept = λ t a b h e. subst (λ (x : Attr). HasStat n t x) (same_Some (g t a) b e) (kept t a h);
    from = λ t b h. let (a, was, is) = from t b h in inl (a, was, ap (λ (x : Attr). Some x) (sym is));
    kind = λ t a b h e. ap is_directory (sym (same_Some (g t a) b e)) ∙ kind t a h;
    stays = λ k s t a x y at h. (g t a, refl);
    holder_stays = λ k s t p a x y at h dir is. (g p a, refl);
    root_stays = λ a h. (g root_object a, refl);
    placed = λ k s t new at. absurd (not_entry (at_key n k) s t (sym (entries k) ∙ none_at k new) at);
    directory_links = λ t a b h e dir no_root. let z = nothing_here (named t) (named_on t) in z.0 ∙ sym z.1;
    file_links = λ t a b h e file.
        let z = nothing_here (named t) (named_on t) in
        let same : b.nlink ≡ a.nlink = ap (λ (x : Attr). x.nlink) (sym (same_Some (g t a) b e)) ∙ nlink t a h in
        let one = z.0 in
        let two = z.1 in
        omega arith;
    alive = λ t a b h e file some. let same : b.nlink ≡ a.nlink = ap (λ (x : Attr). x.nlink) (sym (same_Some (g t a) b e)) ∙ nlink t a h in omega arith;
    sizes = λ t a b h e dir.
        let z = nothing_here (is_entry_in t.oid.0) (entry_on t.oid.0) in
        let same : b.size ≡ a.size = ap (λ (x : Attr). x.size) (sym (same_Some (g t a) b e)) ∙ size t a h dir in
        let one = z.0 in
        let two = z.1 in
        omega arith;
    directories = λ t a b h e dir.
        let one = (nothing_here (directory_in m t.oid.0) (directory_on m t.oid.0)).0 in
        let two = (nothing_here (directory_in n t.oid.0) (directory_on n t.oid.0)).1 in
        let same : b.nlink ≡ a.nlink = ap (λ (x : Attr). x.nlink) (sym (same_Some (g t a) b e)) ∙ nlink t a h in
        omega arith;
    born = λ t b h. absurd h;
    one_born = λ t u a b h g. absurd h;
    moved = λ k s t a b new at h dir e. absurd (not_entry (at_key m k) s t (none_at k new) at);
  })

-- ---- edits of one object's attributes and bytes

-- The edits give an object these attributes, and change besides its bytes alone.
pub record EditsOne (m n : Content) (o : Object) (b : Attr) : Type 0 where
  pub was : HasStat m o.target o.attr
  pub stat : at_key n (stat_rank o.target) ≡ Some (Stat b)
  pub elsewhere : (k : ℕ) → IsElsewhere o.target k → at_key n k ≡ at_key m k
  pub bodies : (x : ℕ) → x < 2 ^ 64 → entry_in (at_key n (byte_rank o.target x)) ≡ None

abbrev pub set_to : Target → Attr → Target → Attr → Attr
set_to t b u a = if is_same_target u t then b else a

-- no entry stands where none may
pub no_entry_at : (limit : ℕ) (m : Content) → HasBodies limit m → (k : ℕ) → (minor_of (key_of_rank k) ≡ 0 → ⊥) → entry_in (at_key m k) ≡ None
no_entry_at limit m h k ne = by_value (at_key m k) refl
  where
    by_value : (v : Option Value) → at_key m k ≡ v → entry_in v ≡ None
    by_value None e = refl
    by_value (Some (Stat a)) e = refl
    by_value (Some (Entry s t)) e = absurd (ne (h.keys k (Entry s t) e))
    by_value (Some (Byte x)) e = refl

pub no_entry_body : (limit : ℕ) (m : Content) → HasBodies limit m → (t : Target) (x : ℕ) → IsObject t → x < 2 ^ 64 → entry_in (at_key m (byte_rank t x)) ≡ None
no_entry_body limit m h t x is lt = no_entry_at limit m h (byte_rank t x) (λ e. let four : (t.locality * 16 + 4) % 16 ≡ 0 = sym (ap minor_of (byte_back t x is lt)) ∙ e in omega arith)

pub no_entry_stat : (limit : ℕ) (m : Content) → HasBodies limit m → (t : Target) → IsObject t → entry_in (at_key m (stat_rank t)) ≡ None
no_entry_stat limit m h t is = no_entry_at limit m h (stat_rank t) (λ e. let one : (t.locality * 16 + 1) % 16 ≡ 0 = sym (ap minor_of (stat_back t is)) ∙ e in omega arith)

module _ (limit : ℕ) (m n : Content) (o : Object) (b : Attr) (objects : HasObjects m) (bodies : HasBodies limit m) (e : EditsOne m n o b) where
  one_object : IsObject o.target
  one_object = e.was.0

  one_entries : (k : ℕ) → entry_in (at_key m k) ≡ entry_in (at_key n k)
  one_entries k = elim (where_is o.target k) [
    | inl is ↦ ap (λ (x : ℕ). entry_in (at_key m x)) is ∙ ap entry_in e.was.1 ∙ sym (ap (λ (x : ℕ). entry_in (at_key n x)) is ∙ ap entry_in e.stat)
    | inr other ↦ elim other [
      | inl (x, lt, is) ↦ ap (λ (y : ℕ). entry_in (at_key m y)) is ∙ no_entry_body limit m bodies o.target x one_object lt ∙ sym (ap (λ (y : ℕ). entry_in (at_key n y)) is ∙ e.bodies x lt)
      | inr off ↦ ap entry_in (sym (e.elsewhere k off))
    ]
  ]

  other_same : (t : Target) → IsObject t → is_same_target t o.target ≡ false → at_key n (stat_rank t) ≡ at_key m (stat_rank t)
  other_same t is other =
      e.elsewhere (stat_rank t) (record { stat = other_stat t o.target is one_object other; bytes = λ x lt same. stat_not_byte t o.target x is one_object lt same })

  one_kept : (t : Target) (a : Attr) → HasStat m t a → HasStat n t (set_to o.target b t a)
  one_kept t a h = (h.0, by_target (is_same_target t o.target) refl)
    where
      by_target : (c : Bool) → is_same_target t o.target ≡ c → at_key n (stat_rank t) ≡ Some (Stat (if c then b else a))
      by_target true same = ap (λ (u : Target). at_key n (stat_rank u)) (told_same t o.target same) ∙ e.stat
      by_target false other = other_same t h.0 other ∙ h.1

  one_from : (t : Target) (c : Attr) → HasStat n t c → (a : Attr) × HasStat m t a × (c ≡ set_to o.target b t a)
  one_from t c h = by_target (is_same_target t o.target) refl
    where
      stat_same : (x y : Attr) → Some (Stat x) ≡ Some (Stat y) → x ≡ y
      stat_same x y e = cc

      by_target : (d : Bool) → is_same_target t o.target ≡ d → (a : Attr) × HasStat m t a × (c ≡ (if d then b else a))
      by_target true same =
          let is = told_same t o.target same in
          (o.attr, subst (λ (u : Target). HasStat m u o.attr) (sym is) e.was, stat_same c b (sym h.1 ∙ ap (λ (u : Target). at_key n (stat_rank u)) is ∙ e.stat))
      by_target false other = (c, (h.0, sym (other_same t h.0 other) ∙ h.1), refl)

  -- what holds of the attributes that were and those that are
  of_attrs : (P : Attr → Attr → Type 0) → P o.attr b → ((a : Attr) → P a a) → (t : Target) (a : Attr) → HasStat m t a → P a (set_to o.target b t a)
  of_attrs P one same t a h = by_target (is_same_target t o.target) refl
    where
      stat_same : (x y : Attr) → Some (Stat x) ≡ Some (Stat y) → x ≡ y
      stat_same x y e = cc

      by_target : (c : Bool) → is_same_target t o.target ≡ c → P a (if c then b else a)
      by_target true is = subst (λ (x : Attr). P x b) (stat_same o.attr a (sym e.was.1 ∙ ap (λ (u : Target). at_key m (stat_rank u)) (sym (told_same t o.target is)) ∙ h.1)) one
      by_target false other = same a

  pub one_lawful : is_directory b ≡ is_directory o.attr → b.nlink ≡ o.attr.nlink → (is_directory o.attr ≡ true → b.size ≡ o.attr.size) → HasObjects n
  one_lawful kind nlink size =
      shape_lawful m n (stat_rank o.target) (byte_rank o.target 0) (set_to o.target b) objects (stat_not_byte o.target o.target 0 one_object one_object (lit< tt))
      (no_entry_stat limit m bodies o.target one_object) (no_entry_body limit m bodies o.target 0 one_object (lit< tt)) one_entries one_kept one_from
      (of_attrs (λ x y. is_directory y ≡ is_directory x) kind (λ x. refl)) (of_attrs (λ x y. y.nlink ≡ x.nlink) nlink (λ x. refl))
      (of_attrs (λ x y. is_directory x ≡ true → y.size ≡ x.size) size (λ x dir. refl))
