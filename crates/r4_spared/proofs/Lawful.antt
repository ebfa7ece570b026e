-- The keys that a command changes are such as items may have, where the objects that were seen have ids from 42 on.
use Rattle.std.specs.Prelude.{◌≡◌, ◌⊎◌, ℕ, ◌+◌, ◌-◌, ◌*◌, ◌^◌, ◌<◌, ◌≤◌, List, length, slice_index}
use Rattle.std.specs.Prelude.{Bool, true, false, ◌||◌, ◌==◌, nat_le, nat_lt, Some, if◌then◌else◌}
use Rattle.std.specs.FinMap.{find}
use Rattle.std.specs.Ordering.{nat_cmp}
use Rattle.std.proofs.Common.{arith, inl, inr, refl, sym, ap, subst, ◌∙◌}
use Rattle.std.proofs.lemmas.Grind.{common_steps}
use Rattle.r4_base.specs.Key.{IsKey, least, rank, top}
use Rattle.r4_base.specs.Name.{key_of_name}
use Rattle.r4_base.specs.Value.{Stat}
use Rattle.r4_base.specs.Volume.{IsObject, byte_rank, stat_rank}
use Rattle.r4_base.specs.declared.items.Attr.{Attr}
use Rattle.r4_base.specs.declared.items.Target.{Target}
use Rattle.r4_base.specs.declared.key.Key.{Key}
use Rattle.r4_base.specs.declared.things.Oid.{Oid}
use Rattle.r4_content.specs.Bodies.{larger, truncated, written}
use Rattle.r4_content.specs.Course.{asked}
use Rattle.r4_content.specs.Edited.{Edits, Pairs, and_also, changed, is_between, is_in, no_edits, put_keys}
use Rattle.r4_content.specs.Entries.{is_no_id, linked, moved, name_in, set_parents, unname_in, without}
use Rattle.r4_content.specs.Fields.{HasBytePaths}
use Rattle.r4_content.specs.Meaning.{course, greatest_size}
use Rattle.r4_content.specs.Objects.{Object, cut_body, cut_key, entry_less, entry_more, entry_rank, is_dir, is_same}
use Rattle.r4_content.specs.Objects.{link_less}
use Rattle.r4_content.specs.Objects.{made_in, set_attr, set_body, set_entry, sized, unnamed, zero_body}
use Rattle.r4_content.specs.Seen.{of_seen}
use Rattle.r4_content.specs.declared.command.Command.{Command}
use Rattle.r4_content.proofs.EditLaws.{in_append, in_changed}
use Rattle.r4_content.proofs.Found.{small_object}
use Rattle.r4_content.proofs.Ranks.{byte_after, first_of_name, in_body, name_fits, stat_fits}
use Rattle.r4_build.proofs.r4_leaf_edits.Puts.{in_both}
use Rattle.r4_build.specs.r4_reach.Touched.{edits_on}
use Rattle.r4_suited.specs.Suited.{AreLawfulSeen}
use Rattle.r4_suited.proofs.Few.{IsName}
use Rattle.r4_suited.proofs.Walked.{HoldsOfEdits, IsMet, edits_hold, made_object}
use Rattle.r4_build.specs.Building.{HaveLawfulKeys}
use Rattle.r4_spared.specs.Spared.{AreObjectsSeen}
use Rattle.r4_spared.proofs.Charges.{run_keys}

-- a key that an item may have
abbrev IsLawful : ℕ → Type 0
IsLawful k = (least ≤ k) × (k < top)

-- ---- keys

below_top : (k : Key) → IsKey k → slice_index k.el 0 < 2 ^ 64 - 1 → rank k < top
unfolding rank top
below_top k h low =
    let b = h.small 1 in
    let c = h.small 2 in
    let d = h.small 3 in
    omega (arith, low, b, c, d)

from_least : (k : Key) → 658 ≤ slice_index k.el 0 → least ≤ rank k
unfolding rank least
from_least k h = omega (arith, h)

-- what is known of an object: its stat key is lawful, and its number is below 2^60
record IsGood (t : Target) : Type 0 where
  object : IsObject t
  low : least ≤ stat_rank t

stat_top : (t : Target) → IsObject t → stat_rank t < top
stat_top t is = let small = is.0 in below_top _ (stat_fits t is) (omega (arith, small))

stat_lawful : (t : Target) → IsGood t → IsLawful (stat_rank t)
stat_lawful t h = (h.low, stat_top t h.object)

body_is : (t : Target) (x : ℕ) → byte_rank t x ≡ stat_rank t + 3 * 2 ^ 192 + x
unfolding rank
body_is t x = omega arith

byte_lawful : (t : Target) (x : ℕ) → IsGood t → x < 2 ^ 64 → IsLawful (byte_rank t x)
unfolding rank top
byte_lawful t x h low =
    let is = body_is t x in
    let from = h.low in
    let a = h.object.0 in
    let b = h.object.1 in
    let c = h.object.2 in
    (omega (arith, is, from), omega (arith, a, b, c, low))

entry_lawful : (d : Target) (n : List ℕ) → 42 ≤ d.oid.0 → d.oid.0 < 2 ^ 60 → IsName n → IsLawful (entry_rank d n)
entry_lawful d n id small name =
    let first = first_of_name d.oid.0 n in (
      from_least (key_of_name d.oid.0 n) (omega (arith, first, id)),
      below_top (key_of_name d.oid.0 n) (name_fits d n small name.0) (omega (arith, first, small)),
    )

-- ---- edits

P : Edits → Type 0
P e = (k : ℕ) → is_in (changed e) k ≡ true → IsLawful k

none_lawful : P no_edits
unfolding P
none_lawful k on = absurd cc

both_lawful : (e f : Edits) → P e → P f → P (and_also e f)
unfolding P
both_lawful e f h g k on =
    let puts = in_both e.puts f.puts k in
    let zeros = in_append e.zeros f.zeros k in
    let cuts = in_append e.cuts f.cuts k in
    let own = in_changed e k in
    let other = in_changed f k in
    elim (either (is_in (put_keys e.puts) k) (is_in (put_keys f.puts) k) (is_in e.zeros k) (is_in f.zeros k)
    (is_in e.cuts k) (is_in f.cuts k)
    (sym (in_changed (and_also e f) k ∙ (λ i. puts i || (zeros i || cuts i))) ∙ on)) [
      | inl a ↦ h k (own ∙ a)
      | inr b ↦ g k (other ∙ b)
    ]
  where
    either : (a b c d x y : Bool) → ((a || b) || ((c || d) || (x || y))) ≡ true
        → ((a || (c || x)) ≡ true) ⊎ ((b || (d || y)) ≡ true)
    either true b c d x y h = inl refl
    either false true c d x y h = inr refl
    either false false true d x y h = inl refl
    either false false false true x y h = inr refl
    either false false false false true y h = inl refl
    either false false false false false true h = inr refl
    either false false false false false false h = absurd cc

-- one key
one_lawful : (r : ℕ) → IsLawful r → (k : ℕ) → (is_between r (r + 1) k || false) ≡ true → IsLawful k
one_lawful r h k on = let same : k ≡ r = is_one r k on in subst IsLawful (sym same) h
  where
    is_one : (r k : ℕ) → (is_between r (r + 1) k || false) ≡ true → k ≡ r
    is_one r k on = grind (arith, common_steps, on)

attr_lawful : (o : Object) (a : Attr) → IsGood o.target → P (set_attr o a)
unfolding P
attr_lawful o a h k on = one_lawful (stat_rank o.target) (stat_lawful o.target h) k on

name_lawful : (d : Object) (n : List ℕ) (t : Target) → 42 ≤ d.target.oid.0 → d.target.oid.0 < 2 ^ 60 → IsName n
    → P (set_entry d n t)
unfolding P
name_lawful d n t id small name k on = one_lawful (entry_rank d.target n) (entry_lawful d.target n id small name) k on

key_lawful : (r : ℕ) → IsLawful r → P (cut_key r)
unfolding P
key_lawful r h k on = one_lawful r h k on

-- bytes of a body
range_lawful : (t : Target) (from to : ℕ) → IsGood t → to ≤ 2 ^ 64 → (k : ℕ)
    → (is_between (byte_rank t from) (byte_rank t to) k || false) ≡ true → IsLawful k
range_lawful t from to h le k on =
    let (x, is, low, high) = in_body t from to k (first_only (is_between (byte_rank t from) (byte_rank t to) k) on) in
    subst IsLawful (sym is) (byte_lawful t x h (omega (arith, high, le)))
  where
    first_only : (v : Bool) → (v || false) ≡ true → v ≡ true
    first_only true g = refl
    first_only false g = absurd cc

cut_lawful : (o : Object) (from to : ℕ) → IsGood o.target → to ≤ 2 ^ 64 → P (cut_body o from to)
unfolding P
cut_lawful o from to h le k on = range_lawful o.target from to h le k on

zero_lawful : (o : Object) (from to : ℕ) → IsGood o.target → to ≤ 2 ^ 64 → P (zero_body o from to)
unfolding P
zero_lawful o from to h le k on = range_lawful o.target from to h le k on

bytes_lawful : (o : Object) (from : ℕ) (xs : List ℕ) → IsGood o.target → from + length xs ≤ 2 ^ 64
    → P (set_body o from xs)
unfolding P
bytes_lawful o from xs h le k on =
    let keys = run_keys (byte_rank o.target from) xs k in
    let end = byte_after o.target from (length xs) in
    range_lawful o.target from (from + length xs) h le k
    (sym ((λ i. keys i || false) ∙ ap (λ (j : ℕ). is_between (byte_rank o.target from) j k || false) (sym end))
    ∙ (sym (in_changed (set_body o from xs) k) ∙ on))

if_lawful : (v : Bool) (e f : Edits) → P e → P f → P (if v then e else f)
unfolding P
if_lawful true e f h g = h
if_lawful false e f h g = g

-- ---- those of commands

module _ (s : Pairs) (S : ℕ → Type 0)
    (objects : (o : Target) (a : Attr) → IsObject o → S (stat_rank o) → find nat_cmp (stat_rank o) s ≡ Some (Stat a)
    → (least ≤ stat_rank o) × (42 ≤ o.oid.0) × (a.size < 2 ^ 64)) where
  known : (o : Object) → IsMet s S o → (least ≤ stat_rank o.target) × (42 ≤ o.target.oid.0) × (o.attr.size < 2 ^ 64)
  known o m = objects o.target o.attr m.here.object m.among m.here.found

  good_met : (o : Object) → IsMet s S o → IsGood o.target
  good_met o m = record { object = m.here.object; low = (known o m).0 }

  id_met : (o : Object) → IsMet s S o → 42 ≤ o.target.oid.0
  id_met o m = (known o m).1

  small_met : (o : Object) → IsMet s S o → o.target.oid.0 < 2 ^ 60
  small_met o m = (small_object o.target m.here.may).1

  size_met : (o : Object) → IsMet s S o → o.attr.size < 2 ^ 64
  size_met o m = (known o m).2

  named_lawful : (dir : Object) (n : List ℕ) (o : Object) → IsMet s S dir → IsName n → IsGood o.target
      → P (name_in dir n o)
  named_lawful dir n o m name good =
      both_lawful (set_entry dir n o.target)
      (and_also (set_attr o o.attr) (set_attr dir (entry_more (is_dir o) dir.attr)))
      (name_lawful dir n o.target (id_met dir m) (small_met dir m) name)
      (both_lawful (set_attr o o.attr) (set_attr dir (entry_more (is_dir o) dir.attr)) (attr_lawful o o.attr good)
      (attr_lawful dir (entry_more (is_dir o) dir.attr) (good_met dir m)))

  new_good : (dir : Object) (n : List ℕ) (oid : Oid) (a : Attr) → IsMet s S dir → IsName n → is_no_id oid ≡ false
      → IsGood (made_in dir n oid a).target
  new_good dir n oid a m name e =
      let id = id_met dir m in
      record {
        object = made_object s dir n oid a m.here name e;
        low = from_least _ (omega (arith, id));
      }

  gone_lawful : (o : Object) → IsMet s S o → P (unnamed o)
  gone_lawful o m =
      let good = good_met o m in
      let size = size_met o m in
      if_lawful (is_dir o) (cut_key (stat_rank o.target)) _
      (key_lawful (stat_rank o.target) (stat_lawful o.target good))
      (if_lawful (nat_le o.attr.nlink 1) _ (set_attr o (link_less o.attr))
      (both_lawful (cut_key (stat_rank o.target)) (cut_body o 0 o.attr.size)
      (key_lawful (stat_rank o.target) (stat_lawful o.target good))
      (cut_lawful o 0 o.attr.size good (omega (arith, size))))
      (attr_lawful o (link_less o.attr) good))

  unnamed_lawful : (dir : Object) (n : List ℕ) (o : Object) → IsMet s S dir → IsName n → IsMet s S o
      → P (unname_in dir n o)
  unnamed_lawful dir n o m name mo =
      both_lawful (cut_key (entry_rank dir.target n))
      (and_also (set_attr dir (entry_less (is_dir o) dir.attr)) (unnamed o))
      (key_lawful (entry_rank dir.target n) (entry_lawful dir.target n (id_met dir m) (small_met dir m) name))
      (both_lawful (set_attr dir (entry_less (is_dir o) dir.attr)) (unnamed o)
      (attr_lawful dir (entry_less (is_dir o) dir.attr) (good_met dir m)) (gone_lawful o mo))

  parents_lawful : (from to : Object) (d : Bool) → IsGood from.target → IsGood to.target → P (set_parents from to d)
  parents_lawful from to d h g = if_lawful (is_same from to) _ _
      (attr_lawful to (entry_more d (entry_less d to.attr)) g)
      (both_lawful (set_attr from (entry_less d from.attr)) (set_attr to (entry_more d to.attr))
      (attr_lawful from (entry_less d from.attr) h) (attr_lawful to (entry_more d to.attr) g))

  -- the directory that an object comes to, by its target alone
  moved_lawful : (dir : Object) (n : List ℕ) (o new_dir : Object) (new_name : List ℕ) → IsMet s S dir → IsName n
      → IsGood new_dir.target → 42 ≤ new_dir.target.oid.0 → new_dir.target.oid.0 < 2 ^ 60 → IsName new_name
      → P (moved dir n o new_dir new_name)
  moved_lawful dir n o new_dir new_name m name good id small new =
      both_lawful (cut_key (entry_rank dir.target n))
      (and_also (set_entry new_dir new_name o.target) (set_parents dir new_dir (is_dir o)))
      (key_lawful (entry_rank dir.target n) (entry_lawful dir.target n (id_met dir m) (small_met dir m) name))
      (both_lawful (set_entry new_dir new_name o.target) (set_parents dir new_dir (is_dir o))
      (name_lawful new_dir new_name o.target id small new)
      (parents_lawful dir new_dir (is_dir o) (good_met dir m) good))

  written_lawful : (o : Object) (from : ℕ) (xs : List ℕ) → IsMet s S o → from + length xs ≤ greatest_size
      → P (written o from xs)
  written_lawful o from xs m fits =
      let n = larger o.attr.size (from + length xs) in
      let good = good_met o m in
      let gap = if_lawful (nat_lt o.attr.size from) (zero_body o o.attr.size from) no_edits
      (zero_lawful o o.attr.size from good (omega (arith, fits))) none_lawful in
      let size = if_lawful (o.attr.size == n) no_edits (set_attr o (sized o.attr n)) none_lawful
      (attr_lawful o (sized o.attr n) good) in
      both_lawful _ _ gap (both_lawful (set_body o from xs) _ (bytes_lawful o from xs good (omega (arith, fits))) size)

  sized_lawful : (o : Object) (n : ℕ) → IsMet s S o → n ≤ greatest_size → P (truncated o n)
  sized_lawful o n m fits =
      let good = good_met o m in
      let old = size_met o m in
      let gap = if_lawful (nat_lt o.attr.size n) (zero_body o o.attr.size n) no_edits
      (zero_lawful o o.attr.size n good (omega (arith, fits))) none_lawful in
      let size = if_lawful (o.attr.size == n) no_edits (set_attr o (sized o.attr n)) none_lawful
      (attr_lawful o (sized o.attr n) good) in
      both_lawful _ _
      (if_lawful (nat_lt n o.attr.size) (cut_body o n o.attr.size) _
      (cut_lawful o n o.attr.size good (omega (arith, old))) gap) size

  all_lawful : HoldsOfEdits s S HaveLawfulKeys
  unfolding P
  all_lawful = record {
    none = none_lawful;
    made = λ dir n oid a m name kind e. named_lawful dir n (made_in dir n oid a) m name (new_good dir n oid a m name e);
    linked = λ dir n o m name mo. named_lawful dir n (linked o) m name (good_met o mo);
    attrs = λ o a m kind. attr_lawful o a (good_met o m);
    writes = λ e w at. subst HaveLawfulKeys (sym w.is)
        (written_lawful w.file w.from w.bytes (record { here = w.here; among = at }) w.fits);
    resizes = λ e w at. subst HaveLawfulKeys (sym w.is)
        (sized_lawful w.file w.size (record { here = w.here; among = at }) w.fits);
    unnamed = λ dir n o m name mo. unnamed_lawful dir n o m name mo;
    moved = λ dir n o new_dir new_name m name mn new.
        moved_lawful dir n o new_dir new_name m name (good_met new_dir mn) (id_met new_dir mn)
        (small_met new_dir mn) new;
    onto = λ dir n o new_dir new_name old m name mn mo new. both_lawful (unnamed old) _ (gone_lawful old mo)
        (moved_lawful dir n o (without new_dir old) new_name m name (good_met new_dir mn) (id_met new_dir mn)
        (small_met new_dir mn) new);
  }

pub keys_lawful : (c : Command) (s : Pairs) → HasBytePaths c → AreLawfulSeen c s → AreObjectsSeen c s
    → HaveLawfulKeys (edits_on c s)
keys_lawful c s bytes lawful objects =
    edits_hold c s HaveLawfulKeys
    (all_lawful s (λ k. is_in (asked (course greatest_size c) (of_seen s)) k ≡ true)
    (λ o a is at found. objects o a is at found))
    lawful bytes
