-- Commands by which an object loses a name: the objects of a lawful content stay lawful.
use Rattle.std.specs.Prelude.{◌≡◌, ◌≢◌, ◌⊎◌, ℕ, zero, suc, ◌+◌, ◌-◌, ◌^◌, ◌<◌, ◌≤◌, List, Bool, true, false, ◌&&◌, ◌==◌, cond, nat_le, nat_lt, All, Option, Some, None, if◌then◌else◌}
use Rattle.std.proofs.Common.{arith, inl, inr, refl, sym, ap, subst, ◌∙◌}
use Rattle.std.proofs.lemmas.Bool.{and_from, eq-eqb, eqb-true, le-leb, leb-true, lt-ltb, ne_eqb, or_left}
use Rattle.std.proofs.lemmas.Grind.{common_steps}
use Rattle.std.proofs.lemmas.Option.{same_Some}
use Rattle.r4_base.specs.Key.{key_of_rank}
use Rattle.r4_base.specs.Name.{dir_of_key}
use Rattle.r4_base.specs.Value.{Value, Stat, Entry, Byte, Content, at_key}
use Rattle.r4_base.specs.Volume.{HasObjects, HasStat, IsObject, IsReached, byte_rank, entries_in, is_directory, is_directory_value, is_entry_in, links_to, names_directory, names_object, root_object, stat_rank}
use Rattle.r4_base.specs.declared.items.Attr.{Attr}
use Rattle.r4_base.specs.declared.items.Target.{Target}
use Rattle.r4_base.specs.declared.things.Oid.{Oid}
use Rattle.r4_content.specs.Edited.{Edits, and_also, edited, is_between, is_in}
use Rattle.r4_content.specs.Entries.{unname_in}
use Rattle.r4_content.specs.Lawful.{HasBodies}
use Rattle.r4_content.specs.Objects.{Object, cut_body, cut_key, entry_less, entry_rank, is_dir, is_same_target, link_less, set_attr, unnamed}
use Rattle.r4_content.specs.Ways.{Named, entry_in}
use Rattle.r4_content.proofs.Counting.{count, here, here_no, here_yes, not_same, once, one_there}
use Rattle.r4_content.proofs.CourseLaws.{at_itself}
use Rattle.r4_content.proofs.EditLaws.{at_edited, edited_off}
use Rattle.r4_content.proofs.EditParts.{IsOff, edited_first, edited_second, is_off, off_both, true_not_false}
use Rattle.r4_content.proofs.FileEdits.{IsElsewhere, off_attr, off_cuts, other_stat, put_itself}
use Rattle.r4_content.proofs.Gaining.{stat_same}
use Rattle.r4_content.proofs.Keeping.{IsKeptFile, PlainFit, bodies_kept, plain_fits, stat_fit}
use Rattle.r4_content.proofs.Naming.{off_key}
use Rattle.r4_content.proofs.OneObject.{NoEntries, none_edited}
use Rattle.r4_content.proofs.Ranks.{byte_after, same_bytes, entry_not_byte, entry_not_stat, same_itself, same_stat, stat_not_byte, told_same}
use Rattle.r4_content.proofs.Rewired.{OnEntries, both_here, directory_in, directory_on, entry_on, here_empty, named, named_on, names_itself, names_other, not_entry, rewired_lawful}
use Rattle.r4_content.proofs.Shapes.{entry_dir, no_entry_body, where_is}

-- ---- what is left of an object after an entry of it went

abbrev pub rest_of : Object → Option Attr
rest_of o = if is_dir o then None else if nat_le o.attr.nlink 1 then None else Some (link_less o.attr)

abbrev pub stat_value : Option Attr → Option Value
stat_value None = None
stat_value (Some a) = Some (Stat a)

pub cut_itself : (m : Content) (k : ℕ) → at_key (edited (cut_key k) m) k ≡ None
cut_itself m k = at_edited (cut_key k) m k ∙ ap (λ (b : Bool). cond b None (at_key m k)) (or_left (is_between k (k + 1) k) false (at_itself k))

pub off_unnamed : (o : Object) (k : ℕ) → o.attr.size ≤ 2 ^ 64 → k ≢ stat_rank o.target → ((x : ℕ) → x < 2 ^ 64 → k ≢ byte_rank o.target x) → IsOff (unnamed o) k
off_unnamed o k size one two = by_kind (is_dir o) (nat_le o.attr.nlink 1)
  where
    by_kind : (d b : Bool) → IsOff (if d then cut_key (stat_rank o.target) else if b then and_also (cut_key (stat_rank o.target)) (cut_body o 0 o.attr.size) else set_attr o (link_less o.attr)) k
    by_kind true b = off_key (stat_rank o.target) k one
    by_kind false true = off_both (cut_key (stat_rank o.target)) (cut_body o 0 o.attr.size) k (off_key (stat_rank o.target) k one) (off_cuts o 0 o.attr.size k size two)
    by_kind false false = off_attr o (link_less o.attr) k one

pub unnamed_stat : (m : Content) (o : Object) → IsObject o.target → o.attr.size ≤ 2 ^ 64 → at_key (edited (unnamed o) m) (stat_rank o.target) ≡ stat_value (rest_of o)
unnamed_stat m o object size = by_kind (is_dir o) (nat_le o.attr.nlink 1)
  where
    by_kind : (d b : Bool) → at_key (edited (if d then cut_key (stat_rank o.target) else if b then and_also (cut_key (stat_rank o.target)) (cut_body o 0 o.attr.size) else set_attr o (link_less o.attr)) m) (stat_rank o.target)
        ≡ stat_value (if d then None else if b then None else Some (link_less o.attr))
    by_kind true b = cut_itself m (stat_rank o.target)
    by_kind false true =
        edited_first (cut_key (stat_rank o.target)) (cut_body o 0 o.attr.size) m (stat_rank o.target)
        (off_cuts o 0 o.attr.size (stat_rank o.target) size (λ x lt. stat_not_byte o.target o.target x object object lt)) ∙ cut_itself m (stat_rank o.target)
    by_kind false false = put_itself m (stat_rank o.target) (Stat (link_less o.attr))

pub unnamed_no_entries : (o : Object) → NoEntries (unnamed o).puts
unnamed_no_entries o = by_kind (is_dir o) (nat_le o.attr.nlink 1)
  where
    by_kind : (d b : Bool) → NoEntries (if d then cut_key (stat_rank o.target) else if b then and_also (cut_key (stat_rank o.target)) (cut_body o 0 o.attr.size) else set_attr o (link_less o.attr)).puts
    by_kind true b = tt
    by_kind false true = tt
    by_kind false false = (refl, tt)

-- ---- the bytes of an object after an entry of it went

-- they stay, or they go
pub unnamed_body : (m : Content) (o : Object) (x : ℕ) → IsObject o.target → x < 2 ^ 64
    → (at_key (edited (unnamed o) m) (byte_rank o.target x) ≡ at_key m (byte_rank o.target x)) ⊎ (at_key (edited (unnamed o) m) (byte_rank o.target x) ≡ None)
unnamed_body m o x is lt = by_kind (is_dir o) (nat_le o.attr.nlink 1)
  where
    not_stat : byte_rank o.target x ≢ stat_rank o.target
    not_stat e = stat_not_byte o.target o.target x is is lt (sym e)

    by_between : (b : Bool) → (cond b None (at_key m (byte_rank o.target x)) ≡ at_key m (byte_rank o.target x)) ⊎ (cond b None (at_key m (byte_rank o.target x)) ≡ None)
    by_between true = inr refl
    by_between false = inl refl

    by_kind : (d b : Bool)
        → (at_key (edited (if d then cut_key (stat_rank o.target) else if b then and_also (cut_key (stat_rank o.target)) (cut_body o 0 o.attr.size) else set_attr o (link_less o.attr)) m) (byte_rank o.target x) ≡ at_key m (byte_rank o.target x))
        ⊎ (at_key (edited (if d then cut_key (stat_rank o.target) else if b then and_also (cut_key (stat_rank o.target)) (cut_body o 0 o.attr.size) else set_attr o (link_less o.attr)) m) (byte_rank o.target x) ≡ None)
    by_kind true b = inl (edited_off (cut_key (stat_rank o.target)) m (byte_rank o.target x) (is_off (cut_key (stat_rank o.target)) (byte_rank o.target x) (off_key (stat_rank o.target) (byte_rank o.target x) not_stat)))
    by_kind false true =
        let cut = edited_second (cut_key (stat_rank o.target)) (cut_body o 0 o.attr.size) m (byte_rank o.target x) (off_key (stat_rank o.target) (byte_rank o.target x) not_stat) ∙ at_edited (cut_body o 0 o.attr.size) m (byte_rank o.target x) in
        elim (by_between (is_in (cut_body o 0 o.attr.size).cuts (byte_rank o.target x))) [ inl e ↦ inl (cut ∙ e) | inr e ↦ inr (cut ∙ e) ]
    by_kind false false = inl (edited_off (set_attr o (link_less o.attr)) m (byte_rank o.target x) (is_off (set_attr o (link_less o.attr)) (byte_rank o.target x) (off_attr o (link_less o.attr) (byte_rank o.target x) not_stat)))

-- with a file they go
pub unnamed_gone : (m : Content) (o : Object) (x : ℕ) → IsObject o.target → x < 2 ^ 64 → x < o.attr.size → rest_of o ≡ None → is_dir o ≡ false → at_key (edited (unnamed o) m) (byte_rank o.target x) ≡ None
unnamed_gone m o x is lt below gone file = by_kind (is_dir o) (nat_le o.attr.nlink 1) gone file
  where
    inside : is_between (byte_rank o.target 0) (byte_rank o.target o.attr.size) (byte_rank o.target x) ≡ true
    inside =
        let a : byte_rank o.target (0 + x) ≡ byte_rank o.target 0 + x = byte_after o.target 0 x in
        let b : byte_rank o.target (0 + x) ≡ byte_rank o.target x = ap (byte_rank o.target) (omega arith) in
        let c : byte_rank o.target (0 + o.attr.size) ≡ byte_rank o.target 0 + o.attr.size = byte_after o.target 0 o.attr.size in
        let d : byte_rank o.target (0 + o.attr.size) ≡ byte_rank o.target o.attr.size = ap (byte_rank o.target) (omega arith) in
        and_from (nat_le (byte_rank o.target 0) (byte_rank o.target x)) (nat_lt (byte_rank o.target x) (byte_rank o.target o.attr.size)) (le-leb _ _ (omega arith)) (lt-ltb _ _ (omega arith))

    by_kind : (d b : Bool) → (if d then None else if b then None else Some (link_less o.attr)) ≡ None → d ≡ false
        → at_key (edited (if d then cut_key (stat_rank o.target) else if b then and_also (cut_key (stat_rank o.target)) (cut_body o 0 o.attr.size) else set_attr o (link_less o.attr)) m) (byte_rank o.target x) ≡ None
    by_kind true b e f = absurd (true_not_false f)
    by_kind false true e f =
        edited_second (cut_key (stat_rank o.target)) (cut_body o 0 o.attr.size) m (byte_rank o.target x)
        (off_key (stat_rank o.target) (byte_rank o.target x) (λ s. stat_not_byte o.target o.target x is is lt (sym s)))
        ∙ at_edited (cut_body o 0 o.attr.size) m (byte_rank o.target x)
        ∙ ap (λ (b : Bool). cond b None (at_key m (byte_rank o.target x))) (or_left (is_between (byte_rank o.target 0) (byte_rank o.target o.attr.size) (byte_rank o.target x)) false inside)
    by_kind false false e f = absurd cc

-- with a file that stays they stay
pub unnamed_kept : (m : Content) (o : Object) (x : ℕ) (b : Attr) → IsObject o.target → x < 2 ^ 64 → rest_of o ≡ Some b → at_key (edited (unnamed o) m) (byte_rank o.target x) ≡ at_key m (byte_rank o.target x)
unnamed_kept m o x b is lt left = by_kind (is_dir o) (nat_le o.attr.nlink 1) left
  where
    by_kind : (d c : Bool) → (if d then None else if c then None else Some (link_less o.attr)) ≡ Some b
        → at_key (edited (if d then cut_key (stat_rank o.target) else if c then and_also (cut_key (stat_rank o.target)) (cut_body o 0 o.attr.size) else set_attr o (link_less o.attr)) m) (byte_rank o.target x) ≡ at_key m (byte_rank o.target x)
    by_kind true c e = absurd cc
    by_kind false true e = absurd cc
    by_kind false false e =
        edited_off (set_attr o (link_less o.attr)) m (byte_rank o.target x)
        (is_off (set_attr o (link_less o.attr)) (byte_rank o.target x) (off_attr o (link_less o.attr) (byte_rank o.target x) (λ s. stat_not_byte o.target o.target x is is lt (sym s))))

-- ---- numbers of a directory

pub less_kind : (d : Bool) (a : Attr) → is_directory (entry_less d a) ≡ is_directory a
less_kind true a = refl
less_kind false a = refl

pub less_size : (d : Bool) (a : Attr) → (entry_less d a).size ≡ a.size - 1
less_size true a = refl
less_size false a = refl

pub less_links : (d : Bool) (a : Attr) → (entry_less d a).nlink ≡ (if d then a.nlink - 1 else a.nlink)
less_links true a = refl
less_links false a = refl

-- ---- what is left of the object, by its kind

pub rest_file : (o : Object) (b : Attr) → rest_of o ≡ Some b → (is_dir o ≡ false) × (2 ≤ o.attr.nlink) × (b ≡ link_less o.attr)
rest_file o b e = by_kind (is_dir o) (nat_le o.attr.nlink 1) refl e
  where
    more : (n : ℕ) → nat_le n 1 ≡ false → 2 ≤ n
    more n h = grind (arith, common_steps)

    by_kind : (d c : Bool) → nat_le o.attr.nlink 1 ≡ c → (if d then None else if c then None else Some (link_less o.attr)) ≡ Some b → (d ≡ false) × (2 ≤ o.attr.nlink) × (b ≡ link_less o.attr)
    by_kind true c h is = absurd cc
    by_kind false true h is = absurd cc
    by_kind false false h is = (refl, more o.attr.nlink h, sym (same_Some (link_less o.attr) b is))

pub rest_none : (o : Object) → rest_of o ≡ None → (is_dir o ≡ true) ⊎ ((is_dir o ≡ false) × (o.attr.nlink ≤ 1))
rest_none o e = by_kind (is_dir o) (nat_le o.attr.nlink 1) refl e
  where
    by_kind : (d c : Bool) → nat_le o.attr.nlink 1 ≡ c → (if d then None else if c then None else Some (link_less o.attr)) ≡ None → (d ≡ true) ⊎ ((d ≡ false) × (o.attr.nlink ≤ 1))
    by_kind true c h is = inl refl
    by_kind false true h is = inr (refl, leb-true _ _ h)
    by_kind false false h is = absurd cc

-- ---- facts of a lawful content

module _ (m : Content) (lawful : HasObjects m) where
  pub named_no_root : (k : ℕ) (s : List ℕ) (t : Target) → at_key m k ≡ Some (Entry s t) → t ≢ root_object
  named_no_root k s t at e =
      let some = one_there (named t) m k (Entry s t) at (names_itself t s) in
      let none : links_to m t ≡ 0 = ap (links_to m) e ∙ lawful.root_unnamed in
      absurd (omega arith)

  -- an object that goes with an entry has no other
  pub named_once_gone : (o : Object) (i j : ℕ) (s u : List ℕ) → HasStat m o.target o.attr → rest_of o ≡ None → at_key m i ≡ Some (Entry s o.target) → at_key m j ≡ Some (Entry u o.target) → i ≡ j
  named_once_gone o i j s u there gone a b =
      once (named o.target) m i j (Entry s o.target) (Entry u o.target) few a (names_itself o.target s) b (names_itself o.target u)
    where
      few : links_to m o.target ≤ 1
      few = elim (rest_none o gone) [
        | inl dir ↦ let one = lawful.named_once o.target o.attr there dir (named_no_root i s o.target a) in omega arith
        | inr (file, le) ↦ let links = lawful.files o.target o.attr there file in omega arith
      ]

  pub stat_one : (t u : Target) (a b : Attr) → HasStat m t a → HasStat m u b → t ≡ u → a ≡ b
  stat_one t u a b h g e = stat_same a b (sym h.1 ∙ ap (λ (x : Target). at_key m (stat_rank x)) e ∙ g.1)

  same_oid : (a b : Oid) → a.0 ≡ b.0 → a ≡ b
  same_oid a b e i = record { 0 = e i }

  pub one_target : (t u : Target) (a b : Attr) → HasStat m t a → HasStat m u b → t.oid.0 ≡ u.oid.0 → t ≡ u
  one_target t u a b h g e = lawful.one_id t u a b h g (same_oid t.oid u.oid e)

  pub reached_object : (steps : ℕ) (t : Target) → IsReached m steps t → (a : Attr) × HasStat m t a
  reached_object zero t is = let (a, h, dir) = lawful.root in (a, subst (λ (p : Target). HasStat m p a) (sym is) h)
  reached_object (suc steps) t (p, is, (k, s, at, in_p)) = lawful.target k s t at

  -- no directory is in itself
  pub not_in_itself : (steps : ℕ) (t : Target) (a : Attr) (k : ℕ) (s : List ℕ) → HasStat m t a → is_directory a ≡ true → at_key m k ≡ Some (Entry s t) → dir_of_key (key_of_rank k) ≡ t.oid.0 → IsReached m steps t → ⊥
  not_in_itself zero t a k s there dir at in_t is = named_no_root k s t at is
  not_in_itself (suc steps) t a k s there dir at in_t (p, is, (j, u, also, in_p)) =
      let one = lawful.named_once t a there dir (named_no_root k s t at) in
      let same = once (named t) m j k (Entry u t) (Entry s t) (omega arith) also (names_itself t u) at (names_itself t s) in
      let (b, h) = reached_object steps p is in
      let here_too : p ≡ t = one_target p t b a h there (sym in_p ∙ ap (λ (x : ℕ). dir_of_key (key_of_rank x)) same ∙ in_t) in
      not_in_itself steps t a k s there dir at in_t (subst (λ (x : Target). IsReached m steps x) here_too is)

-- An object loses a name: it is there, under that name, and if it is a directory it is empty.
pub record Loses (m : Content) (dir o : Object) (n : List ℕ) : Type 0 where
  pub dir_stat : HasStat m dir.target dir.attr
  pub dir_is : is_directory dir.attr ≡ true
  pub stat : HasStat m o.target o.attr
  pub small : dir.target.oid.0 < 2 ^ 60
  pub bytes : All (λ x. x < 256) n
  pub entry : at_key m (entry_rank dir.target n) ≡ Some (Entry n o.target)
  pub size : o.attr.size ≤ 2 ^ 64
  pub empty : is_dir o ≡ true → entries_in m o.target ≡ 0

module _ (limit : ℕ) (m : Content) (dir o : Object) (n : List ℕ) (lawful : HasObjects m) (bodies : HasBodies limit m) (h : Loses m dir o n) where
  abbrev pub after : Content
  after = edited (unname_in dir n o) m

  abbrev pub key : ℕ
  key = entry_rank dir.target n

  abbrev set_dir : Edits
  set_dir = set_attr dir (entry_less (is_dir o) dir.attr)

  key_dir : dir_of_key (key_of_rank key) ≡ dir.target.oid.0
  key_dir = (entry_dir dir.target n h.small h.bytes).0

  -- the directory is another object
  pub dir_other : dir.target ≢ o.target
  dir_other e = by_kind (is_dir o) refl
    where
      by_kind : (b : Bool) → is_dir o ≡ b → ⊥
      by_kind true is =
          let (steps, reached) = lawful.reached o.target o.attr h.stat in
          not_in_itself m lawful steps o.target o.attr key n h.stat is h.entry (key_dir ∙ ap (λ (x : Target). x.oid.0) e) reached
      by_kind false file = true_not_false (sym h.dir_is ∙ ap is_directory (stat_one m lawful dir.target o.target dir.attr o.attr h.dir_stat h.stat e) ∙ file)

  unlike : stat_rank dir.target ≢ stat_rank o.target
  unlike e = dir_other (same_stat dir.target o.target h.dir_stat.0 h.stat.0 e)

  pub off : (k : ℕ) → k ≢ key → k ≢ stat_rank dir.target → IsElsewhere o.target k → at_key after k ≡ at_key m k
  off k one two elsewhere =
      edited_off (unname_in dir n o) m k (is_off (unname_in dir n o) k (off_both (cut_key key) (and_also set_dir (unnamed o)) k (off_key key k one)
      (off_both set_dir (unnamed o) k (off_attr dir (entry_less (is_dir o) dir.attr) k two) (off_unnamed o k h.size elsewhere.stat elsewhere.bytes))))

  pub entry_now : at_key after key ≡ None
  entry_now =
      edited_first (cut_key key) (and_also set_dir (unnamed o)) m key
      (off_both set_dir (unnamed o) key (off_attr dir (entry_less (is_dir o) dir.attr) key (entry_not_stat dir.target dir.target n h.small h.bytes h.dir_stat.0))
      (off_unnamed o key h.size (entry_not_stat dir.target o.target n h.small h.bytes h.stat.0) (λ x lt. entry_not_byte dir.target o.target n x h.small h.bytes h.stat.0 lt)))
      ∙ cut_itself m key

  pub dir_now : at_key after (stat_rank dir.target) ≡ Some (Stat (entry_less (is_dir o) dir.attr))
  dir_now =
      edited_second (cut_key key) (and_also set_dir (unnamed o)) m (stat_rank dir.target) (off_key key (stat_rank dir.target) (λ e. entry_not_stat dir.target dir.target n h.small h.bytes h.dir_stat.0 (sym e)))
      ∙ edited_first set_dir (unnamed o) m (stat_rank dir.target) (off_unnamed o (stat_rank dir.target) h.size unlike (λ x lt. stat_not_byte dir.target o.target x h.dir_stat.0 h.stat.0 lt))
      ∙ put_itself m (stat_rank dir.target) (Stat (entry_less (is_dir o) dir.attr))

  pub object_now : at_key after (stat_rank o.target) ≡ stat_value (rest_of o)
  object_now =
      edited_second (cut_key key) (and_also set_dir (unnamed o)) m (stat_rank o.target) (off_key key (stat_rank o.target) (λ e. entry_not_stat dir.target o.target n h.small h.bytes h.stat.0 (sym e)))
      ∙ edited_second set_dir (unnamed o) m (stat_rank o.target) (off_attr dir (entry_less (is_dir o) dir.attr) (stat_rank o.target) (λ e. unlike (sym e))) ∙ unnamed_stat m o h.stat.0 h.size

  body_now : (x : ℕ) → x < 2 ^ 64 → entry_in (at_key after (byte_rank o.target x)) ≡ None
  body_now x lt = none_edited (unname_in dir n o) m (byte_rank o.target x) (refl, unnamed_no_entries o) (no_entry_body limit m bodies o.target x h.stat.0 lt)

  -- ---- what each object becomes

  abbrev becomes : Target → Attr → Option Attr
  becomes t a = if is_same_target t dir.target then Some (entry_less (is_dir o) a) else if is_same_target t o.target then rest_of o else Some a

  which : (t : Target) → ((is_same_target t dir.target ≡ true) × (t ≡ dir.target))
      ⊎ (((is_same_target t dir.target ≡ false) × (is_same_target t o.target ≡ true) × (t ≡ o.target)) ⊎ ((is_same_target t dir.target ≡ false) × (is_same_target t o.target ≡ false)))
  which t = by_test (is_same_target t dir.target) (is_same_target t o.target) refl refl
    where
      by_test : (a b : Bool) → is_same_target t dir.target ≡ a → is_same_target t o.target ≡ b → ((is_same_target t dir.target ≡ true) × (t ≡ dir.target))
          ⊎ (((is_same_target t dir.target ≡ false) × (is_same_target t o.target ≡ true) × (t ≡ o.target)) ⊎ ((is_same_target t dir.target ≡ false) × (is_same_target t o.target ≡ false)))
      by_test true b e f = inl (e, told_same t dir.target e)
      by_test false true e f = inr (inl (e, f, told_same t o.target f))
      by_test false false e f = inr (inr (e, f))

  in_dir : (t : Target) (a : Attr) → is_same_target t dir.target ≡ true → becomes t a ≡ Some (entry_less (is_dir o) a)
  in_dir t a e = ap (λ (b : Bool). if b then Some (entry_less (is_dir o) a) else if is_same_target t o.target then rest_of o else Some a) e

  in_object : (t : Target) (a : Attr) → is_same_target t dir.target ≡ false → is_same_target t o.target ≡ true → becomes t a ≡ rest_of o
  in_object t a e f =
      ap (λ (b : Bool). if b then Some (entry_less (is_dir o) a) else if is_same_target t o.target then rest_of o else Some a) e ∙ ap (λ (b : Bool). if b then rest_of o else Some a) f

  in_other : (t : Target) (a : Attr) → is_same_target t dir.target ≡ false → is_same_target t o.target ≡ false → becomes t a ≡ Some a
  in_other t a e f =
      ap (λ (b : Bool). if b then Some (entry_less (is_dir o) a) else if is_same_target t o.target then rest_of o else Some a) e ∙ ap (λ (b : Bool). if b then rest_of o else Some a) f

  -- Each object that stays is the directory, or has lost a link and is a file, or is another one.
  stays_as : (t : Target) (a b : Attr) → HasStat m t a → becomes t a ≡ Some b → ((is_same_target t dir.target ≡ true) × (t ≡ dir.target) × (a ≡ dir.attr) × (b ≡ entry_less (is_dir o) a))
      ⊎ (((t ≡ o.target) × (a ≡ o.attr) × (is_dir o ≡ false) × (2 ≤ o.attr.nlink) × (b ≡ link_less a)) ⊎ ((is_same_target t dir.target ≡ false) × (is_same_target t o.target ≡ false) × (b ≡ a)))
  stays_as t a b there e = elim (which t) [
    | inl (x, is) ↦ inl (x, is, stat_one m lawful t dir.target a dir.attr there h.dir_stat is, sym (same_Some (entry_less (is_dir o) a) b (sym (in_dir t a x) ∙ e)))
    | inr other ↦ elim other [
      | inl (x, y, is) ↦
          let (file, some, left) = rest_file o b (sym (in_object t a x y) ∙ e) in
          let same = stat_one m lawful t o.target a o.attr there h.stat is in
          inr (inl (is, same, file, some, left ∙ ap link_less (sym same)))
      | inr (x, y) ↦ inr (inr (x, y, sym (same_Some a b (sym (in_other t a x y) ∙ e))))
    ]
  ]

  other_now : (t : Target) → IsObject t → is_same_target t dir.target ≡ false → is_same_target t o.target ≡ false → at_key after (stat_rank t) ≡ at_key m (stat_rank t)
  other_now t is e f =
      off (stat_rank t) (λ s. entry_not_stat dir.target t n h.small h.bytes is (sym s)) (other_stat t dir.target is h.dir_stat.0 e)
      (record { stat = other_stat t o.target is h.stat.0 f; bytes = λ x lt. stat_not_byte t o.target x is h.stat.0 lt })

  some_stat : (v : Option Attr) (b : Attr) → v ≡ Some b → stat_value v ≡ Some (Stat b)
  some_stat v b e = ap stat_value e

  kept : (t : Target) (a b : Attr) → HasStat m t a → becomes t a ≡ Some b → HasStat after t b
  kept t a b there e = (
    there.0,
    elim (which t) [
      | inl (x, is) ↦
          let same = stat_one m lawful t dir.target a dir.attr there h.dir_stat is in
          ap (λ (u : Target). at_key after (stat_rank u)) is ∙ dir_now ∙ ap (λ (c : Attr). Some (Stat (entry_less (is_dir o) c))) (sym same) ∙ some_stat (Some (entry_less (is_dir o) a)) b (sym (in_dir t a x) ∙ e)
      | inr other ↦ elim other [
        | inl (x, y, is) ↦ ap (λ (u : Target). at_key after (stat_rank u)) is ∙ object_now ∙ some_stat (rest_of o) b (sym (in_object t a x y) ∙ e)
        | inr (x, y) ↦ other_now t there.0 x y ∙ there.1 ∙ some_stat (Some a) b (sym (in_other t a x y) ∙ e)
      ]
    ],
  )

  from : (t : Target) (b : Attr) → HasStat after t b → ((a : Attr) × HasStat m t a × (becomes t a ≡ Some b)) ⊎ ⊥
  from t b there = elim (which t) [
    | inl (x, is) ↦
        let same = stat_same (entry_less (is_dir o) dir.attr) b (sym dir_now ∙ ap (λ (u : Target). at_key after (stat_rank u)) (sym is) ∙ there.1) in
        inl (dir.attr, subst (λ (u : Target). HasStat m u dir.attr) (sym is) h.dir_stat, in_dir t dir.attr x ∙ ap (λ (c : Attr). Some c) same)
    | inr other ↦ elim other [
      | inl (x, y, is) ↦
          let left = is_rest (rest_of o) (sym object_now ∙ ap (λ (u : Target). at_key after (stat_rank u)) (sym is) ∙ there.1) in
          inl (o.attr, subst (λ (u : Target). HasStat m u o.attr) (sym is) h.stat, in_object t o.attr x y ∙ left)
      | inr (x, y) ↦ inl (b, (there.0, sym (other_now t there.0 x y) ∙ there.1), in_other t b x y)
    ]
  ]
    where
      is_rest : (v : Option Attr) → stat_value v ≡ Some (Stat b) → v ≡ Some b
      is_rest None e = absurd cc
      is_rest (Some c) e = ap (λ (d : Attr). Some d) (stat_same c b e)

  kind : (t : Target) (a b : Attr) → HasStat m t a → becomes t a ≡ Some b → is_directory b ≡ is_directory a
  kind t a b there e = elim (stays_as t a b there e) [
    | inl (x, is, same, new) ↦ ap is_directory new ∙ less_kind (is_dir o) a
    | inr other ↦ elim other [
      | inl (is, same, file, some, new) ↦ ap is_directory new
      | inr (x, y, new) ↦ ap is_directory new
    ]
  ]

  -- ---- what stays

  is_some : (v : Option Attr) → (v ≡ None → ⊥) → (b : Attr) × (v ≡ Some b)
  is_some None f = absurd (f refl)
  is_some (Some b) f = (b, refl)

  -- what does not stay is the object, and nothing is left of it
  stays_unless : (t : Target) (a : Attr) → ((t ≡ o.target) → rest_of o ≡ None → ⊥) → (b : Attr) × (becomes t a ≡ Some b)
  stays_unless t a f = elim (which t) [
    | inl (x, is) ↦ (entry_less (is_dir o) a, in_dir t a x)
    | inr other ↦ elim other [
      | inl (x, y, is) ↦ let (b, left) = is_some (rest_of o) (f is) in (b, in_object t a x y ∙ left)
      | inr (x, y) ↦ (a, in_other t a x y)
    ]
  ]

  stays : (k : ℕ) (s : List ℕ) (t : Target) (a : Attr) → k ≢ key → at_key m k ≡ Some (Entry s t) → HasStat m t a → (b : Attr) × (becomes t a ≡ Some b)
  stays k s t a ne at there =
      stays_unless t a (λ is gone. ne (sym (named_once_gone m lawful o key k n s h.stat gone h.entry (at ∙ ap (λ (u : Target). Some (Entry s u)) is))))

  holder_stays : (k : ℕ) (s : List ℕ) (t p : Target) (a : Attr) → at_key m k ≡ Some (Entry s t) → HasStat m p a → is_directory a ≡ true → dir_of_key (key_of_rank k) ≡ p.oid.0 → (b : Attr) × (becomes p a ≡ Some b)
  holder_stays k s t p a at there is in_p =
      stays_unless p a (λ same gone.
      let one = stat_one m lawful p o.target a o.attr there h.stat same in
      let none = h.empty (ap is_directory (sym one) ∙ is) in
      let some = one_there (is_entry_in o.target.oid.0) m k (Entry s t) at (eq-eqb (dir_of_key (key_of_rank k)) o.target.oid.0 (in_p ∙ ap (λ (u : Target). u.oid.0) same)) in
      absurd (omega arith))

  -- ---- what is counted at the two keys

  none_after : (p : ℕ × Value → Bool) → OnEntries p → both_here p key (stat_rank dir.target) after ≡ 0
  none_after p on =
      let a = here_empty p key (at_key after key) on (ap entry_in entry_now) in
      let b = here_empty p (stat_rank dir.target) (at_key after (stat_rank dir.target)) on (ap entry_in dir_now) in
      omega arith

  dir_none : (p : ℕ × Value → Bool) → OnEntries p → here p (stat_rank dir.target) (at_key m (stat_rank dir.target)) ≡ 0
  dir_none p on = here_empty p (stat_rank dir.target) (at_key m (stat_rank dir.target)) on (ap entry_in h.dir_stat.1)

  counted_yes : (p : ℕ × Value → Bool) → OnEntries p → p (key, Entry n o.target) ≡ true → both_here p key (stat_rank dir.target) m ≡ 1
  counted_yes p on e =
      let a = here_yes p key (Entry n o.target) (at_key m key) h.entry e in
      let b = dir_none p on in
      omega arith

  counted_no : (p : ℕ × Value → Bool) → OnEntries p → p (key, Entry n o.target) ≡ false → both_here p key (stat_rank dir.target) m ≡ 0
  counted_no p on e =
      let a = here_no p key (Entry n o.target) (at_key m key) h.entry e in
      let b = dir_none p on in
      omega arith

  in_itself : is_entry_in dir.target.oid.0 (key, Entry n o.target) ≡ true
  in_itself = eq-eqb (dir_of_key (key_of_rank key)) dir.target.oid.0 key_dir

  not_in : (id : ℕ) → id ≢ dir.target.oid.0 → is_entry_in id (key, Entry n o.target) ≡ false
  not_in id ne = ne_eqb (dir_of_key (key_of_rank key)) id (λ e. ne (sym e ∙ key_dir))

  names_kind : names_directory m (Entry n o.target) ≡ is_dir o
  names_kind = ap is_directory_value h.stat.1

  other_id : (t : Target) (a : Attr) → HasStat m t a → is_same_target t dir.target ≡ false → t.oid.0 ≢ dir.target.oid.0
  other_id t a there e same = true_not_false (sym (same_itself t) ∙ ap (is_same_target t) (one_target m lawful t dir.target a dir.attr there h.dir_stat same) ∙ e)

  not_object : (t : Target) → is_same_target t o.target ≡ false → names_object t (Entry n o.target) ≡ false
  not_object t f = names_other t o.target n (λ same. true_not_false (sym (same_itself o.target) ∙ ap (λ (u : Target). is_same_target u o.target) same ∙ f))

  -- ---- the obligations

  entries_same : (k : ℕ) → k ≢ key → k ≢ stat_rank dir.target → entry_in (at_key m k) ≡ entry_in (at_key after k)
  entries_same k one two = elim (where_is o.target k) [
    | inl is ↦ ap (λ (x : ℕ). entry_in (at_key m x)) is ∙ ap entry_in h.stat.1 ∙ sym (ap (λ (x : ℕ). entry_in (at_key after x)) is ∙ ap entry_in object_now ∙ none_stat (rest_of o))
    | inr other ↦ elim other [
      | inl (x, lt, is) ↦ ap (λ (y : ℕ). entry_in (at_key m y)) is ∙ no_entry_body limit m bodies o.target x h.stat.0 lt ∙ sym (ap (λ (y : ℕ). entry_in (at_key after y)) is ∙ body_now x lt)
      | inr elsewhere ↦ ap entry_in (sym (off k one two elsewhere))
    ]
  ]
    where
      none_stat : (v : Option Attr) → entry_in (stat_value v) ≡ None
      none_stat None = refl
      none_stat (Some a) = refl

  none_placed : (k : ℕ) (s : List ℕ) (t : Target) → (k ≡ key) ⊎ (k ≡ stat_rank dir.target) → at_key after k ≡ Some (Entry s t) → ⊥
  none_placed k s t new at = elim new [
    | inl e ↦ not_entry (at_key after k) s t (ap (λ (x : ℕ). entry_in (at_key after x)) e ∙ ap entry_in entry_now) at
    | inr e ↦ not_entry (at_key after k) s t (ap (λ (x : ℕ). entry_in (at_key after x)) e ∙ ap entry_in dir_now) at
  ]

  directory_links : (t : Target) (a b : Attr) → HasStat m t a → becomes t a ≡ Some b → is_directory a ≡ true → both_here (named t) key (stat_rank dir.target) m ≡ both_here (named t) key (stat_rank dir.target) after
  directory_links t a b there e is =
      let now = none_after (named t) (named_on t) in
      elim (stays_as t a b there e) [
        | inl (x, same, attr, new) ↦
            let before = counted_no (named t) (named_on t) (names_other t o.target n (λ s. dir_other (sym same ∙ sym s))) in
            omega arith
        | inr other ↦ elim other [
          | inl (same, attr, file, some, new) ↦ absurd (true_not_false (sym is ∙ ap is_directory attr ∙ file))
          | inr (x, y, new) ↦
              let before = counted_no (named t) (named_on t) (not_object t y) in
              omega arith
        ]
      ]

  file_links : (t : Target) (a b : Attr) → HasStat m t a → becomes t a ≡ Some b → is_directory a ≡ false → b.nlink + both_here (named t) key (stat_rank dir.target) m ≡ a.nlink + both_here (named t) key (stat_rank dir.target) after
  file_links t a b there e file =
      let now = none_after (named t) (named_on t) in
      elim (stays_as t a b there e) [
        | inl (x, same, attr, new) ↦ absurd (true_not_false (sym h.dir_is ∙ ap is_directory (sym attr) ∙ file))
        | inr other ↦ elim other [
          | inl (same, attr, is_file, some, new) ↦
              let before = counted_yes (named t) (named_on t) (ap (λ (u : Target). is_same_target u t) (sym same) ∙ same_itself t) in
              let less : b.nlink ≡ a.nlink - 1 = ap (λ (c : Attr). c.nlink) new in
              let old : a.nlink ≡ o.attr.nlink = ap (λ (c : Attr). c.nlink) attr in
              omega arith
          | inr (x, y, new) ↦
              let before = counted_no (named t) (named_on t) (not_object t y) in
              let links : b.nlink ≡ a.nlink = ap (λ (c : Attr). c.nlink) new in
              omega arith
        ]
      ]

  alive : (t : Target) (a b : Attr) → HasStat m t a → becomes t a ≡ Some b → is_directory a ≡ false → 1 ≤ a.nlink → 1 ≤ b.nlink
  alive t a b there e file one = elim (stays_as t a b there e) [
    | inl (x, same, attr, new) ↦ absurd (true_not_false (sym h.dir_is ∙ ap is_directory (sym attr) ∙ file))
    | inr other ↦ elim other [
      | inl (same, attr, is_file, some, new) ↦
          let less : b.nlink ≡ a.nlink - 1 = ap (λ (c : Attr). c.nlink) new in
          let old : a.nlink ≡ o.attr.nlink = ap (λ (c : Attr). c.nlink) attr in
          omega arith
      | inr (x, y, new) ↦ let links : b.nlink ≡ a.nlink = ap (λ (c : Attr). c.nlink) new in omega arith
    ]
  ]

  sizes : (t : Target) (a b : Attr) → HasStat m t a → becomes t a ≡ Some b → is_directory a ≡ true
      → b.size + both_here (is_entry_in t.oid.0) key (stat_rank dir.target) m ≡ a.size + both_here (is_entry_in t.oid.0) key (stat_rank dir.target) after
  sizes t a b there e is =
      let now = none_after (is_entry_in t.oid.0) (entry_on t.oid.0) in
      elim (stays_as t a b there e) [
        | inl (x, same, attr, new) ↦
            let test = ap (λ (u : Target). is_entry_in u.oid.0 (key, Entry n o.target)) same ∙ in_itself in
            let before = counted_yes (is_entry_in t.oid.0) (entry_on t.oid.0) test in
            let less : b.size ≡ a.size - 1 = ap (λ (c : Attr). c.size) new ∙ less_size (is_dir o) a in
            let some = one_there (is_entry_in t.oid.0) m key (Entry n o.target) h.entry test in
            let size : a.size ≡ count (is_entry_in t.oid.0) m = (lawful.directories t a there is).0 in
            omega arith
        | inr other ↦ elim other [
          | inl (same, attr, file, some, new) ↦ absurd (true_not_false (sym is ∙ ap is_directory attr ∙ file))
          | inr (x, y, new) ↦
              let before = counted_no (is_entry_in t.oid.0) (entry_on t.oid.0) (not_in t.oid.0 (other_id t a there x)) in
              let size : b.size ≡ a.size = ap (λ (c : Attr). c.size) new in
              omega arith
        ]
      ]

  dir_links : (d : Bool) (t : Target) (a b : Attr) → is_dir o ≡ d → HasStat m t a → is_directory a ≡ true → t ≡ dir.target → b ≡ entry_less (is_dir o) a
      → b.nlink + both_here (directory_in m t.oid.0) key (stat_rank dir.target) m ≡ a.nlink
  dir_links true t a b d there is same new =
      let before = counted_yes (directory_in m t.oid.0) (directory_on m t.oid.0)
      (ap (λ (u : Target). is_entry_in u.oid.0 (key, Entry n o.target) && names_directory m (Entry n o.target)) same ∙ ap (λ (x : Bool). x && names_directory m (Entry n o.target)) in_itself ∙ names_kind ∙ d) in
      let less : b.nlink ≡ a.nlink - 1 = ap (λ (c : Attr). c.nlink) new ∙ less_links (is_dir o) a ∙ ap (λ (x : Bool). if x then a.nlink - 1 else a.nlink) d in
      let links : a.nlink ≡ 2 + count (directory_in m t.oid.0) m = (lawful.directories t a there is).1 in
      omega arith
  dir_links false t a b d there is same new =
      let before = counted_no (directory_in m t.oid.0) (directory_on m t.oid.0)
      (ap (λ (u : Target). is_entry_in u.oid.0 (key, Entry n o.target) && names_directory m (Entry n o.target)) same ∙ ap (λ (x : Bool). x && names_directory m (Entry n o.target)) in_itself ∙ names_kind ∙ d) in
      let links : b.nlink ≡ a.nlink = ap (λ (c : Attr). c.nlink) new ∙ less_links (is_dir o) a ∙ ap (λ (x : Bool). if x then a.nlink - 1 else a.nlink) d in
      omega arith

  directories : (t : Target) (a b : Attr) → HasStat m t a → becomes t a ≡ Some b → is_directory a ≡ true
      → b.nlink + both_here (directory_in m t.oid.0) key (stat_rank dir.target) m ≡ a.nlink + both_here (directory_in after t.oid.0) key (stat_rank dir.target) after
  directories t a b there e is =
      let now = none_after (directory_in after t.oid.0) (directory_on after t.oid.0) in
      elim (stays_as t a b there e) [
        | inl (x, same, attr, new) ↦ let links = dir_links (is_dir o) t a b refl there is same new in omega arith
        | inr other ↦ elim other [
          | inl (same, attr, file, some, new) ↦ absurd (true_not_false (sym is ∙ ap is_directory attr ∙ file))
          | inr (x, y, new) ↦
              let before = counted_no (directory_in m t.oid.0) (directory_on m t.oid.0) (ap (λ (c : Bool). c && names_directory m (Entry n o.target)) (not_in t.oid.0 (other_id t a there x))) in
              let links : b.nlink ≡ a.nlink = ap (λ (c : Attr). c.nlink) new in
              omega arith
        ]
      ]

  none_moved : (k : ℕ) (s : List ℕ) (t : Target) (a b : Attr) → (k ≡ key) ⊎ (k ≡ stat_rank dir.target) → at_key m k ≡ Some (Entry s t) → HasStat m t a → is_directory a ≡ true → becomes t a ≡ Some b → ⊥
  none_moved k s t a b new at there is e = elim new [
    | inl at_it ↦
        let named_too : t ≡ o.target = ap (λ (x : Named). x.target) (same_Some (record { name = s; target = t }) (record { name = n; target = o.target }) (sym (ap entry_in at) ∙ ap (λ (x : ℕ). entry_in (at_key m x)) at_it ∙ ap entry_in h.entry)) in
        elim (stays_as t a b there e) [
          | inl (x, same, attr, left) ↦ dir_other (sym same ∙ named_too)
          | inr other ↦ elim other [
            | inl (same, attr, file, some, left) ↦ true_not_false (sym is ∙ ap is_directory attr ∙ file)
            | inr (x, y, left) ↦ true_not_false (sym (same_itself o.target) ∙ ap (λ (u : Target). is_same_target u o.target) (sym named_too) ∙ y)
          ]
        ]
    | inr at_dir ↦ not_entry (at_key m k) s t (ap (λ (x : ℕ). entry_in (at_key m x)) at_dir ∙ ap entry_in h.dir_stat.1) at
  ]

  pub loses_lawful : HasObjects (edited (unname_in dir n o) m)
  loses_lawful = rewired_lawful m after key (stat_rank dir.target) becomes (λ t b. ⊥) lawful (record {
    apart = entry_not_stat dir.target dir.target n h.small h.bytes h.dir_stat.0;
    others = entries_same;
    kept = kept;
    from = from;
    kind = kind;
    stays = λ k s t a x y at there. stays k s t a x at there;
    holder_stays = λ k s t p a x y at there is in_p. holder_stays k s t p a at there is in_p;
    root_stays = λ a there. stays_unless root_object a (λ is gone. named_no_root m lawful key n o.target h.entry (sym is));
    placed = λ k s t new at. absurd (none_placed k s t new at);
    directory_links = λ t a b there e is no_root. directory_links t a b there e is;
    file_links = file_links;
    alive = alive;
    sizes = sizes;
    directories = directories;
    born = λ t b x. absurd x;
    one_born = λ t u a b x y. absurd x;
    moved = λ k s t a b new at there is e. absurd (none_moved k s t a b new at there is e);
  })

  -- ---- bodies

  byte_now : (x : ℕ) → x < 2 ^ 64 → at_key after (byte_rank o.target x) ≡ at_key (edited (unnamed o) m) (byte_rank o.target x)
  byte_now x lt =
      edited_second (cut_key key) (and_also set_dir (unnamed o)) m (byte_rank o.target x) (off_key key (byte_rank o.target x) (λ e. entry_not_byte dir.target o.target n x h.small h.bytes h.stat.0 lt (sym e)))
      ∙ edited_second set_dir (unnamed o) m (byte_rank o.target x) (off_attr dir (entry_less (is_dir o) dir.attr) (byte_rank o.target x) (λ e. stat_not_byte dir.target o.target x h.dir_stat.0 h.stat.0 lt (sym e)))

  other_body : (t : Target) (x : ℕ) → IsObject t → x < 2 ^ 64 → is_same_target t o.target ≡ false → at_key after (byte_rank t x) ≡ at_key m (byte_rank t x)
  other_body t x is lt f =
      off (byte_rank t x) (λ e. entry_not_byte dir.target t n x h.small h.bytes is lt (sym e)) (λ e. stat_not_byte dir.target t x h.dir_stat.0 is lt (sym e))
      (record {
        stat = λ e. stat_not_byte o.target t x h.stat.0 is lt (sym e);
        bytes = λ y ly e. true_not_false (sym (same_itself o.target) ∙ ap (λ (u : Target). is_same_target u o.target) (sym (same_bytes t o.target x y is h.stat.0 lt ly e)) ∙ f);
      })

  lose_plain : (k : ℕ) (v : Value) → at_key after k ≡ Some v → (at_key m k ≡ Some v) ⊎ PlainFit (key_of_rank k) v
  lose_plain k v at = by_key (k == key) (k == stat_rank dir.target) refl refl
    where
      none_some : (w : Option Value) → w ≡ None → w ≡ Some v → ⊥
      none_some w e f = absurd (no_value (sym f ∙ e))
        where
          no_value : Some v ≡ None → ⊥
          no_value g = cc

      fits : (w : Value) → PlainFit (key_of_rank k) w → at_key after k ≡ Some w → PlainFit (key_of_rank k) v
      fits w f there = subst (λ (x : Value). PlainFit (key_of_rank k) x) (same_Some w v (sym there ∙ at)) f

      stat_at : (t : Target) (a : Attr) → IsObject t → k ≡ stat_rank t → PlainFit (key_of_rank k) (Stat a)
      stat_at t a is same = subst (λ (x : ℕ). PlainFit (key_of_rank x) (Stat a)) (sym same) (stat_fit t a is)

      rest_fit : (w : Option Attr) → k ≡ stat_rank o.target → at_key after k ≡ stat_value w → (at_key m k ≡ Some v) ⊎ PlainFit (key_of_rank k) v
      rest_fit None same there = absurd (none_some (at_key after k) there at)
      rest_fit (Some a) same there = inr (fits (Stat a) (stat_at o.target a h.stat.0 same) there)

      by_key : (p q : Bool) → (k == key) ≡ p → (k == stat_rank dir.target) ≡ q → (at_key m k ≡ Some v) ⊎ PlainFit (key_of_rank k) v
      by_key true q e f = absurd (none_some (at_key after k) (ap (at_key after) (eqb-true k key e) ∙ entry_now) at)
      by_key false true e f =
          let is = eqb-true k (stat_rank dir.target) f in
          inr (fits (Stat (entry_less (is_dir o) dir.attr)) (stat_at dir.target (entry_less (is_dir o) dir.attr) h.dir_stat.0 is) (ap (at_key after) is ∙ dir_now))
      by_key false false e f = elim (where_is o.target k) [
        | inl is ↦ rest_fit (rest_of o) is (ap (at_key after) is ∙ object_now)
        | inr other ↦ elim other [
          | inl (x, lt, is) ↦ elim (unnamed_body m o x h.stat.0 lt) [
            | inl same ↦ inl (ap (at_key m) is ∙ sym same ∙ sym (byte_now x lt) ∙ ap (at_key after) (sym is) ∙ at)
            | inr none ↦ absurd (none_some (at_key after k) (ap (at_key after) is ∙ byte_now x lt ∙ none) at)
          ]
          | inr elsewhere ↦ inl (sym (off k (not_same k key e) (not_same k (stat_rank dir.target) f) elsewhere) ∙ at)
        ]
      ]

  lose_alive : (t : Target) (a : Attr) (x y : ℕ) → HasStat m t a → is_directory a ≡ false → x < 2 ^ 64 → at_key after (byte_rank t x) ≡ Some (Byte y) → (b : Attr) × HasStat after t b × (is_directory b ≡ false)
  lose_alive t a x y was file lt at =
      let (b, e) = stays_unless t a (λ same gone. no_byte same gone) in
      (b, kept t a b was e, kind t a b was e ∙ file)
    where
      some_none : Some (Byte y) ≡ None → ⊥
      some_none g = cc

      no_byte : t ≡ o.target → rest_of o ≡ None → ⊥
      no_byte same gone =
          let attr = stat_one m lawful t o.target a o.attr was h.stat same in
          let is_file : is_dir o ≡ false = ap is_directory (sym attr) ∙ file in
          let at_o : at_key (edited (unnamed o) m) (byte_rank o.target x) ≡ Some (Byte y) = sym (byte_now x lt) ∙ ap (λ (u : Target). at_key after (byte_rank u x)) (sym same) ∙ at in
          elim (unnamed_body m o x h.stat.0 lt) [
            | inl stays_same ↦
                let below = (bodies.offsets o.target o.attr h.stat is_file x lt).0 (y, sym stays_same ∙ at_o) in
                some_none (sym at_o ∙ unnamed_gone m o x h.stat.0 lt below gone is_file)
            | inr none ↦ some_none (sym at_o ∙ none)
          ]

  lose_files : (t : Target) (b : Attr) → HasStat after t b → is_directory b ≡ false → IsKeptFile m after t b
  lose_files t b there file = elim (from t b there) [
    | inl (a, was, e) ↦
        let old_file = sym (kind t a b was e) ∙ file in
        record { old = a; stat = was; file = old_file; size = size_same a was e old_file; same = λ x lt. body_same a was e old_file x lt }
    | inr none ↦ absurd none
  ]
    where
      size_same : (a : Attr) → HasStat m t a → becomes t a ≡ Some b → is_directory a ≡ false → b.size ≡ a.size
      size_same a was e old_file = elim (stays_as t a b was e) [
        | inl (x, same, attr, new) ↦ absurd (true_not_false (sym h.dir_is ∙ ap is_directory (sym attr) ∙ old_file))
        | inr other ↦ elim other [
          | inl (same, attr, is_file, some, new) ↦ ap (λ (c : Attr). c.size) new
          | inr (x, y, new) ↦ ap (λ (c : Attr). c.size) new
        ]
      ]

      body_same : (a : Attr) → HasStat m t a → becomes t a ≡ Some b → is_directory a ≡ false → (x : ℕ) → x < 2 ^ 64 → at_key after (byte_rank t x) ≡ at_key m (byte_rank t x)
      body_same a was e old_file x lt = elim (which t) [
        | inl (s, same) ↦ absurd (true_not_false (sym h.dir_is ∙ ap is_directory (sym (stat_one m lawful t dir.target a dir.attr was h.dir_stat same)) ∙ old_file))
        | inr other ↦ elim other [
          | inl (s, u, same) ↦
              ap (λ (w : Target). at_key after (byte_rank w x)) same ∙ byte_now x lt ∙ unnamed_kept m o x b h.stat.0 lt (sym (in_object t a s u) ∙ e) ∙ ap (λ (w : Target). at_key m (byte_rank w x)) (sym same)
          | inr (s, u) ↦ other_body t x was.0 lt u
        ]
      ]

  less_bytes : (d : Bool) (a : Attr) → (entry_less d a).bytes ≡ (entry_less d a).size
  less_bytes true a = refl
  less_bytes false a = refl

  lose_bytes : (t : Target) (b : Attr) → HasStat after t b → b.bytes ≡ b.size
  lose_bytes t b there = elim (from t b there) [
    | inl (a, was, e) ↦ elim (stays_as t a b was e) [
      | inl (x, same, attr, new) ↦ subst (λ (c : Attr). c.bytes ≡ c.size) (sym new) (less_bytes (is_dir o) a)
      | inr other ↦ elim other [
        | inl (same, attr, is_file, some, new) ↦ subst (λ (c : Attr). c.bytes ≡ c.size) (sym new) (bodies.bytes t a was)
        | inr (x, y, new) ↦ subst (λ (c : Attr). c.bytes ≡ c.size) (sym new) (bodies.bytes t a was)
      ]
    ]
    | inr none ↦ absurd none
  ]

  pub loses_bodies : HasBodies limit (edited (unname_in dir n o) m)
  loses_bodies = bodies_kept limit m after bodies (record {
    fits = λ k v at. elim (lose_plain k v at) [ inl old ↦ inl old | inr f ↦ inr (plain_fits after (key_of_rank k) v f) ];
    alive = lose_alive;
    files = λ t b there file. inl (lose_files t b there file);
    bytes = lose_bytes;
  })
