-- Commands by which an object gets a name: the objects of a lawful content stay lawful.
use Rattle.std.specs.Prelude.{◌≡◌, ◌≢◌, ◌⊎◌, ℕ, ◌+◌, ◌-◌, ◌^◌, ◌<◌, ◌≤◌, List, Bool, true, false, ◌&&◌, ◌==◌, All, Some, None, if◌then◌else◌}
use Rattle.std.proofs.Common.{arith, inl, inr, refl, sym, ap, subst, ◌∙◌}
use Rattle.std.proofs.lemmas.Bool.{eq-eqb, eqb-true, ne_eqb}
use Rattle.std.proofs.lemmas.Grind.{common_steps}
use Rattle.std.proofs.lemmas.Option.{same_Some}
use Rattle.r4_base.proofs.Visible.{byte_back, byte_object}
use Rattle.r4_base.specs.Key.{key_of_rank, minor_of}
use Rattle.r4_base.specs.Name.{dir_of_key}
use Rattle.r4_base.specs.Value.{Value, Stat, Entry, Byte, Content, at_key}
use Rattle.r4_base.specs.Volume.{HasObjects, HasStat, IsObject, byte_rank, object_of, is_directory, is_directory_value, is_entry_in, names_directory, root_object, stat_rank}
use Rattle.r4_base.specs.declared.items.Attr.{Attr}
use Rattle.r4_base.specs.declared.items.Target.{Target}
use Rattle.r4_base.specs.declared.things.Oid.{Oid}
use Rattle.r4_content.specs.Edited.{Edits, and_also, edited}
use Rattle.r4_content.specs.Entries.{name_in}
use Rattle.r4_content.specs.Lawful.{HasBodies}
use Rattle.r4_content.specs.Objects.{Object, entry_more, entry_rank, is_dir, is_same_target, one_more, set_attr, set_entry}
use Rattle.r4_content.specs.Ways.{Named, entry_in}
use Rattle.r4_content.proofs.Counting.{here, here_no, here_yes, not_same}
use Rattle.r4_content.proofs.EditLaws.{edited_off}
use Rattle.r4_content.proofs.EditParts.{edited_first, edited_second, is_off, off_both, true_not_false}
use Rattle.r4_content.proofs.FileEdits.{off_attr, other_stat, put_itself}
use Rattle.r4_content.proofs.Keeping.{PlainFit, bodies_kept, plain_fits, stat_fit}
use Rattle.r4_content.proofs.Naming.{off_entry}
use Rattle.r4_content.proofs.Ranks.{entry_not_byte, entry_not_stat, stat_not_byte, same_itself, same_stat, told_same}
use Rattle.r4_content.proofs.Rewired.{IsBorn, IsPlaced, OnEntries, both_here, directory_in, directory_on, entry_on, here_empty, named, named_on, names_other, not_entry, rewired_lawful}
use Rattle.r4_content.proofs.Shapes.{entry_dir}

pub stat_same : (x y : Attr) → Some (Stat x) ≡ Some (Stat y) → x ≡ y
stat_same x y e = cc

-- ---- what stands where after an object got a name

module _ (m : Content) (dir o : Object) (n : List ℕ) (dir_object : IsObject dir.target) (object : IsObject o.target) (small : dir.target.oid.0 < 2 ^ 60) (bytes : All (λ x. x < 256) n) (unlike : stat_rank dir.target ≢ stat_rank o.target) where
  abbrev gain_key : ℕ
  gain_key = entry_rank dir.target n

  abbrev gain_edits : Edits
  gain_edits = name_in dir n o

  pub gain_off : (k : ℕ) → k ≢ entry_rank dir.target n → k ≢ stat_rank o.target → k ≢ stat_rank dir.target → at_key (edited (name_in dir n o) m) k ≡ at_key m k
  gain_off k one two three =
      edited_off gain_edits m k (is_off gain_edits k (off_both (set_entry dir n o.target) (and_also (set_attr o o.attr) (set_attr dir (entry_more (is_dir o) dir.attr))) k (off_entry dir n o.target k one)
      (off_both (set_attr o o.attr) (set_attr dir (entry_more (is_dir o) dir.attr)) k (off_attr o o.attr k two) (off_attr dir (entry_more (is_dir o) dir.attr) k three))))

  pub gain_entry : at_key (edited (name_in dir n o) m) (entry_rank dir.target n) ≡ Some (Entry n o.target)
  gain_entry =
      edited_first (set_entry dir n o.target) (and_also (set_attr o o.attr) (set_attr dir (entry_more (is_dir o) dir.attr))) m gain_key
      (off_both (set_attr o o.attr) (set_attr dir (entry_more (is_dir o) dir.attr)) gain_key
      (off_attr o o.attr gain_key (entry_not_stat dir.target o.target n small bytes object)) (off_attr dir (entry_more (is_dir o) dir.attr) gain_key (entry_not_stat dir.target dir.target n small bytes dir_object)))
      ∙ put_itself m gain_key (Entry n o.target)

  pub gain_object : at_key (edited (name_in dir n o) m) (stat_rank o.target) ≡ Some (Stat o.attr)
  gain_object =
      edited_second (set_entry dir n o.target) (and_also (set_attr o o.attr) (set_attr dir (entry_more (is_dir o) dir.attr))) m (stat_rank o.target)
      (off_entry dir n o.target (stat_rank o.target) (λ e. entry_not_stat dir.target o.target n small bytes object (sym e)))
      ∙ edited_first (set_attr o o.attr) (set_attr dir (entry_more (is_dir o) dir.attr)) m (stat_rank o.target) (off_attr dir (entry_more (is_dir o) dir.attr) (stat_rank o.target) (λ e. unlike (sym e)))
      ∙ put_itself m (stat_rank o.target) (Stat o.attr)

  pub gain_dir : at_key (edited (name_in dir n o) m) (stat_rank dir.target) ≡ Some (Stat (entry_more (is_dir o) dir.attr))
  gain_dir =
      edited_second (set_entry dir n o.target) (and_also (set_attr o o.attr) (set_attr dir (entry_more (is_dir o) dir.attr))) m (stat_rank dir.target)
      (off_entry dir n o.target (stat_rank dir.target) (λ e. entry_not_stat dir.target dir.target n small bytes dir_object (sym e)))
      ∙ edited_second (set_attr o o.attr) (set_attr dir (entry_more (is_dir o) dir.attr)) m (stat_rank dir.target) (off_attr o o.attr (stat_rank dir.target) unlike)
      ∙ put_itself m (stat_rank dir.target) (Stat (entry_more (is_dir o) dir.attr))

-- ---- numbers of a directory

pub more_kind : (d : Bool) (a : Attr) → is_directory (entry_more d a) ≡ is_directory a
more_kind true a = refl
more_kind false a = refl

one_more_is : (last n : ℕ) → n < last → one_more last n ≡ n + 1
one_more_is last n lt = grind (arith, common_steps)

pub more_size : (d : Bool) (a : Attr) → a.size < 2 ^ 64 - 1 → (entry_more d a).size ≡ a.size + 1
more_size true a lt = one_more_is (2 ^ 64 - 1) a.size lt
more_size false a lt = one_more_is (2 ^ 64 - 1) a.size lt

pub more_links : (d : Bool) (a : Attr) → (d ≡ true → a.nlink < 2 ^ 32 - 1) → (entry_more d a).nlink ≡ (if d then a.nlink + 1 else a.nlink)
more_links true a lt = one_more_is (2 ^ 32 - 1) a.nlink (lt refl)
more_links false a lt = refl

-- ---- the object was there, or is new

pub record WasThere (m : Content) (o : Object) : Type 0 where
  pub old : Attr
  pub stat : HasStat m o.target old
  pub file : is_directory old ≡ false
  pub file_still : is_directory o.attr ≡ false
  pub links : o.attr.nlink ≡ old.nlink + 1
  pub size : o.attr.size ≡ old.size
  pub length_too : o.attr.bytes ≡ old.bytes

pub record IsNew (m : Content) (o : Object) : Type 0 where
  pub unused : (u : Target) (a : Attr) → HasStat m u a → u.oid.0 ≢ o.target.oid.0
  pub size : o.attr.size ≡ 0
  pub length_too : o.attr.bytes ≡ 0
  pub links : (is_directory o.attr ≡ true → o.attr.nlink ≡ 2) × (is_directory o.attr ≡ false → o.attr.nlink ≡ 1)

pub record Gains (m : Content) (dir o : Object) (n : List ℕ) : Type 0 where
  pub dir_stat : HasStat m dir.target dir.attr
  pub dir_is : is_directory dir.attr ≡ true
  pub object : IsObject o.target
  pub small : dir.target.oid.0 < 2 ^ 60
  pub bytes : All (λ x. x < 256) n
  pub free : entry_in (at_key m (entry_rank dir.target n)) ≡ None
  pub status : WasThere m o ⊎ IsNew m o
  pub room : dir.attr.size < 2 ^ 64 - 1
  pub links : is_dir o ≡ true → dir.attr.nlink < 2 ^ 32 - 1
  pub no_entry : entry_in (at_key m (stat_rank o.target)) ≡ None

module _ (m : Content) (dir o : Object) (n : List ℕ) (lawful : HasObjects m) (h : Gains m dir o n) where
  abbrev pub after : Content
  after = edited (name_in dir n o) m

  abbrev pub key : ℕ
  key = entry_rank dir.target n

  -- no directory that was there is the object
  not_directory : (t : Target) (a : Attr) → HasStat m t a → is_directory a ≡ true → t ≢ o.target
  not_directory t a there is same = elim h.status [
    | inl was ↦ true_not_false (sym is ∙ ap is_directory (stat_same a was.old (sym there.1 ∙ ap (λ (u : Target). at_key m (stat_rank u)) same ∙ was.stat.1)) ∙ was.file)
    | inr new ↦ new.unused t a there (ap (λ (u : Target). u.oid.0) same)
  ]

  unlike : stat_rank dir.target ≢ stat_rank o.target
  unlike e = not_directory dir.target dir.attr h.dir_stat h.dir_is (same_stat dir.target o.target h.dir_stat.0 h.object e)

  off : (k : ℕ) → k ≢ key → k ≢ stat_rank o.target → k ≢ stat_rank dir.target → at_key after k ≡ at_key m k
  off = gain_off m dir o n h.dir_stat.0 h.object h.small h.bytes unlike

  pub entry_now : at_key after key ≡ Some (Entry n o.target)
  entry_now = gain_entry m dir o n h.dir_stat.0 h.object h.small h.bytes unlike

  object_now : at_key after (stat_rank o.target) ≡ Some (Stat o.attr)
  object_now = gain_object m dir o n h.dir_stat.0 h.object h.small h.bytes unlike

  dir_now : at_key after (stat_rank dir.target) ≡ Some (Stat (entry_more (is_dir o) dir.attr))
  dir_now = gain_dir m dir o n h.dir_stat.0 h.object h.small h.bytes unlike

  abbrev pub becomes : Target → Attr → Attr
  becomes t a = if is_same_target t dir.target then entry_more (is_dir o) a else if is_same_target t o.target then o.attr else a

  abbrev Born : Target → Attr → Type 0
  Born t b = IsNew m o × (t ≡ o.target) × (b ≡ o.attr)

  -- each object is the directory, the named one, or another
  which : (t : Target) → ((is_same_target t dir.target ≡ true) × (t ≡ dir.target))
      ⊎ (((is_same_target t dir.target ≡ false) × (is_same_target t o.target ≡ true) × (t ≡ o.target)) ⊎ ((is_same_target t dir.target ≡ false) × (is_same_target t o.target ≡ false)))
  which t = by_test (is_same_target t dir.target) (is_same_target t o.target) refl refl
    where
      by_test : (a b : Bool) → is_same_target t dir.target ≡ a → is_same_target t o.target ≡ b → ((is_same_target t dir.target ≡ true) × (t ≡ dir.target))
          ⊎ (((is_same_target t dir.target ≡ false) × (is_same_target t o.target ≡ true) × (t ≡ o.target)) ⊎ ((is_same_target t dir.target ≡ false) × (is_same_target t o.target ≡ false)))
      by_test true b e f = inl (e, told_same t dir.target e)
      by_test false true e f = inr (inl (e, f, told_same t o.target f))
      by_test false false e f = inr (inr (e, f))

  in_dir : (t : Target) (a : Attr) → is_same_target t dir.target ≡ true → becomes t a ≡ entry_more (is_dir o) a
  in_dir t a e = ap (λ (b : Bool). if b then entry_more (is_dir o) a else if is_same_target t o.target then o.attr else a) e

  in_object : (t : Target) (a : Attr) → is_same_target t dir.target ≡ false → is_same_target t o.target ≡ true → becomes t a ≡ o.attr
  in_object t a e f =
      ap (λ (b : Bool). if b then entry_more (is_dir o) a else if is_same_target t o.target then o.attr else a) e ∙ ap (λ (b : Bool). if b then o.attr else a) f

  in_other : (t : Target) (a : Attr) → is_same_target t dir.target ≡ false → is_same_target t o.target ≡ false → becomes t a ≡ a
  in_other t a e f =
      ap (λ (b : Bool). if b then entry_more (is_dir o) a else if is_same_target t o.target then o.attr else a) e ∙ ap (λ (b : Bool). if b then o.attr else a) f

  dir_attr : (a : Attr) → HasStat m dir.target a → a ≡ dir.attr
  dir_attr a there = stat_same a dir.attr (sym there.1 ∙ h.dir_stat.1)

  other_now : (t : Target) → IsObject t → is_same_target t dir.target ≡ false → is_same_target t o.target ≡ false → at_key after (stat_rank t) ≡ at_key m (stat_rank t)
  other_now t is e f = off (stat_rank t) (λ s. entry_not_stat dir.target t n h.small h.bytes is (sym s)) (other_stat t o.target is h.object f) (other_stat t dir.target is h.dir_stat.0 e)

  pub kept : (t : Target) (a : Attr) → HasStat m t a → HasStat after t (becomes t a)
  kept t a there = (
    there.0,
    elim (which t) [
      | inl (e, is) ↦
          ap (λ (u : Target). at_key after (stat_rank u)) is ∙ dir_now
          ∙ ap (λ (x : Attr). Some (Stat x)) (ap (entry_more (is_dir o)) (sym (dir_attr a (subst (λ (u : Target). HasStat m u a) is there))) ∙ sym (in_dir t a e))
      | inr other ↦ elim other [
        | inl (e, f, is) ↦ ap (λ (u : Target). at_key after (stat_rank u)) is ∙ object_now ∙ ap (λ (x : Attr). Some (Stat x)) (sym (in_object t a e f))
        | inr (e, f) ↦ other_now t there.0 e f ∙ there.1 ∙ ap (λ (x : Attr). Some (Stat x)) (sym (in_other t a e f))
      ]
    ],
  )

  from : (t : Target) (b : Attr) → HasStat after t b → ((a : Attr) × HasStat m t a × (Some (becomes t a) ≡ Some b)) ⊎ Born t b
  from t b there = elim (which t) [
    | inl (e, is) ↦
        let stat : HasStat m t dir.attr = subst (λ (u : Target). HasStat m u dir.attr) (sym is) h.dir_stat in
        let same = stat_same (entry_more (is_dir o) dir.attr) b (sym dir_now ∙ ap (λ (u : Target). at_key after (stat_rank u)) (sym is) ∙ there.1) in
        inl (dir.attr, stat, ap (λ (x : Attr). Some x) (in_dir t dir.attr e ∙ same))
    | inr other ↦ elim other [
      | inl (e, f, is) ↦
          let same = stat_same o.attr b (sym object_now ∙ ap (λ (u : Target). at_key after (stat_rank u)) (sym is) ∙ there.1) in
          elim h.status [
            | inl was ↦ inl (was.old, subst (λ (u : Target). HasStat m u was.old) (sym is) was.stat, ap (λ (x : Attr). Some x) (in_object t was.old e f ∙ same))
            | inr new ↦ inr (new, is, sym same)
          ]
      | inr (e, f) ↦ inl (b, (there.0, sym (other_now t there.0 e f) ∙ there.1), ap (λ (x : Attr). Some x) (in_other t b e f))
    ]
  ]

  pub kind : (t : Target) (a : Attr) → HasStat m t a → is_directory (becomes t a) ≡ is_directory a
  kind t a there = elim (which t) [
    | inl (e, is) ↦ ap is_directory (in_dir t a e) ∙ more_kind (is_dir o) a
    | inr other ↦ elim other [
      | inl (e, f, is) ↦ elim h.status [
        | inl was ↦
            let same = stat_same a was.old (sym there.1 ∙ ap (λ (u : Target). at_key m (stat_rank u)) is ∙ was.stat.1) in
            ap is_directory (in_object t a e f) ∙ was.file_still ∙ sym (ap is_directory same ∙ was.file)
        | inr new ↦ absurd (new.unused t a there (ap (λ (u : Target). u.oid.0) is))
      ]
      | inr (e, f) ↦ ap is_directory (in_other t a e f)
    ]
  ]

  -- ---- what is counted at the two keys

  none_before : (p : ℕ × Value → Bool) → OnEntries p → both_here p key (stat_rank dir.target) m ≡ 0
  none_before p on =
      let a = here_empty p key (at_key m key) on h.free in
      let b = here_empty p (stat_rank dir.target) (at_key m (stat_rank dir.target)) on (ap entry_in h.dir_stat.1) in
      omega arith

  dir_none : (p : ℕ × Value → Bool) → OnEntries p → here p (stat_rank dir.target) (at_key after (stat_rank dir.target)) ≡ 0
  dir_none p on = here_empty p (stat_rank dir.target) (at_key after (stat_rank dir.target)) on (ap entry_in dir_now)

  counted_yes : (p : ℕ × Value → Bool) → OnEntries p → p (key, Entry n o.target) ≡ true → both_here p key (stat_rank dir.target) after ≡ 1
  counted_yes p on e =
      let a = here_yes p key (Entry n o.target) (at_key after key) entry_now e in
      let b = dir_none p on in
      omega arith

  counted_no : (p : ℕ × Value → Bool) → OnEntries p → p (key, Entry n o.target) ≡ false → both_here p key (stat_rank dir.target) after ≡ 0
  counted_no p on e =
      let a = here_no p key (Entry n o.target) (at_key after key) entry_now e in
      let b = dir_none p on in
      omega arith

  key_dir : dir_of_key (key_of_rank key) ≡ dir.target.oid.0
  key_dir = (entry_dir dir.target n h.small h.bytes).0

  in_itself : is_entry_in dir.target.oid.0 (key, Entry n o.target) ≡ true
  in_itself = eq-eqb (dir_of_key (key_of_rank key)) dir.target.oid.0 key_dir

  not_in : (id : ℕ) → id ≢ dir.target.oid.0 → is_entry_in id (key, Entry n o.target) ≡ false
  not_in id ne = ne_eqb (dir_of_key (key_of_rank key)) id (λ e. ne (sym e ∙ key_dir))

  names_kind : names_directory after (Entry n o.target) ≡ is_dir o
  names_kind = ap is_directory_value object_now

  other_id : (t : Target) (a : Attr) → HasStat m t a → is_same_target t dir.target ≡ false → t.oid.0 ≢ dir.target.oid.0
  other_id t a there e same = true_not_false (sym (same_itself t) ∙ ap (is_same_target t) (lawful.one_id t dir.target a dir.attr there h.dir_stat (same_oid t.oid dir.target.oid same)) ∙ e)
    where
      same_oid : (x y : Oid) → x.0 ≡ y.0 → x ≡ y
      same_oid x y e i = record { 0 = e i }

  pub entries_same : (k : ℕ) → k ≢ key → k ≢ stat_rank dir.target → entry_in (at_key m k) ≡ entry_in (at_key after k)
  entries_same k one two = by_key (k == stat_rank o.target) refl
    where
      by_key : (b : Bool) → (k == stat_rank o.target) ≡ b → entry_in (at_key m k) ≡ entry_in (at_key after k)
      by_key true e =
          let is = eqb-true k (stat_rank o.target) e in
          ap (λ (x : ℕ). entry_in (at_key m x)) is ∙ h.no_entry ∙ sym (ap (λ (x : ℕ). entry_in (at_key after x)) is ∙ ap entry_in object_now)
      by_key false e = ap entry_in (sym (off k one (not_same k (stat_rank o.target) e) two))

  entry_target : (s : List ℕ) (t : Target) → at_key after key ≡ Some (Entry s t) → t ≡ o.target
  entry_target s t at = ap (λ (x : Named). x.target) (same_Some (record { name = s; target = t }) (record { name = n; target = o.target }) (sym (ap entry_in at) ∙ ap entry_in entry_now))

  placed_at_key : (s : List ℕ) (t : Target) → at_key after key ≡ Some (Entry s t) → IsPlaced after key t
  placed_at_key s t at =
      let is = entry_target s t at in
      let (a, there, dir_root) = lawful.root in
      record {
        no_root = λ e. not_directory root_object a there dir_root (sym e ∙ is);
        object = (o.attr, subst (λ (u : Target). HasStat after u o.attr) (sym is) (h.object, object_now));
        holder = (dir.target, entry_more (is_dir o) dir.attr, (h.dir_stat.0, dir_now), more_kind (is_dir o) dir.attr ∙ h.dir_is, key_dir);
      }

  placed : (k : ℕ) (s : List ℕ) (t : Target) → (k ≡ key) ⊎ (k ≡ stat_rank dir.target) → at_key after k ≡ Some (Entry s t) → IsPlaced after k t
  placed k s t new at = elim new [
    | inl e ↦ subst (λ (x : ℕ). IsPlaced after x t) (sym e) (placed_at_key s t (ap (at_key after) (sym e) ∙ at))
    | inr e ↦ absurd (not_entry (at_key after k) s t (ap (λ (x : ℕ). entry_in (at_key after x)) e ∙ ap entry_in dir_now) at)
  ]

  none_moved : (k : ℕ) (s : List ℕ) (t : Target) → (k ≡ key) ⊎ (k ≡ stat_rank dir.target) → at_key m k ≡ Some (Entry s t) → ⊥
  none_moved k s t new at = elim new [
    | inl e ↦ not_entry (at_key m k) s t (ap (λ (x : ℕ). entry_in (at_key m x)) e ∙ h.free) at
    | inr e ↦ not_entry (at_key m k) s t (ap (λ (x : ℕ). entry_in (at_key m x)) e ∙ ap entry_in h.dir_stat.1) at
  ]

  directory_links : (t : Target) (a : Attr) → HasStat m t a → is_directory a ≡ true → both_here (named t) key (stat_rank dir.target) m ≡ both_here (named t) key (stat_rank dir.target) after
  directory_links t a there is =
      let before = none_before (named t) (named_on t) in
      let now = counted_no (named t) (named_on t) (names_other t o.target n (λ e. not_directory t a there is (sym e))) in
      omega arith

  file_links : (t : Target) (a : Attr) → HasStat m t a → is_directory a ≡ false
      → (becomes t a).nlink + both_here (named t) key (stat_rank dir.target) m ≡ a.nlink + both_here (named t) key (stat_rank dir.target) after
  file_links t a there file =
      let before = none_before (named t) (named_on t) in
      elim (which t) [
        | inl (e, is) ↦
            let same = dir_attr a (subst (λ (u : Target). HasStat m u a) is there) in
            absurd (true_not_false (sym h.dir_is ∙ ap is_directory (sym same) ∙ file))
        | inr other ↦ elim other [
          | inl (e, f, is) ↦ elim h.status [
            | inl was ↦
                let same = stat_same a was.old (sym there.1 ∙ ap (λ (u : Target). at_key m (stat_rank u)) is ∙ was.stat.1) in
                let now = counted_yes (named t) (named_on t) (ap (λ (u : Target). is_same_target u t) (sym is) ∙ same_itself t) in
                let new = ap (λ (x : Attr). x.nlink) (in_object t a e f) in
                let old : a.nlink ≡ was.old.nlink = ap (λ (x : Attr). x.nlink) same in
                let more = was.links in
                omega arith
            | inr new ↦ absurd (new.unused t a there (ap (λ (u : Target). u.oid.0) is))
          ]
          | inr (e, f) ↦
              let now = counted_no (named t) (named_on t) (names_other t o.target n (λ same. true_not_false (sym (same_itself o.target) ∙ ap (λ (u : Target). is_same_target u o.target) same ∙ f))) in
              let same : (becomes t a).nlink ≡ a.nlink = ap (λ (x : Attr). x.nlink) (in_other t a e f) in
              omega arith
        ]
      ]

  still_alive : (t : Target) (a : Attr) → HasStat m t a → is_directory a ≡ false → 1 ≤ a.nlink → 1 ≤ (becomes t a).nlink
  still_alive t a there file some =
      let links = file_links t a there file in
      let before = none_before (named t) (named_on t) in
      omega arith

  sizes : (t : Target) (a : Attr) → HasStat m t a → is_directory a ≡ true
      → (becomes t a).size + both_here (is_entry_in t.oid.0) key (stat_rank dir.target) m ≡ a.size + both_here (is_entry_in t.oid.0) key (stat_rank dir.target) after
  sizes t a there is_d =
      let before = none_before (is_entry_in t.oid.0) (entry_on t.oid.0) in
      elim (which t) [
        | inl (e, is) ↦
            let same = dir_attr a (subst (λ (u : Target). HasStat m u a) is there) in
            let now = counted_yes (is_entry_in t.oid.0) (entry_on t.oid.0) (ap (λ (u : Target). is_entry_in u.oid.0 (key, Entry n o.target)) is ∙ in_itself) in
            let size : a.size ≡ dir.attr.size = ap (λ (x : Attr). x.size) same in
            let room = h.room in
            let new : (becomes t a).size ≡ a.size + 1 = ap (λ (x : Attr). x.size) (in_dir t a e) ∙ more_size (is_dir o) a (omega arith) in
            omega arith
        | inr other ↦ elim other [
          | inl (e, f, is) ↦ absurd (not_directory t a there is_d is)
          | inr (e, f) ↦
              let now = counted_no (is_entry_in t.oid.0) (entry_on t.oid.0) (not_in t.oid.0 (other_id t a there e)) in
              let same : (becomes t a).size ≡ a.size = ap (λ (x : Attr). x.size) (in_other t a e f) in
              omega arith
        ]
      ]

  links_of_kind : (b : Bool) (t : Target) (a : Attr) → is_dir o ≡ b → is_same_target t dir.target ≡ true → t ≡ dir.target → a.nlink ≡ dir.attr.nlink
      → (becomes t a).nlink ≡ a.nlink + both_here (directory_in after t.oid.0) key (stat_rank dir.target) after
  links_of_kind true t a d e is same =
      let lt = h.links d in
      let now = counted_yes (directory_in after t.oid.0) (directory_on after t.oid.0)
      (ap (λ (u : Target). is_entry_in u.oid.0 (key, Entry n o.target) && names_directory after (Entry n o.target)) is ∙ ap (λ (x : Bool). x && names_directory after (Entry n o.target)) in_itself ∙ names_kind ∙ d) in
      let new : (becomes t a).nlink ≡ a.nlink + 1
      = ap (λ (x : Attr). x.nlink) (in_dir t a e) ∙ more_links (is_dir o) a (λ y. omega arith) ∙ ap (λ (x : Bool). if x then a.nlink + 1 else a.nlink) d in
      omega arith
  links_of_kind false t a d e is same =
      let now = counted_no (directory_in after t.oid.0) (directory_on after t.oid.0)
      (ap (λ (u : Target). is_entry_in u.oid.0 (key, Entry n o.target) && names_directory after (Entry n o.target)) is ∙ ap (λ (x : Bool). x && names_directory after (Entry n o.target)) in_itself ∙ names_kind ∙ d) in
      let new : (becomes t a).nlink ≡ a.nlink
      = ap (λ (x : Attr). x.nlink) (in_dir t a e) ∙ more_links (is_dir o) a (λ y. absurd (true_not_false (sym y ∙ d))) ∙ ap (λ (x : Bool). if x then a.nlink + 1 else a.nlink) d in
      omega arith

  directories : (t : Target) (a : Attr) → HasStat m t a → is_directory a ≡ true
      → (becomes t a).nlink + both_here (directory_in m t.oid.0) key (stat_rank dir.target) m ≡ a.nlink + both_here (directory_in after t.oid.0) key (stat_rank dir.target) after
  directories t a there is_d =
      let before = none_before (directory_in m t.oid.0) (directory_on m t.oid.0) in
      elim (which t) [
        | inl (e, is) ↦
            let same = dir_attr a (subst (λ (u : Target). HasStat m u a) is there) in
            let all = links_of_kind (is_dir o) t a refl e is (ap (λ (x : Attr). x.nlink) same) in
            omega arith
        | inr other ↦ elim other [
          | inl (e, f, is) ↦ absurd (not_directory t a there is_d is)
          | inr (e, f) ↦
              let now = counted_no (directory_in after t.oid.0) (directory_on after t.oid.0) (ap (λ (x : Bool). x && names_directory after (Entry n o.target)) (not_in t.oid.0 (other_id t a there e))) in
              let same : (becomes t a).nlink ≡ a.nlink = ap (λ (x : Attr). x.nlink) (in_other t a e f) in
              omega arith
        ]
      ]

  born : (t : Target) (b : Attr) → Born t b → IsBorn m after key (stat_rank dir.target) t b
  born t b (new, is, same) = record {
    unused = λ u a there e. new.unused u a there (e ∙ ap (λ (x : Target). x.oid.0) is);
    size = ap (λ (x : Attr). x.size) same ∙ new.size;
    no_entries = counted_no (is_entry_in t.oid.0) (entry_on t.oid.0) (not_in t.oid.0 (λ e. new.unused dir.target dir.attr h.dir_stat (sym e ∙ ap (λ (x : Target). x.oid.0) is)));
    named = counted_yes (named t) (named_on t) (ap (λ (u : Target). is_same_target u t) (sym is) ∙ same_itself t);
    links = ((λ d. ap (λ (x : Attr). x.nlink) same ∙ new.links.0 (ap is_directory (sym same) ∙ d)), (λ f. ap (λ (x : Attr). x.nlink) same ∙ new.links.1 (ap is_directory (sym same) ∙ f)));
  }

  pub gains_lawful : HasObjects (edited (name_in dir n o) m)
  gains_lawful = rewired_lawful m after key (stat_rank dir.target) (λ t a. Some (becomes t a)) Born lawful (record {
    apart = entry_not_stat dir.target dir.target n h.small h.bytes h.dir_stat.0;
    others = entries_same;
    kept = λ t a b there e. subst (λ (x : Attr). HasStat after t x) (same_Some (becomes t a) b e) (kept t a there);
    from = from;
    kind = λ t a b there e. ap is_directory (sym (same_Some (becomes t a) b e)) ∙ kind t a there;
    stays = λ k s t a x y at there. (becomes t a, refl);
    holder_stays = λ k s t p a x y at there is in_p. (becomes p a, refl);
    root_stays = λ a there. (becomes root_object a, refl);
    placed = placed;
    directory_links = λ t a b there e is no_root. directory_links t a there is;
    file_links = λ t a b there e file. subst (λ (x : Attr). x.nlink + both_here (named t) key (stat_rank dir.target) m ≡ a.nlink + both_here (named t) key (stat_rank dir.target) after) (same_Some (becomes t a) b e) (file_links t a there file);
    alive = λ t a b there e file some. subst (λ (x : Attr). 1 ≤ x.nlink) (same_Some (becomes t a) b e) (still_alive t a there file some);
    sizes = λ t a b there e is. subst (λ (x : Attr). x.size + both_here (is_entry_in t.oid.0) key (stat_rank dir.target) m ≡ a.size + both_here (is_entry_in t.oid.0) key (stat_rank dir.target) after) (same_Some (becomes t a) b e) (sizes t a there is);
    directories = λ t a b there e is. subst (λ (x : Attr). x.nlink + both_here (directory_in m t.oid.0) key (stat_rank dir.target) m ≡ a.nlink + both_here (directory_in after t.oid.0) key (stat_rank dir.target) after) (same_Some (becomes t a) b e) (directories t a there is);
    born = born;
    one_born = λ t u a b x y. x.1 ∙ sym y.1;
    moved = λ k s t a b new at there is e. absurd (none_moved k s t new at);
  })

  -- ---- bodies

  gain_plain : (k : ℕ) (v : Value) → at_key after k ≡ Some v → (at_key m k ≡ Some v) ⊎ PlainFit (key_of_rank k) v
  gain_plain k v at = by_key (k == key) (k == stat_rank o.target) (k == stat_rank dir.target) refl refl refl
    where
      fits : (w : Value) → PlainFit (key_of_rank k) w → at_key after k ≡ Some w → PlainFit (key_of_rank k) v
      fits w f there = subst (λ (x : Value). PlainFit (key_of_rank k) x) (same_Some w v (sym there ∙ at)) f

      stat_at : (t : Target) (a : Attr) → IsObject t → k ≡ stat_rank t → PlainFit (key_of_rank k) (Stat a)
      stat_at t a is same = subst (λ (x : ℕ). PlainFit (key_of_rank x) (Stat a)) (sym same) (stat_fit t a is)

      by_key : (p q r : Bool) → (k == key) ≡ p → (k == stat_rank o.target) ≡ q → (k == stat_rank dir.target) ≡ r → (at_key m k ≡ Some v) ⊎ PlainFit (key_of_rank k) v
      by_key true q r e f g =
          let is = eqb-true k key e in
          inr (fits (Entry n o.target) (ap (λ (x : ℕ). minor_of (key_of_rank x)) is ∙ (entry_dir dir.target n h.small h.bytes).1) (ap (at_key after) is ∙ entry_now))
      by_key false true r e f g =
          let is = eqb-true k (stat_rank o.target) f in
          inr (fits (Stat o.attr) (stat_at o.target o.attr h.object is) (ap (at_key after) is ∙ object_now))
      by_key false false true e f g =
          let is = eqb-true k (stat_rank dir.target) g in
          inr (fits (Stat (entry_more (is_dir o) dir.attr)) (stat_at dir.target (entry_more (is_dir o) dir.attr) h.dir_stat.0 is) (ap (at_key after) is ∙ dir_now))
      by_key false false false e f g = inl (sym (off k (not_same k key e) (not_same k (stat_rank o.target) f) (not_same k (stat_rank dir.target) g)) ∙ at)

  body_same : (t : Target) (x : ℕ) → IsObject t → x < 2 ^ 64 → at_key after (byte_rank t x) ≡ at_key m (byte_rank t x)
  body_same t x is lt =
      off (byte_rank t x) (λ e. entry_not_byte dir.target t n x h.small h.bytes is lt (sym e)) (λ e. stat_not_byte o.target t x h.object is lt (sym e)) (λ e. stat_not_byte dir.target t x h.dir_stat.0 is lt (sym e))

  more_bytes : (d : Bool) (a : Attr) → (entry_more d a).bytes ≡ (entry_more d a).size
  more_bytes true a = refl
  more_bytes false a = refl

  gain_bytes : (limit : ℕ) → HasBodies limit m → (t : Target) (b : Attr) → HasStat after t b → b.bytes ≡ b.size
  gain_bytes limit bodies t b there = elim (from t b there) [
    | inl (a, was, e) ↦ subst (λ (x : Attr). x.bytes ≡ x.size) (same_Some (becomes t a) b e) (by_which t a was)
    | inr (new, is, same) ↦ subst (λ (x : Attr). x.bytes ≡ x.size) (sym same) (new.length_too ∙ sym new.size)
  ]
    where
      by_which : (u : Target) (a : Attr) → HasStat m u a → (becomes u a).bytes ≡ (becomes u a).size
      by_which u a was = elim (which u) [
        | inl (e, is) ↦ subst (λ (x : Attr). x.bytes ≡ x.size) (sym (in_dir u a e)) (more_bytes (is_dir o) a)
        | inr other ↦ elim other [
          | inl (e, f, is) ↦ subst (λ (x : Attr). x.bytes ≡ x.size) (sym (in_object u a e f)) (elim h.status [
            | inl held ↦ held.length_too ∙ bodies.bytes o.target held.old held.stat ∙ sym held.size
            | inr new ↦ new.length_too ∙ sym new.size
          ])
          | inr (e, f) ↦ subst (λ (x : Attr). x.bytes ≡ x.size) (sym (in_other u a e f)) (bodies.bytes u a was)
        ]
      ]

  gain_size : (t : Target) (a : Attr) → HasStat m t a → is_directory a ≡ false → (becomes t a).size ≡ a.size
  gain_size t a was file = elim (which t) [
    | inl (e, is) ↦ absurd (true_not_false (sym h.dir_is ∙ ap is_directory (sym (dir_attr a (subst (λ (u : Target). HasStat m u a) is was))) ∙ file))
    | inr other ↦ elim other [
      | inl (e, f, is) ↦ elim h.status [
        | inl held ↦
            let same = stat_same a held.old (sym was.1 ∙ ap (λ (u : Target). at_key m (stat_rank u)) is ∙ held.stat.1) in
            ap (λ (x : Attr). x.size) (in_object t a e f) ∙ held.size ∙ ap (λ (x : Attr). x.size) (sym same)
        | inr new ↦ absurd (new.unused t a was (ap (λ (u : Target). u.oid.0) is))
      ]
      | inr (e, f) ↦ ap (λ (x : Attr). x.size) (in_other t a e f)
    ]
  ]

  pub gains_bodies : (limit : ℕ) → HasBodies limit m → HasBodies limit (edited (name_in dir n o) m)
  gains_bodies limit bodies = bodies_kept limit m after bodies (record {
    fits = λ k v at. elim (gain_plain k v at) [ inl old ↦ inl old | inr f ↦ inr (plain_fits after (key_of_rank k) v f) ];
    alive = λ t a x y was file lt at. (becomes t a, kept t a was, kind t a was ∙ file);
    files = λ t b there file. elim (from t b there) [
      | inl (a, was, e) ↦
          let same = same_Some (becomes t a) b e in
          let old_file = sym (kind t a was) ∙ ap is_directory same ∙ file in
          inl (record { old = a; stat = was; file = old_file; size = ap (λ (x : Attr). x.size) (sym same) ∙ gain_size t a was old_file; same = λ x lt. body_same t x was.0 lt })
      | inr (new, is, same) ↦ inr (inl (record { size = ap (λ (x : Attr). x.size) same ∙ new.size; none = λ x y lt at. no_byte t new is there.0 x y lt (sym (body_same t x there.0 lt) ∙ at) }))
    ];
    bytes = gain_bytes limit bodies;
  })
    where
      no_byte : (t : Target) → IsNew m o → t ≡ o.target → IsObject t → (x y : ℕ) → x < 2 ^ 64 → at_key m (byte_rank t x) ≡ Some (Byte y) → ⊥
      no_byte t new is object x y lt at =
          let (minor, (a, stat, file)) = bodies.keys (byte_rank t x) (Byte y) at in
          let back : object_of (key_of_rank (byte_rank t x)) ≡ t = ap object_of (byte_back t x object lt) ∙ byte_object t x in
          new.unused (object_of (key_of_rank (byte_rank t x))) a stat (ap (λ (u : Target). u.oid.0) (back ∙ is))
