-- What stands where after an entry moved.
use Rattle.std.specs.Prelude.{◌≡◌, ◌≢◌, ◌⊎◌, ℕ, ◌-◌, ◌^◌, ◌<◌, ◌≤◌, List, Bool, true, false, ◌&&◌, ◌==◌, All, Option, Some, None, if◌then◌else◌}
use Rattle.std.proofs.Common.{arith, inl, inr, refl, sym, ap, subst, ◌∙◌}
use Rattle.std.proofs.lemmas.Bool.{and_parts, eq-eqb, eqb-true}
use Rattle.std.proofs.lemmas.Option.{same_Some}
use Rattle.r4_base.specs.Key.{key_of_rank, minor_of}
use Rattle.r4_base.specs.Name.{dir_of_key}
use Rattle.r4_base.specs.Value.{Value, Stat, Entry, Byte, Content, at_key}
use Rattle.r4_base.specs.Volume.{HasObjects, HasStat, IsObject, IsReached, byte_rank, is_directory, is_entry_in, stat_rank}
use Rattle.r4_base.specs.declared.items.Attr.{Attr}
use Rattle.r4_base.specs.declared.items.Target.{Target}
use Rattle.r4_content.specs.Edited.{Edits, and_also, edited}
use Rattle.r4_content.specs.Entries.{moved, set_parents}
use Rattle.r4_content.specs.Lawful.{HasBodies}
use Rattle.r4_content.specs.Objects.{Object, cut_key, entry_less, entry_more, entry_rank, is_dir, is_same_target, set_attr, set_entry, unnamed}
use Rattle.r4_content.specs.Ways.{entry_in}
use Rattle.r4_content.proofs.Counting.{not_same, one_there}
use Rattle.r4_content.proofs.EditLaws.{edited_off}
use Rattle.r4_content.proofs.EditParts.{IsOff, edited_first, edited_second, is_off, off_both, true_not_false}
use Rattle.r4_content.proofs.FileEdits.{off_attr, other_stat, put_itself}
use Rattle.r4_content.proofs.Gaining.{stat_same}
use Rattle.r4_content.proofs.Keeping.{IsKeptFile, PlainFit, bodies_kept, plain_fits, stat_fit}
use Rattle.r4_content.proofs.Losing.{cut_itself, not_in_itself, off_unnamed, rest_file, unnamed_body, unnamed_gone, unnamed_kept, rest_of, stat_one, stat_value, unnamed_no_entries, unnamed_stat}
use Rattle.r4_content.proofs.Moving.{IsOver, Moves, becomes, less_if, more_if, parent, parent_kind}
use Rattle.r4_content.proofs.Naming.{off_entry, off_key}
use Rattle.r4_content.proofs.OneObject.{none_edited}
use Rattle.r4_content.proofs.Ranks.{same_bytes, entry_not_byte, entry_not_stat, same_itself, same_stat, stat_not_byte, told_same}
use Rattle.r4_content.proofs.Rewired.{not_entry}
use Rattle.r4_content.proofs.Shapes.{entry_dir, no_entry_body, where_is}

-- ---- the move alone. In `to` the directory's attributes are those without an entry that was there

module _ (m : Content) (dir o to : Object) (name new_name : List ℕ) (dir_object : IsObject dir.target) (to_object : IsObject to.target) (dir_small : dir.target.oid.0 < 2 ^ 60) (to_small : to.target.oid.0 < 2 ^ 60)
    (bytes : All (λ x. x < 256) name) (new_bytes : All (λ x. x < 256) new_name) (apart : entry_rank dir.target name ≢ entry_rank to.target new_name) where
  abbrev move_edits : Edits
  move_edits = moved dir name o to new_name

  abbrev parents : Edits
  parents = set_parents dir to (is_dir o)

  parents_off : (k : ℕ) → k ≢ stat_rank dir.target → k ≢ stat_rank to.target → IsOff (set_parents dir to (is_dir o)) k
  parents_off k one two = by_same (is_same_target dir.target to.target)
    where
      by_same : (b : Bool) → IsOff (if b then set_attr to (entry_more (is_dir o) (entry_less (is_dir o) to.attr))
          else and_also (set_attr dir (entry_less (is_dir o) dir.attr)) (set_attr to (entry_more (is_dir o) to.attr))) k
      by_same true = off_attr to (entry_more (is_dir o) (entry_less (is_dir o) to.attr)) k two
      by_same false = off_both (set_attr dir (entry_less (is_dir o) dir.attr)) (set_attr to (entry_more (is_dir o) to.attr)) k
          (off_attr dir (entry_less (is_dir o) dir.attr) k one) (off_attr to (entry_more (is_dir o) to.attr) k two)

  pub move_off : (k : ℕ) → k ≢ entry_rank dir.target name → k ≢ entry_rank to.target new_name → k ≢ stat_rank dir.target → k ≢ stat_rank to.target → IsOff (moved dir name o to new_name) k
  move_off k one two three four =
      off_both (cut_key (entry_rank dir.target name)) (and_also (set_entry to new_name o.target) parents) k (off_key (entry_rank dir.target name) k one)
      (off_both (set_entry to new_name o.target) parents k (off_entry to new_name o.target k two) (parents_off k three four))

  pub move_gone : at_key (edited (moved dir name o to new_name) m) (entry_rank dir.target name) ≡ None
  move_gone =
      edited_first (cut_key (entry_rank dir.target name)) (and_also (set_entry to new_name o.target) parents) m (entry_rank dir.target name)
      (off_both (set_entry to new_name o.target) parents (entry_rank dir.target name) (off_entry to new_name o.target (entry_rank dir.target name) apart)
      (parents_off (entry_rank dir.target name) (entry_not_stat dir.target dir.target name dir_small bytes dir_object) (entry_not_stat dir.target to.target name dir_small bytes to_object)))
      ∙ cut_itself m (entry_rank dir.target name)

  pub move_came : at_key (edited (moved dir name o to new_name) m) (entry_rank to.target new_name) ≡ Some (Entry new_name o.target)
  move_came =
      edited_second (cut_key (entry_rank dir.target name)) (and_also (set_entry to new_name o.target) parents) m (entry_rank to.target new_name) (off_key (entry_rank dir.target name) (entry_rank to.target new_name) (λ e. apart (sym e)))
      ∙ edited_first (set_entry to new_name o.target) parents m (entry_rank to.target new_name)
      (parents_off (entry_rank to.target new_name) (entry_not_stat to.target dir.target new_name to_small new_bytes dir_object) (entry_not_stat to.target to.target new_name to_small new_bytes to_object))
      ∙ put_itself m (entry_rank to.target new_name) (Entry new_name o.target)

  -- at a stat key the parents alone are set
  at_parents : (t : Target) → IsObject t → at_key (edited (moved dir name o to new_name) m) (stat_rank t) ≡ at_key (edited (set_parents dir to (is_dir o)) m) (stat_rank t)
  at_parents t is =
      edited_second (cut_key (entry_rank dir.target name)) (and_also (set_entry to new_name o.target) parents) m (stat_rank t)
      (off_key (entry_rank dir.target name) (stat_rank t) (λ e. entry_not_stat dir.target t name dir_small bytes is (sym e)))
      ∙ edited_second (set_entry to new_name o.target) parents m (stat_rank t) (off_entry to new_name o.target (stat_rank t) (λ e. entry_not_stat to.target t new_name to_small new_bytes is (sym e)))

  pub move_to : at_key (edited (moved dir name o to new_name) m) (stat_rank to.target) ≡ Some (Stat (entry_more (is_dir o) (less_if (is_same_target dir.target to.target) (is_dir o) to.attr)))
  move_to = at_parents to.target to_object ∙ by_same (is_same_target dir.target to.target)
    where
      by_same : (b : Bool) → at_key (edited (if b then set_attr to (entry_more (is_dir o) (entry_less (is_dir o) to.attr)) else and_also (set_attr dir (entry_less (is_dir o) dir.attr)) (set_attr to (entry_more (is_dir o) to.attr))) m)
          (stat_rank to.target) ≡ Some (Stat (entry_more (is_dir o) (less_if b (is_dir o) to.attr)))
      by_same true = put_itself m (stat_rank to.target) (Stat (entry_more (is_dir o) (entry_less (is_dir o) to.attr)))
      by_same false = put_itself (edited (set_attr dir (entry_less (is_dir o) dir.attr)) m) (stat_rank to.target) (Stat (entry_more (is_dir o) to.attr))

  pub move_from : is_same_target dir.target to.target ≡ false → at_key (edited (moved dir name o to new_name) m) (stat_rank dir.target) ≡ Some (Stat (entry_less (is_dir o) dir.attr))
  move_from other =
      at_parents dir.target dir_object
      ∙ ap (λ (b : Bool). at_key (edited (if b then set_attr to (entry_more (is_dir o) (entry_less (is_dir o) to.attr)) else and_also (set_attr dir (entry_less (is_dir o) dir.attr)) (set_attr to (entry_more (is_dir o) to.attr))) m)
      (stat_rank dir.target)) other
      ∙ edited_first (set_attr dir (entry_less (is_dir o) dir.attr)) (set_attr to (entry_more (is_dir o) to.attr)) m (stat_rank dir.target)
      (off_attr to (entry_more (is_dir o) to.attr) (stat_rank dir.target) (λ e. true_not_false (sym (same_itself dir.target) ∙ ap (is_same_target dir.target) (same_stat dir.target to.target dir_object to_object e) ∙ other)))
      ∙ put_itself m (stat_rank dir.target) (Stat (entry_less (is_dir o) dir.attr))

-- ---- a move, onto an object or not

pub record CanMove (m : Content) (dir o new : Object) (name new_name : List ℕ) (over : Bool) (old : Object) : Type 0 where
  pub dir_stat : HasStat m dir.target dir.attr
  pub dir_is : is_directory dir.attr ≡ true
  pub stat : HasStat m o.target o.attr
  pub new_stat : HasStat m new.target new.attr
  pub new_is : is_directory new.attr ≡ true
  pub dir_small : dir.target.oid.0 < 2 ^ 60
  pub new_small : new.target.oid.0 < 2 ^ 60
  pub bytes : All (λ x. x < 256) name
  pub new_bytes : All (λ x. x < 256) new_name
  pub entry : at_key m (entry_rank dir.target name) ≡ Some (Entry name o.target)
  pub free : over ≡ false → entry_in (at_key m (entry_rank new.target new_name)) ≡ None
  pub onto : over ≡ true → IsOver m o new old new_name
  pub size : over ≡ true → old.attr.size ≤ 2 ^ 64

-- the directory that the entry comes to, without an entry that was there
abbrev pub comes_to : Object → Object → Bool → Object
comes_to o new over = record { target = new.target; attr = less_if over (is_dir o) new.attr }

abbrev pub moving : (dir : Object) → (name : List ℕ) → Object → (new : Object) → (new_name : List ℕ) → (over : Bool) → (old : Object) → Edits
moving dir name o new new_name over old = if over then and_also (unnamed old) (moved dir name o (comes_to o new true) new_name) else moved dir name o (comes_to o new false) new_name

pub same_sym : (t u : Target) → is_same_target t u ≡ is_same_target u t
same_sym t u = by_test (is_same_target t u) (is_same_target u t) refl refl
  where
    by_test : (a b : Bool) → is_same_target t u ≡ a → is_same_target u t ≡ b → a ≡ b
    by_test true true e f = refl
    by_test false false e f = refl
    by_test true false e f = absurd (true_not_false (sym (same_itself t) ∙ ap (λ (x : Target). is_same_target x t) (told_same t u e) ∙ f))
    by_test false true e f = absurd (true_not_false (sym (same_itself u) ∙ ap (λ (x : Target). is_same_target x u) (told_same u t f) ∙ e))

module _ (limit : ℕ) (m : Content) (dir o new : Object) (name new_name : List ℕ) (over : Bool) (old : Object) (lawful : HasObjects m) (bodies : HasBodies limit m) (h : CanMove m dir o new name new_name over old) where
  abbrev pub key : ℕ
  key = entry_rank dir.target name

  abbrev pub new_key : ℕ
  new_key = entry_rank new.target new_name

  abbrev pub after : Content
  after = edited (moving dir name o new new_name over old) m

  abbrev alone : Bool → Content
  alone b = edited (moved dir name o (comes_to o new b) new_name) m

  key_dir : dir_of_key (key_of_rank key) ≡ dir.target.oid.0
  key_dir = (entry_dir dir.target name h.dir_small h.bytes).0

  new_key_dir : dir_of_key (key_of_rank new_key) ≡ new.target.oid.0
  new_key_dir = (entry_dir new.target new_name h.new_small h.new_bytes).0

  some_entry : (s u : List ℕ) (x y : Target) → Some (Entry s x) ≡ Some (Entry u y) → x ≡ y
  some_entry s u x y e = cc

  pub apart : key ≢ new_key
  apart e = by_over over refl
    where
      by_over : (b : Bool) → over ≡ b → ⊥
      by_over false is = not_entry (at_key m key) name o.target (ap (λ (x : ℕ). entry_in (at_key m x)) e ∙ h.free is) h.entry
      by_over true is = let x = h.onto is in x.other (some_entry new_name name old.target o.target (sym x.entry ∙ ap (at_key m) (sym e) ∙ h.entry))

  pub old_not_new : over ≡ true → old.target ≢ new.target
  old_not_new is e = by_kind (is_dir old) refl
    where
      x : IsOver m o new old new_name
      x = h.onto is

      by_kind : (b : Bool) → is_dir old ≡ b → ⊥
      by_kind true d =
          let (steps, reached) = lawful.reached old.target old.attr x.stat in
          not_in_itself m lawful steps old.target old.attr new_key new_name x.stat d x.entry (new_key_dir ∙ ap (λ (u : Target). u.oid.0) (sym e)) reached
      by_kind false f = true_not_false (sym h.new_is ∙ ap is_directory (stat_one m lawful new.target old.target new.attr old.attr h.new_stat x.stat (sym e)) ∙ f)

  pub old_not_dir : over ≡ true → old.target ≢ dir.target
  old_not_dir is e = by_kind (is_dir old) refl
    where
      x : IsOver m o new old new_name
      x = h.onto is

      by_kind : (b : Bool) → is_dir old ≡ b → ⊥
      by_kind true d =
          let none = x.empty d in
          let some = one_there (is_entry_in old.target.oid.0) m key (Entry name o.target) h.entry (eq-eqb (dir_of_key (key_of_rank key)) old.target.oid.0 (key_dir ∙ ap (λ (u : Target). u.oid.0) (sym e))) in
          absurd (omega arith)
      by_kind false f = true_not_false (sym h.dir_is ∙ ap is_directory (stat_one m lawful dir.target old.target dir.attr old.attr h.dir_stat x.stat (sym e)) ∙ f)

  old_off : over ≡ true → (k : ℕ) → k ≢ stat_rank old.target → ((x : ℕ) → x < 2 ^ 64 → k ≢ byte_rank old.target x) → IsOff (unnamed old) k
  old_off is k one two = off_unnamed old k (h.size is) one two

  -- where the old object is not touched, the move alone is seen
  seen_alone : (k : ℕ) → (over ≡ true → IsOff (unnamed old) k) → at_key after k ≡ at_key (alone over) k
  seen_alone k off = by_over over refl
    where
      by_over : (b : Bool) → over ≡ b → at_key (edited (if b then and_also (unnamed old) (moved dir name o (comes_to o new true) new_name) else moved dir name o (comes_to o new false) new_name) m) k ≡ at_key (alone b) k
      by_over true is = edited_second (unnamed old) (moved dir name o (comes_to o new true) new_name) m k (off is)
      by_over false is = refl

  pub gone : at_key after key ≡ None
  gone =
      seen_alone key (λ is. let x = (h.onto is).stat.0 in old_off is key (entry_not_stat dir.target old.target name h.dir_small h.bytes x) (λ y lt. entry_not_byte dir.target old.target name y h.dir_small h.bytes x lt))
      ∙ move_gone m dir o (comes_to o new over) name new_name h.dir_stat.0 h.new_stat.0 h.dir_small h.new_small h.bytes h.new_bytes apart

  pub came : at_key after new_key ≡ Some (Entry new_name o.target)
  came =
      seen_alone new_key (λ is. let x = (h.onto is).stat.0 in old_off is new_key (entry_not_stat new.target old.target new_name h.new_small h.new_bytes x) (λ y lt. entry_not_byte new.target old.target new_name y h.new_small h.new_bytes x lt))
      ∙ move_came m dir o (comes_to o new over) name new_name h.dir_stat.0 h.new_stat.0 h.dir_small h.new_small h.bytes h.new_bytes apart

  off_alone : (b : Bool) (k : ℕ) → k ≢ key → k ≢ new_key → k ≢ stat_rank dir.target → k ≢ stat_rank new.target → IsOff (moved dir name o (comes_to o new b) new_name) k
  off_alone b k = move_off m dir o (comes_to o new b) name new_name h.dir_stat.0 h.new_stat.0 h.dir_small h.new_small h.bytes h.new_bytes apart k

  -- a stat key, other than the old object's
  stat_alone : (t : Target) → IsObject t → (over ≡ true → t ≢ old.target) → at_key after (stat_rank t) ≡ at_key (alone over) (stat_rank t)
  stat_alone t is other =
      seen_alone (stat_rank t) (λ yes_over. let x = (h.onto yes_over).stat.0 in
      old_off yes_over (stat_rank t) (λ e. other yes_over (same_stat t old.target is x e)) (λ y lt. stat_not_byte t old.target y is x lt))

  pub old_now : over ≡ true → at_key after (stat_rank old.target) ≡ stat_value (rest_of old)
  old_now yes_over = by_over over refl yes_over
    where
      by_over : (b : Bool) → over ≡ b → b ≡ true → at_key (edited (if b then and_also (unnamed old) (moved dir name o (comes_to o new true) new_name) else moved dir name o (comes_to o new false) new_name) m) (stat_rank old.target) ≡ stat_value (rest_of old)
      by_over false is e = absurd (true_not_false (sym e))
      by_over true is e =
          let x = (h.onto is).stat.0 in
          edited_first (unnamed old) (moved dir name o (comes_to o new true) new_name) m (stat_rank old.target)
          (off_alone true (stat_rank old.target) (λ s. entry_not_stat dir.target old.target name h.dir_small h.bytes x (sym s)) (λ s. entry_not_stat new.target old.target new_name h.new_small h.new_bytes x (sym s))
          (λ s. old_not_dir is (same_stat old.target dir.target x h.dir_stat.0 s)) (λ s. old_not_new is (same_stat old.target new.target x h.new_stat.0 s)))
          ∙ unnamed_stat m old x (h.size is)

  old_body : over ≡ true → (y : ℕ) → y < 2 ^ 64 → entry_in (at_key after (byte_rank old.target y)) ≡ None
  old_body yes_over y lt = by_over over refl yes_over
    where
      by_over : (b : Bool) → over ≡ b → b ≡ true → entry_in (at_key (edited (if b then and_also (unnamed old) (moved dir name o (comes_to o new true) new_name) else moved dir name o (comes_to o new false) new_name) m) (byte_rank old.target y)) ≡ None
      by_over false is e = absurd (true_not_false (sym e))
      by_over true is e =
          let x = (h.onto is).stat.0 in
          ap entry_in (edited_first (unnamed old) (moved dir name o (comes_to o new true) new_name) m (byte_rank old.target y)
          (off_alone true (byte_rank old.target y) (λ s. entry_not_byte dir.target old.target name y h.dir_small h.bytes x lt (sym s)) (λ s. entry_not_byte new.target old.target new_name y h.new_small h.new_bytes x lt (sym s))
          (λ s. stat_not_byte dir.target old.target y h.dir_stat.0 x lt (sym s)) (λ s. stat_not_byte new.target old.target y h.new_stat.0 x lt (sym s))))
          ∙ none_edited (unnamed old) m (byte_rank old.target y) (unnamed_no_entries old) (no_entry_body limit m bodies old.target y x lt)

  -- ---- the directories

  new_now : at_key after (stat_rank new.target) ≡ Some (Stat (parent dir.target new.target over (is_dir o) new.target new.attr))
  new_now =
      stat_alone new.target h.new_stat.0 (λ is e. old_not_new is (sym e))
      ∙ move_to m dir o (comes_to o new over) name new_name h.dir_stat.0 h.new_stat.0 h.dir_small h.new_small h.bytes h.new_bytes apart ∙ ap (λ (x : Attr). Some (Stat x)) formula
    where
      formula : entry_more (is_dir o) (less_if (is_same_target dir.target new.target) (is_dir o) (less_if over (is_dir o) new.attr)) ≡ parent dir.target new.target over (is_dir o) new.target new.attr
      formula =
          ap (λ (b : Bool). more_if b (is_dir o) (less_if (is_same_target dir.target new.target) (is_dir o) (less_if over (is_dir o) new.attr))) (sym (same_itself new.target))
          ∙ ap (λ (b : Bool). more_if (is_same_target new.target new.target) (is_dir o) (less_if b (is_dir o) (less_if over (is_dir o) new.attr))) (same_sym dir.target new.target)
          ∙ ap (λ (b : Bool). more_if (is_same_target new.target new.target) (is_dir o) (less_if (is_same_target new.target dir.target) (is_dir o) (less_if b (is_dir o) new.attr))) (sym (ap (λ (b : Bool). over && b) (same_itself new.target) ∙ and_true over))
        where
          and_true : (b : Bool) → (b && true) ≡ b
          and_true true = refl
          and_true false = refl

  dir_now : is_same_target dir.target new.target ≡ false → at_key after (stat_rank dir.target) ≡ Some (Stat (parent dir.target new.target over (is_dir o) dir.target dir.attr))
  dir_now other =
      stat_alone dir.target h.dir_stat.0 (λ is e. old_not_dir is (sym e))
      ∙ move_from m dir o (comes_to o new over) name new_name h.dir_stat.0 h.new_stat.0 h.dir_small h.new_small h.bytes h.new_bytes apart other ∙ ap (λ (x : Attr). Some (Stat x)) (sym formula)
    where
      and_false : (b : Bool) → (b && false) ≡ false
      and_false true = refl
      and_false false = refl

      formula : parent dir.target new.target over (is_dir o) dir.target dir.attr ≡ entry_less (is_dir o) dir.attr
      formula =
          ap (λ (b : Bool). more_if b (is_dir o) (less_if (is_same_target dir.target dir.target) (is_dir o) (less_if (over && b) (is_dir o) dir.attr))) other
          ∙ ap (λ (b : Bool). less_if b (is_dir o) (less_if (over && false) (is_dir o) dir.attr)) (same_itself dir.target) ∙ ap (λ (b : Bool). entry_less (is_dir o) (less_if b (is_dir o) dir.attr)) (and_false over)

  pub other_parent : (t : Target) (a : Attr) → is_same_target t dir.target ≡ false → is_same_target t new.target ≡ false → parent dir.target new.target over (is_dir o) t a ≡ a
  other_parent t a e f =
      ap (λ (c : Bool). more_if c (is_dir o) (less_if (is_same_target t dir.target) (is_dir o) (less_if (over && c) (is_dir o) a))) f
      ∙ ap (λ (c : Bool). less_if c (is_dir o) (less_if (over && false) (is_dir o) a)) e ∙ by_over over
    where
      by_over : (b : Bool) → less_if (b && false) (is_dir o) a ≡ a
      by_over true = refl
      by_over false = refl

  other_now : (t : Target) → IsObject t → (over ≡ true → t ≢ old.target) → is_same_target t dir.target ≡ false → is_same_target t new.target ≡ false → at_key after (stat_rank t) ≡ at_key m (stat_rank t)
  other_now t is other e f =
      stat_alone t is other
      ∙ edited_off (moved dir name o (comes_to o new over) new_name) m (stat_rank t) (is_off (moved dir name o (comes_to o new over) new_name) (stat_rank t)
      (off_alone over (stat_rank t) (λ s. entry_not_stat dir.target t name h.dir_small h.bytes is (sym s)) (λ s. entry_not_stat new.target t new_name h.new_small h.new_bytes is (sym s))
      (other_stat t dir.target is h.dir_stat.0 e) (other_stat t new.target is h.new_stat.0 f)))

  -- what stands at a stat key of an object that does not go
  pub parent_now : (t : Target) (a : Attr) → HasStat m t a → (over ≡ true → t ≢ old.target) → at_key after (stat_rank t) ≡ Some (Stat (parent dir.target new.target over (is_dir o) t a))
  parent_now t a there other = by_target (is_same_target t new.target) (is_same_target t dir.target) refl refl
    where
      by_target : (p q : Bool) → is_same_target t new.target ≡ p → is_same_target t dir.target ≡ q → at_key after (stat_rank t) ≡ Some (Stat (parent dir.target new.target over (is_dir o) t a))
      by_target true q e f =
          let same = told_same t new.target e in
          let attr = stat_one m lawful t new.target a new.attr there h.new_stat same in
          ap (λ (u : Target). at_key after (stat_rank u)) same ∙ new_now ∙ ap (λ (u : Target). Some (Stat (parent dir.target new.target over (is_dir o) u new.attr))) (sym same)
          ∙ ap (λ (x : Attr). Some (Stat (parent dir.target new.target over (is_dir o) t x))) (sym attr)
      by_target false true e f =
          let same = told_same t dir.target f in
          let attr = stat_one m lawful t dir.target a dir.attr there h.dir_stat same in
          ap (λ (u : Target). at_key after (stat_rank u)) same ∙ dir_now (ap (λ (u : Target). is_same_target u new.target) (sym same) ∙ e)
          ∙ ap (λ (u : Target). Some (Stat (parent dir.target new.target over (is_dir o) u dir.attr))) (sym same) ∙ ap (λ (x : Attr). Some (Stat (parent dir.target new.target over (is_dir o) t x))) (sym attr)
      by_target false false e f = other_now t there.0 other f e ∙ there.1 ∙ ap (λ (x : Attr). Some (Stat x)) (sym (other_parent t a f e))

  not_old : (t : Target) → (over && is_same_target t old.target) ≡ false → over ≡ true → t ≢ old.target
  not_old t is yes_over same = true_not_false (sym (ap (λ (b : Bool). b && is_same_target t old.target) yes_over ∙ ap (λ (u : Target). is_same_target u old.target) same ∙ same_itself old.target) ∙ is)

  kept : (t : Target) (a b : Attr) → HasStat m t a → becomes dir.target new.target over (is_dir o) old t a ≡ Some b → HasStat after t b
  kept t a b there e = (there.0, by_test (over && is_same_target t old.target) refl e)
    where
      by_test : (c : Bool) → (over && is_same_target t old.target) ≡ c → (if c then rest_of old else Some (parent dir.target new.target over (is_dir o) t a)) ≡ Some b → at_key after (stat_rank t) ≡ Some (Stat b)
      by_test true is same =
          let (yes_over, here) = and_parts over (is_same_target t old.target) is in
          ap (λ (u : Target). at_key after (stat_rank u)) (told_same t old.target here) ∙ old_now yes_over ∙ ap stat_value same
      by_test false is same = parent_now t a there (not_old t is) ∙ ap stat_value same

  is_there : (t : Target) (b : Attr) → HasStat after t b → (over ≡ true → t ≢ old.target) → (a : Attr) × HasStat m t a
  is_there t b there other = by_target (is_same_target t new.target) (is_same_target t dir.target) refl refl
    where
      by_target : (p q : Bool) → is_same_target t new.target ≡ p → is_same_target t dir.target ≡ q → (a : Attr) × HasStat m t a
      by_target true q e f = (new.attr, subst (λ (u : Target). HasStat m u new.attr) (sym (told_same t new.target e)) h.new_stat)
      by_target false true e f = (dir.attr, subst (λ (u : Target). HasStat m u dir.attr) (sym (told_same t dir.target f)) h.dir_stat)
      by_target false false e f = (b, (there.0, sym (other_now t there.0 other f e) ∙ there.1))

  from : (t : Target) (b : Attr) → HasStat after t b → (a : Attr) × HasStat m t a × (becomes dir.target new.target over (is_dir o) old t a ≡ Some b)
  from t b there = by_test (over && is_same_target t old.target) refl
    where
      is_rest : (v : Option Attr) → stat_value v ≡ Some (Stat b) → v ≡ Some b
      is_rest None e = absurd cc
      is_rest (Some c) e = ap (λ (d : Attr). Some d) (stat_same c b e)

      pick : (c : Bool) (a : Attr) → (over && is_same_target t old.target) ≡ c → (if c then rest_of old else Some (parent dir.target new.target over (is_dir o) t a)) ≡ Some b → becomes dir.target new.target over (is_dir o) old t a ≡ Some b
      pick c a is e = ap (λ (x : Bool). if x then rest_of old else Some (parent dir.target new.target over (is_dir o) t a)) is ∙ e

      by_test : (c : Bool) → (over && is_same_target t old.target) ≡ c → (a : Attr) × HasStat m t a × (becomes dir.target new.target over (is_dir o) old t a ≡ Some b)
      by_test true is =
          let (yes_over, here) = and_parts over (is_same_target t old.target) is in
          let same = told_same t old.target here in
          let stat = (h.onto yes_over).stat in (
            old.attr,
            subst (λ (u : Target). HasStat m u old.attr) (sym same) stat,
            pick true old.attr is (is_rest (rest_of old) (sym (old_now yes_over) ∙ ap (λ (u : Target). at_key after (stat_rank u)) (sym same) ∙ there.1)),
          )
      by_test false is =
          let (a, was) = is_there t b there (not_old t is) in
          (a, was, pick false a is (ap (λ (x : Attr). Some x) (stat_same (parent dir.target new.target over (is_dir o) t a) b (sym (parent_now t a was (not_old t is)) ∙ there.1))))

  pub others : (k : ℕ) → k ≢ key → k ≢ new_key → entry_in (at_key m k) ≡ entry_in (at_key after k)
  others k one two = by_key (k == stat_rank dir.target) (k == stat_rank new.target) refl refl
    where
      stat_none : (t : Target) (a : Attr) → HasStat m t a → (over ≡ true → t ≢ old.target) → k ≡ stat_rank t → entry_in (at_key m k) ≡ entry_in (at_key after k)
      stat_none t a there other is = ap (λ (x : ℕ). entry_in (at_key m x)) is ∙ ap entry_in there.1 ∙ sym (ap (λ (x : ℕ). entry_in (at_key after x)) is ∙ ap entry_in (parent_now t a there other))

      rest_none : (v : Option Attr) → entry_in (stat_value v) ≡ None
      rest_none None = refl
      rest_none (Some a) = refl

      by_over : (b : Bool) → over ≡ b → k ≢ stat_rank dir.target → k ≢ stat_rank new.target → entry_in (at_key m k) ≡ entry_in (at_key after k)
      by_over false is three four =
          ap entry_in (sym (seen_alone k (λ e. absurd (true_not_false (sym e ∙ is))) ∙ edited_off (moved dir name o (comes_to o new over) new_name) m k (is_off (moved dir name o (comes_to o new over) new_name) k (off_alone over k one two three four))))
      by_over true is three four = elim (where_is old.target k) [
        | inl at_stat ↦
            ap (λ (x : ℕ). entry_in (at_key m x)) at_stat ∙ ap entry_in (h.onto is).stat.1
            ∙ sym (ap (λ (x : ℕ). entry_in (at_key after x)) at_stat ∙ ap entry_in (old_now is) ∙ rest_none (rest_of old))
        | inr more ↦ elim more [
          | inl (y, lt, at_byte) ↦
              ap (λ (x : ℕ). entry_in (at_key m x)) at_byte ∙ no_entry_body limit m bodies old.target y (h.onto is).stat.0 lt ∙ sym (ap (λ (x : ℕ). entry_in (at_key after x)) at_byte ∙ old_body is y lt)
          | inr elsewhere ↦
              ap entry_in (sym (seen_alone k (λ e. old_off e k elsewhere.stat elsewhere.bytes)
              ∙ edited_off (moved dir name o (comes_to o new over) new_name) m k (is_off (moved dir name o (comes_to o new over) new_name) k (off_alone over k one two three four))))
        ]
      ]

      by_key : (p q : Bool) → (k == stat_rank dir.target) ≡ p → (k == stat_rank new.target) ≡ q → entry_in (at_key m k) ≡ entry_in (at_key after k)
      by_key true q e f = stat_none dir.target dir.attr h.dir_stat (λ is same. old_not_dir is (sym same)) (eqb-true k (stat_rank dir.target) e)
      by_key false true e f = stat_none new.target new.attr h.new_stat (λ is same. old_not_new is (sym same)) (eqb-true k (stat_rank new.target) f)
      by_key false false e f = by_over over refl (not_same k (stat_rank dir.target) e) (not_same k (stat_rank new.target) f)

  pub can_move : ((t : Target) (a : Attr) → HasStat m t a → is_directory a ≡ true → a.size < 2 ^ 64 - 1) → ((t : Target) (a : Attr) → HasStat m t a → a.nlink < 2 ^ 32)
      → (over ≡ false → is_dir o ≡ true → is_same_target new.target dir.target ≡ false → new.attr.nlink < 2 ^ 32 - 1) → (is_dir o ≡ true → (steps : ℕ) × IsReached after steps new.target)
      → Moves m after dir o new name new_name over old
  can_move rooms fits few way = record {
    dir_stat = h.dir_stat;
    dir_is = h.dir_is;
    stat = h.stat;
    new_stat = h.new_stat;
    new_is = h.new_is;
    dir_small = h.dir_small;
    new_small = h.new_small;
    bytes = h.bytes;
    new_bytes = h.new_bytes;
    entry = h.entry;
    free = h.free;
    onto = h.onto;
    rooms = rooms;
    fits = fits;
    few = few;
    gone = gone;
    came = came;
    others = others;
    kept = kept;
    from = from;
    way = way;
  }

  -- ---- bodies

  old_byte : over ≡ true → (x : ℕ) → x < 2 ^ 64 → at_key after (byte_rank old.target x) ≡ at_key (edited (unnamed old) m) (byte_rank old.target x)
  old_byte yes_over x lt = by_over over refl yes_over
    where
      by_over : (b : Bool) → over ≡ b → b ≡ true
          → at_key (edited (if b then and_also (unnamed old) (moved dir name o (comes_to o new true) new_name) else moved dir name o (comes_to o new false) new_name) m) (byte_rank old.target x) ≡ at_key (edited (unnamed old) m) (byte_rank old.target x)
      by_over false is e = absurd (true_not_false (sym e))
      by_over true is e =
          let y = (h.onto is).stat.0 in
          edited_first (unnamed old) (moved dir name o (comes_to o new true) new_name) m (byte_rank old.target x)
          (off_alone true (byte_rank old.target x) (λ s. entry_not_byte dir.target old.target name x h.dir_small h.bytes y lt (sym s)) (λ s. entry_not_byte new.target old.target new_name x h.new_small h.new_bytes y lt (sym s))
          (λ s. stat_not_byte dir.target old.target x h.dir_stat.0 y lt (sym s)) (λ s. stat_not_byte new.target old.target x h.new_stat.0 y lt (sym s)))

  other_byte : (t : Target) (x : ℕ) → IsObject t → x < 2 ^ 64 → (over ≡ true → t ≢ old.target) → at_key after (byte_rank t x) ≡ at_key m (byte_rank t x)
  other_byte t x is lt other =
      seen_alone (byte_rank t x) (λ yes_over. let y = (h.onto yes_over).stat.0 in
      old_off yes_over (byte_rank t x) (λ e. stat_not_byte old.target t x y is lt (sym e)) (λ z lz e. other yes_over (same_bytes t old.target x z is y lt lz e)))
      ∙ edited_off (moved dir name o (comes_to o new over) new_name) m (byte_rank t x) (is_off (moved dir name o (comes_to o new over) new_name) (byte_rank t x)
      (off_alone over (byte_rank t x) (λ s. entry_not_byte dir.target t name x h.dir_small h.bytes is lt (sym s)) (λ s. entry_not_byte new.target t new_name x h.new_small h.new_bytes is lt (sym s))
      (λ s. stat_not_byte dir.target t x h.dir_stat.0 is lt (sym s)) (λ s. stat_not_byte new.target t x h.new_stat.0 is lt (sym s))))

  move_plain : (k : ℕ) (v : Value) → at_key after k ≡ Some v → (at_key m k ≡ Some v) ⊎ PlainFit (key_of_rank k) v
  move_plain k v at = by_key (k == key) (k == new_key) (k == stat_rank dir.target) (k == stat_rank new.target) refl refl refl refl
    where
      none_some : (w : Option Value) → w ≡ None → w ≡ Some v → ⊥
      none_some w e f = absurd (no_value (sym f ∙ e))
        where
          no_value : Some v ≡ None → ⊥
          no_value g = cc

      fits : (w : Value) → PlainFit (key_of_rank k) w → at_key after k ≡ Some w → PlainFit (key_of_rank k) v
      fits w f there = subst (λ (x : Value). PlainFit (key_of_rank k) x) (same_Some w v (sym there ∙ at)) f

      stat_at : (t : Target) (a : Attr) → IsObject t → k ≡ stat_rank t → PlainFit (key_of_rank k) (Stat a)
      stat_at t a is same = subst (λ (x : ℕ). PlainFit (key_of_rank x) (Stat a)) (sym same) (stat_fit t a is)

      rest_fit : (w : Option Attr) → IsObject old.target → k ≡ stat_rank old.target → at_key after k ≡ stat_value w → (at_key m k ≡ Some v) ⊎ PlainFit (key_of_rank k) v
      rest_fit None is same there = absurd (none_some (at_key after k) there at)
      rest_fit (Some a) is same there = inr (fits (Stat a) (stat_at old.target a is same) there)

      parent_fit : (t : Target) (a : Attr) → HasStat m t a → (over ≡ true → t ≢ old.target) → k ≡ stat_rank t → PlainFit (key_of_rank k) v
      parent_fit t a there other same =
          fits (Stat (parent dir.target new.target over (is_dir o) t a)) (stat_at t (parent dir.target new.target over (is_dir o) t a) there.0 same) (ap (at_key after) same ∙ parent_now t a there other)

      off_it : k ≢ key → k ≢ new_key → k ≢ stat_rank dir.target → k ≢ stat_rank new.target → (over ≡ true → IsOff (unnamed old) k) → at_key m k ≡ Some v
      off_it one two three four off =
          sym (seen_alone k off ∙ edited_off (moved dir name o (comes_to o new over) new_name) m k (is_off (moved dir name o (comes_to o new over) new_name) k (off_alone over k one two three four))) ∙ at

      by_over : (b : Bool) → over ≡ b → k ≢ key → k ≢ new_key → k ≢ stat_rank dir.target → k ≢ stat_rank new.target → (at_key m k ≡ Some v) ⊎ PlainFit (key_of_rank k) v
      by_over false is one two three four = inl (off_it one two three four (λ e. absurd (true_not_false (sym e ∙ is))))
      by_over true is one two three four =
          let object = (h.onto is).stat.0 in
          elim (where_is old.target k) [
            | inl same ↦ rest_fit (rest_of old) object same (ap (at_key after) same ∙ old_now is)
            | inr other ↦ elim other [
              | inl (x, lt, same) ↦ elim (unnamed_body m old x object lt) [
                | inl stays ↦ inl (ap (at_key m) same ∙ sym stays ∙ sym (old_byte is x lt) ∙ ap (at_key after) (sym same) ∙ at)
                | inr none ↦ absurd (none_some (at_key after k) (ap (at_key after) same ∙ old_byte is x lt ∙ none) at)
              ]
              | inr elsewhere ↦ inl (off_it one two three four (λ e. old_off e k elsewhere.stat elsewhere.bytes))
            ]
          ]

      by_key : (p q r s : Bool) → (k == key) ≡ p → (k == new_key) ≡ q → (k == stat_rank dir.target) ≡ r → (k == stat_rank new.target) ≡ s → (at_key m k ≡ Some v) ⊎ PlainFit (key_of_rank k) v
      by_key true q r s e f g i = absurd (none_some (at_key after k) (ap (at_key after) (eqb-true k key e) ∙ gone) at)
      by_key false true r s e f g i =
          let is = eqb-true k new_key f in
          inr (fits (Entry new_name o.target) (ap (λ (x : ℕ). minor_of (key_of_rank x)) is ∙ (entry_dir new.target new_name h.new_small h.new_bytes).1) (ap (at_key after) is ∙ came))
      by_key false false true s e f g i = inr (parent_fit dir.target dir.attr h.dir_stat (λ is same. old_not_dir is (sym same)) (eqb-true k (stat_rank dir.target) g))
      by_key false false false true e f g i = inr (parent_fit new.target new.attr h.new_stat (λ is same. old_not_new is (sym same)) (eqb-true k (stat_rank new.target) i))
      by_key false false false false e f g i = by_over over refl (not_same k key e) (not_same k new_key f) (not_same k (stat_rank dir.target) g) (not_same k (stat_rank new.target) i)

  -- ---- each object goes, or stays

  pick_old : (t : Target) (a : Attr) → over ≡ true → t ≡ old.target → becomes dir.target new.target over (is_dir o) old t a ≡ rest_of old
  pick_old t a yes_over same =
      ap (λ (x : Bool). if x then rest_of old else Some (parent dir.target new.target over (is_dir o) t a))
      (ap (λ (b : Bool). b && is_same_target t old.target) yes_over ∙ ap (λ (u : Target). is_same_target u old.target) same ∙ same_itself old.target)

  which_goes : (t : Target) → ((over ≡ true) × (t ≡ old.target)) ⊎ ((over ≡ true → t ≢ old.target) × ((a : Attr) → becomes dir.target new.target over (is_dir o) old t a ≡ Some (parent dir.target new.target over (is_dir o) t a)))
  which_goes t = by_test (over && is_same_target t old.target) refl
    where
      by_test : (c : Bool) → (over && is_same_target t old.target) ≡ c
          → ((over ≡ true) × (t ≡ old.target)) ⊎ ((over ≡ true → t ≢ old.target) × ((a : Attr) → becomes dir.target new.target over (is_dir o) old t a ≡ Some (parent dir.target new.target over (is_dir o) t a)))
      by_test true is = let (yes_over, same) = and_parts over (is_same_target t old.target) is in inl (yes_over, told_same t old.target same)
      by_test false is = inr (not_old t is, λ a. ap (λ (x : Bool). if x then rest_of old else Some (parent dir.target new.target over (is_dir o) t a)) is)

  move_alive : (t : Target) (a : Attr) (x y : ℕ) → HasStat m t a → is_directory a ≡ false → x < 2 ^ 64 → at_key after (byte_rank t x) ≡ Some (Byte y) → (b : Attr) × HasStat after t b × (is_directory b ≡ false)
  move_alive t a x y was file lt at = elim (which_goes t) [
    | inl (yes_over, same) ↦ by_rest yes_over same (rest_of old) refl
    | inr (other, goes) ↦
        (parent dir.target new.target over (is_dir o) t a, kept t a (parent dir.target new.target over (is_dir o) t a) was (goes a), parent_kind dir.target new.target over (is_dir o) t a ∙ file)
  ]
    where
      some_none : Some (Byte y) ≡ None → ⊥
      some_none g = cc

      by_rest : over ≡ true → t ≡ old.target → (w : Option Attr) → rest_of old ≡ w → (b : Attr) × HasStat after t b × (is_directory b ≡ false)
      by_rest yes_over same (Some b) left =
          let (is_file, some, new_attr) = rest_file old b left in
          (b, kept t a b was (pick_old t a yes_over same ∙ left), ap is_directory new_attr ∙ is_file)
      by_rest yes_over same None left =
          let over_it = h.onto yes_over in
          let attr = stat_one m lawful t old.target a old.attr was over_it.stat same in
          let is_file : is_dir old ≡ false = ap is_directory (sym attr) ∙ file in
          let at_o : at_key (edited (unnamed old) m) (byte_rank old.target x) ≡ Some (Byte y) = sym (old_byte yes_over x lt) ∙ ap (λ (u : Target). at_key after (byte_rank u x)) (sym same) ∙ at in
          absurd (elim (unnamed_body m old x over_it.stat.0 lt) [
            | inl stays_same ↦
                let below = (bodies.offsets old.target old.attr over_it.stat is_file x lt).0 (y, sym stays_same ∙ at_o) in
                some_none (sym at_o ∙ unnamed_gone m old x over_it.stat.0 lt below left is_file)
            | inr none ↦ some_none (sym at_o ∙ none)
          ])

  file_stays : (t : Target) (a : Attr) → HasStat m t a → is_directory a ≡ false → parent dir.target new.target over (is_dir o) t a ≡ a
  file_stays t a was file = other_parent t a (not_it dir.target dir.attr h.dir_stat h.dir_is) (not_it new.target new.attr h.new_stat h.new_is)
    where
      not_it : (u : Target) (c : Attr) → HasStat m u c → is_directory c ≡ true → is_same_target t u ≡ false
      not_it u c stat is = by_test (is_same_target t u) refl
        where
          by_test : (b : Bool) → is_same_target t u ≡ b → b ≡ false
          by_test false e = refl
          by_test true e = absurd (true_not_false (sym is ∙ ap is_directory (sym (stat_one m lawful t u a c was stat (told_same t u e))) ∙ file))

  move_files : (t : Target) (b : Attr) → HasStat after t b → is_directory b ≡ false → IsKeptFile m after t b
  move_files t b there file =
      let (a, was, e) = from t b there in
      elim (which_goes t) [
        | inl (yes_over, same) ↦
            let left = sym (pick_old t a yes_over same) ∙ e in
            let over_it = h.onto yes_over in
            let (is_file, some, new_attr) = rest_file old b left in
            record {
              old = old.attr;
              stat = subst (λ (u : Target). HasStat m u old.attr) (sym same) over_it.stat;
              file = is_file;
              size = ap (λ (c : Attr). c.size) new_attr;
              same = λ x lt. ap (λ (w : Target). at_key after (byte_rank w x)) same ∙ old_byte yes_over x lt ∙ unnamed_kept m old x b over_it.stat.0 lt left ∙ ap (λ (w : Target). at_key m (byte_rank w x)) (sym same);
            }
        | inr (other, goes) ↦
            let is = same_Some (parent dir.target new.target over (is_dir o) t a) b (sym (goes a) ∙ e) in
            let old_file = sym (parent_kind dir.target new.target over (is_dir o) t a) ∙ ap is_directory is ∙ file in
            record { old = a; stat = was; file = old_file; size = ap (λ (c : Attr). c.size) (sym is ∙ file_stays t a was old_file); same = λ x lt. other_byte t x was.0 lt other }
      ]

  if_bytes : (c d : Bool) (a : Attr) → a.bytes ≡ a.size → ((less_if c d a).bytes ≡ (less_if c d a).size) × ((more_if c d a).bytes ≡ (more_if c d a).size)
  if_bytes true true a e = (refl, refl)
  if_bytes true false a e = (refl, refl)
  if_bytes false d a e = (e, e)

  move_bytes : (t : Target) (b : Attr) → HasStat after t b → b.bytes ≡ b.size
  move_bytes t b there =
      let (a, was, e) = from t b there in
      elim (which_goes t) [
        | inl (yes_over, same) ↦
            let (is_file, some, new_attr) = rest_file old b (sym (pick_old t a yes_over same) ∙ e) in
            subst (λ (c : Attr). c.bytes ≡ c.size) (sym new_attr) (bodies.bytes old.target old.attr (h.onto yes_over).stat)
        | inr (other, goes) ↦
            subst (λ (c : Attr). c.bytes ≡ c.size) (same_Some (parent dir.target new.target over (is_dir o) t a) b (sym (goes a) ∙ e))
            (if_bytes (is_same_target t new.target) (is_dir o) (less_if (is_same_target t dir.target) (is_dir o) (less_if (over && is_same_target t new.target) (is_dir o) a))
            (if_bytes (is_same_target t dir.target) (is_dir o) (less_if (over && is_same_target t new.target) (is_dir o) a) (if_bytes (over && is_same_target t new.target) (is_dir o) a (bodies.bytes t a was)).0).0).1
      ]

  pub move_bodies : HasBodies limit (edited (moving dir name o new new_name over old) m)
  move_bodies = bodies_kept limit m after bodies (record {
    fits = λ k v at. elim (move_plain k v at) [ inl was ↦ inl was | inr f ↦ inr (plain_fits after (key_of_rank k) v f) ];
    alive = move_alive;
    files = λ t b there file. inl (move_files t b there file);
    bytes = move_bytes;
  })
