-- A command leaves the names that are not its own.
use Rattle.std.specs.Prelude.{◌≡◌, ◌≢◌, ◌⊎◌, ℕ, ◌+◌, ◌-◌, ◌*◌, ◌/◌, ◌%◌, ◌^◌, ◌<◌, List, [], Bool, true, false, ◌==◌}
use Rattle.std.specs.Prelude.{nat_lt, All, Option, Some, None, length, take, drop, replicate, slice_index_or}
use Rattle.std.specs.Prelude.{if◌then◌else◌}
use Rattle.std.specs.List.{list_all}
use Rattle.std.specs.Option.{is_none}
use Rattle.std.proofs.Common.{arith, inl, inr, refl, sym, ap, subst, ◌∙◌}
use Rattle.std.proofs.lemmas.Bool.{and_parts, eqb-true, ltb-true}
use Rattle.std.proofs.lemmas.Option.{same_Some}
use Rattle.std.proofs.lemmas.List.{take-append-drop}
use Rattle.std.proofs.lemmas.List.Folds.{list_all-append}
use Rattle.r4_base.specs.Key.{key_of_rank}
use Rattle.r4_base.specs.Name.{dir_of_key, name_fault}
use Rattle.r4_base.specs.Value.{Value, Stat, Entry, Byte, Content, at_key}
use Rattle.r4_base.specs.Volume.{IsObject, is_directory, stat_rank}
use Rattle.r4_base.specs.declared.items.Attr.{Attr}
use Rattle.r4_base.specs.declared.items.Target.{Target}
use Rattle.r4_base.specs.declared.things.Oid.{Oid}
use Rattle.r4_content.specs.Bodies.{larger, truncated, written}
use Rattle.r4_content.specs.Course.{Course, Answer, Change, Ending, ending, of_content}
use Rattle.r4_content.specs.Edited.{Edits, edited}
use Rattle.r4_content.specs.Entries.{linked, name_in, unname_in}
use Rattle.r4_content.specs.Fields.{HasBytePaths, HasBytes, HasNumbers, IsUnused, NamesUnused}
use Rattle.r4_content.specs.Lawful.{IsLawful}
use Rattle.r4_content.specs.Meaning.{after, is_path, named, reply, set_attrs}
use Rattle.r4_content.specs.Objects.{Object, entry_rank, is_dir, made_in, new_directory, new_file, set_attr}
use Rattle.r4_content.specs.Reading.{OnlyReads}
use Rattle.r4_content.specs.Walk.{NoName, attr_at, target_at, target_in}
use Rattle.r4_content.specs.Ways.{Named, Place, entry_in, free_here, to_free}
use Rattle.r4_content.specs.declared.command.Command.{Command}
use Rattle.r4_content.specs.declared.command.Command.TheVariants.{Create, Mkdir, Write, Fill, Truncate, Read}
use Rattle.r4_content.specs.declared.command.Command.TheVariants.{Stat as Ask, Names, Link, Unlink, Rmdir, Rename}
use Rattle.r4_content.specs.declared.command.Command.TheVariants.{Chmod, Chown, Times, Begin, End, Commit}
use Rattle.r4_content.specs.declared.reply.Reply.TheVariants.{Okay, Exists, Isdir}
use Rattle.r4_content.proofs.EditLaws.{edited_off}
use Rattle.r4_content.proofs.Counting.{not_same}
use Rattle.r4_content.proofs.EditParts.{is_off, true_not_false}
use Rattle.r4_content.proofs.Gaining.{gain_entry, gain_off}
use Rattle.r4_content.proofs.Makers.{link_done}
use Rattle.r4_content.proofs.MoveEdits.{CanMove, came, gone, moving, others}
use Rattle.r4_content.proofs.Movers.{rename_done}
use Rattle.r4_content.proofs.Naming.{came_above, directory_made, file_made, free_is, last_bytes, make_directory}
use Rattle.r4_content.proofs.Naming.{make_file}
use Rattle.r4_content.proofs.FileEdits.{EditsFile, IsElsewhere, off_attr}
use Rattle.r4_content.proofs.Found.{There, found, small_object, stat_there, walk_is, walked}
use Rattle.r4_content.proofs.Losing.{Loses, off, entry_now as entry_gone}
use Rattle.r4_content.proofs.OneObject.{attrs_done, by_done, numbers_of, stat_was, truncate_done, write_done}
use Rattle.r4_content.proofs.Ranks.{entry_not_byte, entry_not_stat, name_fits, same_stat}
use Rattle.r4_content.proofs.Refusals.{reading_leaves}
use Rattle.r4_content.proofs.SameWay.{IsThere, found_object, target_is}
use Rattle.r4_content.proofs.Shapes.{entry_dir}
use Rattle.r4_content.proofs.Takers.{came_to_entry, loses_name, rmdir_named, unlink_next}
use Rattle.r4_content.proofs.Writing.{truncate_edits, write_edits}
use Rattle.r4_content_rows.specs.OwnNames.{IsLastName, IsOwnName}

-- ---- what a key names

-- the directory of an id, as an object
abbrev by_id : ℕ → Target
by_id dir = record { locality = 0; ordering = 0; oid = record { 0 = dir } }

abbrev as_value : Option Named → Option Value
as_value None = None
as_value (Some x) = Some (Entry x.name x.target)

-- which object a name names depends on the entry alone
same_entry : (n : List ℕ) (v w : Option Value) → entry_in v ≡ entry_in w → target_in n v ≡ target_in n w
same_entry n None None e = refl
same_entry n None (Some (Stat a)) e = refl
same_entry n None (Some (Byte x)) e = refl
same_entry n None (Some (Entry s t)) e = absurd cc
same_entry n (Some (Stat a)) None e = refl
same_entry n (Some (Stat a)) (Some (Stat b)) e = refl
same_entry n (Some (Stat a)) (Some (Byte x)) e = refl
same_entry n (Some (Stat a)) (Some (Entry s t)) e = absurd cc
same_entry n (Some (Byte y)) None e = refl
same_entry n (Some (Byte y)) (Some (Stat b)) e = refl
same_entry n (Some (Byte y)) (Some (Byte x)) e = refl
same_entry n (Some (Byte y)) (Some (Entry s t)) e = absurd cc
same_entry n (Some (Entry s t)) None e = absurd cc
same_entry n (Some (Entry s t)) (Some (Stat b)) e = absurd cc
same_entry n (Some (Entry s t)) (Some (Byte x)) e = absurd cc
same_entry n (Some (Entry s t)) (Some (Entry u w)) e = ap (λ (x : Option Named). target_in n (as_value x)) e

-- at the key of a name there is no entry, or one of just this name
abbrev IsOfName : List ℕ → Option Value → Type 0
IsOfName n v = (entry_in v ≡ None) ⊎ ((t : Target) × (v ≡ Some (Entry n t)))

-- so it names nothing under another name
no_target : (own n : List ℕ) (v : Option Value) → (own ≡ n → ⊥) → IsOfName own v → target_in n v ≡ None
no_target own n v other (inl e) = same_entry n v None e
no_target own n v other (inr (t, e)) = by_target (target_in n v) refl
  where
    same_name : (u : Target) → Some (Entry own t) ≡ Some (Entry n u) → own ≡ n
    same_name u f = cc

    by_target : (x : Option Target) → target_in n v ≡ x → x ≡ None
    by_target None f = refl
    by_target (Some u) f = absurd (other (same_name u (sym e ∙ target_is n v u f)))

-- ---- at the key of a name

module _ (m : Content) (dir : ℕ) (n : List ℕ) (small : dir < 2 ^ 60) (bytes : All (λ x. x < 256) n) where
  abbrev key : ℕ
  key = entry_rank (by_id dir) n

  -- the name names what it did
  abbrev Keeps : Content → Type 0
  Keeps after = target_in n (at_key after key) ≡ target_in n (at_key m key)

  -- a name whose own key is changed is another one
  around : (after : Content) (own : Target) (s : List ℕ) → own.oid.0 < 2 ^ 60 → All (λ x. x < 256) s
      → (own.oid.0 ≡ dir → s ≡ n → ⊥) → IsOfName s (at_key m (entry_rank own s))
      → IsOfName s (at_key after (entry_rank own s))
      → (key ≢ entry_rank own s → Keeps after) → Keeps after
  around after own s fits own_bytes other before now rest = by_test (key == entry_rank own s) refl
    where
      by_test : (b : Bool) → (key == entry_rank own s) ≡ b → Keeps after
      by_test false e = rest (not_same key (entry_rank own s) e)
      by_test true e =
          let same = eqb-true key (entry_rank own s) e in
          let in_own = (entry_dir own s fits own_bytes).0 in
          let in_dir = (entry_dir (by_id dir) n small bytes).0 in
          let not_it = other (sym in_own ∙ ap (λ (k : ℕ). dir_of_key (key_of_rank k)) (sym same) ∙ in_dir) in
          no_target s n (at_key after key) not_it (subst (λ (k : ℕ). IsOfName s (at_key after k)) (sym same) now)
          ∙ sym (no_target s n (at_key m key) not_it (subst (λ (k : ℕ). IsOfName s (at_key m k)) (sym same) before))

  not_stat : (t : Target) → IsObject t → key ≢ stat_rank t
  not_stat t object = entry_not_stat (by_id dir) t n small bytes object

  elsewhere : (t : Target) → IsObject t → IsElsewhere t key
  elsewhere t object = record {
    stat = not_stat t object;
    bytes = λ x lt. entry_not_byte
        (by_id dir) t n x small bytes object lt;
  }

  same_at : (after : Content) → at_key after key ≡ at_key m key → Keeps after
  same_at after e = ap (target_in n) e

  attr_keeps : (o : Object) (a : Attr) → IsThere m o → Keeps (edited (set_attr o a) m)
  attr_keeps o a there = same_at (edited (set_attr o a) m)
      (edited_off (set_attr o a) m key
      (is_off (set_attr o a) key (off_attr o a key (not_stat o.target there.object))))

  file_keeps : (o : Object) (size : ℕ) (e : Edits) → IsThere m o → EditsFile m o size e → Keeps (edited e m)
  file_keeps o size e there h = same_at (edited e m)
      (edited_off e m key (is_off e key (h.elsewhere key (elsewhere o.target there.object))))

  named_keeps : (d o : Object) (s : List ℕ) → IsObject d.target → IsObject o.target → d.target.oid.0 < 2 ^ 60
      → All (λ x. x < 256) s → stat_rank d.target ≢ stat_rank o.target
      → entry_in (at_key m (entry_rank d.target s)) ≡ None
      → (d.target.oid.0 ≡ dir → s ≡ n → ⊥) → Keeps (edited (name_in d s o) m)
  named_keeps d o s d_object object fits s_bytes unlike free other =
      around (edited (name_in d s o) m) d.target s fits s_bytes other (inl free)
      (inr (o.target, gain_entry m d o s d_object object fits s_bytes unlike))
      (λ ne. same_at (edited (name_in d s o) m)
      (gain_off m d o s d_object object fits s_bytes unlike key ne (not_stat o.target object)
      (not_stat d.target d_object)))

  unnamed_keeps : (limit : ℕ) (d o : Object) (s : List ℕ) → IsLawful limit m → Loses m d o s
      → (d.target.oid.0 ≡ dir → s ≡ n → ⊥) → Keeps (edited (unname_in d s o) m)
  unnamed_keeps limit d o s lawful h other =
      around (edited (unname_in d s o) m) d.target s h.small h.bytes other (inr (o.target, h.entry))
      (inl (ap entry_in (entry_gone limit m d o s lawful.objects lawful.bodies h)))
      (λ ne. same_at (edited (unname_in d s o) m)
      (off limit m d o s lawful.objects lawful.bodies h key ne (not_stat d.target h.dir_stat.0)
      (elsewhere o.target h.stat.0)))

  moved_keeps : (limit : ℕ) (d o new : Object) (s new_name : List ℕ) (over : Bool) (old : Object) → IsLawful limit m
      → CanMove m d o new s new_name over old → (d.target.oid.0 ≡ dir → s ≡ n → ⊥)
      → (new.target.oid.0 ≡ dir → new_name ≡ n → ⊥)
      → Keeps (edited (moving d s o new new_name over old) m)
  moved_keeps limit d o new s new_name over old lawful h other other_too =
      let after = edited (moving d s o new new_name over old) m in
      around after d.target s h.dir_small h.bytes other (inr (o.target, h.entry))
      (inl (ap entry_in (gone limit m d o new s new_name over old lawful.objects lawful.bodies h)))
      (λ ne. around after new.target new_name h.new_small h.new_bytes other_too (was over refl)
      (inr (o.target, came limit m d o new s new_name over old lawful.objects lawful.bodies h))
      (λ ne_too. sym (same_entry n (at_key m key) (at_key after key)
      (others limit m d o new s new_name over old lawful.objects lawful.bodies h key ne ne_too))))
    where
      was : (b : Bool) → over ≡ b → IsOfName new_name (at_key m (entry_rank new.target new_name))
      was false is = inl (h.free is)
      was true is = inr (old.target, (h.onto is).entry)

-- ---- the last name of a path

legal_above : (path : List (List ℕ)) (k : ℕ) → is_path path ≡ true → is_path (take k path) ≡ true
legal_above path k e =
    let is_name : List ℕ → Bool = λ (s : List ℕ). is_none (name_fault s) in
    (and_parts (list_all is_name (take k path)) (list_all is_name (drop k path))
    (sym (list_all-append is_name (take k path) (drop k path)) ∙ ap (list_all is_name) (take-append-drop k path)
    ∙ e)).0

last_is : (m : Content) (path : List (List ℕ)) (p : Place) (dir : ℕ) (n s : List ℕ) → is_path path ≡ true
    → found m (take (length path - 1) path) ≡ There p → slice_index_or path (length path - 1) [] ≡ s
    → p.here.target.oid.0 ≡ dir → s ≡ n → IsLastName m path dir n
last_is m path p dir n s legal at last is same =
    let above = take (length path - 1) path in
    let walks = walk_is m above ∙ ap (λ (b : Bool). if b then walked (found m above) else NoName)
    (legal_above path (length path - 1) legal) ∙ ap walked at in
    (p.here.target, p.here.attr, walks, is, last ∙ same)

-- ---- each command

module _ (limit : ℕ) (m : Content) (dir : ℕ) (n : List ℕ) (lt : limit < 2 ^ 64) (lawful : IsLawful limit m)
    (small : dir < 2 ^ 60) (bytes : All (λ x. x < 256) n) where
  abbrev Stays : Content → Type 0
  Stays = Keeps m dir n small bytes

  numbers : HasNumbers m
  numbers = numbers_of limit m lt lawful

  make_keeps : (path : List (List ℕ)) (oid : Oid) (a : Attr) (make : Object → (name : List ℕ) → Course)
      → HasBytes path → IsUnused m oid
      → ((d : Object) (s : List ℕ) → (ending (make d s) (of_content m)).reply ≡ Okay → (oid.0 < 2 ^ 60)
      × (ending (make d s) (of_content m) ≡ record { edits = name_in d s (made_in d s oid a); reply = Okay }))
      → (IsLastName m path dir n → ⊥) → (ending (named path (to_free path make)) (of_content m)).reply ≡ Okay
      → Stays (edited (ending (named path (to_free path make)) (of_content m)).edits m)
  unfolding to_free
  make_keeps path oid a make path_bytes unused made other okay =
      let c = came_above m Exists path (free_here make) (λ e. cc) okay in
      let s = slice_index_or path (length path - 1) [] in
      let d = c.place.here in
      let (is, free, goes) = free_is m make c.place s (sym (ap (λ (x : Ending). x.reply) c.ends) ∙ okay) in
      let (fits, done) = made d s (sym (ap (λ (x : Ending). x.reply) (c.ends ∙ goes)) ∙ okay) in
      let there = found_object m numbers.orderings (take (length path - 1) path) c.place c.at in
      let d_small = (small_object d.target (stat_there m d.target d.attr there.stat).0).1 in
      let s_bytes = last_bytes path c.some path_bytes in
      let object : IsObject (made_in d s oid a).target =
      (d_small, (name_fits d.target s d_small s_bytes).small 1, omega (arith, fits)) in
      let unlike : stat_rank d.target ≢ stat_rank (made_in d s oid a).target = λ e. unused d.target d.attr
      (stat_was m d there) (ap (λ (t : Target). t.oid)
      (same_stat d.target (made_in d s oid a).target there.object object e)) in
      subst (λ (x : Ending). Stays (edited x.edits m)) (sym (c.ends ∙ goes ∙ done))
      (named_keeps m dir n small bytes d (made_in d s oid a) s there.object object d_small s_bytes unlike free
      (λ e f. other (last_is m path c.place dir n s c.name c.at refl e f)))

  link_keeps : (from to : List (List ℕ)) → HasBytes to → (IsLastName m to dir n → ⊥)
      → reply limit (Link from to) m ≡ Okay → Stays (after limit (Link from to) m)
  link_keeps from to to_bytes other okay =
      let d = link_done m from to numbers to_bytes okay in
      let d_small = (small_object d.dir.target (stat_there m d.dir.target d.dir.attr d.dir_there.stat).0).1 in
      let unlike : stat_rank d.dir.target ≢ stat_rank d.object.target = λ e. not_file d.dir d.object d.dir_there
      d.there d.dir_is d.file (same_stat d.dir.target d.object.target d.dir_there.object d.there.object e) in
      subst (λ (x : Ending). Stays (edited x.edits m)) (sym d.ends)
      (named_keeps m dir n small bytes d.dir (linked d.object) d.name d.dir_there.object d.there.object d_small
      d.bytes unlike d.free
      (λ e f. other (last_is m to d.above dir n d.name d.to_legal d.to_at d.to_last
      (ap (λ (x : Object). x.target.oid.0) d.to_is ∙ e) f)))
    where
      not_file : (d o : Object) → IsThere m d → IsThere m o → is_dir d ≡ true → is_dir o ≡ false → d.target ≡ o.target
          → ⊥
      not_file d o d_there there is file same =
          let one : d.attr ≡ o.attr = same_Some d.attr o.attr (sym d_there.stat ∙ ap (attr_at m) same ∙ there.stat) in
          true_not_false (sym is ∙ ap is_directory one ∙ file)

  unlink_keeps : (path : List (List ℕ)) → HasBytes path → (IsLastName m path dir n → ⊥)
      → reply limit (Unlink path) m ≡ Okay → Stays (after limit (Unlink path) m)
  unlink_keeps path path_bytes other okay =
      let c = came_to_entry m Isdir path unlink_next numbers path_bytes (λ e. cc) okay in
      let d = c.above.here in
      let o = c.place.here in
      let file = is_file d o c.name (is_dir o) (sym (ap (λ (x : Ending). x.reply) c.ends) ∙ okay) in
      let ends = c.ends ∙ ap (λ (b : Bool). ending (if b then Answer Isdir else Change (unname_in d c.name o))
      (of_content m)) file in
      let loses = loses_name limit m d o c.name numbers c.above_there c.above_is c.there c.bytes c.entry
      (λ is. absurd (true_not_false (sym is ∙ file))) in
      subst (λ (x : Ending). Stays (edited x.edits m)) (sym ends)
      (unnamed_keeps m dir n small bytes limit d o c.name lawful loses
      (λ e f. other (last_is m path c.above dir n c.name c.legal c.at c.last e f)))
    where
      is_file : (d o : Object) (s : List ℕ) (b : Bool)
          → (ending (if b then Answer Isdir else Change (unname_in d s o)) (of_content m)).reply ≡ Okay → b ≡ false
      is_file d o s true h = absurd cc
      is_file d o s false h = refl

  rmdir_keeps : (path : List (List ℕ)) → HasBytes path → (IsLastName m path dir n → ⊥)
      → reply limit (Rmdir path) m ≡ Okay → Stays (after limit (Rmdir path) m)
  rmdir_keeps path path_bytes other okay =
      let (c, loses, is, ends) = rmdir_named limit path m lt lawful path_bytes okay in
      subst (λ (x : Ending). Stays (edited x.edits m)) (sym ends)
      (unnamed_keeps m dir n small bytes limit c.above.here c.place.here c.name lawful loses
      (λ e f. other (last_is m path c.above dir n c.name c.legal c.at c.last e f)))

  rename_keeps : (from to : List (List ℕ)) → HasBytes from → HasBytes to
      → (IsLastName m from dir n ⊎ IsLastName m to dir n → ⊥) → reply limit (Rename from to) m ≡ Okay
      → Stays (after limit (Rename from to) m)
  rename_keeps from to from_bytes to_bytes other okay =
      rename_done limit from to m lt lawful from_bytes to_bytes (λ e. Stays (edited e m)) refl
      (λ d o s new_name r path e w over old h few.
      moved_keeps m dir n small bytes limit d o r.here s new_name over old lawful h
      (λ f g. other (inl (last_is m from w.above dir n s w.from_legal w.from_at w.from_last
      (ap (λ (x : Object). x.target.oid.0) w.from_is ∙ f) g)))
      (λ f g. other (inr (last_is m to r dir n new_name w.to_legal (ap (found m) w.to_is ∙ e.way) w.to_last f g)))) okay

  write_keeps : (path : List (List ℕ)) (from : ℕ) (xs : List ℕ) → reply limit (Write path from xs) m ≡ Okay
      → Stays (after limit (Write path from xs) m)
  write_keeps path from xs okay =
      write_done limit path from xs m numbers (λ e. Stays (edited e m)) refl
      (λ o there file le. file_keeps m dir n small bytes o (larger o.attr.size (from + length xs))
      (written o from xs) there (write_edits m o there from xs (omega (arith, le, lt)))) okay

  truncate_keeps : (path : List (List ℕ)) (size : ℕ) → reply limit (Truncate path size) m ≡ Okay
      → Stays (after limit (Truncate path size) m)
  truncate_keeps path size okay =
      truncate_done limit path size m numbers (λ e. Stays (edited e m))
      (λ o there file le. let was = numbers.sizes o.target o.attr (stat_was m o there) in file_keeps m dir n small
      bytes o size (truncated o size) there
      (truncate_edits m o there size (omega (arith, was)) (omega (arith, le, lt)))) okay

  attrs_keep : (path : List (List ℕ)) (f : Attr → Attr)
      → (ending (named path (set_attrs path f)) (of_content m)).reply ≡ Okay
      → Stays (edited (ending (named path (set_attrs path f)) (of_content m)).edits m)
  attrs_keep path f okay = attrs_done path f m numbers (λ e. Stays (edited e m))
      (λ o there. attr_keeps m dir n small bytes o (f o.attr) there) okay

  done : (c : Command) → (reply limit c m ≡ Okay → Stays (after limit c m)) → Stays (after limit c m)
  done c h = by_done limit c m Stays refl h

  reading : (c : Command) → OnlyReads c → Stays (after limit c m)
  reading c h = subst Stays (sym (reading_leaves limit c m h)) refl

  each_keeps : (c : Command) → HasBytePaths c → NamesUnused m c → (IsOwnName m c dir n → ⊥) → Stays (after limit c m)
  each_keeps (Create path oid) b unused other = done (Create path oid)
      (make_keeps path oid new_file (make_file oid) b unused (λ d s. file_made m d s oid) other)
  each_keeps (Mkdir path oid) b unused other = done (Mkdir path oid)
      (make_keeps path oid new_directory (make_directory oid) b unused (λ d s. directory_made m d s oid) other)
  each_keeps (Write path offset text) b unused other = done (Write path offset text) (write_keeps path offset text)
  each_keeps (Fill path offset len byte) b unused other = done (Fill path offset len byte)
      (write_keeps path offset (replicate len byte))
  each_keeps (Truncate path size) b unused other = done (Truncate path size) (truncate_keeps path size)
  each_keeps (Read path offset len) b unused other = reading (Read path offset len) tt
  each_keeps (Ask path) b unused other = reading (Ask path) tt
  each_keeps (Names path) b unused other = reading (Names path) tt
  each_keeps (Link from to) b unused other = done (Link from to) (link_keeps from to b.1 other)
  each_keeps (Unlink path) b unused other = done (Unlink path) (unlink_keeps path b other)
  each_keeps (Rmdir path) b unused other = done (Rmdir path) (rmdir_keeps path b other)
  each_keeps (Rename from to) b unused other = done (Rename from to) (rename_keeps from to b.0 b.1 other)
  each_keeps (Chmod path mode) b unused other = done (Chmod path mode)
      (attrs_keep path (λ a. record a { mode = a.mode / 4096 * 4096 + mode % 4096 }))
  each_keeps (Chown path uid gid) b unused other = done (Chown path uid gid)
      (attrs_keep path (λ a. record a { uid = uid; gid = gid }))
  each_keeps (Times path atime mtime ctime) b unused other = done (Times path atime mtime ctime)
      (attrs_keep path (λ a. record a { atime = atime; mtime = mtime; ctime = ctime }))
  each_keeps Begin b unused other = reading Begin tt
  each_keeps End b unused other = reading End tt
  each_keeps Commit b unused other = reading Commit tt

-- no directory has an id of 2^60 or more
pub others_stay : (limit : ℕ) (c : Command) (m : Content) (dir : ℕ) (n : List ℕ) → limit < 2 ^ 64 → IsLawful limit m
    → HasBytePaths c → NamesUnused m c → All (λ x. x < 256) n → (IsOwnName m c dir n → ⊥)
    → target_at (after limit c m) dir n ≡ target_at m dir n
others_stay limit c m dir n lt lawful paths unused bytes other = by_id_small (nat_lt dir (2 ^ 60)) refl
  where
    by_id_small : (b : Bool) → nat_lt dir (2 ^ 60) ≡ b
        → (if b then target_in n (at_key (after limit c m) (entry_rank (by_id dir) n)) else None) ≡ (if b then
        target_in n (at_key m (entry_rank (by_id dir) n)) else None)
    by_id_small true is = each_keeps limit m dir n lt lawful (ltb-true dir (2 ^ 60) is) bytes c paths unused other
    by_id_small false is = refl
