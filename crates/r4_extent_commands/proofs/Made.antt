-- The edits of each command are of keys that are no body's, or of one file's bytes.
use Rattle.std.specs.Prelude.{◌≡◌, ◌⊎◌, ℕ, ◌-◌, ◌^◌, ◌<◌, ◌≤◌, List, Bool, Some, true}
use Rattle.std.proofs.Common.{arith, inl, inr, ap, subst, sym, ◌∙◌}
use Rattle.std.specs.FinMap.{find}
use Rattle.std.specs.Ordering.{nat_cmp}
use Rattle.r4_base.specs.Value.{Entry, Stat, Value}
use Rattle.r4_base.specs.Volume.{IsObject, stat_rank}
use Rattle.r4_base.specs.declared.items.Attr.{Attr}
use Rattle.r4_base.specs.declared.items.Target.{Target}
use Rattle.r4_content.specs.Bodies.{truncated, written}
use Rattle.r4_content.specs.Course.{asked}
use Rattle.r4_content.specs.Edited.{Edits, Pairs, and_also, is_in, no_edits}
use Rattle.r4_content.specs.Entries.{linked, moved, name_in, set_parents, unname_in, without}
use Rattle.r4_content.specs.Fields.{HasBytePaths}
use Rattle.r4_content.specs.Meaning.{course, greatest_size}
use Rattle.r4_content.specs.Objects.{Object, cut_key, entry_less, entry_more, entry_rank, is_dir, is_same, made_in}
use Rattle.r4_content.specs.Objects.{set_attr, set_entry, unnamed}
use Rattle.r4_content.specs.Seen.{of_seen}
use Rattle.r4_content.specs.declared.command.Command.{Command}
use Rattle.r4_content.proofs.Found.{small_object}
use Rattle.r4_suited.specs.r4_reach.Touched.{edits_on}
use Rattle.r4_suited.specs.Suited.{AreLawfulSeen}
use Rattle.r4_suited.proofs.Few.{IsHere, IsName, stat_off}
use Rattle.r4_suited.proofs.Walked.{HoldsOfEdits, IsMet, edits_hold, made_object}
use Rattle.r4_extent_commands.specs.Bodies.{HaveSizes}
use Rattle.r4_extent_commands.proofs.Own.{Any, AreAll, IsOff, IsOwn, KeepsSize, both, entry_off, if_both, keeps_size}
use Rattle.r4_extent_commands.proofs.Own.{less_size, more_size, none, one_key, one_more_size, one_value, truncated_own}
use Rattle.r4_extent_commands.proofs.Own.{unnamed_own, written_own}

-- They are of no body, or of one file's.
pub record IsOfFile (s : Pairs) (e : Edits) : Type 0 where
  pub file : Target
  pub object : IsObject file
  pub own : AreAll (IsOwn file) (KeepsSize s) e

abbrev pub AreOfOne : Pairs → Edits → Type 0
AreOfOne s e = AreAll IsOff Any e ⊎ IsOfFile s e

less_fits : (d : Bool) (a : Attr) → a.size ≤ greatest_size → (entry_less d a).size ≤ greatest_size - 1
less_fits d a le = let is = less_size d a in omega (arith, is, le)

more_fits : (d : Bool) (a : Attr) → a.size ≤ greatest_size - 1 → (entry_more d a).size ≤ greatest_size
more_fits d a le =
    let is = more_size d a in
    let most = one_more_size a.size (greatest_size - 1) le in
    omega (arith, is, most)

-- ---- no body

off_attr : (o : Object) (a : Attr) → IsObject o.target → AreAll IsOff Any (set_attr o a)
off_attr o a is = one_value IsOff Any (stat_rank o.target) (Stat a) (stat_off o.target is) tt

off_entry : (dir : Object) (n : List ℕ) (t : Target) → dir.target.oid.0 < 2 ^ 60 → IsName n
    → AreAll IsOff Any (set_entry dir n t)
off_entry dir n t small name =
    one_value IsOff Any (entry_rank dir.target n) (Entry n t) (entry_off dir.target n small name.0) tt

off_named : (dir : Object) (n : List ℕ) (o : Object) → IsObject dir.target → dir.target.oid.0 < 2 ^ 60 → IsName n
    → IsObject o.target → AreAll IsOff Any (name_in dir n o)
off_named dir n o di small name is =
    both IsOff Any (set_entry dir n o.target) (and_also (set_attr o o.attr) (set_attr dir (entry_more (is_dir o) dir.attr)))
    (off_entry dir n o.target small name)
    (both IsOff Any (set_attr o o.attr) (set_attr dir (entry_more (is_dir o) dir.attr)) (off_attr o o.attr is)
    (off_attr dir (entry_more (is_dir o) dir.attr) di))

off_parents : (from to : Object) (d : Bool) → IsObject from.target → IsObject to.target
    → AreAll IsOff Any (set_parents from to d)
off_parents from to d fi ti =
    if_both IsOff Any (is_same from to) (set_attr to (entry_more d (entry_less d to.attr)))
    (and_also (set_attr from (entry_less d from.attr)) (set_attr to (entry_more d to.attr)))
    (off_attr to (entry_more d (entry_less d to.attr)) ti)
    (both IsOff Any (set_attr from (entry_less d from.attr)) (set_attr to (entry_more d to.attr))
    (off_attr from (entry_less d from.attr) fi) (off_attr to (entry_more d to.attr) ti))

off_moved : (dir : Object) (n : List ℕ) (o to : Object) (new_name : List ℕ) → IsObject dir.target
    → dir.target.oid.0 < 2 ^ 60 → IsName n → IsObject to.target → to.target.oid.0 < 2 ^ 60 → IsName new_name
    → AreAll IsOff Any (moved dir n o to new_name)
off_moved dir n o to new_name di small name ti to_small new =
    both IsOff Any (cut_key (entry_rank dir.target n))
    (and_also (set_entry to new_name o.target) (set_parents dir to (is_dir o)))
    (one_key IsOff Any (entry_rank dir.target n) (entry_off dir.target n small name.0))
    (both IsOff Any (set_entry to new_name o.target) (set_parents dir to (is_dir o))
    (off_entry to new_name o.target to_small new) (off_parents dir to (is_dir o) di ti))

-- ---- one file's

module _ (s : Pairs) (S : ℕ → Type 0)
    (sizes : (o : Target) (a : Attr) → IsObject o → S (stat_rank o) → find nat_cmp (stat_rank o) s ≡ Some (Stat a)
    → a.size < 2 ^ 64) where
  small_id : (o : Object) → IsMet s S o → o.target.oid.0 < 2 ^ 60
  small_id o m = (small_object o.target m.here.may).1

  size_met : (o : Object) → IsMet s S o → o.attr.size ≤ 2 ^ 64
  size_met o m =
      let small = sizes o.target o.attr m.here.object m.among m.here.found in
      omega (arith, small)

  of_file : (o : Object) (e : Edits) → IsMet s S o → AreAll (IsOwn o.target) (KeepsSize s) e → AreOfOne s e
  of_file o e m own = inr (record { file = o.target; object = m.here.object; own = own })

  module _ (f : Target) where
    Own : ℕ × ℕ → Type 0
    Own r = IsOwn f r

    attr_own : (o : Object) (a : Attr) → IsMet s S o → (o.attr.size ≤ greatest_size → a.size ≤ greatest_size)
        → AreAll (IsOwn f) (KeepsSize s) (set_attr o a)
    attr_own o a m le = one_value (IsOwn f) (KeepsSize s) (stat_rank o.target) (Stat a)
        (inl (stat_off o.target m.here.object)) (keeps_size s o a m.here.found le)

    entry_own : (dir : Object) (n : List ℕ) (t : Target) → dir.target.oid.0 < 2 ^ 60 → IsName n
        → AreAll (IsOwn f) (KeepsSize s) (set_entry dir n t)
    entry_own dir n t small name =
        one_value (IsOwn f) (KeepsSize s) (entry_rank dir.target n) (Entry n t)
        (inl (entry_off dir.target n small name.0)) tt

    key_own : (dir : Object) (n : List ℕ) → dir.target.oid.0 < 2 ^ 60 → IsName n
        → AreAll (IsOwn f) (KeepsSize s) (cut_key (entry_rank dir.target n))
    key_own dir n small name =
        one_key (IsOwn f) (KeepsSize s) (entry_rank dir.target n) (inl (entry_off dir.target n small name.0))

    -- attributes of a directory from which an object's entry goes besides
    parents_own : (from new_dir old : Object) (d : Bool) → IsMet s S from → IsMet s S new_dir
        → AreAll (IsOwn f) (KeepsSize s) (set_parents from (without new_dir old) d)
    parents_own from new_dir old d mf mn =
        let to = without new_dir old in
        if_both (IsOwn f) (KeepsSize s) (is_same from to) (set_attr to (entry_more d (entry_less d to.attr)))
        (and_also (set_attr from (entry_less d from.attr)) (set_attr to (entry_more d to.attr)))
        (attr_own new_dir (entry_more d (entry_less d to.attr)) mn
        (λ le. more_fits d (entry_less d to.attr)
        (let one = less_fits (is_dir old) new_dir.attr le in
        let two = less_size d to.attr in
        omega (arith, one, two))))
        (both (IsOwn f) (KeepsSize s) (set_attr from (entry_less d from.attr)) (set_attr to (entry_more d to.attr))
        (attr_own from (entry_less d from.attr) mf
        (λ le. let one = less_fits d from.attr le in
        omega (arith, one)))
        (attr_own new_dir (entry_more d to.attr) mn
        (λ le. more_fits d to.attr (less_fits (is_dir old) new_dir.attr le))))

  gone : (dir : Object) (n : List ℕ) (o : Object) → IsMet s S dir → IsName n → IsMet s S o
      → AreOfOne s (unname_in dir n o)
  gone dir n o m name mo =
      of_file o (unname_in dir n o) mo
      (both (IsOwn o.target) (KeepsSize s) (cut_key (entry_rank dir.target n))
      (and_also (set_attr dir (entry_less (is_dir o) dir.attr)) (unnamed o))
      (key_own o.target dir n (small_id dir m) name)
      (both (IsOwn o.target) (KeepsSize s) (set_attr dir (entry_less (is_dir o) dir.attr)) (unnamed o)
      (attr_own o.target dir (entry_less (is_dir o) dir.attr) m
      (λ le. let one = less_fits (is_dir o) dir.attr le in
      omega (arith, one)))
      (unnamed_own s o mo.here.object mo.here.found (size_met o mo))))

  moves_onto : (dir : Object) (n : List ℕ) (o new_dir : Object) (new_name : List ℕ) (old : Object) → IsMet s S dir
      → IsName n → IsMet s S new_dir → IsMet s S old → IsName new_name
      → AreOfOne s (and_also (unnamed old) (moved dir n o (without new_dir old) new_name))
  moves_onto dir n o new_dir new_name old m name mn mo new =
      let to = without new_dir old in
      of_file old (and_also (unnamed old) (moved dir n o to new_name)) mo
      (both (IsOwn old.target) (KeepsSize s) (unnamed old) (moved dir n o to new_name)
      (unnamed_own s old mo.here.object mo.here.found (size_met old mo))
      (both (IsOwn old.target) (KeepsSize s) (cut_key (entry_rank dir.target n))
      (and_also (set_entry to new_name o.target) (set_parents dir to (is_dir o)))
      (key_own old.target dir n (small_id dir m) name)
      (both (IsOwn old.target) (KeepsSize s) (set_entry to new_name o.target) (set_parents dir to (is_dir o))
      (entry_own old.target new_dir new_name o.target (small_id new_dir mn) new)
      (parents_own old.target dir new_dir old (is_dir o) m mn))))

  pub all_of_one : HoldsOfEdits s S (AreOfOne s)
  all_of_one = record {
    none = inl (none IsOff Any);
    made = λ dir n oid a m name kind e. inl (off_named dir n (made_in dir n oid a) m.here.object (small_id dir m) name
        (made_object s dir n oid a m.here name e));
    linked = λ dir n o m name mo. inl (off_named dir n (linked o) m.here.object (small_id dir m) name mo.here.object);
    attrs = λ o a m kind. inl (off_attr o a m.here.object);
    writes = λ e w at. subst (AreOfOne s) (sym w.is)
        (of_file w.file (written w.file w.from w.bytes) (record { here = w.here; among = at })
        (written_own s w.file w.here.object w.here.found w.from w.bytes w.fits));
    resizes = λ e w at. subst (AreOfOne s) (sym w.is)
        (of_file w.file (truncated w.file w.size) (record { here = w.here; among = at })
        (truncated_own s w.file w.here.object w.here.found w.size w.fits
        (size_met w.file (record { here = w.here; among = at }))));
    unnamed = λ dir n o m name mo. gone dir n o m name mo;
    moved = λ dir n o new_dir new_name m name mn new. inl (off_moved dir n o new_dir new_name m.here.object
        (small_id dir m) name mn.here.object (small_id new_dir mn) new);
    onto = λ dir n o new_dir new_name old m name mn mo new. moves_onto dir n o new_dir new_name old m name mn mo new;
  }

pub command_of_one : (c : Command) (s : Pairs) → HasBytePaths c → AreLawfulSeen c s → HaveSizes c s
    → AreOfOne s (edits_on c s)
command_of_one c s bytes lawful sizes =
    edits_hold c s (AreOfOne s)
    (all_of_one s (λ k. is_in (asked (course greatest_size c) (of_seen s)) k ≡ true) (λ o a is at found. sizes o a is at found))
    lawful bytes
