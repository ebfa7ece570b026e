-- unlink and rmdir leave the objects of a lawful content lawful.
use Rattle.std.specs.Prelude.{◌≡◌, ◌≢◌, ℕ, ◌+◌, ◌-◌, ◌*◌, ◌/◌, ◌%◌, ◌^◌, ◌<◌, List, [], ◌∷◌, Bool, true, false, ◌==◌, cond, nat_le, nat_lt, length, take, slice_index, slice_index_or, All, Option, Some, None, if◌then◌else◌}
use Rattle.std.proofs.Common.{arith, refl, sym, ap, subst, ◌∙◌}
use Rattle.std.proofs.lemmas.Bool.{and_from, eqb-true, le-leb, lt-ltb}
use Rattle.std.specs.FinMap.{find, get-entries, retain_keys}
use Rattle.std.specs.Ordering.{nat_cmp}
use Rattle.std.specs.Cmp.{unsigned_tied}
use Rattle.r4_base.specs.Key.{key_of_rank, minor_of, rank}
use Rattle.r4_base.specs.Name.{dir_of_key}
use Rattle.r4_base.specs.Value.{Value, Stat, Entry, Byte, Content, at_key}
use Rattle.r4_base.specs.Volume.{entries_in, is_entry_in}
use Rattle.r4_base.specs.declared.items.Target.{Target}
use Rattle.r4_content.specs.Course.{Course, Answer, Change, Ending, ending, of_content}
use Rattle.r4_content.specs.Edited.{Edits, Pairs, edited, is_between, pairs_between}
use Rattle.r4_content.specs.Entries.{entries_from, entries_to, if_empty, names_in, unname_in, with_entries}
use Rattle.r4_content.specs.Fields.{HasBytes, HasNumbers}
use Rattle.r4_content.specs.Lawful.{HasBodies, IsLawful}
use Rattle.r4_content.specs.Meaning.{after, course, is_path, named, reply}
use Rattle.r4_content.specs.Objects.{Object, entry_rank, is_dir}
use Rattle.r4_content.specs.Ways.{Place, step, to_entry}
use Rattle.r4_content.specs.declared.command.Command.TheVariants.{Rmdir, Unlink}
use Rattle.r4_content.specs.declared.reply.Reply.{Reply}
use Rattle.r4_content.specs.declared.reply.Reply.TheVariants.{Okay, Isdir, Loop, Notdir, Notempty}
use Rattle.r4_content.proofs.Counting.{none_there}
use Rattle.r4_content.proofs.EditLaws.{at_retain}
use Rattle.r4_content.proofs.EditParts.{true_not_false}
use Rattle.r4_content.proofs.Found.{There, ends_at, found, found_from, small_object, stat_there, steps_end}
use Rattle.r4_content.proofs.Keeping.{Stays}
use Rattle.r4_content.proofs.Losing.{Loses, loses_bodies, loses_lawful}
use Rattle.r4_content.proofs.Naming.{came_above, last_bytes}
use Rattle.r4_content.proofs.OneObject.{by_done, numbers_of, stat_was}
use Rattle.r4_content.proofs.SameWay.{IsThere, found_object, named_there, place_in, step_is, target_is}
use Rattle.r4_content.proofs.Writing.{okay_there}

-- ---- an empty directory

-- where no names stand among pairs, no key among them has an entry
no_entry_first : (b : Bool) (q : ℕ) (w : Value) (es : Pairs) (o : Option Value) (n : List ℕ) (t : Target)
    → (o ≡ Some (Entry n t) → names_in es ≡ [] → ⊥) → cond b (Some w) o ≡ Some (Entry n t) → names_in ((q, w) ∷ es) ≡ [] → ⊥
no_entry_first true q (Stat a) es o n t rest e f = absurd cc
no_entry_first true q (Byte x) es o n t rest e f = absurd cc
no_entry_first true q (Entry s u) es o n t rest e f = absurd cc
no_entry_first false q (Stat a) es o n t rest e f = rest e f
no_entry_first false q (Byte x) es o n t rest e f = rest e f
no_entry_first false q (Entry s u) es o n t rest e f = absurd cc

entry_named : (es : Pairs) (k : ℕ) (n : List ℕ) (t : Target) → find nat_cmp k es ≡ Some (Entry n t) → names_in es ≡ [] → ⊥
entry_named [] k n t at none = no_value at
  where
    no_value : None ≡ Some (Entry n t) → ⊥
    no_value e = cc
entry_named ((q, v) ∷ es) k n t at none =
    no_entry_first (k == q) q v es (find nat_cmp k es) n t (entry_named es k n t)
    (sym (ap (λ (b : Bool). cond b (Some v) (find nat_cmp k es)) (unsigned_tied k q)) ∙ at) none

-- where no names stand in an interval, no key in it has an entry
pub nothing_between : (m : Content) (from to k : ℕ) (n : List ℕ) (t : Target) → names_in (pairs_between m from to) ≡ []
    → at_key m k ≡ Some (Entry n t) → is_between from to k ≡ false
nothing_between m from to k n t none at = by_test (is_between from to k) refl
  where
    by_test : (b : Bool) → is_between from to k ≡ b → b ≡ false
    by_test false e = refl
    by_test true e =
        let there = sym (get-entries (retain_keys m (is_between from to)) k) ∙ at_retain m (is_between from to) k
        ∙ ap (λ (b : Bool). cond b (at_key m k) None) e ∙ at in
        absurd (entry_named (pairs_between m from to) k n t there none)

first_number : (k : ℕ) → slice_index (key_of_rank k).el 0 ≡ k / 2 ^ 192
unfolding key_of_rank
first_number k = refl

from_is : (dir : ℕ) → entries_from dir ≡ dir * 16 * 2 ^ 192
unfolding rank
from_is dir = omega arith

to_is : (dir : ℕ) → entries_to dir ≡ (dir * 16 + 1) * 2 ^ 192
unfolding rank
to_is dir = omega arith

-- the keys of a directory's entries lie between those two
pub entry_between : (dir k : ℕ) → dir_of_key (key_of_rank k) ≡ dir → minor_of (key_of_rank k) ≡ 0 → is_between (entries_from dir) (entries_to dir) k ≡ true
entry_between dir k in_dir minor =
    let first = first_number k in
    let a : k / 2 ^ 192 / 16 ≡ dir = ap (λ (x : ℕ). x / 16) (sym first) ∙ in_dir in
    let b : k / 2 ^ 192 % 16 ≡ 0 = ap (λ (x : ℕ). x % 16) (sym first) ∙ minor in
    let low = from_is dir in
    let high = to_is dir in
    let c : k / 2 ^ 192 ≡ dir * 16 = omega arith in
    and_from (nat_le (entries_from dir) k) (nat_lt k (entries_to dir)) (le-leb _ _ (omega arith)) (lt-ltb _ _ (omega arith))

pub is_empty : (limit : ℕ) (m : Content) (o : Target) → HasBodies limit m
    → names_in (pairs_between m (entries_from o.oid.0) (entries_to o.oid.0)) ≡ [] → entries_in m o ≡ 0
is_empty limit m o bodies none = none_there (is_entry_in o.oid.0) m fails
  where
    fails : (k : ℕ) (v : Value) → at_key m k ≡ Some v → is_entry_in o.oid.0 (k, v) ≡ false
    fails k (Stat a) at = refl
    fails k (Byte x) at = refl
    fails k (Entry s t) at = by_test (dir_of_key (key_of_rank k) == o.oid.0) refl
      where
        by_test : (b : Bool) → (dir_of_key (key_of_rank k) == o.oid.0) ≡ b → b ≡ false
        by_test false e = refl
        by_test true e =
            let inside = entry_between o.oid.0 k (eqb-true _ _ e) (bodies.keys k (Entry s t) at) in
            absurd (true_not_false (sym inside ∙ nothing_between m (entries_from o.oid.0) (entries_to o.oid.0) k s t none at))

-- ---- the object under the last name of a path

pub record NamedBy (m : Content) (path : List (List ℕ)) (whole : Course) (next : Object → (name : List ℕ) → Place → Course) : Type 0 where
  pub above : Place
  pub place : Place
  pub name : List ℕ
  pub above_there : IsThere m above.here
  pub above_is : is_dir above.here ≡ true
  pub there : IsThere m place.here
  pub bytes : All (λ x. x < 256) name
  pub entry : at_key m (entry_rank above.here.target name) ≡ Some (Entry name place.here.target)
  pub ends : ending (named path whole) (of_content m) ≡ ending (next above.here name place) (of_content m)
  pub legal : is_path path ≡ true
  pub some : (length path == 0) ≡ false
  pub at : found m (take (length path - 1) path) ≡ There above
  pub last : slice_index_or path (length path - 1) [] ≡ name

pub came_to_entry : (m : Content) (r : Reply) (path : List (List ℕ)) (next : Object → (name : List ℕ) → Place → Course) → HasNumbers m → HasBytes path → r ≢ Okay
    → (ending (named path (to_entry r path next)) (of_content m)).reply ≡ Okay → NamedBy m path (to_entry r path next) next
unfolding to_entry
came_to_entry m r path next numbers bytes no_okay okay =
    let c = came_above m r path (λ p n. step n (next p.here n) p) no_okay okay in
    let n = slice_index_or path (length path - 1) [] in
    let p = c.place in
    let ends = c.ends ∙ steps_end m (n ∷ []) (next p.here n) p in
    let (q, at, done) = okay_there m (next p.here n) (found_from m (n ∷ []) p) (sym (ap (λ (x : Ending). x.reply) ends) ∙ okay) in
    let s = step_is m n [] p q at in
    let is = place_in _ q s.rest in
    record {
      above = p;
      place = q;
      name = n;
      above_there = found_object m numbers.orderings (take (length path - 1) path) p c.at;
      above_is = s.dir;
      there = subst (λ (x : Place). IsThere m x.here) is (named_there m numbers.orderings (entry_rank p.here.target n) n s.target s.attr s.entry s.stat);
      bytes = last_bytes path c.some bytes;
      entry = target_is n (at_key m (entry_rank p.here.target n)) s.target s.entry ∙ ap (λ (x : Place). Some (Entry n x.here.target)) is;
      ends = ends ∙ ap (ends_at m (next p.here n)) at;
      legal = c.name;
      some = c.some;
      at = c.at;
      last = refl;
    }

pub loses_name : (limit : ℕ) (m : Content) (dir o : Object) (n : List ℕ) → HasNumbers m → IsThere m dir → is_dir dir ≡ true → IsThere m o → All (λ x. x < 256) n → at_key m (entry_rank dir.target n) ≡ Some (Entry n o.target)
    → (is_dir o ≡ true → entries_in m o.target ≡ 0) → Loses m dir o n
loses_name limit m dir o n numbers there is o_there bytes entry empty =
    let stat = stat_was m o o_there in
    let size = numbers.sizes o.target o.attr stat in
    record {
      dir_stat = stat_was m dir there;
      dir_is = is;
      stat = stat;
      small = (small_object dir.target (stat_there m dir.target dir.attr there.stat).0).1;
      bytes = bytes;
      entry = entry;
      size = omega arith;
      empty = empty;
    }

abbrev pub unlink_next : Object → (name : List ℕ) → Place → Course
unlink_next dir n p = if is_dir p.here then Answer Isdir else Change (unname_in dir n p.here)

-- what an entry that went was
abbrev pub LosesAll : Content → (Edits → Type 0) → Type 0
LosesAll m P = (dir o : Object) (n : List ℕ) → Loses m dir o n → P (unname_in dir n o)

pub unlink_done : (limit : ℕ) (path : List (List ℕ)) (m : Content) → limit < 2 ^ 64 → IsLawful limit m → HasBytes path → (P : Edits → Type 0) → LosesAll m P
    → reply limit (Unlink path) m ≡ Okay → P (ending (course limit (Unlink path)) (of_content m)).edits
unlink_done limit path m lt lawful bytes P loses okay =
    let numbers = numbers_of limit m lt lawful in
    let c = came_to_entry m Isdir path unlink_next numbers bytes (λ e. cc) okay in
    let dir = c.above.here in
    let o = c.place.here in
    let file = is_file dir o c.name (is_dir o) (sym (ap (λ (x : Ending). x.reply) c.ends) ∙ okay) in
    let ends = c.ends ∙ ap (λ (b : Bool). ending (if b then Answer Isdir else Change (unname_in dir c.name o)) (of_content m)) file in
    subst (λ (x : Ending). P x.edits) (sym ends)
    (loses dir o c.name (loses_name limit m dir o c.name numbers c.above_there c.above_is c.there c.bytes c.entry (λ d. absurd (true_not_false (sym d ∙ file)))))
  where
    is_file : (dir o : Object) (n : List ℕ) (b : Bool) → (ending (if b then Answer Isdir else Change (unname_in dir n o)) (of_content m)).reply ≡ Okay → (b ≡ false)
    is_file dir o n true h = absurd cc
    is_file dir o n false h = refl

loses_all : (limit : ℕ) (m : Content) → IsLawful limit m → LosesAll m (λ x. Stays limit (edited x m))
loses_all limit m lawful dir o n loses = (loses_lawful limit m dir o n lawful.objects lawful.bodies loses, loses_bodies limit m dir o n lawful.objects lawful.bodies loses)

pub unlink_lawful : (limit : ℕ) (path : List (List ℕ)) (m : Content) → limit < 2 ^ 64 → IsLawful limit m → HasBytes path → Stays limit (after limit (Unlink path) m)
unlink_lawful limit path m lt lawful bytes =
    by_done limit (Unlink path) m (λ x. Stays limit x) (lawful.objects, lawful.bodies) (unlink_done limit path m lt lawful bytes (λ x. Stays limit (edited x m)) (loses_all limit m lawful))

abbrev pub rmdir_next : Object → (name : List ℕ) → Place → Course
rmdir_next dir n p = if is_dir p.here then with_entries p.here (λ es. if_empty (Change (unname_in dir n p.here)) (names_in es)) else Answer Notdir

removes : (m : Content) (dir o : Object) (n : List ℕ) (b : Bool) (ns : List (List ℕ))
    → (ending (if b then with_entries o (λ es. if_empty (Change (unname_in dir n o)) (names_in es)) else Answer Notdir) (of_content m)).reply ≡ Okay
    → names_in (pairs_between m (entries_from o.target.oid.0) (entries_to o.target.oid.0)) ≡ ns
    → (ns ≡ []) × (b ≡ true) × (ending (if b then with_entries o (λ es. if_empty (Change (unname_in dir n o)) (names_in es)) else Answer Notdir) (of_content m)
    ≡ record { edits = unname_in dir n o; reply = Okay })
removes m dir o n false ns h e = absurd cc
removes m dir o n true [] h e = (refl, refl, ap (λ (x : List (List ℕ)). ending (if_empty (Change (unname_in dir n o)) x) (of_content m)) e)
removes m dir o n true (x ∷ ns) h e = absurd (refused (sym (ap (λ (y : List (List ℕ)). (ending (if_empty (Change (unname_in dir n o)) y) (of_content m)).reply) e) ∙ h))
  where
    refused : Notempty ≡ Okay → ⊥
    refused e = cc

-- a directory that is removed: it has no entry
pub rmdir_named : (limit : ℕ) (path : List (List ℕ)) (m : Content) → limit < 2 ^ 64 → IsLawful limit m → HasBytes path → reply limit (Rmdir path) m ≡ Okay
    → (c : NamedBy m path (to_entry Loop path rmdir_next) rmdir_next) × Loses m c.above.here c.place.here c.name × (is_dir c.place.here ≡ true)
    × (ending (course limit (Rmdir path)) (of_content m) ≡ record { edits = unname_in c.above.here c.name c.place.here; reply = Okay })
rmdir_named limit path m lt lawful bytes okay =
    let numbers = numbers_of limit m lt lawful in
    let c = came_to_entry m Loop path rmdir_next numbers bytes (λ e. cc) okay in
    let dir = c.above.here in
    let o = c.place.here in
    let (none, is, made) = removes m dir o c.name (is_dir o) (names_in (pairs_between m (entries_from o.target.oid.0) (entries_to o.target.oid.0))) (sym (ap (λ (x : Ending). x.reply) c.ends) ∙ okay) refl in
    (c, loses_name limit m dir o c.name numbers c.above_there c.above_is c.there c.bytes c.entry (λ d. is_empty limit m o.target lawful.bodies none), is, c.ends ∙ made)

pub rmdir_done : (limit : ℕ) (path : List (List ℕ)) (m : Content) → limit < 2 ^ 64 → IsLawful limit m → HasBytes path → (P : Edits → Type 0) → LosesAll m P
    → reply limit (Rmdir path) m ≡ Okay → P (ending (course limit (Rmdir path)) (of_content m)).edits
rmdir_done limit path m lt lawful bytes P loses okay =
    let (c, h, is, ends) = rmdir_named limit path m lt lawful bytes okay in
    subst (λ (x : Ending). P x.edits) (sym ends) (loses c.above.here c.place.here c.name h)

pub rmdir_lawful : (limit : ℕ) (path : List (List ℕ)) (m : Content) → limit < 2 ^ 64 → IsLawful limit m → HasBytes path → Stays limit (after limit (Rmdir path) m)
rmdir_lawful limit path m lt lawful bytes =
    by_done limit (Rmdir path) m (λ x. Stays limit x) (lawful.objects, lawful.bodies) (rmdir_done limit path m lt lawful bytes (λ x. Stays limit (edited x m)) (loses_all limit m lawful))
