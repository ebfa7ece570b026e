-- rename leaves the objects of a lawful content lawful.
use Rattle.std.specs.Prelude.{◌≡◌, ◌≢◌, ℕ, suc, ◌-◌, ◌^◌, ◌<◌, ◌≤◌, List, [], ◌∷◌, ◌++◌, Bool, true, false, not, ◌&&◌, ◌||◌, ◌==◌, bytes_eq, nat_le, length, take, slice_index_or, All, Option, Some, None, if◌then◌else◌}
use Rattle.std.proofs.Common.{arith, refl, sym, ap, subst, ◌∙◌}
use Rattle.std.proofs.lemmas.Bool.{eq-eqb, or_parts}
use Rattle.std.proofs.lemmas.Grind.{common_steps}
use Rattle.std.proofs.lemmas.List.Elements.{All-head, All-tail, All-take}
use Rattle.std.proofs.lemmas.Slice.Eq.{bytes_eq-Decides}
use Rattle.r4_base.specs.Key.{key_of_rank}
use Rattle.r4_base.specs.Name.{dir_of_key}
use Rattle.r4_base.specs.Value.{Entry, Content, at_key}
use Rattle.r4_base.specs.Volume.{HasObjects, IsReached, is_directory, is_entry_in, root_object, stat_rank}
use Rattle.r4_base.specs.declared.items.Attr.{Attr}
use Rattle.r4_base.specs.declared.items.Target.{Target}
use Rattle.r4_content.specs.Course.{Course, Ask, Answer, Change, Ending, ending, of_content}
use Rattle.r4_content.specs.Edited.{Edits, and_also, edited, no_edits, pairs_between}
use Rattle.r4_content.specs.Entries.{entries_from, entries_to, if_empty, move, move_to, moved, moved_onto, names_in, rename, replace, with_entries}
use Rattle.r4_content.specs.Fields.{HasBytes, HasNumbers}
use Rattle.r4_content.specs.Lawful.{HasBodies, IsLawful}
use Rattle.r4_content.specs.Meaning.{after, course, is_path, named, reply}
use Rattle.r4_content.specs.Objects.{Object, entry_less, entry_rank, is_among, is_dir, is_full, is_same, is_same_target, unnamed}
use Rattle.r4_content.specs.Walk.{attr_at, attr_in, may_be_object}
use Rattle.r4_content.specs.Ways.{Named, Place, entry_in, object_at, to_ends, to_entry, to_parent, with_attr}
use Rattle.r4_content.specs.declared.command.Command.TheVariants.{Rename}
use Rattle.r4_content.specs.declared.reply.Reply.TheVariants.{Okay, Absent, Clash, Isdir, Links, Loop, Notdir}
use Rattle.r4_content.proofs.Counting.{one_there}
use Rattle.r4_content.proofs.EditParts.{true_not_false}
use Rattle.r4_content.proofs.Found.{There, down, found, found_from, small_object, stat_there, start}
use Rattle.r4_content.proofs.Keeping.{Stays}
use Rattle.r4_content.proofs.Losing.{stat_one}
use Rattle.r4_content.proofs.MoveEdits.{CanMove, can_move, move_bodies, moving, old_not_new, others, same_sym}
use Rattle.r4_content.proofs.Moving.{IsOver, moves_lawful}
use Rattle.r4_content.proofs.Naming.{came_above, last_bytes}
use Rattle.r4_content.proofs.OneObject.{by_done, numbers_of, stat_was}
use Rattle.r4_content.proofs.Ranks.{root_is_object, same_itself}
use Rattle.r4_content.proofs.Rewired.{entry_is, entry_same, not_entry}
use Rattle.r4_content.proofs.SameWay.{IsThere, found_object, named_there, place_in, root_there, step_is, target_is}
use Rattle.r4_content.proofs.Shapes.{entry_dir}
use Rattle.r4_content.proofs.Takers.{came_to_entry, is_empty}
use Rattle.r4_content.proofs.Writing.{named_ends, okay_named}

-- ---- objects on the way

among_append : (o : Object) (xs : List Object) (p : Object) → is_among o (xs ++ p ∷ []) ≡ false → (is_among o xs ≡ false) × (is_same o p ≡ false)
among_append o [] p e = (refl, (or_parts (is_same o p) false e).0)
among_append o (x ∷ xs) p e =
    let h = or_parts (is_same o x) (is_among o (xs ++ p ∷ [])) e in
    let rest = among_append o xs p h.1 in
    (neither_of (is_same o x) (is_among o xs) h.0 rest.0, rest.1)
  where
    neither_of : (a b : Bool) → a ≡ false → b ≡ false → (a || b) ≡ false
    neither_of false b f g = g
    neither_of true b f g = absurd cc

above_before : (m : Content) (o : Object) (path : List (List ℕ)) (q r : Place) → found_from m path q ≡ There r → is_among o r.above ≡ false → is_among o q.above ≡ false
above_before m o [] q r e h = ap (λ (x : Place). is_among o x.above) (place_in q r e) ∙ h
above_before m o (n ∷ path) q r e h =
    let s = step_is m n path q r e in
    (among_append o q.above q.here (above_before m o path (down q s.target s.attr) r s.rest h)).0

pub on_way : (m : Content) (o : Object) (path : List (List ℕ)) (q r : Place) → found_from m path q ≡ There r → is_among o r.above ≡ false → is_same o r.here ≡ false → is_same o q.here ≡ false
on_way m o [] q r e h g = ap (λ (x : Place). is_same o x.here) (place_in q r e) ∙ g
on_way m o (n ∷ path) q r e h g =
    let s = step_is m n path q r e in
    (among_append o q.above q.here (above_before m o path (down q s.target s.attr) r s.rest h)).1

module _ (limit : ℕ) (m : Content) (dir o : Object) (name new_name : List ℕ) (over : Bool) (old : Object) (lawful : HasObjects m) (bodies : HasBodies limit m) (numbers : HasNumbers m) (r : Place)
    (h : CanMove m dir o r.here name new_name over old) (outside : is_among o r.above ≡ false) (other : is_same o r.here ≡ false) where
  abbrev moved_content : Content
  moved_content = edited (moving dir name o r.here new_name over old) m

  some_entry : (s u : List ℕ) (x y : Target) → Some (Entry s x) ≡ Some (Entry u y) → x ≡ y
  some_entry s u x y e = cc

  way_on : (path : List (List ℕ)) (q : Place) (steps : ℕ) → HasBytes path → IsThere m q.here → found_from m path q ≡ There r → IsReached moved_content steps q.here.target → (more : ℕ) × IsReached moved_content more r.here.target
  way_on [] q steps bytes there e is = (steps, subst (λ (x : Place). IsReached moved_content steps x.here.target) (place_in q r e) is)
  way_on (n ∷ path) q steps bytes there e is =
      let s = step_is m n path q r e in
      let k = entry_rank q.here.target n in
      let at = target_is n (at_key m k) s.target s.entry in
      let next = named_there m numbers.orderings k n s.target s.attr s.entry s.stat in
      let small = (small_object q.here.target (stat_there m q.here.target q.here.attr there.stat).0).1 in
      let name_bytes = All-head (λ x. All (λ y. y < 256) x) n path bytes in
      let now = entry_same (at_key m k) (at_key moved_content k) n s.target (others limit m dir o r.here name new_name over old lawful bodies h k (not_key s.target s.attr path (down q s.target s.attr) n k at s.rest refl) (not_new_key s.target s.attr path (down q s.target s.attr) n k at next (All-tail (λ x. All (λ y. y < 256) x) n path bytes) s.rest refl)) at in
      way_on path (down q s.target s.attr) (suc steps) (All-tail (λ x. All (λ y. y < 256) x) n path bytes) next s.rest (q.here.target, is, (k, n, now, (entry_dir q.here.target n small name_bytes).0))
    where
      not_key : (t : Target) (a : Attr) (rest : List (List ℕ)) (p : Place) (s : List ℕ) (k : ℕ) → at_key m k ≡ Some (Entry s t) → found_from m rest p ≡ There r → p.here ≡ record { target = t; attr = a } → k ≢ entry_rank dir.target name
      not_key t a rest p s k at found_rest is_here same =
          let aims : t ≡ o.target = some_entry s name t o.target (sym at ∙ ap (at_key m) same ∙ h.entry) in
          true_not_false (sym (same_itself o.target) ∙ ap (is_same_target o.target) (sym aims ∙ ap (λ (x : Object). x.target) (sym is_here)) ∙ on_way m o rest p r found_rest outside other)

      not_new_key : (t : Target) (a : Attr) (rest : List (List ℕ)) (p : Place) (s : List ℕ) (k : ℕ) → at_key m k ≡ Some (Entry s t) → IsThere m (record { target = t; attr = a }) → HasBytes rest → found_from m rest p ≡ There r → p.here ≡ record { target = t; attr = a }
          → k ≢ entry_rank r.here.target new_name
      not_new_key t a rest p s k at there_t rest_bytes found_rest is_here same = by_over over refl
        where
          by_rest : over ≡ true → t ≡ old.target → (xs : List (List ℕ)) → HasBytes xs → found_from m xs p ≡ There r → ⊥
          by_rest yes_over aims [] b f = old_not_new limit m dir o r.here name new_name over old lawful bodies h yes_over (sym aims ∙ ap (λ (x : Object). x.target) (sym is_here) ∙ ap (λ (x : Place). x.here.target) (place_in p r f))
          by_rest yes_over aims (x ∷ xs) b f =
              let y = h.onto yes_over in
              let s2 = step_is m x xs p r f in
              let at2 = target_is x (at_key m (entry_rank p.here.target x)) s2.target s2.entry in
              let attr = stat_one m lawful t old.target a old.attr (stat_was m (record { target = t; attr = a }) there_t) y.stat aims in
              let dir_old : is_dir old ≡ true = ap is_directory (sym attr) ∙ ap is_dir (sym is_here) ∙ s2.dir in
              let none = y.empty dir_old in
              let p_is : p.here.target ≡ old.target = ap (λ (z : Object). z.target) is_here ∙ aims in
              let small_t = (small_object t (stat_there m t a there_t.stat).0).1 in
              let small = subst (λ (u : Target). u.oid.0 < 2 ^ 60) (ap (λ (z : Object). z.target) (sym is_here)) small_t in
              let in_old = (entry_dir p.here.target x small (All-head (λ z. All (λ w. w < 256) z) x xs b)).0 ∙ ap (λ (u : Target). u.oid.0) p_is in
              let some = one_there (is_entry_in old.target.oid.0) m (entry_rank p.here.target x) (Entry x s2.target) at2 (eq-eqb (dir_of_key (key_of_rank (entry_rank p.here.target x))) old.target.oid.0 in_old) in
              absurd (omega arith)

          by_over : (b : Bool) → over ≡ b → ⊥
          by_over false is = not_entry (at_key m k) s t (ap (λ (x : ℕ). entry_in (at_key m x)) same ∙ h.free is) at
          by_over true is = by_rest is (some_entry s new_name t old.target (sym at ∙ ap (at_key m) same ∙ (h.onto is).entry)) rest rest_bytes found_rest

  pub way_there : (path : List (List ℕ)) → HasBytes path → found m path ≡ There r → (steps : ℕ) × IsReached moved_content steps r.here.target
  way_there path bytes e =
      let (a, stat, rest) = root_there r (λ a. found_from m path (start a)) (attr_at m root_object) e in
      way_on path (start a) 0 bytes (record { object = root_is_object; stat = stat }) rest refl

-- ---- the move, whatever stands under the new name

not_full : (n : ℕ) → nat_le 65535 n ≡ false → n < 65535
not_full n e = grind (arith, common_steps)

-- what is known where the move is looked at
pub record Ends (limit : ℕ) (m : Content) (dir o : Object) (name new_name : List ℕ) (r : Place) (path : List (List ℕ)) : Type 0 where
  pub dir_there : IsThere m dir
  pub dir_is : is_dir dir ≡ true
  pub there : IsThere m o
  pub new_there : IsThere m r.here
  pub new_is : is_dir r.here ≡ true
  pub bytes : All (λ x. x < 256) name
  pub new_bytes : All (λ x. x < 256) new_name
  pub entry : at_key m (entry_rank dir.target name) ≡ Some (Entry name o.target)
  pub way : found m path ≡ There r
  pub path_bytes : HasBytes path
  pub outside : is_dir o ≡ true → (is_among o r.above ≡ false) × (is_same o r.here ≡ false)

-- a directory that gets the link of another one has room for it
abbrev pub FewLinks : (dir o new : Object) → (over : Bool) → Type 0
FewLinks dir o new over = over ≡ false → is_dir o ≡ true → is_same_target new.target dir.target ≡ false → new.attr.nlink < 2 ^ 32 - 1

module _ (limit : ℕ) (m : Content) (dir o : Object) (name new_name : List ℕ) (r : Place) (path : List (List ℕ)) (lawful : IsLawful limit m) (numbers : HasNumbers m) (e : Ends limit m dir o name new_name r path)
    (HoldsAfter : Edits → Type 0) (none : HoldsAfter no_edits)
    (moves : (over : Bool) (old : Object) → CanMove m dir o r.here name new_name over old → FewLinks dir o r.here over → HoldsAfter (moving dir name o r.here new_name over old)) where
  small_of : (x : Object) → IsThere m x → x.target.oid.0 < 2 ^ 60
  small_of x there = (small_object x.target (stat_there m x.target x.attr there.stat).0).1

  can : (over : Bool) (old : Object) → (over ≡ false → entry_in (at_key m (entry_rank r.here.target new_name)) ≡ None) → (over ≡ true → IsOver m o r.here old new_name) → (over ≡ true → old.attr.size ≤ 2 ^ 64)
      → CanMove m dir o r.here name new_name over old
  can over old free onto size = record {
    dir_stat = stat_was m dir e.dir_there;
    dir_is = e.dir_is;
    stat = stat_was m o e.there;
    new_stat = stat_was m r.here e.new_there;
    new_is = e.new_is;
    dir_small = small_of dir e.dir_there;
    new_small = small_of r.here e.new_there;
    bytes = e.bytes;
    new_bytes = e.new_bytes;
    entry = e.entry;
    free = free;
    onto = onto;
    size = size;
  }

  done : (over : Bool) (old : Object) → CanMove m dir o r.here name new_name over old → FewLinks dir o r.here over → HoldsAfter (moving dir name o r.here new_name over old)
  done = moves

  free_lawful : entry_in (at_key m (entry_rank r.here.target new_name)) ≡ None → HoldsAfter (ending (move_to dir name o r.here new_name None) (of_content m)).edits
  free_lawful free = by_test (is_dir o) (is_same dir r.here) (is_full r.here) refl refl refl
    where
      by_test : (p q f : Bool) → is_dir o ≡ p → is_same dir r.here ≡ q → is_full r.here ≡ f → HoldsAfter (ending (if p && not q && f then Answer Links else Change (moved dir name o r.here new_name)) (of_content m)).edits
      by_test true false true a b c = none
      by_test true false false a b c =
          done false o (can false o (λ x. free) (λ x. absurd (true_not_false (sym x))) (λ x. absurd (true_not_false (sym x)))) (λ x y z. let lt = not_full r.here.attr.nlink c in omega arith)
      by_test true true f a b c =
          done false o (can false o (λ x. free) (λ x. absurd (true_not_false (sym x))) (λ x. absurd (true_not_false (sym x))))
          (λ x y z. absurd (true_not_false (sym b ∙ same_sym dir.target r.here.target ∙ z)))
      by_test false q f a b c =
          done false o (can false o (λ x. free) (λ x. absurd (true_not_false (sym x))) (λ x. absurd (true_not_false (sym x)))) (λ x y z. absurd (true_not_false (sym y ∙ a)))

  onto_lawful : (old : Object) → IsOver m o r.here old new_name → HoldsAfter (moved_onto dir name o r.here new_name old)
  onto_lawful old over =
      let size = numbers.sizes old.target old.attr over.stat in
      subst (λ (d : Bool). HoldsAfter (and_also (unnamed old) (moved dir name o (record { target = r.here.target; attr = entry_less d r.here.attr }) new_name))) (sym over.kind)
      (done true old (can true old (λ x. absurd (true_not_false x)) (λ x. over) (λ x. omega arith)) (λ x. absurd (true_not_false x)))

  over_is : (old : Object) → at_key m (entry_rank r.here.target new_name) ≡ Some (Entry new_name old.target) → IsThere m old → is_same_target old.target o.target ≡ false → is_dir old ≡ is_dir o
      → (is_dir old ≡ true → names_in (pairs_between m (entries_from old.target.oid.0) (entries_to old.target.oid.0)) ≡ []) → IsOver m o r.here old new_name
  over_is old at there other kind empty = record {
    stat = stat_was m old there;
    entry = at;
    kind = kind;
    other = λ same. true_not_false (sym (same_itself old.target) ∙ ap (is_same_target old.target) same ∙ other);
    empty = λ d. is_empty limit m old.target lawful.bodies (empty d);
  }

  replace_lawful : (old : Object) → at_key m (entry_rank r.here.target new_name) ≡ Some (Entry new_name old.target) → IsThere m old → is_same_target old.target o.target ≡ false
      → HoldsAfter (ending (replace dir name o r.here new_name old) (of_content m)).edits
  replace_lawful old at there other = by_kind (is_dir o) (is_dir old) (names_in (pairs_between m (entries_from old.target.oid.0) (entries_to old.target.oid.0))) refl refl refl
    where
      by_kind : (p q : Bool) (es : List (List ℕ)) → is_dir o ≡ p → is_dir old ≡ q → names_in (pairs_between m (entries_from old.target.oid.0) (entries_to old.target.oid.0)) ≡ es
          → HoldsAfter (ending (if p then (if q then with_entries old (λ es. if_empty (Change (moved_onto dir name o r.here new_name old)) (names_in es)) else Answer Notdir) else (if q then Answer Isdir else Change (moved_onto dir name o r.here new_name old))) (of_content m)).edits
      by_kind true true es a b c = by_names es c
        where
          by_names : (xs : List (List ℕ)) → names_in (pairs_between m (entries_from old.target.oid.0) (entries_to old.target.oid.0)) ≡ xs
              → HoldsAfter (ending (if_empty (Change (moved_onto dir name o r.here new_name old)) (names_in (pairs_between m (entries_from old.target.oid.0) (entries_to old.target.oid.0)))) (of_content m)).edits
          by_names [] is = subst (λ (xs : List (List ℕ)). HoldsAfter (ending (if_empty (Change (moved_onto dir name o r.here new_name old)) xs) (of_content m)).edits) (sym is) (onto_lawful old (over_is old at there other (b ∙ sym a) (λ d. is)))
          by_names (x ∷ xs) is = subst (λ (ys : List (List ℕ)). HoldsAfter (ending (if_empty (Change (moved_onto dir name o r.here new_name old)) ys) (of_content m)).edits) (sym is) none
      by_kind true false es a b c = none
      by_kind false true es a b c = none
      by_kind false false es a b c = onto_lawful old (over_is old at there other (b ∙ sym a) (λ d. absurd (true_not_false (sym d ∙ b))))

  taken_lawful : (x : Named) → entry_in (at_key m (entry_rank r.here.target new_name)) ≡ Some x → HoldsAfter (ending (move_to dir name o r.here new_name (Some x)) (of_content m)).edits
  taken_lawful x is = by_name (bytes_eq x.name new_name) (is_same_target x.target o.target) refl refl
    where
      by_attr : (b : Bool) (v : Option Attr) → may_be_object x.target ≡ b → attr_in (at_key m (stat_rank x.target)) ≡ v → at_key m (entry_rank r.here.target new_name) ≡ Some (Entry new_name x.target) → is_same_target x.target o.target ≡ false
          → HoldsAfter (ending (if b then Ask (stat_rank x.target) (λ w. with_attr Absent (λ a. replace dir name o r.here new_name (record { target = x.target; attr = a })) (attr_in w)) else Answer Absent) (of_content m)).edits
      by_attr false v may a at other = none
      by_attr true v may a at other = by_stat v a
        where
          by_stat : (w : Option Attr) → attr_in (at_key m (stat_rank x.target)) ≡ w
              → HoldsAfter (ending (with_attr Absent (λ a. replace dir name o r.here new_name (record { target = x.target; attr = a })) (attr_in (at_key m (stat_rank x.target)))) (of_content m)).edits
          by_stat None g = subst (λ (w : Option Attr). HoldsAfter (ending (with_attr Absent (λ a. replace dir name o r.here new_name (record { target = x.target; attr = a })) w) (of_content m)).edits) (sym g) none
          by_stat (Some c) g =
              let stat : attr_at m x.target ≡ Some c = ap (λ (y : Bool). if y then attr_in (at_key m (stat_rank x.target)) else None) may ∙ g in
              let (c2, held) = lawful.objects.target (entry_rank r.here.target new_name) new_name x.target at in
              let there : IsThere m (record { target = x.target; attr = c }) = record { object = held.0; stat = stat } in
              subst (λ (w : Option Attr). HoldsAfter (ending (with_attr Absent (λ a. replace dir name o r.here new_name (record { target = x.target; attr = a })) w) (of_content m)).edits) (sym g)
              (replace_lawful (record { target = x.target; attr = c }) at there other)

      by_name : (p q : Bool) → bytes_eq x.name new_name ≡ p → is_same_target x.target o.target ≡ q
          → HoldsAfter (ending (if not p then Answer (Clash x.name) else if q then Answer Okay else object_at x.target (replace dir name o r.here new_name)) (of_content m)).edits
      by_name false q a b = none
      by_name true true a b = none
      by_name true false a b =
          let same = (bytes_eq-Decides x.name new_name).0 a in
          let at = entry_is (at_key m (entry_rank r.here.target new_name)) x.name x.target is ∙ ap (λ (s : List ℕ). Some (Entry s x.target)) same in
          by_attr (may_be_object x.target) (attr_in (at_key m (stat_rank x.target))) refl refl at b

  pub move_done : HoldsAfter (ending (move dir name o r.here new_name) (of_content m)).edits
  move_done = by_entry (entry_in (at_key m (entry_rank r.here.target new_name))) refl
    where
      by_entry : (v : Option Named) → entry_in (at_key m (entry_rank r.here.target new_name)) ≡ v → HoldsAfter (ending (move_to dir name o r.here new_name (entry_in (at_key m (entry_rank r.here.target new_name)))) (of_content m)).edits
      by_entry None is = subst (λ (v : Option Named). HoldsAfter (ending (move_to dir name o r.here new_name v) (of_content m)).edits) (sym is) (free_lawful is)
      by_entry (Some x) is = subst (λ (v : Option Named). HoldsAfter (ending (move_to dir name o r.here new_name v) (of_content m)).edits) (sym is) (taken_lawful x is)

-- ---- rename

abbrev pub rename_to : List (List ℕ) → Object → (name : List ℕ) → Place → Place → (new_name : List ℕ) → Course
rename_to to dir n p q new_name =
    if not (is_dir q.here) then Answer Notdir
    else if is_dir p.here && (is_among p.here q.above || is_same p.here q.here) then Answer Loop
    else move dir n p.here q.here new_name

abbrev pub rename_from : List (List ℕ) → Object → (name : List ℕ) → Place → Course
rename_from to dir n p = to_parent Loop to (rename_to to dir n p)

-- where the two paths of a rename lead
pub record Paths (m : Content) (from to : List (List ℕ)) (dir : Object) (name : List ℕ) (r : Place) (new_name : List ℕ) (path : List (List ℕ)) : Type 0 where
  pub from_legal : is_path from ≡ true
  pub from_some : (length from == 0) ≡ false
  pub above : Place
  pub from_at : found m (take (length from - 1) from) ≡ There above
  pub from_is : above.here ≡ dir
  pub from_last : slice_index_or from (length from - 1) [] ≡ name
  pub to_legal : is_path to ≡ true
  pub to_some : (length to == 0) ≡ false
  pub to_is : take (length to - 1) to ≡ path
  pub to_last : slice_index_or to (length to - 1) [] ≡ new_name

-- what a rename that was done moved
abbrev pub MovesAll : (limit : ℕ) → Content → (from to : List (List ℕ)) → (Edits → Type 0) → Type 0
MovesAll limit m from to P = (dir o : Object) (name new_name : List ℕ) (r : Place) (path : List (List ℕ)) → Ends limit m dir o name new_name r path
    → Paths m from to dir name r new_name path → (over : Bool) (old : Object)
    → CanMove m dir o r.here name new_name over old → FewLinks dir o r.here over → P (moving dir name o r.here new_name over old)

pub rename_done : (limit : ℕ) (from to : List (List ℕ)) (m : Content) → limit < 2 ^ 64 → IsLawful limit m → HasBytes from → HasBytes to → (P : Edits → Type 0) → P no_edits → MovesAll limit m from to P
    → reply limit (Rename from to) m ≡ Okay → P (ending (course limit (Rename from to)) (of_content m)).edits
unfolding to_ends
rename_done limit from to m lt lawful from_bytes to_bytes P none moves = done
  where
    numbers : HasNumbers m
    numbers = numbers_of limit m lt lawful

    some_target : (b : Bool) → (length to == 0) ≡ b → (ending (if b then Answer Loop else to_ends from to move) (of_content m)).reply ≡ Okay
        → ending (if b then Answer Loop else to_ends from to move) (of_content m) ≡ ending (to_entry Loop from (rename_from to)) (of_content m)
    some_target true e h = absurd cc
    some_target false e h = refl

    tests : (dir : Object) (n : List ℕ) (p q : Place) (new_name : List ℕ) (a b c : Bool) → is_dir q.here ≡ a → is_dir p.here ≡ b → (is_among p.here q.above || is_same p.here q.here) ≡ c
        → (ending (if not a then Answer Notdir else if b && c then Answer Loop else move dir n p.here q.here new_name) (of_content m)).reply ≡ Okay
        → (is_dir q.here ≡ true) × (is_dir p.here ≡ true → (is_among p.here q.above || is_same p.here q.here) ≡ false)
        × (ending (if not a then Answer Notdir else if b && c then Answer Loop else move dir n p.here q.here new_name) (of_content m) ≡ ending (move dir n p.here q.here new_name) (of_content m))
    tests dir n p q new_name false b c e f g h = absurd cc
    tests dir n p q new_name true true true e f g h = absurd cc
    tests dir n p q new_name true true false e f g h = (e, (λ d. g), refl)
    tests dir n p q new_name true false c e f g h = (e, (λ d. absurd (true_not_false (sym d ∙ f))), refl)

    done : reply limit (Rename from to) m ≡ Okay → P (ending (course limit (Rename from to)) (of_content m)).edits
    done okay =
        let one = okay_named m from (named to (rename from to)) okay in
        let first = named_ends m from (named to (rename from to)) one in
        let two = okay_named m to (rename from to) (sym (ap (λ (x : Ending). x.reply) first) ∙ okay) in
        let second = first ∙ named_ends m to (rename from to) two in
        let third = second ∙ some_target (length to == 0) refl (sym (ap (λ (x : Ending). x.reply) second) ∙ okay) in
        let named_from = named_ends m from (to_entry Loop from (rename_from to)) one in
        let c = came_to_entry m Loop from (rename_from to) numbers from_bytes (λ e. cc) (ap (λ (x : Ending). x.reply) named_from ∙ sym (ap (λ (x : Ending). x.reply) third) ∙ okay) in
        let fourth = third ∙ sym named_from ∙ c.ends in
        let dir = c.above.here in
        let p = c.place in
        let named_to = named_ends m to (to_parent Loop to (rename_to to dir c.name p)) two in
        let d = came_above m Loop to (rename_to to dir c.name p) (λ e. cc) (ap (λ (x : Ending). x.reply) named_to ∙ sym (ap (λ (x : Ending). x.reply) fourth) ∙ okay) in
        let q = d.place in
        let new_name = slice_index_or to (length to - 1) [] in
        let fifth = fourth ∙ sym named_to ∙ d.ends in
        let (is, out, goes) = tests dir c.name p q new_name (is_dir q.here) (is_dir p.here) (is_among p.here q.above || is_same p.here q.here) refl refl refl (sym (ap (λ (x : Ending). x.reply) fifth) ∙ okay) in
        let e : Ends limit m dir p.here c.name new_name q (take (length to - 1) to) = record {
          dir_there = c.above_there;
          dir_is = c.above_is;
          there = c.there;
          new_there = found_object m numbers.orderings (take (length to - 1) to) q d.at;
          new_is = is;
          bytes = c.bytes;
          new_bytes = last_bytes to d.some to_bytes;
          entry = c.entry;
          way = d.at;
          path_bytes = All-take (λ x. All (λ y. y < 256) x) (length to - 1) to to_bytes;
          outside = λ yes_dir. or_parts (is_among p.here q.above) (is_same p.here q.here) (out yes_dir);
        } in
        let paths : Paths m from to dir c.name q new_name (take (length to - 1) to) = record {
          from_legal = c.legal;
          from_some = c.some;
          above = c.above;
          from_at = c.at;
          from_is = refl;
          from_last = c.last;
          to_legal = two;
          to_some = d.some;
          to_is = refl;
          to_last = refl;
        } in
        subst (λ (x : Ending). P x.edits) (sym (fifth ∙ goes))
        (move_done limit m dir p.here c.name new_name q (take (length to - 1) to) lawful numbers e P none (λ over old h few. moves dir p.here c.name new_name q (take (length to - 1) to) e paths over old h few))

pub rename_lawful : (limit : ℕ) (from to : List (List ℕ)) (m : Content) → limit < 2 ^ 64 → IsLawful limit m → HasBytes from → HasBytes to → Stays limit (after limit (Rename from to) m)
rename_lawful limit from to m lt lawful from_bytes to_bytes = by_done limit (Rename from to) m (λ x. Stays limit x) (lawful.objects, lawful.bodies)
    (rename_done limit from to m lt lawful from_bytes to_bytes (λ x. Stays limit (edited x m)) (lawful.objects, lawful.bodies) (λ dir o name new_name r path e paths over old h few. (
      moves_lawful m (edited (moving dir name o r.here new_name over old) m) dir o r.here name new_name over old lawful.objects
          (can_move limit m dir o r.here name new_name over old lawful.objects lawful.bodies h lawful.room lawful.links few
          (λ d. let out = e.outside d in way_there limit m dir o name new_name over old lawful.objects lawful.bodies (numbers_of limit m lt lawful) r h out.0 out.1 path e.path_bytes e.way)),
      move_bodies limit m dir o r.here name new_name over old lawful.objects lawful.bodies h,
    )))
