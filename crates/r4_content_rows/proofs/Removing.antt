-- A directory that was removed is absent, in each content.
use Rattle.std.specs.Prelude.{◌≡◌, ◌≢◌, ℕ, ◌-◌, ◌/◌, ◌%◌, ◌^◌, ◌<◌, List, [], ◌∷◌, Bool, true, false, ◌==◌, nat_le}
use Rattle.std.specs.Prelude.{All, Option, Some, None, cond, length, take, slice_index_or, if◌then◌else◌}
use Rattle.std.proofs.Common.{arith, refl, sym, ap, ◌∙◌}
use Rattle.std.proofs.lemmas.Bool.{eq-eqb, eqb-true}
use Rattle.std.proofs.lemmas.List.Elements.{All-head, All-tail, All-take}
use Rattle.r4_base.specs.Key.{rank}
use Rattle.r4_base.specs.Value.{Content, Entry, Stat, Value, at_key}
use Rattle.r4_base.specs.Volume.{is_directory, stat_rank}
use Rattle.r4_base.specs.declared.items.Attr.{Attr}
use Rattle.r4_base.specs.declared.items.Target.{Target}
use Rattle.r4_content.specs.Course.{Answer, Change, Ending, ending, of_content}
use Rattle.r4_content.specs.Edited.{Edits, and_also, edited, is_in, pairs_between}
use Rattle.r4_content.specs.Entries.{entries_from, entries_to, if_empty, names_in, unname_in, with_entries}
use Rattle.r4_content.specs.Fields.{HasBytes}
use Rattle.r4_content.specs.Meaning.{after, reply}
use Rattle.r4_content.specs.Objects.{Object, cut_body, cut_key, entry_less, entry_rank, is_dir, link_less, set_attr}
use Rattle.r4_content.specs.Walk.{attr_at, target_in}
use Rattle.r4_content.specs.Ways.{Place, step, to_entry}
use Rattle.r4_content.specs.declared.command.Command.TheVariants.{Rmdir, Stat as StatCommand}
use Rattle.r4_content.specs.declared.reply.Reply.TheVariants.{Okay, Absent, Loop, Notdir, Notempty}
use Rattle.r4_content.proofs.Counting.{not_same}
use Rattle.r4_content.proofs.EditLaws.{at_edited, edited_off}
use Rattle.r4_content.proofs.EditParts.{edited_first, is_off, off_both, true_not_false}
use Rattle.r4_content.proofs.FileEdits.{off_attr}
use Rattle.r4_content.proofs.Found.{NotDirectory, NotThere, There, down, ends_at, found, found_from, go_attr}
use Rattle.r4_content.proofs.Found.{go_target, small_object, stat_there, steps_end}
use Rattle.r4_content.proofs.Gaining.{stat_same}
use Rattle.r4_content.proofs.Losing.{cut_itself, less_kind}
use Rattle.r4_content.proofs.Naming.{came_above, found_last, last_bytes, off_key}
use Rattle.r4_content.proofs.SameWay.{place_in, place_with, step_is, target_is}
use Rattle.r4_content.proofs.Shapes.{entry_dir}
use Rattle.r4_content.proofs.Takers.{entry_between, nothing_between, rmdir_next}
use Rattle.r4_content.proofs.Unnaming.{absent_ends}
use Rattle.r4_content.proofs.Writing.{okay_there}
use Rattle.r4_content_rows.proofs.Again.{apart, attr_found, way_again}

-- the id of an object stands in its stat key
id_of_stat : (t : Target) → t.oid.0 < 2 ^ 60 → stat_rank t / 2 ^ 64 % 2 ^ 64 ≡ t.oid.0
unfolding rank
id_of_stat t small = omega (arith, small)

-- an empty directory o goes, which has the name s in the directory of a place
module _ (m : Content) (p : Place) (o : Object) (s : List ℕ) (dir_is : is_dir p.here ≡ true)
    (dir_there : attr_at m p.here.target ≡ Some p.here.attr) (there : attr_at m o.target ≡ Some o.attr)
    (is : is_dir o ≡ true) (bytes : All (λ x. x < 256) s)
    (entry : at_key m (entry_rank p.here.target s) ≡ Some (Entry s o.target))
    (none : names_in (pairs_between m (entries_from o.target.oid.0) (entries_to o.target.oid.0)) ≡ []) where
  abbrev dir : Object
  dir = p.here

  abbrev key : ℕ
  key = entry_rank p.here.target s

  abbrev less : Attr
  less = entry_less (is_dir o) p.here.attr

  abbrev removing : Edits
  removing = and_also (cut_key key) (and_also (set_attr p.here less) (cut_key (stat_rank o.target)))

  abbrev new : Content
  new = edited removing m

  as_unnamed : edited (unname_in p.here s o) m ≡ new
  as_unnamed =
      ap (λ (b : Bool). edited (and_also (cut_key key)
      (and_also (set_attr p.here less)
      (if b then cut_key (stat_rank o.target) else if nat_le o.attr.nlink 1 then and_also
      (cut_key (stat_rank o.target)) (cut_body o 0 o.attr.size)
      else set_attr o (link_less o.attr)))) m) is

  dir_was : at_key m (stat_rank p.here.target) ≡ Some (Stat p.here.attr)
  dir_was = (stat_there m p.here.target p.here.attr dir_there).1

  was : at_key m (stat_rank o.target) ≡ Some (Stat o.attr)
  was = (stat_there m o.target o.attr there).1

  off : (k : ℕ) → k ≢ key → k ≢ stat_rank p.here.target → k ≢ stat_rank o.target → at_key new k ≡ at_key m k
  off k one two three =
      edited_off removing m k (is_off removing k
      (off_both (cut_key key) (and_also (set_attr p.here less) (cut_key (stat_rank o.target))) k
      (off_key key k one)
      (off_both (set_attr p.here less) (cut_key (stat_rank o.target)) k (off_attr p.here less k two)
      (off_key (stat_rank o.target) k three))))

  dir_now : at_key new (stat_rank p.here.target) ≡ Some (Stat less)
  dir_now =
      at_edited removing m (stat_rank p.here.target)
      ∙ ap (λ (b : Bool). cond b (Some (Stat less))
      (cond (is_in removing.cuts (stat_rank p.here.target)) None (at_key m (stat_rank p.here.target))))
      (eq-eqb (stat_rank p.here.target) (stat_rank p.here.target) refl)

  entry_gone : at_key new key ≡ None
  entry_gone =
      edited_first (cut_key key) (and_also (set_attr p.here less) (cut_key (stat_rank o.target))) m key
      (off_both (set_attr p.here less) (cut_key (stat_rank o.target)) key
      (off_attr p.here less key (apart m key (stat_rank p.here.target) p.here.attr s o.target entry dir_was))
      (off_key (stat_rank o.target) key (apart m key (stat_rank o.target) o.attr s o.target entry was)))
      ∙ cut_itself m key

  -- a directory of its id would have entries
  no_names : (t : Target) (n : List ℕ) (u : Target) → t.oid.0 ≡ o.target.oid.0 → t.oid.0 < 2 ^ 60
      → All (λ x. x < 256) n → at_key m (entry_rank t n) ≡ Some (Entry n u) → ⊥
  no_names t n u same small n_bytes at =
      let where_is = entry_dir t n small n_bytes in
      let inside = entry_between o.target.oid.0 (entry_rank t n) (where_is.0 ∙ same) where_is.1 in
      true_not_false (sym inside ∙ nothing_between m (entries_from o.target.oid.0) (entries_to o.target.oid.0)
      (entry_rank t n) n u none at)

  -- each place on the way has an entry: the next one, or the one that goes
  goes_on : (path : List (List ℕ)) (q : Place) → HasBytes path → attr_at m q.here.target ≡ Some q.here.attr
      → found_from m path q ≡ There p → q.here.target.oid.0 ≡ o.target.oid.0 → ⊥
  goes_on [] q path_bytes stat e same =
      let is_p = ap (λ (x : Place). x.here.target) (place_in q p e) in
      let small = (small_object p.here.target (stat_there m p.here.target p.here.attr dir_there).0).1 in
      no_names p.here.target s o.target (sym (ap (λ (t : Target). t.oid.0) is_p) ∙ same) small bytes entry
  goes_on (n ∷ path) q path_bytes stat e same =
      let st = step_is m n path q p e in
      let small = (small_object q.here.target (stat_there m q.here.target q.here.attr stat).0).1 in
      no_names q.here.target n st.target same small (All-head (λ x. All (λ y. y < 256) x) n path path_bytes)
      (target_is n (at_key m (entry_rank q.here.target n)) st.target st.entry)

  abbrev becomes : Target → Attr → Attr
  becomes t a = if stat_rank t == stat_rank p.here.target then entry_less (is_dir o) a else a

  kind_of : (t : Target) (a : Attr) → is_directory (becomes t a) ≡ is_directory a
  kind_of t a = by_key (stat_rank t == stat_rank p.here.target)
    where
      by_key : (b : Bool) → is_directory (if b then entry_less (is_dir o) a else a) ≡ is_directory a
      by_key true = less_kind (is_dir o) a
      by_key false = refl

  stat_now : (path : List (List ℕ)) (q : Place) → HasBytes path → found_from m path q ≡ There p
      → attr_at m q.here.target ≡ Some q.here.attr → at_key m (stat_rank q.here.target) ≡ Some (Stat q.here.attr)
      → at_key new (stat_rank q.here.target) ≡ Some (Stat (becomes q.here.target q.here.attr))
  stat_now path q path_bytes e stat at = by_key (stat_rank q.here.target == stat_rank p.here.target) refl
    where
      by_key : (b : Bool) → (stat_rank q.here.target == stat_rank p.here.target) ≡ b
          → at_key new (stat_rank q.here.target) ≡ Some
          (Stat (if b then entry_less (is_dir o) q.here.attr else q.here.attr))
      by_key true same_key =
          let same = eqb-true (stat_rank q.here.target) (stat_rank p.here.target) same_key in
          let one = stat_same p.here.attr q.here.attr (sym dir_was ∙ ap (at_key m) (sym same) ∙ at) in
          ap (at_key new) same ∙ dir_now ∙ ap (λ (x : Attr). Some (Stat (entry_less (is_dir o) x))) one
      by_key false other =
          off (stat_rank q.here.target) (λ f. apart m key (stat_rank q.here.target) q.here.attr s o.target entry at
          (sym f)) (not_same (stat_rank q.here.target) (stat_rank p.here.target) other)
          (λ f. goes_on path q path_bytes stat e (same_id f)) ∙ at
        where
          same_id : stat_rank q.here.target ≡ stat_rank o.target → q.here.target.oid.0 ≡ o.target.oid.0
          same_id f =
              sym (id_of_stat q.here.target (small_object q.here.target
              (stat_there m q.here.target q.here.attr stat).0).1) ∙ ap (λ (k : ℕ). k / 2 ^ 64 % 2 ^ 64) f
              ∙ id_of_stat o.target (small_object o.target (stat_there m o.target o.attr there).0).1

  entry_now : (n : List ℕ) (path : List (List ℕ)) (q : Place) (t : Target) (a : Attr) → HasBytes (n ∷ path)
      → found_from m path (down q t a) ≡ There p → attr_at m t ≡ Some a → at_key m (entry_rank q.here.target n) ≡ Some
      (Entry n t)
      → at_key new (entry_rank q.here.target n) ≡ Some (Entry n t)
  entry_now n path q t a path_bytes e stat at =
      let k = entry_rank q.here.target n in
      off k (λ f. goes_on path (down q t a) (All-tail (λ x. All (λ y. y < 256) x) n path path_bytes) stat e
      (ap (λ (u : Target). u.oid.0) (aims (sym at ∙ ap (at_key m) f ∙ entry))))
      (apart m k (stat_rank p.here.target) p.here.attr n t at dir_was)
      (apart m k (stat_rank o.target) o.attr n t at was) ∙ at
    where
      aims : Some (Entry n t) ≡ Some (Entry s o.target) → t ≡ o.target
      aims f = cc

  pub removed : (path : List (List ℕ)) → HasBytes path → (length path == 0) ≡ false
      → found m (take (length path - 1) path) ≡ There p → slice_index_or path (length path - 1) [] ≡ s
      → found new path ≡ NotThere
  removed path path_bytes some at last =
      let above = take (length path - 1) path in
      let r = place_with becomes p in
      let way = way_again m new becomes p (λ xs q. HasBytes xs) (λ t a at. kind_of t a)
      (λ n xs q t a h d g i. All-tail (λ x. All (λ y. y < 256) x) n xs h)
      (λ n xs q t a h d g i found_at. entry_now n xs q t a h g i found_at)
      (λ xs q h g i found_at. stat_now xs q h g i found_at) above
      (λ a i. All-take (λ x. All (λ y. y < 256) x) (length path - 1) path path_bytes) at in
      found_last new path r some way ∙ ap (λ (n : List ℕ). found_from new (n ∷ []) r) last
      ∙ ap (λ (b : Bool). if b then go_target
      (λ t. go_attr NotThere (λ a. found_from new [] (down r t a)) (attr_at new t))
      (target_in s (at_key new key)) else NotDirectory) (kind_of p.here.target p.here.attr ∙ dir_is)
      ∙ ap (λ (v : Option Value). go_target
      (λ t. go_attr NotThere (λ a. found_from new [] (down r t a)) (attr_at new t)) (target_in s v)) entry_gone

removes : (m : Content) (dir o : Object) (n : List ℕ) (b : Bool) (ns : List (List ℕ))
    → (ending (if b then with_entries o (λ es. if_empty (Change (unname_in dir n o)) (names_in es)) else Answer
    Notdir) (of_content m)).reply ≡ Okay
    → names_in (pairs_between m (entries_from o.target.oid.0) (entries_to o.target.oid.0)) ≡ ns
    → (ns ≡ []) × (b ≡ true) × (ending
    (if b then with_entries o (λ es. if_empty (Change (unname_in dir n o)) (names_in es)) else Answer Notdir)
    (of_content m)
    ≡ record { edits = unname_in dir n o; reply = Okay })
removes m dir o n false ns h e = absurd cc
removes m dir o n true [] h e =
    (refl, refl, ap (λ (x : List (List ℕ)). ending (if_empty (Change (unname_in dir n o)) x) (of_content m)) e)
removes m dir o n true (x ∷ ns) h e = absurd
    (refused (sym (ap (λ (y : List (List ℕ)). (ending (if_empty (Change (unname_in dir n o)) y) (of_content m)).reply)
    e) ∙ h))
  where
    refused : Notempty ≡ Okay → ⊥
    refused e = cc

pub rmdir_found : (limit : ℕ) (path : List (List ℕ)) (m : Content) → HasBytes path → reply limit (Rmdir path) m ≡ Okay
    → reply limit (StatCommand path) (after limit (Rmdir path) m) ≡ Absent
unfolding to_entry
rmdir_found limit path m bytes okay =
    let c = came_above m Loop path (λ p n. step n (rmdir_next p.here n) p) (λ e. cc) okay in
    let n = slice_index_or path (length path - 1) [] in
    let p = c.place in
    let ends = c.ends ∙ steps_end m (n ∷ []) (rmdir_next p.here n) p in
    let (q, at, done) = okay_there m (rmdir_next p.here n) (found_from m (n ∷ []) p)
    (sym (ap (λ (x : Ending). x.reply) ends) ∙ okay) in
    let o = q.here in
    let (none, is, made) = removes m p.here o n (is_dir o)
    (names_in (pairs_between m (entries_from o.target.oid.0) (entries_to o.target.oid.0))) done refl in
    let st = step_is m n [] p q at in
    let last = place_in (down p st.target st.attr) q st.rest in
    let there : attr_at m o.target ≡ Some o.attr = sym (ap (λ (x : Place). attr_at m x.here.target) last) ∙ st.stat
    ∙ ap (λ (x : Place). Some x.here.attr) last in
    let entry : at_key m (entry_rank p.here.target n) ≡ Some (Entry n o.target) = target_is n
    (at_key m (entry_rank p.here.target n)) st.target st.entry
    ∙ ap (λ (x : Place). Some (Entry n x.here.target)) last in
    let dir_there = attr_found m (take (length path - 1) path) p c.at in
    ap (λ (x : Ending). reply limit (StatCommand path) (edited x.edits m))
    (ends ∙ ap (ends_at m (rmdir_next p.here n)) at ∙ made)
    ∙ ap (reply limit (StatCommand path))
    (as_unnamed m p o n st.dir dir_there there is (last_bytes path c.some bytes) entry none)
    ∙ absent_ends limit (new m p o n st.dir dir_there there is (last_bytes path c.some bytes) entry none) path c.name
    (removed m p o n st.dir dir_there there is (last_bytes path c.some bytes) entry none path bytes c.some c.at
    refl)
