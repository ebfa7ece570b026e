-- What was unlinked is absent, also under a path that is not of bytes.
use Rattle.std.specs.Prelude.{◌≡◌, ◌≢◌, ◌⊎◌, ℕ, ◌+◌, ◌-◌, ◌^◌, ◌≤◌, List, [], ◌∷◌, ◌++◌, Bool, true, false, ◌==◌}
use Rattle.std.specs.Prelude.{Option, Some, None}
use Rattle.std.specs.Prelude.{cond, length, nat_le, slice_index_or, take, if◌then◌else◌}
use Rattle.std.proofs.Common.{arith, inl, inr, refl, sym, ap, subst, ◌∙◌}
use Rattle.std.proofs.lemmas.Bool.{eqb-true, ne_eqb, or_left}
use Rattle.r4_base.specs.Value.{Content, Entry, Stat, Value, at_key}
use Rattle.r4_base.specs.Volume.{IsObject, is_directory, root_object, stat_rank}
use Rattle.r4_base.specs.declared.items.Attr.{Attr}
use Rattle.r4_base.specs.declared.items.Target.{Target}
use Rattle.r4_content.specs.Course.{Answer, Change, Ending, ending, of_content}
use Rattle.r4_content.specs.Edited.{Edits, and_also, edited, is_between, is_in}
use Rattle.r4_content.specs.Entries.{unname_in}
use Rattle.r4_content.specs.Fields.{HasNumbers}
use Rattle.r4_content.specs.Meaning.{after, reply}
use Rattle.r4_content.specs.Objects.{Object, cut_body, cut_key, entry_less, entry_rank, is_dir, link_less, set_attr}
use Rattle.r4_content.specs.Objects.{unnamed}
use Rattle.r4_content.specs.Walk.{attr_at, target_in}
use Rattle.r4_content.specs.Ways.{Place, step, to_entry}
use Rattle.r4_content.specs.declared.command.Command.TheVariants.{Unlink, Stat as StatCommand}
use Rattle.r4_content.specs.declared.reply.Reply.TheVariants.{Okay, Absent, Isdir}
use Rattle.r4_content.proofs.Counting.{not_same}
use Rattle.r4_content.proofs.CourseLaws.{at_itself}
use Rattle.r4_content.proofs.EditLaws.{at_edited, edited_off}
use Rattle.r4_content.proofs.EditParts.{edited_first, edited_second, is_off, off_both, true_not_false}
use Rattle.r4_content.proofs.FileEdits.{attr_of, off_attr, put_itself}
use Rattle.r4_content.proofs.Found.{NotDirectory, NotThere, There, down, ends_at, found, found_from, go_attr}
use Rattle.r4_content.proofs.Found.{go_target, start, stat_there, steps_end}
use Rattle.r4_content.proofs.Gaining.{stat_same}
use Rattle.r4_content.proofs.Losing.{less_kind, off_unnamed}
use Rattle.r4_content.proofs.Naming.{came_above, off_key}
use Rattle.r4_content.proofs.OneObject.{stat_was}
use Rattle.r4_content.proofs.Ranks.{root_is_object, stat_not_byte}
use Rattle.r4_content.proofs.SameWay.{IsThere, down_with, found_object, named_there, place_in, place_with, root_there}
use Rattle.r4_content.proofs.SameWay.{step_is, steps_on, target_is}
use Rattle.r4_content.proofs.Takers.{unlink_next}
use Rattle.r4_content.proofs.Unnaming.{absent_ends}
use Rattle.r4_content.proofs.Writing.{okay_there, positive}
use Rattle.r4_content_rows.proofs.Again.{apart}
use Rattle.r4_content_rows.proofs.OtherPaths.{ends_with_last}

-- a file o loses the name s in the directory of a place
module _ (m : Content) (numbers : HasNumbers m) (p : Place) (o : Object) (s : List ℕ) (dir_there : IsThere m p.here)
    (there : IsThere m o) (dir_is : is_dir p.here ≡ true) (file : is_dir o ≡ false)
    (entry : at_key m (entry_rank p.here.target s) ≡ Some (Entry s o.target)) where
  abbrev key : ℕ
  key = entry_rank p.here.target s

  abbrev less : Attr
  less = entry_less (is_dir o) p.here.attr

  abbrev new : Content
  new = edited (unname_in p.here s o) m

  dir_was : at_key m (stat_rank p.here.target) ≡ Some (Stat p.here.attr)
  dir_was = (stat_there m p.here.target p.here.attr dir_there.stat).1

  was : at_key m (stat_rank o.target) ≡ Some (Stat o.attr)
  was = (stat_there m o.target o.attr there.stat).1

  size : o.attr.size ≤ 2 ^ 64
  size = let small = numbers.sizes o.target o.attr (stat_was m o there) in omega (arith, small)

  abbrev with_rest : Edits → Edits
  with_rest rest = and_also (cut_key key) (and_also (set_attr p.here less) rest)

  -- an entry stays, or is cut
  stays_or_goes : (k : ℕ) (n : List ℕ) (t : Target) → at_key m k ≡ Some (Entry n t) → (at_key new k ≡ at_key m k)
      ⊎ (at_key new k ≡ None)
  stays_or_goes k n t at = by_kind (is_dir o) file (nat_le o.attr.nlink 1)
    where
      not_dir : (k == stat_rank p.here.target) ≡ false
      not_dir = ne_eqb k (stat_rank p.here.target) (apart m k (stat_rank p.here.target) p.here.attr n t at dir_was)

      not_file : (k == stat_rank o.target) ≡ false
      not_file = ne_eqb k (stat_rank o.target) (apart m k (stat_rank o.target) o.attr n t at was)

      cut_or_not : (b : Bool) → (cond b None (at_key m k) ≡ at_key m k) ⊎ (cond b None (at_key m k) ≡ None)
      cut_or_not true = inr refl
      cut_or_not false = inl refl

      as_cut : (e : Edits) (b : Bool) → at_key (edited e m) k ≡ cond b None (at_key m k)
          → (at_key (edited e m) k ≡ at_key m k) ⊎ (at_key (edited e m) k ≡ None)
      as_cut e b is = elim (cut_or_not b) [ inl f ↦ inl (is ∙ f) | inr f ↦ inr (is ∙ f) ]

      by_kind : (d : Bool) → d ≡ false → (b : Bool)
          → let rest : Edits = if d then cut_key (stat_rank o.target) else if b then and_also
          (cut_key (stat_rank o.target)) (cut_body o 0 o.attr.size) else set_attr o (link_less o.attr) in
          (at_key (edited (with_rest rest) m) k ≡ at_key m k) ⊎ (at_key (edited (with_rest rest) m) k ≡ None)
      by_kind true e b = absurd (true_not_false e)
      by_kind false e true =
          let edits = with_rest (and_also (cut_key (stat_rank o.target)) (cut_body o 0 o.attr.size)) in
          as_cut edits (is_in edits.cuts k)
          (at_edited edits m k ∙ ap (λ (b : Bool). cond b (Some (Stat less))
          (cond (is_in edits.cuts k) None (at_key m k))) not_dir)
      by_kind false e false =
          let edits = with_rest (set_attr o (link_less o.attr)) in
          as_cut edits (is_in edits.cuts k)
          (at_edited edits m k ∙ ap (λ (b : Bool). cond b (Some (Stat (link_less o.attr)))
          (cond (k == stat_rank p.here.target) (Some (Stat less)) (cond (is_in edits.cuts k) None (at_key m k))))
          not_file
          ∙ ap (λ (b : Bool). cond b (Some (Stat less)) (cond (is_in edits.cuts k) None (at_key m k))) not_dir)

  -- stat data of another object stay, but for those of the directory
  abbrev becomes : Target → Attr → Attr
  becomes t a = if stat_rank t == stat_rank p.here.target then entry_less (is_dir o) a else a

  kind_of : (t : Target) (a : Attr) → is_directory (becomes t a) ≡ is_directory a
  kind_of t a = by_key (stat_rank t == stat_rank p.here.target)
    where
      by_key : (b : Bool) → is_directory (if b then entry_less (is_dir o) a else a) ≡ is_directory a
      by_key true = less_kind (is_dir o) a
      by_key false = refl

  not_o : (t : Target) (a : Attr) → at_key m (stat_rank t) ≡ Some (Stat a) → is_directory a ≡ true
      → stat_rank t ≢ stat_rank o.target
  not_o t a at dir same = true_not_false
      (sym dir ∙ ap is_directory (stat_same a o.attr (sym at ∙ ap (at_key m) same ∙ was)) ∙ file)

  abbrev rest_of_it : Edits
  rest_of_it = and_also (set_attr p.here less) (unnamed o)

  dir_now : at_key new (stat_rank p.here.target) ≡ Some (Stat less)
  dir_now =
      edited_second (cut_key key) rest_of_it m (stat_rank p.here.target)
      (off_key key (stat_rank p.here.target)
      (λ e. apart m key (stat_rank p.here.target) p.here.attr s o.target entry dir_was (sym e)))
      ∙ edited_first (set_attr p.here less) (unnamed o) m (stat_rank p.here.target)
      (off_unnamed o (stat_rank p.here.target) size (not_o p.here.target p.here.attr dir_was dir_is)
      (λ x lt. stat_not_byte p.here.target o.target x dir_there.object there.object lt))
      ∙ put_itself m (stat_rank p.here.target) (Stat less)

  stat_now : (t : Target) (a : Attr) → IsObject t → attr_at m t ≡ Some a → is_directory a ≡ true
      → attr_at new t ≡ Some (becomes t a)
  stat_now t a object stat dir =
      let old = stat_there m t a stat in
      attr_of new t (becomes t a) old.0 (by_key old.1 (stat_rank t == stat_rank p.here.target) refl)
    where
      by_key : at_key m (stat_rank t) ≡ Some (Stat a) → (b : Bool) → (stat_rank t == stat_rank p.here.target) ≡ b
          → at_key new (stat_rank t) ≡ Some (Stat (if b then entry_less (is_dir o) a else a))
      by_key at true e =
          let same = eqb-true (stat_rank t) (stat_rank p.here.target) e in
          let one = stat_same p.here.attr a (sym dir_was ∙ ap (at_key m) (sym same) ∙ at) in
          ap (at_key new) same ∙ dir_now ∙ ap (λ (x : Attr). Some (Stat (entry_less (is_dir o) x))) one
      by_key at false e =
          edited_off (unname_in p.here s o) m (stat_rank t) (is_off (unname_in p.here s o) (stat_rank t)
          (off_both (cut_key key) rest_of_it (stat_rank t)
          (off_key key (stat_rank t) (λ f. apart m key (stat_rank t) a s o.target entry at (sym f)))
          (off_both (set_attr p.here less) (unnamed o) (stat_rank t)
          (off_attr p.here less (stat_rank t) (not_same (stat_rank t) (stat_rank p.here.target) e))
          (off_unnamed o (stat_rank t) size (not_o t a at dir)
          (λ x lt. stat_not_byte t o.target x object there.object lt)))))
          ∙ at

  -- at a key without an entry a step ends
  no_step : (n : List ℕ) (path : List (List ℕ)) (q : Place) → is_dir q.here ≡ true
      → at_key new (entry_rank q.here.target n) ≡ None → found_from new (n ∷ path) q ≡ NotThere
  no_step n path q dir none =
      ap (λ (b : Bool). if b then go_target
      (λ t. go_attr NotThere (λ a. found_from new path (down q t a)) (attr_at new t))
      (target_in n (at_key new (entry_rank q.here.target n))) else NotDirectory) dir
      ∙ ap (λ (v : Option Value). go_target
      (λ t. go_attr NotThere (λ a. found_from new path (down q t a)) (attr_at new t)) (target_in n v)) none

  entry_gone : at_key new key ≡ None
  entry_gone = by_kind (is_dir o) file (nat_le o.attr.nlink 1)
    where
      not_dir : (key == stat_rank p.here.target) ≡ false
      not_dir = ne_eqb key (stat_rank p.here.target)
          (apart m key (stat_rank p.here.target) p.here.attr s o.target entry dir_was)

      not_file : (key == stat_rank o.target) ≡ false
      not_file = ne_eqb key (stat_rank o.target) (apart m key (stat_rank o.target) o.attr s o.target entry was)

      is_cut : (rest : Edits) → is_in (with_rest rest).cuts key ≡ true
      is_cut rest = or_left (is_between key (key + 1) key) (is_in rest.cuts key) (at_itself key)

      by_kind : (d : Bool) → d ≡ false → (b : Bool)
          → let rest : Edits = if d then cut_key (stat_rank o.target) else if b then and_also
          (cut_key (stat_rank o.target)) (cut_body o 0 o.attr.size) else set_attr o (link_less o.attr) in
          at_key (edited (with_rest rest) m) key ≡ None
      by_kind true e b = absurd (true_not_false e)
      by_kind false e true =
          let rest = and_also (cut_key (stat_rank o.target)) (cut_body o 0 o.attr.size) in
          at_edited (with_rest rest) m key
          ∙ ap (λ (b : Bool). cond b (Some (Stat less))
          (cond (is_in (with_rest rest).cuts key) None (at_key m key))) not_dir
          ∙ ap (λ (b : Bool). cond b None (at_key m key)) (is_cut rest)
      by_kind false e false =
          let rest = set_attr o (link_less o.attr) in
          at_edited (with_rest rest) m key
          ∙ ap (λ (b : Bool). cond b (Some (Stat (link_less o.attr)))
          (cond (key == stat_rank p.here.target) (Some (Stat less))
          (cond (is_in (with_rest rest).cuts key) None (at_key m key)))) not_file
          ∙ ap (λ (b : Bool). cond b (Some (Stat less)) (cond (is_in (with_rest rest).cuts key) None (at_key m key)))
          not_dir
          ∙ ap (λ (b : Bool). cond b None (at_key m key)) (is_cut rest)

  -- so a way to the directory ends before the name, or at it
  ends : (xs : List (List ℕ)) (q : Place) → IsThere m q.here → is_dir q.here ≡ true → found_from m xs q ≡ There p
      → found_from new (xs ++ s ∷ []) (place_with becomes q) ≡ NotThere
  ends [] q q_there dir e =
      let is_p = ap (λ (x : Place). x.here.target) (place_in q p e) in
      no_step s [] (place_with becomes q) (kind_of q.here.target q.here.attr ∙ dir)
      (ap (λ (t : Target). at_key new (entry_rank t s)) is_p ∙ entry_gone)
  ends (n ∷ xs) q q_there dir e =
      let st = step_is m n xs q p e in
      let k = entry_rank q.here.target n in
      let at = target_is n (at_key m k) st.target st.entry in
      let next = named_there m numbers.orderings k n st.target st.attr st.entry st.stat in
      let next_dir = goes_on xs (down q st.target st.attr) st.rest in
      elim (stays_or_goes k n st.target at) [
        | inl same ↦ steps_on new n (xs ++ s ∷ []) (place_with becomes q) st.target (becomes st.target st.attr)
            (kind_of q.here.target q.here.attr ∙ dir) (ap (target_in n) same ∙ st.entry)
            (stat_now st.target st.attr next.object st.stat next_dir)
            ∙ ap (found_from new (xs ++ s ∷ [])) (down_with becomes q st.target st.attr)
            ∙ ends xs (down q st.target st.attr) next next_dir st.rest
        | inr none ↦ no_step n (xs ++ s ∷ []) (place_with becomes q) (kind_of q.here.target q.here.attr ∙ dir) none
      ]
    where
      goes_on : (ys : List (List ℕ)) (r : Place) → found_from m ys r ≡ There p → is_dir r.here ≡ true
      goes_on [] r f = ap (λ (x : Place). is_dir x.here) (place_in r p f) ∙ dir_is
      goes_on (y ∷ ys) r f = (step_is m y ys r p f).dir

  way_ends : (xs : List (List ℕ)) → found m xs ≡ There p → found new (xs ++ s ∷ []) ≡ NotThere
  way_ends xs e =
      let (a, stat, rest) = root_there p (λ a. found_from m xs (start a)) (attr_at m root_object) e in
      let dir = root_dir xs (start a) rest in
      ap (go_attr NotDirectory (λ a. found_from new (xs ++ s ∷ []) (start a)))
      (stat_now root_object a root_is_object stat dir)
      ∙ ends xs (start a) (record { object = root_is_object; stat = stat }) dir rest
    where
      root_dir : (ys : List (List ℕ)) (r : Place) → found_from m ys r ≡ There p → is_dir r.here ≡ true
      root_dir [] r f = ap (λ (x : Place). is_dir x.here) (place_in r p f) ∙ dir_is
      root_dir (y ∷ ys) r f = (step_is m y ys r p f).dir

pub unlink_found : (limit : ℕ) (path : List (List ℕ)) (m : Content) → HasNumbers m
    → reply limit (Unlink path) m ≡ Okay → reply limit (StatCommand path) (after limit (Unlink path) m) ≡ Absent
unfolding to_entry
unlink_found limit path m numbers okay =
    let c = came_above m Isdir path (λ p n. step n (unlink_next p.here n) p) (λ e. cc) okay in
    let n = slice_index_or path (length path - 1) [] in
    let p = c.place in
    let above = take (length path - 1) path in
    let made = c.ends ∙ steps_end m (n ∷ []) (unlink_next p.here n) p in
    let (q, at, done) = okay_there m (unlink_next p.here n) (found_from m (n ∷ []) p)
    (sym (ap (λ (x : Ending). x.reply) made) ∙ okay) in
    let o = q.here in
    let file = is_file p.here o n (is_dir o) done in
    let st = step_is m n [] p q at in
    let last = place_in (down p st.target st.attr) q st.rest in
    let there = subst (λ (x : Place). IsThere m x.here) last
    (named_there m numbers.orderings (entry_rank p.here.target n) n st.target st.attr st.entry st.stat) in
    let entry : at_key m (entry_rank p.here.target n) ≡ Some (Entry n o.target) = target_is n
    (at_key m (entry_rank p.here.target n)) st.target st.entry
    ∙ ap (λ (x : Place). Some (Entry n x.here.target)) last in
    let dir_there = found_object m numbers.orderings above p c.at in
    let gone = way_ends m numbers p o n dir_there there st.dir file entry above c.at in
    let whole = ends_with_last path (positive (length path) c.some) in
    ap (λ (x : Ending). reply limit (StatCommand path) (edited x.edits m))
    (made ∙ ap (ends_at m (unlink_next p.here n)) at
    ∙ ap (λ (b : Bool). ending (if b then Answer Isdir else Change (unname_in p.here n o)) (of_content m)) file)
    ∙ absent_ends limit (edited (unname_in p.here n o) m) path c.name
    (ap (found (edited (unname_in p.here n o) m)) whole ∙ gone)
  where
    is_file : (dir o : Object) (n : List ℕ) (b : Bool)
        → (ending (if b then Answer Isdir else Change (unname_in dir n o)) (of_content m)).reply ≡ Okay → b ≡ false
    is_file dir o n true h = absurd cc
    is_file dir o n false h = refl
