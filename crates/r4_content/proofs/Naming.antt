-- What is made under a name is found there, and what is unlinked is not.
use Rattle.std.specs.Prelude.{◌≡◌, ◌≢◌, ℕ, suc, ◌-◌, ◌^◌, ◌<◌, List, [], ◌∷◌, ◌++◌, Bool, true, false, ◌==◌, nat_le, nat_lt, bytes_eq, All, Option, Some, None, length, take, drop, slice_index_or, if◌then◌else◌}
use Rattle.std.proofs.Common.{arith, get_or, refl, sym, ap, subst, ◌∙◌, drop-cons}
use Rattle.std.proofs.lemmas.Bool.{and_from, lt-ltb, ne_eqb, or_from}
use Rattle.std.proofs.lemmas.Grind.{common_steps}
use Rattle.std.proofs.lemmas.List.{drop_all, take-append-drop}
use Rattle.std.proofs.lemmas.List.Elements.{All-drop, All-head, All-take}
use Rattle.std.proofs.lemmas.Option.{same_Some}
use Rattle.r4_base.specs.Value.{Stat, Entry, Content, at_key}
use Rattle.r4_base.specs.Volume.{IsObject, is_directory, root_object, stat_rank}
use Rattle.r4_base.specs.declared.items.Attr.{Attr}
use Rattle.r4_base.specs.declared.items.Target.{Target}
use Rattle.r4_base.specs.declared.things.Oid.{Oid}
use Rattle.r4_content.specs.Course.{Course, Ask, Answer, Change, Ending, ending, of_content}
use Rattle.r4_content.specs.Edited.{Edits, and_also, edited}
use Rattle.r4_content.specs.Entries.{is_no_id, name_in}
use Rattle.r4_content.specs.Fields.{HasBytes, HasNumbers, IsUnused}
use Rattle.r4_content.specs.Meaning.{after, is_path, named, reply}
use Rattle.r4_content.specs.Objects.{Object, cut_key, entry_more, entry_rank, is_dir, is_full, is_same_target, made_in, new_directory, new_file, set_attr, set_entry}
use Rattle.r4_content.specs.Walk.{attr_at, target_in}
use Rattle.r4_content.specs.Ways.{Named, Place, entry_in, free_here, if_free, to_free, to_object, to_parent}
use Rattle.r4_content.specs.declared.command.Command.TheVariants.{Create, Mkdir, Stat as StatCommand}
use Rattle.r4_content.specs.declared.reply.Reply.{Reply}
use Rattle.r4_content.specs.declared.reply.Reply.TheVariants.{Okay, Exists, Clash, Oids, Links, Notdir, Attr as AttrReply}
use Rattle.r4_content.proofs.EditLaws.{edited_off, one_key}
use Rattle.r4_content.proofs.EditParts.{IsOff, edited_first, edited_second, is_off, off_both}
use Rattle.r4_content.proofs.FileEdits.{attr_of, off_attr, other_stat, put_itself}
use Rattle.r4_content.proofs.Found.{There, NotDirectory, down, ends_at, found, found_from, go_attr, small_object, start, stat_there, way_ends}
use Rattle.r4_content.proofs.Ranks.{entry_not_stat, name_fits, same_stat, told_same}
use Rattle.r4_content.proofs.SameWay.{IsThere, found_again, found_object, itself_in, place_in, place_with, root_there, step_is, steps_on, target_is}
use Rattle.r4_content.proofs.Writing.{named_ends, okay_named, okay_there, stat_ends}

-- ---- the way to the object above, and its last step

split_last : (path : List (List ℕ)) → (length path == 0) ≡ false → path ≡ take (length path - 1) path ++ slice_index_or path (length path - 1) [] ∷ []
split_last path e =
    let some : 0 < length path = positive (length path) e in
    sym (take-append-drop (length path - 1) path) ∙ ap (λ (xs : List (List ℕ)). take (length path - 1) path ++ xs) (drop-cons path (length path - 1) [] (omega arith) ∙ ap (λ (xs : List (List ℕ)). get_or path (length path - 1) [] ∷ xs) (drop_all (suc (length path - 1)) path (omega arith)))
  where
    positive : (n : ℕ) → (n == 0) ≡ false → 0 < n
    positive n h = grind (arith, common_steps)

found_more : (m : Content) (xs : List (List ℕ)) (n : List ℕ) (q p : Place) → found_from m xs q ≡ There p → found_from m (xs ++ n ∷ []) q ≡ found_from m (n ∷ []) p
found_more m [] n q p e = ap (found_from m (n ∷ [])) (place_in q p e)
found_more m (x ∷ xs) n q p e =
    let s = step_is m x xs q p e in
    steps_on m x (xs ++ n ∷ []) q s.target s.attr s.dir s.entry s.stat ∙ found_more m xs n (down q s.target s.attr) p s.rest

pub found_last : (m : Content) (path : List (List ℕ)) (p : Place) → (length path == 0) ≡ false → found m (take (length path - 1) path) ≡ There p
    → found m path ≡ found_from m (slice_index_or path (length path - 1) [] ∷ []) p
found_last m path p some e =
    let (a, stat, rest) = root_there p (λ a. found_from m (take (length path - 1) path) (start a)) (attr_at m root_object) e in
    ap (found m) (split_last path some) ∙ ap (go_attr NotDirectory (λ a. found_from m (take (length path - 1) path ++ slice_index_or path (length path - 1) [] ∷ []) (start a))) stat
    ∙ found_more m (take (length path - 1) path) (slice_index_or path (length path - 1) []) (start a) p rest

-- a command on a name came to the object above
pub record CameAbove (m : Content) (path : List (List ℕ)) (whole : Course) (next : Place → (name : List ℕ) → Course) : Type 0 where
  pub place : Place
  pub name : is_path path ≡ true
  pub some : (length path == 0) ≡ false
  pub at : found m (take (length path - 1) path) ≡ There place
  pub ends : ending (named path whole) (of_content m) ≡ ending (next place (slice_index_or path (length path - 1) [])) (of_content m)

pub came_above : (m : Content) (r : Reply) (path : List (List ℕ)) (next : Place → (name : List ℕ) → Course) → r ≢ Okay → (ending (named path (to_parent r path next)) (of_content m)).reply ≡ Okay
    → CameAbove m path (to_parent r path next) next
unfolding to_parent
came_above m r path next not_okay e = by_length (length path == 0) refl e
  where
    by_length : (b : Bool) → (length path == 0) ≡ b → (ending (named path (if b then Answer r else to_object (take (length path - 1) path) (λ p. next p (slice_index_or path (length path - 1) [])))) (of_content m)).reply ≡ Okay
        → CameAbove m path (if (length path == 0) then Answer r else to_object (take (length path - 1) path) (λ p. next p (slice_index_or path (length path - 1) []))) next
    by_length true h okay =
        let is = okay_named m path (Answer r) okay in
        absurd (not_okay (sym (ap (λ (x : Ending). x.reply) (named_ends m path (Answer r) is)) ∙ okay))
    by_length false h okay =
        let on : Place → Course = λ (p : Place). next p (slice_index_or path (length path - 1) []) in
        let way : Course = to_object (take (length path - 1) path) on in
        let is = okay_named m path way okay in
        let ends = named_ends m path way is ∙ way_ends m (take (length path - 1) path) on in
        let (p, at, done) = okay_there m on (found m (take (length path - 1) path)) (sym (ap (λ (x : Ending). x.reply) ends) ∙ okay) in
        record { place = p; name = is; some = h; at = at; ends = ap (λ (b : Bool). ending (named path (if b then Answer r else way)) (of_content m)) h ∙ ends ∙ ap (ends_at m on) at }

pub last_bytes : (path : List (List ℕ)) → (length path == 0) ≡ false → HasBytes path → All (λ x. x < 256) (slice_index_or path (length path - 1) [])
last_bytes path e bytes =
    let some : 0 < length path = positive (length path) e in
    let rest = All-drop (λ n. All (λ x. x < 256) n) (length path - 1) path bytes in
    All-head (λ n. All (λ x. x < 256) n) (slice_index_or path (length path - 1) []) (drop (suc (length path - 1)) path)
    (subst (λ (xs : List (List ℕ)). All (λ n. All (λ x. x < 256) n) xs) (drop-cons path (length path - 1) [] (omega arith)) rest)
  where
    positive : (n : ℕ) → (n == 0) ≡ false → 0 < n
    positive n h = grind (arith, common_steps)

-- ---- an object gets a name

pub off_entry : (dir : Object) (n : List ℕ) (t : Target) (k : ℕ) → k ≢ entry_rank dir.target n → IsOff (set_entry dir n t) k
off_entry dir n t k ne = record { puts = or_from _ false (one_key k (entry_rank dir.target n) ∙ ne_eqb k (entry_rank dir.target n) ne) refl; zeros = refl; cuts = refl }

pub off_key : (key k : ℕ) → k ≢ key → IsOff (cut_key key) k
off_key key k ne = record { puts = refl; zeros = refl; cuts = or_from _ false (one_key k key ∙ ne_eqb k key ne) refl }

not_none : (e : Named) → Some e ≡ None → ⊥
not_none e same = cc

-- only the directory has another entry
abbrev pub with_more : Target → Bool → Target → Attr → Attr
with_more dir d t a = if is_same_target t dir then entry_more d a else a

more_kind : (dir : Target) (d : Bool) (t : Target) (a : Attr) → is_directory (with_more dir d t a) ≡ is_directory a
more_kind dir d t a = by_target (is_same_target t dir) d
  where
    by_target : (b d : Bool) → is_directory (if b then entry_more d a else a) ≡ is_directory a
    by_target true true = refl
    by_target true false = refl
    by_target false d = refl

-- An object is made under a name that is free in a directory.
pub record Makes (m : Content) (path : List (List ℕ)) (p : Place) (n : List ℕ) (oid : Oid) : Type 0 where
  pub name : is_path path ≡ true
  pub some : (length path == 0) ≡ false
  pub at : found m (take (length path - 1) path) ≡ There p
  pub last : n ≡ slice_index_or path (length path - 1) []
  pub dir : is_dir p.here ≡ true
  pub free : entry_in (at_key m (entry_rank p.here.target n)) ≡ None
  pub small : oid.0 < 2 ^ 60
  pub unused : IsUnused m oid

module _ (limit : ℕ) (m : Content) (path : List (List ℕ)) (numbers : HasNumbers m) (bytes : HasBytes path) (p : Place) (n : List ℕ) (oid : Oid) (a : Attr) (h : Makes m path p n oid) where
  abbrev new : Object
  new = made_in p.here n oid a

  abbrev entry_key : ℕ
  entry_key = entry_rank p.here.target n

  abbrev naming : Edits
  naming = name_in p.here n new

  there : IsThere m p.here
  there = found_object m numbers.orderings (take (length path - 1) path) p h.at

  dir_small : p.here.target.oid.0 < 2 ^ 60
  dir_small = (small_object p.here.target (stat_there m p.here.target p.here.attr there.stat).0).1

  name_bytes : All (λ x. x < 256) n
  name_bytes = subst (λ (s : List ℕ). All (λ x. x < 256) s) (sym h.last) (last_bytes path h.some bytes)

  new_object : IsObject new.target
  new_object = let small = h.small in (dir_small, (name_fits p.here.target n dir_small name_bytes).small 1, omega arith)

  unlike : (t : Target) (b : Attr) → IsObject t → attr_at m t ≡ Some b → stat_rank t ≢ stat_rank new.target
  unlike t b object stat same = h.unused t b (object, (stat_there m t b stat).1) (ap (λ (u : Target). u.oid) (same_stat t new.target object new_object same))

  off : (k : ℕ) → k ≢ entry_key → k ≢ stat_rank new.target → k ≢ stat_rank p.here.target → IsOff naming k
  off k one two three =
      off_both (set_entry p.here n new.target) (and_also (set_attr new new.attr) (set_attr p.here (entry_more (is_dir new) p.here.attr))) k (off_entry p.here n new.target k one)
      (off_both (set_attr new new.attr) (set_attr p.here (entry_more (is_dir new) p.here.attr)) k (off_attr new new.attr k two) (off_attr p.here (entry_more (is_dir new) p.here.attr) k three))

  entry_made : at_key (edited naming m) entry_key ≡ Some (Entry n new.target)
  entry_made =
      edited_first (set_entry p.here n new.target) (and_also (set_attr new new.attr) (set_attr p.here (entry_more (is_dir new) p.here.attr))) m entry_key
      (off_both (set_attr new new.attr) (set_attr p.here (entry_more (is_dir new) p.here.attr)) entry_key
      (off_attr new new.attr entry_key (entry_not_stat p.here.target new.target n dir_small name_bytes new_object))
      (off_attr p.here (entry_more (is_dir new) p.here.attr) entry_key (entry_not_stat p.here.target p.here.target n dir_small name_bytes there.object)))
      ∙ put_itself m entry_key (Entry n new.target)

  new_made : at_key (edited naming m) (stat_rank new.target) ≡ Some (Stat a)
  new_made =
      edited_second (set_entry p.here n new.target) (and_also (set_attr new new.attr) (set_attr p.here (entry_more (is_dir new) p.here.attr))) m (stat_rank new.target)
      (off_entry p.here n new.target (stat_rank new.target) (λ e. entry_not_stat p.here.target new.target n dir_small name_bytes new_object (sym e)))
      ∙ edited_first (set_attr new new.attr) (set_attr p.here (entry_more (is_dir new) p.here.attr)) m (stat_rank new.target)
      (off_attr p.here (entry_more (is_dir new) p.here.attr) (stat_rank new.target) (λ e. unlike p.here.target p.here.attr there.object there.stat (sym e)))
      ∙ put_itself m (stat_rank new.target) (Stat a)

  dir_made : at_key (edited naming m) (stat_rank p.here.target) ≡ Some (Stat (entry_more (is_dir new) p.here.attr))
  dir_made =
      edited_second (set_entry p.here n new.target) (and_also (set_attr new new.attr) (set_attr p.here (entry_more (is_dir new) p.here.attr))) m (stat_rank p.here.target)
      (off_entry p.here n new.target (stat_rank p.here.target) (λ e. entry_not_stat p.here.target p.here.target n dir_small name_bytes there.object (sym e)))
      ∙ edited_second (set_attr new new.attr) (set_attr p.here (entry_more (is_dir new) p.here.attr)) m (stat_rank p.here.target)
      (off_attr new new.attr (stat_rank p.here.target) (unlike p.here.target p.here.attr there.object there.stat))
      ∙ put_itself m (stat_rank p.here.target) (Stat (entry_more (is_dir new) p.here.attr))

  entries : (d : Target) (s : List ℕ) (t : Target) (b : Attr) → d.oid.0 < 2 ^ 60 → All (λ x. x < 256) s → target_in s (at_key m (entry_rank d s)) ≡ Some t → attr_at m t ≡ Some b → Unit {0}
      → target_in s (at_key (edited naming m) (entry_rank d s)) ≡ Some t
  entries d s t b small_d bytes_s entry stat _ =
      ap (target_in s) (edited_off naming m (entry_rank d s) (is_off naming (entry_rank d s) (off (entry_rank d s) taken
      (entry_not_stat d new.target s small_d bytes_s new_object) (entry_not_stat d p.here.target s small_d bytes_s there.object)))) ∙ entry
    where
      taken : entry_rank d s ≡ entry_key → ⊥
      taken same =
          let is : at_key m entry_key ≡ Some (Entry s t) = ap (at_key m) (sym same) ∙ target_is s (at_key m (entry_rank d s)) t entry in
          not_none (record { name = s; target = t }) (sym (ap entry_in is) ∙ h.free)

  stats : (t : Target) (b : Attr) → IsObject t → attr_at m t ≡ Some b → Unit {0} → attr_at (edited naming m) t ≡ Some (with_more p.here.target (is_dir new) t b)
  stats t b object stat _ = by_target (is_same_target t p.here.target) refl
    where
      by_target : (c : Bool) → is_same_target t p.here.target ≡ c → attr_at (edited naming m) t ≡ Some (if c then entry_more (is_dir new) b else b)
      by_target true same =
          let is = told_same t p.here.target same in
          let one : b ≡ p.here.attr = same_Some b p.here.attr (sym stat ∙ ap (attr_at m) is ∙ there.stat) in
          attr_of (edited naming m) t (entry_more (is_dir new) b) (stat_there m t b stat).0
          (ap (λ (u : Target). at_key (edited naming m) (stat_rank u)) is ∙ dir_made ∙ ap (λ (c : Attr). Some (Stat (entry_more (is_dir new) c))) (sym one))
      by_target false other =
          let old = stat_there m t b stat in
          attr_of (edited naming m) t b old.0 (edited_off naming m (stat_rank t) (is_off naming (stat_rank t) (off (stat_rank t)
          (λ e. entry_not_stat p.here.target t n dir_small name_bytes object (sym e)) (unlike t b object stat) (other_stat t p.here.target object there.object other))) ∙ old.1)

  way_made : found (edited naming m) (take (length path - 1) path) ≡ There (place_with (with_more p.here.target (is_dir new)) p)
  way_made =
      found_again m (edited naming m) (with_more p.here.target (is_dir new)) (λ t b. Unit {0}) (λ t b d. tt) (more_kind p.here.target (is_dir new)) numbers.orderings entries stats
      (take (length path - 1) path) p (All-take (λ s. All (λ x. x < 256) s) (length path - 1) path bytes) h.at tt

  pub made_found : found (edited naming m) path ≡ There (down (place_with (with_more p.here.target (is_dir new)) p) new.target a)
  made_found =
      let q = place_with (with_more p.here.target (is_dir new)) p in
      let may = and_from (nat_lt new.target.locality (2 ^ 60)) (nat_lt oid.0 (2 ^ 60)) (lt-ltb _ _ dir_small) (lt-ltb _ _ h.small) in
      found_last (edited naming m) path q h.some way_made ∙ ap (λ (s : List ℕ). found_from (edited naming m) (s ∷ []) q) (sym h.last)
      ∙ steps_on (edited naming m) n [] q new.target a (more_kind p.here.target (is_dir new) p.here.target p.here.attr ∙ h.dir) (ap (target_in n) entry_made ∙ itself_in n new.target)
      (attr_of (edited naming m) new.target a may new_made)

-- ---- create, mkdir

pub free_is : (m : Content) (next : Object → (name : List ℕ) → Course) (p : Place) (n : List ℕ) → (ending (free_here next p n) (of_content m)).reply ≡ Okay
    → (is_dir p.here ≡ true) × (entry_in (at_key m (entry_rank p.here.target n)) ≡ None) × (ending (free_here next p n) (of_content m) ≡ ending (next p.here n) (of_content m))
free_is m next p n e =
    let (dir, free) = both (is_dir p.here) (entry_in (at_key m (entry_rank p.here.target n))) e in (
      dir,
      free,
      ap (λ (b : Bool). ending (if b then Ask (entry_rank p.here.target n) (λ v. if_free n (next p.here n) (entry_in v)) else Answer Notdir) (of_content m)) dir
          ∙ ap (λ (v : Option Named). ending (if_free n (next p.here n) v) (of_content m)) free,
    )
  where
    no_entry : (v : Option Named) → (ending (if_free n (next p.here n) v) (of_content m)).reply ≡ Okay → v ≡ None
    no_entry None h = refl
    no_entry (Some x) h = absurd (taken (bytes_eq x.name n) h)
      where
        taken : (b : Bool) → (ending (if b then Answer Exists else Answer (Clash x.name)) (of_content m)).reply ≡ Okay → ⊥
        taken true g = cc
        taken false g = cc

    both : (b : Bool) (v : Option Named) → (ending (if b then Ask (entry_rank p.here.target n) (λ v. if_free n (next p.here n) (entry_in v)) else Answer Notdir) (of_content m)).reply ≡ Okay
        → (b ≡ true) × (entry_in (at_key m (entry_rank p.here.target n)) ≡ None)
    both true v h = (refl, no_entry (entry_in (at_key m (entry_rank p.here.target n))) h)
    both false v h = absurd cc

abbrev pub make_file : Oid → Object → (name : List ℕ) → Course
make_file oid dir n = if is_no_id oid then Answer Oids else Change (name_in dir n (made_in dir n oid new_file))

abbrev pub make_directory : Oid → Object → (name : List ℕ) → Course
make_directory oid dir n = if is_full dir then Answer Links else if is_no_id oid then Answer Oids else Change (name_in dir n (made_in dir n oid new_directory))

pub small_enough : (n : ℕ) → nat_le (2 ^ 60 - 1) n ≡ false → n < 2 ^ 60
small_enough n e = grind (arith, common_steps)

pub file_made : (m : Content) (dir : Object) (n : List ℕ) (oid : Oid) → (ending (make_file oid dir n) (of_content m)).reply ≡ Okay
    → (oid.0 < 2 ^ 60) × (ending (make_file oid dir n) (of_content m) ≡ record { edits = name_in dir n (made_in dir n oid new_file); reply = Okay })
file_made m dir n oid e = by_id (is_no_id oid) refl e
  where
    by_id : (b : Bool) → is_no_id oid ≡ b → (ending (if b then Answer Oids else Change (name_in dir n (made_in dir n oid new_file))) (of_content m)).reply ≡ Okay
        → (oid.0 < 2 ^ 60) × (ending (if b then Answer Oids else Change (name_in dir n (made_in dir n oid new_file))) (of_content m) ≡ record { edits = name_in dir n (made_in dir n oid new_file); reply = Okay })
    by_id true h okay = absurd cc
    by_id false h okay = (small_enough oid.0 h, refl)

pub directory_made : (m : Content) (dir : Object) (n : List ℕ) (oid : Oid) → (ending (make_directory oid dir n) (of_content m)).reply ≡ Okay
    → (oid.0 < 2 ^ 60) × (ending (make_directory oid dir n) (of_content m) ≡ record { edits = name_in dir n (made_in dir n oid new_directory); reply = Okay })
directory_made m dir n oid e = by_id (is_full dir) (is_no_id oid) refl e
  where
    by_id : (f b : Bool) → is_no_id oid ≡ b → (ending (if f then Answer Links else if b then Answer Oids else Change (name_in dir n (made_in dir n oid new_directory))) (of_content m)).reply ≡ Okay
        → (oid.0 < 2 ^ 60)
        × (ending (if f then Answer Links else if b then Answer Oids else Change (name_in dir n (made_in dir n oid new_directory))) (of_content m) ≡ record { edits = name_in dir n (made_in dir n oid new_directory); reply = Okay })
    by_id true b h okay = absurd cc
    by_id false true h okay = absurd cc
    by_id false false h okay = (small_enough oid.0 h, refl)

make_stat : (limit : ℕ) (path : List (List ℕ)) (oid : Oid) (m : Content) (a : Attr) (make : Object → (name : List ℕ) → Course) → HasNumbers m → HasBytes path → IsUnused m oid
    → ((dir : Object) (n : List ℕ) → (ending (make dir n) (of_content m)).reply ≡ Okay
    → (oid.0 < 2 ^ 60) × (ending (make dir n) (of_content m) ≡ record { edits = name_in dir n (made_in dir n oid a); reply = Okay }))
    → (ending (named path (to_free path make)) (of_content m)).reply ≡ Okay
    → reply limit (StatCommand path) (edited (ending (named path (to_free path make)) (of_content m)).edits m) ≡ AttrReply a
unfolding to_free
make_stat limit path oid m a make numbers bytes unused made okay =
    let c = came_above m Exists path (free_here make) (λ e. cc) okay in
    let n = slice_index_or path (length path - 1) [] in
    let (dir, free, goes) = free_is m make c.place n (sym (ap (λ (x : Ending). x.reply) c.ends) ∙ okay) in
    let (small, done) = made c.place.here n (sym (ap (λ (x : Ending). x.reply) (c.ends ∙ goes)) ∙ okay) in
    let h : Makes m path c.place n oid = record { name = c.name; some = c.some; at = c.at; last = refl; dir = dir; free = free; small = small; unused = unused } in
    let edits = name_in c.place.here n (made_in c.place.here n oid a) in
    let there = made_found limit m path numbers bytes c.place n oid a h in
    ap (λ (x : Ending). reply limit (StatCommand path) (edited x.edits m)) (c.ends ∙ goes ∙ done) ∙ stat_ends limit (edited edits m) path _ c.name there

pub create_stat : (limit : ℕ) (path : List (List ℕ)) (oid : Oid) (m : Content) → HasNumbers m → HasBytes path → IsUnused m oid → reply limit (Create path oid) m ≡ Okay
    → reply limit (StatCommand path) (after limit (Create path oid) m) ≡ AttrReply new_file
create_stat limit path oid m numbers bytes unused okay = make_stat limit path oid m new_file (make_file oid) numbers bytes unused (λ dir n. file_made m dir n oid) okay

pub mkdir_stat : (limit : ℕ) (path : List (List ℕ)) (oid : Oid) (m : Content) → HasNumbers m → HasBytes path → IsUnused m oid → reply limit (Mkdir path oid) m ≡ Okay
    → reply limit (StatCommand path) (after limit (Mkdir path oid) m) ≡ AttrReply new_directory
mkdir_stat limit path oid m numbers bytes unused okay = make_stat limit path oid m new_directory (make_directory oid) numbers bytes unused (λ dir n. directory_made m dir n oid) okay
