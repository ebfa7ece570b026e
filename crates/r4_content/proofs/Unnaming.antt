-- What is unlinked is not found under its name.
use Rattle.std.specs.Prelude.{◌≡◌, ◌≢◌, ℕ, ◌+◌, ◌-◌, ◌^◌, ◌<◌, ◌≤◌, List, [], ◌∷◌, Bool, true, false, ◌==◌, cond, nat_le, All, Option, Some, None, length, take, slice_index_or, if◌then◌else◌}
use Rattle.std.proofs.Common.{arith, refl, sym, ap, subst, ◌∙◌}
use Rattle.std.proofs.lemmas.List.Elements.{All-take}
use Rattle.std.proofs.lemmas.Option.{same_Some}
use Rattle.std.proofs.lemmas.Bool.{or_left}
use Rattle.r4_base.specs.Value.{Value, Stat, Entry, Content, at_key}
use Rattle.r4_base.specs.Volume.{IsObject, byte_rank, is_directory, stat_rank}
use Rattle.r4_base.specs.declared.items.Attr.{Attr}
use Rattle.r4_base.specs.declared.items.Target.{Target}
use Rattle.r4_content.specs.Course.{Course, Answer, Change, Ending, ending, of_content}
use Rattle.r4_content.specs.Edited.{Edits, and_also, edited, is_between}
use Rattle.r4_content.specs.Entries.{unname_in}
use Rattle.r4_content.specs.Fields.{HasBytes, HasNumbers}
use Rattle.r4_content.specs.Meaning.{after, is_path, reply}
use Rattle.r4_content.specs.Objects.{Object, cut_body, cut_key, entry_less, entry_rank, is_dir, is_same_target, link_less, set_attr, unnamed}
use Rattle.r4_content.specs.Walk.{attr_at, target_in}
use Rattle.r4_content.specs.Ways.{Place, step, to_entry, to_object}
use Rattle.r4_content.specs.declared.command.Command.TheVariants.{Unlink, Stat as StatCommand}
use Rattle.r4_content.specs.declared.reply.Reply.TheVariants.{Okay, Isdir, Absent, Attr as AttrReply}
use Rattle.r4_content.proofs.CourseLaws.{at_itself}
use Rattle.r4_content.proofs.EditLaws.{at_edited, edited_off}
use Rattle.r4_content.proofs.EditParts.{IsOff, edited_first, edited_second, is_off, off_both, true_not_false}
use Rattle.r4_content.proofs.FileEdits.{attr_of, off_attr, off_cuts, other_stat, put_itself}
use Rattle.r4_content.proofs.Found.{There, NotDirectory, NotThere, down, ends_at, found, found_from, go_attr, go_target, small_object, stat_there, steps_end, way_ends}
use Rattle.r4_content.proofs.Naming.{came_above, found_last, last_bytes, off_key}
use Rattle.r4_content.proofs.Ranks.{entry_not_byte, entry_not_stat, same_stat, stat_not_byte, told_same}
use Rattle.r4_content.proofs.SameWay.{IsThere, StepsTo, found_again, found_object, named_there, place_in, place_with, step_is, target_is}
use Rattle.r4_content.proofs.Writing.{named_ends, okay_there}

-- only the directory has an entry less
abbrev pub with_less : Target → Bool → Target → Attr → Attr
with_less dir d t a = if is_same_target t dir then entry_less d a else a

pub less_kind : (dir : Target) (d : Bool) (t : Target) (a : Attr) → is_directory (with_less dir d t a) ≡ is_directory a
less_kind dir d t a = by_target (is_same_target t dir) d
  where
    by_target : (b d : Bool) → is_directory (if b then entry_less d a else a) ≡ is_directory a
    by_target true true = refl
    by_target true false = refl
    by_target false d = refl

same_entry : (s n : List ℕ) (t u : Target) → Some (Entry s t) ≡ Some (Entry n u) → t ≡ u
same_entry s n t u e = cc

-- A file is named by the last name of a path.
pub record Names (m : Content) (path : List (List ℕ)) (p q : Place) (n : List ℕ) : Type 0 where
  pub name : is_path path ≡ true
  pub some : (length path == 0) ≡ false
  pub at : found m (take (length path - 1) path) ≡ There p
  pub last : n ≡ slice_index_or path (length path - 1) []
  pub steps : found_from m (n ∷ []) p ≡ There q
  pub file : is_dir q.here ≡ false

module _ (m : Content) (path : List (List ℕ)) (numbers : HasNumbers m) (bytes : HasBytes path) (p q : Place) (n : List ℕ) (h : Names m path p q n) where
  abbrev dir : Object
  dir = p.here

  abbrev file : Object
  file = q.here

  abbrev entry_key : ℕ
  entry_key = entry_rank p.here.target n

  abbrev rest_of_it : Edits
  rest_of_it = and_also (set_attr p.here (entry_less (is_dir q.here) p.here.attr)) (unnamed q.here)

  there : IsThere m p.here
  there = found_object m numbers.orderings (take (length path - 1) path) p h.at

  down_is : StepsTo m n [] p q
  down_is = step_is m n [] p q h.steps

  dir_is : is_dir p.here ≡ true
  dir_is = down_is.dir

  file_there : IsThere m q.here
  file_there =
      subst (λ (x : Place). IsThere m x.here) (place_in _ q down_is.rest)
      (named_there m numbers.orderings entry_key n down_is.target down_is.attr down_is.entry down_is.stat)

  entry_is : target_in n (at_key m entry_key) ≡ Some q.here.target
  entry_is = down_is.entry ∙ ap (λ (x : Place). Some x.here.target) (place_in _ q down_is.rest)

  dir_small : p.here.target.oid.0 < 2 ^ 60
  dir_small = (small_object p.here.target (stat_there m p.here.target p.here.attr there.stat).0).1

  name_bytes : All (λ x. x < 256) n
  name_bytes = subst (λ (s : List ℕ). All (λ x. x < 256) s) (sym h.last) (last_bytes path h.some bytes)

  -- a directory is another object
  not_file : (t : Target) (b : Attr) → IsObject t → attr_at m t ≡ Some b → is_directory b ≡ true → stat_rank t ≢ stat_rank q.here.target
  not_file t b object stat d same =
      let is = same_stat t q.here.target object file_there.object same in
      let one : b ≡ q.here.attr = same_Some b q.here.attr (sym stat ∙ ap (attr_at m) is ∙ file_there.stat) in
      true_not_false (sym d ∙ ap is_directory one ∙ h.file)

  off_unnamed : (k : ℕ) → k ≢ stat_rank q.here.target → ((x : ℕ) → x < 2 ^ 64 → k ≢ byte_rank q.here.target x) → IsOff (unnamed q.here) k
  off_unnamed k one two = by_kind (is_dir q.here) (nat_le q.here.attr.nlink 1)
    where
      size : q.here.attr.size ≤ 2 ^ 64
      size = let lt = numbers.sizes q.here.target q.here.attr (file_there.object, (stat_there m q.here.target q.here.attr file_there.stat).1) in omega arith

      by_kind : (d b : Bool) → IsOff (if d then cut_key (stat_rank q.here.target) else if b then and_also (cut_key (stat_rank q.here.target)) (cut_body q.here 0 q.here.attr.size) else set_attr q.here (link_less q.here.attr)) k
      by_kind true b = off_key (stat_rank q.here.target) k one
      by_kind false true = off_both (cut_key (stat_rank q.here.target)) (cut_body q.here 0 q.here.attr.size) k (off_key (stat_rank q.here.target) k one) (off_cuts q.here 0 q.here.attr.size k size two)
      by_kind false false = off_attr q.here (link_less q.here.attr) k one

  abbrev gone : Content
  gone = edited (unname_in p.here n q.here) m

  off : (k : ℕ) → k ≢ entry_key → k ≢ stat_rank p.here.target → k ≢ stat_rank q.here.target → ((x : ℕ) → x < 2 ^ 64 → k ≢ byte_rank q.here.target x) → IsOff (unname_in p.here n q.here) k
  off k one two three four =
      off_both (cut_key entry_key) rest_of_it k (off_key entry_key k one)
      (off_both (set_attr p.here (entry_less (is_dir q.here) p.here.attr)) (unnamed q.here) k (off_attr p.here (entry_less (is_dir q.here) p.here.attr) k two) (off_unnamed k three four))

  entry_gone : at_key gone entry_key ≡ None
  entry_gone =
      edited_first (cut_key entry_key) rest_of_it m entry_key
      (off_both (set_attr p.here (entry_less (is_dir q.here) p.here.attr)) (unnamed q.here) entry_key
      (off_attr p.here (entry_less (is_dir q.here) p.here.attr) entry_key (entry_not_stat p.here.target p.here.target n dir_small name_bytes there.object))
      (off_unnamed entry_key (entry_not_stat p.here.target q.here.target n dir_small name_bytes file_there.object)
      (λ x lt. entry_not_byte p.here.target q.here.target n x dir_small name_bytes file_there.object lt)))
      ∙ at_edited (cut_key entry_key) m entry_key ∙ ap (λ (b : Bool). cond b None (at_key m entry_key)) (or_left (is_between entry_key (entry_key + 1) entry_key) false (at_itself entry_key))

  dir_left : at_key gone (stat_rank p.here.target) ≡ Some (Stat (entry_less (is_dir q.here) p.here.attr))
  dir_left =
      edited_second (cut_key entry_key) rest_of_it m (stat_rank p.here.target) (off_key entry_key (stat_rank p.here.target) (λ e. entry_not_stat p.here.target p.here.target n dir_small name_bytes there.object (sym e)))
      ∙ edited_first (set_attr p.here (entry_less (is_dir q.here) p.here.attr)) (unnamed q.here) m (stat_rank p.here.target)
      (off_unnamed (stat_rank p.here.target) (not_file p.here.target p.here.attr there.object there.stat dir_is) (λ x lt. stat_not_byte p.here.target q.here.target x there.object file_there.object lt))
      ∙ put_itself m (stat_rank p.here.target) (Stat (entry_less (is_dir q.here) p.here.attr))

  entries : (d : Target) (s : List ℕ) (t : Target) (b : Attr) → d.oid.0 < 2 ^ 60 → All (λ x. x < 256) s → target_in s (at_key m (entry_rank d s)) ≡ Some t → attr_at m t ≡ Some b → is_directory b ≡ true
      → target_in s (at_key gone (entry_rank d s)) ≡ Some t
  entries d s t b small_d bytes_s entry stat is_d =
      ap (target_in s) (edited_off (unname_in p.here n q.here) m (entry_rank d s) (is_off (unname_in p.here n q.here) (entry_rank d s) (off (entry_rank d s) other
      (entry_not_stat d p.here.target s small_d bytes_s there.object) (entry_not_stat d q.here.target s small_d bytes_s file_there.object)
      (λ x lt. entry_not_byte d q.here.target s x small_d bytes_s file_there.object lt)))) ∙ entry
    where
      other : entry_rank d s ≡ entry_key → ⊥
      other same =
          let one : at_key m entry_key ≡ Some (Entry s t) = ap (at_key m) (sym same) ∙ target_is s (at_key m (entry_rank d s)) t entry in
          let two : at_key m entry_key ≡ Some (Entry n q.here.target) = target_is n (at_key m entry_key) q.here.target entry_is in
          let is : t ≡ q.here.target = same_entry s n t q.here.target (sym one ∙ two) in
          let attr : b ≡ q.here.attr = same_Some b q.here.attr (sym stat ∙ ap (attr_at m) is ∙ file_there.stat) in
          true_not_false (sym is_d ∙ ap is_directory attr ∙ h.file)

  stats : (t : Target) (b : Attr) → IsObject t → attr_at m t ≡ Some b → is_directory b ≡ true → attr_at gone t ≡ Some (with_less p.here.target (is_dir q.here) t b)
  stats t b object stat is_d = by_target (is_same_target t p.here.target) refl
    where
      by_target : (c : Bool) → is_same_target t p.here.target ≡ c → attr_at gone t ≡ Some (if c then entry_less (is_dir q.here) b else b)
      by_target true same =
          let is = told_same t p.here.target same in
          let one : b ≡ p.here.attr = same_Some b p.here.attr (sym stat ∙ ap (attr_at m) is ∙ there.stat) in
          attr_of gone t (entry_less (is_dir q.here) b) (stat_there m t b stat).0
          (ap (λ (u : Target). at_key gone (stat_rank u)) is ∙ dir_left ∙ ap (λ (c : Attr). Some (Stat (entry_less (is_dir q.here) c))) (sym one))
      by_target false other =
          let old = stat_there m t b stat in
          attr_of gone t b old.0 (edited_off (unname_in p.here n q.here) m (stat_rank t) (is_off (unname_in p.here n q.here) (stat_rank t) (off (stat_rank t)
          (λ e. entry_not_stat p.here.target t n dir_small name_bytes object (sym e)) (other_stat t p.here.target object there.object other) (not_file t b object stat is_d)
          (λ x lt. stat_not_byte t q.here.target x object file_there.object lt))) ∙ old.1)

  way_left : found gone (take (length path - 1) path) ≡ There (place_with (with_less p.here.target (is_dir q.here)) p)
  way_left =
      found_again m gone (with_less p.here.target (is_dir q.here)) (λ t b. is_directory b ≡ true) (λ t b d. d) (less_kind p.here.target (is_dir q.here)) numbers.orderings entries stats
      (take (length path - 1) path) p (All-take (λ s. All (λ x. x < 256) s) (length path - 1) path bytes) h.at dir_is

  pub not_found : found gone path ≡ NotThere
  not_found =
      let r = place_with (with_less p.here.target (is_dir q.here)) p in
      let is : is_dir r.here ≡ true = less_kind p.here.target (is_dir q.here) p.here.target p.here.attr ∙ dir_is in
      found_last gone path r h.some way_left ∙ ap (λ (s : List ℕ). found_from gone (s ∷ []) r) (sym h.last)
      ∙ ap (λ (b : Bool). if b then go_target (λ t. go_attr NotThere (λ a. found_from gone [] (down r t a)) (attr_at gone t)) (target_in n (at_key gone entry_key)) else NotDirectory) is
      ∙ ap (λ (v : Option Value). go_target (λ t. go_attr NotThere (λ a. found_from gone [] (down r t a)) (attr_at gone t)) (target_in n v)) entry_gone

-- ---- unlink

abbrev unlink_on : Object → (name : List ℕ) → Place → Course
unlink_on dir n p = if is_dir p.here then Answer Isdir else Change (unname_in dir n p.here)

pub absent_ends : (limit : ℕ) (m : Content) (path : List (List ℕ)) → is_path path ≡ true → found m path ≡ NotThere → reply limit (StatCommand path) m ≡ Absent
absent_ends limit m path is at =
    ap (λ (x : Ending). x.reply)
    (named_ends m path (to_object path (λ p. Answer (AttrReply p.here.attr))) is ∙ way_ends m path (λ p. Answer (AttrReply p.here.attr)) ∙ ap (ends_at m (λ p. Answer (AttrReply p.here.attr))) at)

pub unlink_stat : (limit : ℕ) (path : List (List ℕ)) (m : Content) → HasNumbers m → HasBytes path → reply limit (Unlink path) m ≡ Okay → reply limit (StatCommand path) (after limit (Unlink path) m) ≡ Absent
unfolding to_entry
unlink_stat limit path m numbers bytes okay =
    let c = came_above m Isdir path (λ p n. step n (unlink_on p.here n) p) (λ e. cc) okay in
    let n = slice_index_or path (length path - 1) [] in
    let p = c.place in
    let ends = c.ends ∙ steps_end m (n ∷ []) (unlink_on p.here n) p in
    let (q, at, done) = okay_there m (unlink_on p.here n) (found_from m (n ∷ []) p) (sym (ap (λ (x : Ending). x.reply) ends) ∙ okay) in
    let (file, goes) = is_file p n q (is_dir q.here) done in
    let h : Names m path p q n = record { name = c.name; some = c.some; at = c.at; last = refl; steps = at; file = file } in
    ap (λ (x : Ending). reply limit (StatCommand path) (edited x.edits m)) (ends ∙ ap (ends_at m (unlink_on p.here n)) at ∙ ap (λ (b : Bool). ending (if b then Answer Isdir else Change (unname_in p.here n q.here)) (of_content m)) file)
    ∙ absent_ends limit (edited (unname_in p.here n q.here) m) path c.name (not_found m path numbers bytes p q n h)
  where
    is_file : (p : Place) (n : List ℕ) (q : Place) (b : Bool) → (ending (if b then Answer Isdir else Change (unname_in p.here n q.here)) (of_content m)).reply ≡ Okay → (b ≡ false) × Unit {0}
    is_file p n q true h = absurd cc
    is_file p n q false h = (refl, tt)
