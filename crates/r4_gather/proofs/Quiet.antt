-- Courses that ask for nothing more, and what a move asks for.
use Rattle.std.proofs.Common.{◌≡◌, ℕ, ◌+◌, ◌<◌, List, [], ◌∷◌, ◌-◌, take, length, Bool, true, false, refl, ap, sym}
use Rattle.std.proofs.Common.{subst, ◌∙◌, arith}
use Rattle.std.specs.Prelude.{MatchOption, Option, None, Some, bytes_eq, if◌then◌else◌, not, ◌&&◌, ◌==◌}
use Rattle.std.specs.FinMap.{find}
use Rattle.std.specs.Ordering.{nat_cmp}
use Rattle.r4_base.specs.Value.{Byte, Entry, Stat, Value}
use Rattle.r4_base.specs.declared.items.Target.{Target}
use Rattle.r4_content.specs.Course.{Answer, Ask, Change, Course, Source}
use Rattle.r4_content.specs.Edited.{Edits, Intervals}
use Rattle.r4_content.specs.Entries.{entries_from, entries_to, if_empty, move, move_to, moved, names_in, rename}
use Rattle.r4_content.specs.Entries.{replace, rmdir, unname_in, with_entries}
use Rattle.r4_content.specs.Meaning.{is_path, named}
use Rattle.r4_content.specs.Objects.{Object, entry_rank, is_dir, is_full, is_same, is_same_target}
use Rattle.r4_content.specs.Seen.{of_seen, pairs_in}
use Rattle.r4_content.specs.Walk.{target_in}
use Rattle.r4_content.specs.Ways.{Named, Place, entry_in, free_here, if_free, object_at, to_ends, to_entry, to_free}
use Rattle.r4_content.specs.Ways.{to_object, to_parent}
use Rattle.r4_content.specs.declared.reply.Reply.{Reply}
use Rattle.r4_content.specs.declared.reply.Reply.TheVariants.{Clash, Exists, Links, Loop, Name as NameReply, Notdir}
use Rattle.r4_content.specs.declared.reply.Reply.TheVariants.{Okay}
use Rattle.r4_dir.specs.Coming.{last_of, object_of}
use Rattle.r4_gather.specs.Asking.{EndsIn, HasAsked, HasEndedEntry, IsAt, IsAtEntry, IsLater, IsQuiet, Sighting}
use Rattle.r4_gather.specs.Asking.{StopsIn}
use Rattle.r4_gather.specs.Asking.{StopsFree, asking, has}
use Rattle.r4_gather.specs.Finding.{place_seen}
use Rattle.r4_gather.specs.declared.entries.SeenFound.{SeenFound}
use Rattle.r4_gather.proofs.Beginning.{asking_on, later_both}

pub free_quiet : (n : List ℕ) (c : Course) (o : Option Named) (s : Source) (g : Intervals) → IsQuiet c
    → asking (if_free n c o) s g ≡ g
free_quiet n c None s g q = q s g
free_quiet n c (Some e) s g q = by_name (bytes_eq e.name n)
  where
    by_name : (b : Bool) → asking (if b then Answer Exists else Answer (Clash e.name)) s g ≡ g
    by_name true = refl
    by_name false = refl

pub choice_quiet : (b : Bool) (r : Reply) (e : Edits) (s : Source) (g : Intervals)
    → asking (if b then Answer r else Change e) s g ≡ g
choice_quiet true r e s g = refl
choice_quiet false r e s g = refl

pub empty_quiet : (e : Edits) (ns : List (List ℕ)) (s : Source) (g : Intervals)
    → asking (if_empty (Change e) ns) s g ≡ g
empty_quiet e [] s g = refl
empty_quiet e (n ∷ ns) s g = refl

-- the way to an entry, whatever follows that asks for nothing
pub entry_quiet : (r : Reply) (path : List (List ℕ)) (old new : Sighting) (o : Option SeenFound)
    → MatchOption o (HasEndedEntry r path old new) (λ f. IsAtEntry r path old new (object_of f.dir) (place_seen f))
    → (next : Object → List ℕ → Place → Course) → ((dir : Object) (n : List ℕ) (p : Place) → IsQuiet (next dir n p))
    → HasAsked (to_entry r path next) old new
entry_quiet r path old new None ends next q last l = ends next last l
entry_quiet r path old new (Some f) at next q last l = at next last l
    ∙ q (object_of f.dir) (last_of path) (place_seen f) (of_seen last.seen) new.asked

-- ---- a name that is to be free

module _
    (path : List (List ℕ)) (some : 0 < length path) (old mid : Sighting) (p : Place)
    (at : IsAt (to_object (take (length path - 1) path)) old mid p) (dir : is_dir p.here ≡ true) (new : Sighting)
    (later : IsLater mid new)
    (stops : EndsIn new.asked
    ((entry_rank p.here.target (last_of path), entry_rank p.here.target (last_of path) + 1) ∷ mid.asked)) where
  at_name : (next : Object → List ℕ → Course) (last : Sighting) → IsLater new last
      → EndsIn new.asked (asking (to_object (take (length path - 1) path) (λ q. free_here next q (last_of path)))
      (of_seen last.seen) old.asked)
  at_name next last l =
      subst (λ xs. EndsIn new.asked xs)
      (sym (at (λ q. free_here next q (last_of path)) last (later_both mid new last later l)
      ∙ ap (λ b. asking (if b then Ask (entry_rank p.here.target (last_of path))
      (λ v. if_free (last_of path) (next p.here (last_of path)) (entry_in v)) else Answer Notdir)
      (of_seen last.seen) mid.asked) dir))
      (asking_on (if_free (last_of path) (next p.here (last_of path))
      (entry_in (find nat_cmp (entry_rank p.here.target (last_of path)) last.seen))) (of_seen last.seen) new.asked
      ((entry_rank p.here.target (last_of path), entry_rank p.here.target (last_of path) + 1) ∷ mid.asked) stops)

  pub free_stops : StopsFree path old new
  unfolding to_free to_parent
  free_stops next last l = by_empty (length path == 0) refl
    where
      by_empty : (b : Bool) → (length path == 0) ≡ b
          → EndsIn new.asked (asking (if b then Answer Exists else to_object (take (length path - 1) path)
          (λ q. free_here next q (last_of path))) (of_seen last.seen) old.asked)
      by_empty true e = absurd (grind (arith, e, some))
      by_empty false e = at_name next last l

-- ---- a move

module _ (dir : Object) (n : List ℕ) (o nd : Object) (m : List ℕ) where
  none_quiet : (s : Source) (g : Intervals) → asking (move_to dir n o nd m None) s g ≡ g
  none_quiet s g = choice_quiet (is_dir o && not (is_same dir nd) && is_full nd) Links (moved dir n o nd m) s g

  abbrev taken : Named → Target → Bool → Course
  taken e t b = if not b then Answer (Clash e.name) else
      (if is_same_target t o.target then Answer Okay else object_at t (replace dir n o nd m))

  absent_if : (b : Bool) (t : Target) → (if b then Some t else None) ≡ None → b ≡ false
  absent_if true t e = absurd cc
  absent_if false t e = refl

  there_if : (b : Bool) (t u : Target) → (if b then Some t else None) ≡ Some u → (b ≡ true) × (t ≡ u)
  there_if true t u e = (refl, cc)
  there_if false t u e = absurd cc

  ends_at : (v : Option Value) → target_in m v ≡ None → (s : Source) (g : Intervals)
      → asking (move_to dir n o nd m (entry_in v)) s g ≡ g
  ends_at None e s g = none_quiet s g
  ends_at (Some (Stat a)) e s g = none_quiet s g
  ends_at (Some (Entry x t)) e s g = ap (λ b. asking (taken (record { name = x; target = t }) t b) s g)
      (absent_if (bytes_eq x m) t e)
  ends_at (Some (Byte x)) e s g = none_quiet s g

  goes_at : (v : Option Value) (u : Target) → target_in m v ≡ Some u → (s : Source) (g : Intervals)
      → asking (move_to dir n o nd m (entry_in v)) s g
      ≡ asking (if is_same_target u o.target then Answer Okay else object_at u (replace dir n o nd m)) s g
  goes_at None u e s g = absurd cc
  goes_at (Some (Stat a)) u e s g = absurd cc
  goes_at (Some (Entry x t)) u e s g =
      let (same, is) = there_if (bytes_eq x m) t u e in
      ap (λ b. asking (taken (record { name = x; target = t }) t b) s g) same
      ∙ ap (λ w. asking (if is_same_target w o.target then Answer Okay else object_at w (replace dir n o nd m)) s g)
      is
  goes_at (Some (Byte x)) u e s g = absurd cc

  module _ (old mid : Sighting) (is : mid.asked
      ≡ (entry_rank nd.target m, entry_rank nd.target m + 1) ∷ old.asked) where
    same_value : (last : Sighting) → IsLater mid last
        → find nat_cmp (entry_rank nd.target m) last.seen ≡ find nat_cmp (entry_rank nd.target m) mid.seen
    same_value last l = l.values (entry_rank nd.target m)
        (subst (λ g. has g (entry_rank nd.target m, entry_rank nd.target m + 1) ≡ true) (sym is) (grind arith))

    pub move_goes : (u : Target) → target_in m (find nat_cmp (entry_rank nd.target m) mid.seen) ≡ Some u
        → is_same_target u o.target ≡ false
        → (last : Sighting) → IsLater mid last
        → asking (move dir n o nd m) (of_seen last.seen) old.asked
        ≡ asking (object_at u (replace dir n o nd m)) (of_seen last.seen) mid.asked
    move_goes u t other last l =
        goes_at (find nat_cmp (entry_rank nd.target m) last.seen) u (ap (λ v. target_in m v) (same_value last l)
        ∙ t) (of_seen last.seen) ((entry_rank nd.target m, entry_rank nd.target m + 1) ∷ old.asked)
        ∙ ap (λ b. asking (if b then Answer Okay else object_at u (replace dir n o nd m)) (of_seen last.seen)
        ((entry_rank nd.target m, entry_rank nd.target m + 1) ∷ old.asked)) other
        ∙ ap (λ g. asking (object_at u (replace dir n o nd m)) (of_seen last.seen) g) (sym is)

  pub move_stops : (old mid : Sighting)
      → EndsIn mid.asked ((entry_rank nd.target m, entry_rank nd.target m + 1) ∷ old.asked)
      → StopsIn (move dir n o nd m) old mid
  move_stops old mid h last l =
      asking_on (move_to dir n o nd m (entry_in (find nat_cmp (entry_rank nd.target m) last.seen)))
      (of_seen last.seen) mid.asked ((entry_rank nd.target m, entry_rank nd.target m + 1) ∷ old.asked) h

-- ---- a directory that goes

abbrev rmdir_on : Object → List ℕ → Place → Course
rmdir_on dir n p = if is_dir p.here then with_entries p.here
    (λ es. if_empty (Change (unname_in dir n p.here)) (names_in es)) else Answer Notdir

module _ (path : List (List ℕ)) (old mid : Sighting) where
  pub rmdir_ends : HasEndedEntry Loop path old mid → HasAsked (rmdir path) old mid
  rmdir_ends ends = ends rmdir_on

  module _ (dir : Object) (p : Place) (at : IsAtEntry Loop path old mid dir p) where
    came : (b : Bool) → is_dir p.here ≡ b → (last : Sighting) → IsLater mid last
        → asking (rmdir path) (of_seen last.seen) old.asked
        ≡ asking (if b then with_entries p.here
        (λ es. if_empty (Change (unname_in dir (last_of path) p.here)) (names_in es)) else Answer Notdir)
        (of_seen last.seen) mid.asked
    came b is last l = at rmdir_on last l
        ∙ ap (λ b. asking (if b then with_entries p.here
        (λ es. if_empty (Change (unname_in dir (last_of path) p.here)) (names_in es)) else Answer Notdir)
        (of_seen last.seen) mid.asked) is

    pub rmdir_file : is_dir p.here ≡ false → HasAsked (rmdir path) old mid
    rmdir_file is last l = came false is last l

    module _ (is : is_dir p.here ≡ true) (new : Sighting) (later : IsLater mid new) (all : new.asked
        ≡ (entries_from p.here.target.oid.0, entries_to p.here.target.oid.0) ∷ mid.asked) where
      pub rmdir_asked : HasAsked (rmdir path) old new
      rmdir_asked last l = came true is last (later_both mid new last later l)
          ∙ empty_quiet (unname_in dir (last_of path) p.here)
          (names_in (pairs_in last.seen (entries_from p.here.target.oid.0) (entries_to p.here.target.oid.0)))
          (of_seen last.seen) ((entries_from p.here.target.oid.0, entries_to p.here.target.oid.0) ∷ mid.asked)
          ∙ sym all

    module _
        (is : is_dir p.here ≡ true) (new : Sighting) (later : IsLater mid new)
        (stops : EndsIn new.asked
        ((entries_from p.here.target.oid.0, entries_to p.here.target.oid.0) ∷ mid.asked)) where
      pub rmdir_stops : StopsIn (rmdir path) old new
      rmdir_stops last l =
          subst (λ xs. EndsIn new.asked xs)
          (sym (came true is last (later_both mid new last later l)
          ∙ empty_quiet (unname_in dir (last_of path) p.here)
          (names_in (pairs_in last.seen (entries_from p.here.target.oid.0) (entries_to p.here.target.oid.0)))
          (of_seen last.seen) ((entries_from p.here.target.oid.0, entries_to p.here.target.oid.0) ∷ mid.asked)))
          stops

-- ---- names of paths

pub with_names : (path : List (List ℕ)) (c : Course) → is_path path ≡ true → named path c ≡ c
with_names path c e = ap (λ b. if b then c else Answer NameReply) e

pub rename_is : (from to : List (List ℕ)) → is_path from ≡ true → is_path to ≡ true → 0 < length to
    → named from (named to (rename from to)) ≡ to_ends from to move
rename_is from to f t some =
    with_names from (named to (rename from to)) f ∙ with_names to (rename from to) t ∙ by_empty (length to == 0) refl
  where
    by_empty : (b : Bool) → (length to == 0) ≡ b
        → (if b then Answer Loop else to_ends from to move) ≡ to_ends from to move
    by_empty true e = absurd (grind (arith, e, some))
    by_empty false e = refl
