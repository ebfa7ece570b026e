-- The keys of bodies that a command's edits change are of one file, and each interval of them begins with one.
use Rattle.std.specs.Prelude.{◌≡◌, ◌⊎◌, ℕ, ◌+◌, ◌*◌, ◌/◌, ◌%◌, ◌^◌, ◌<◌, ◌≤◌, List, [], ◌∷◌, ◌++◌, All, Bool, true}
use Rattle.std.specs.Prelude.{false, Contains}
use Rattle.std.specs.Prelude.{◌==◌, nat_le, nat_lt, length, replicate, Some, if◌then◌else◌}
use Rattle.std.proofs.Common.{arith, inl, inr, refl, sym, ap, subst, ◌∙◌}
use Rattle.std.proofs.lemmas.Bool.{le-leb, lt-ltb, ltb-true, or_cases, or_left, or_right}
use Rattle.std.proofs.lemmas.List.Elements.{All-append, All-cons, All-head, All-nil, All-tail}
use Rattle.r4_base.specs.Key.{key_of_rank, minor_of}
use Rattle.r4_base.specs.Value.{Content}
use Rattle.r4_base.specs.Volume.{IsObject, byte_rank, object_of, root_object, stat_rank}
use Rattle.r4_base.specs.declared.items.Attr.{Attr}
use Rattle.r4_base.specs.declared.items.Target.{Target}
use Rattle.r4_base.proofs.Visible.{byte_back}
use Rattle.r4_content.specs.Bodies.{fill_gap, larger, resize, truncated, written}
use Rattle.r4_content.specs.Course.{ending, of_content}
use Rattle.r4_content.specs.Edited.{Edits, Intervals, Pairs, and_also, changed, is_between, is_in, no_edits, put_keys}
use Rattle.r4_content.specs.Entries.{linked, moved, name_in, set_parents, unname_in}
use Rattle.r4_content.specs.Fields.{HasBytePaths, NamesUnused}
use Rattle.r4_content.specs.Lawful.{IsLawful}
use Rattle.r4_content.specs.Meaning.{course}
use Rattle.r4_content.specs.Objects.{Object, byte_pairs, cut_body, cut_key, entry_less, entry_more, entry_rank, is_dir}
use Rattle.r4_content.specs.Objects.{is_same, link_less, made_in, new_directory, new_file, set_attr, set_body}
use Rattle.r4_content.specs.Objects.{set_entry, sized, unnamed, zero_body}
use Rattle.r4_content.specs.declared.command.Command.{Command}
use Rattle.r4_content.specs.declared.command.Command.TheVariants.{Create, Mkdir, Write, Fill, Truncate, Read}
use Rattle.r4_content.specs.declared.command.Command.TheVariants.{Stat as Ask, Names, Link, Unlink, Rmdir, Rename}
use Rattle.r4_content.specs.declared.command.Command.TheVariants.{Chmod, Chown, Times, Begin, End, Commit}
use Rattle.r4_content.proofs.Doing.{HoldsOf, holds_of}
use Rattle.r4_content.proofs.Gaining.{Gains}
use Rattle.r4_content.proofs.Losing.{Loses}
use Rattle.r4_content.proofs.MoveEdits.{CanMove, comes_to, moving}
use Rattle.r4_content.proofs.OneObject.{stat_was}
use Rattle.r4_content.proofs.Ranks.{between_is, byte_after, in_body, root_is_object}
use Rattle.r4_content.proofs.SameWay.{IsThere}
use Rattle.r4_content.proofs.Shapes.{entry_dir, stat_back}
use Rattle.r4_build.specs.r4_reach.Reach.{is_body}
use Rattle.r4_build.specs.r4_reach.Touched.{body_key}
use Rattle.r4_sets_told.proofs.r4_patch.Members as Members
use Rattle.r4_sets_told.proofs.r4_sets.Carried.{byte_owner}

-- The interval is one key that is no body's, or it is of the bytes of this file.
abbrev IsOwn : Target → ℕ × ℕ → Type 0
IsOwn f r = ((r.1 ≡ r.0 + 1) × (is_body r.0 ≡ false))
    ⊎ ((x : ℕ) × (y : ℕ) × (y ≤ 2 ^ 64) × (r.0 ≡ byte_rank f x) × (r.1 ≡ byte_rank f y))

record IsOf (f : Target) (e : Edits) : Type 0 where
  puts : All (IsOwn f) (put_keys e.puts)
  zeros : All (IsOwn f) e.zeros
  cuts : All (IsOwn f) e.cuts

-- All keys of bodies that the edits change are of the file.
pub record IsOneBody (e : Edits) : Type 0 where
  pub file : Target
  pub object : IsObject file
  own : IsOf file e

-- ---- keys

stat_off : (t : Target) → IsObject t → is_body (stat_rank t) ≡ false
stat_off t is =
    let one : (t.locality * 16 + 1) % 16 ≡ 1 = omega arith in
    ap (λ k. minor_of k == 4) (stat_back t is) ∙ ap (λ (x : ℕ). x == 4) one

entry_off : (d : Target) (n : List ℕ) → d.oid.0 < 2 ^ 60 → All (λ x. x < 256) n → is_body (entry_rank d n) ≡ false
entry_off d n small bytes = ap (λ (x : ℕ). x == 4) (entry_dir d n small bytes).1

byte_on : (f : Target) (x : ℕ) → IsObject f → x < 2 ^ 64 → is_body (byte_rank f x) ≡ true
byte_on f x is lt =
    let four : (f.locality * 16 + 4) % 16 ≡ 4 = omega arith in
    ap (λ k. minor_of k == 4) (byte_back f x is lt) ∙ ap (λ (x : ℕ). x == 4) four

-- ---- edits of one file's bytes

module _ (f : Target) where
  single : (k : ℕ) → is_body k ≡ false → IsOwn f (k, k + 1)
  single k off = inl (refl, off)

  one : (k : ℕ) → is_body k ≡ false → All (IsOwn f) ((k, k + 1) ∷ [])
  one k off = All-cons (IsOwn f) (k, k + 1) [] (single k off) (All-nil (IsOwn f))

  none : IsOf f no_edits
  none = record { puts = All-nil (IsOwn f); zeros = All-nil (IsOwn f); cuts = All-nil (IsOwn f) }

  put_both : (a b : Pairs) → All (IsOwn f) (put_keys a) → All (IsOwn f) (put_keys b) → All (IsOwn f) (put_keys (a ++ b))
  put_both [] b h g = g
  put_both (e ∷ a) b h g =
      All-cons (IsOwn f) (e.0, e.0 + 1) (put_keys (a ++ b)) (All-head (IsOwn f) (e.0, e.0 + 1) (put_keys a) h)
      (put_both a b (All-tail (IsOwn f) (e.0, e.0 + 1) (put_keys a) h) g)

  both : (e g : Edits) → IsOf f e → IsOf f g → IsOf f (and_also e g)
  both e g h i = record {
    puts = put_both e.puts g.puts h.puts i.puts;
    zeros = All-append (IsOwn f) e.zeros g.zeros h.zeros i.zeros;
    cuts = All-append (IsOwn f) e.cuts g.cuts h.cuts i.cuts;
  }

  of_attr : (o : Object) (a : Attr) → IsObject o.target → IsOf f (set_attr o a)
  of_attr o a is = record {
    puts = one (stat_rank o.target) (stat_off o.target is);
    zeros = All-nil (IsOwn f);
    cuts = All-nil (IsOwn f);
  }

  of_entry : (dir : Object) (n : List ℕ) (t : Target) → dir.target.oid.0 < 2 ^ 60 → All (λ x. x < 256) n
      → IsOf f (set_entry dir n t)
  of_entry dir n t small bytes = record {
    puts = one (entry_rank dir.target n) (entry_off dir.target n small bytes);
    zeros = All-nil (IsOwn f);
    cuts = All-nil (IsOwn f);
  }

  of_key : (k : ℕ) → is_body k ≡ false → IsOf f (cut_key k)
  of_key k off = record { puts = All-nil (IsOwn f); zeros = All-nil (IsOwn f); cuts = one k off }

  of_resize : (o : Object) (n : ℕ) → IsObject o.target → IsOf f (resize o n)
  of_resize o n is = by_size (o.attr.size == n)
    where
      by_size : (b : Bool) → IsOf f (if b then no_edits else set_attr o (sized o.attr n))
      by_size true = none
      by_size false = of_attr o (sized o.attr n) is

  of_parents : (from to : Object) (d : Bool) → IsObject from.target → IsObject to.target
      → IsOf f (set_parents from to d)
  of_parents from to d fi ti = by_test (is_same from to)
    where
      by_test : (c : Bool) → IsOf f (if c then set_attr to (entry_more d (entry_less d to.attr))
          else and_also (set_attr from (entry_less d from.attr)) (set_attr to (entry_more d to.attr)))
      by_test true = of_attr to (entry_more d (entry_less d to.attr)) ti
      by_test false = both (set_attr from (entry_less d from.attr)) (set_attr to (entry_more d to.attr))
          (of_attr from (entry_less d from.attr) fi) (of_attr to (entry_more d to.attr) ti)

  of_name : (dir o : Object) (n : List ℕ) → IsObject dir.target → IsObject o.target → dir.target.oid.0 < 2 ^ 60
      → All (λ x. x < 256) n → IsOf f (name_in dir n o)
  of_name dir o n di oi small bytes =
      both (set_entry dir n o.target) (and_also (set_attr o o.attr) (set_attr dir (entry_more (is_dir o) dir.attr)))
      (of_entry dir n o.target small bytes)
      (both (set_attr o o.attr) (set_attr dir (entry_more (is_dir o) dir.attr)) (of_attr o o.attr oi)
      (of_attr dir (entry_more (is_dir o) dir.attr) di))

  of_moved : (dir o to : Object) (name new_name : List ℕ) → IsObject dir.target → IsObject to.target
      → dir.target.oid.0 < 2 ^ 60 → to.target.oid.0 < 2 ^ 60 → All (λ x. x < 256) name → All (λ x. x < 256) new_name
      → IsOf f (moved dir name o to new_name)
  of_moved dir o to name new_name di ti small to_small bytes new_bytes =
      both (cut_key (entry_rank dir.target name))
      (and_also (set_entry to new_name o.target) (set_parents dir to (is_dir o)))
      (of_key (entry_rank dir.target name) (entry_off dir.target name small bytes))
      (both (set_entry to new_name o.target) (set_parents dir to (is_dir o))
      (of_entry to new_name o.target to_small new_bytes) (of_parents dir to (is_dir o) di ti))

-- bytes of the file itself
module _ (o : Object) where
  abbrev mine : Target
  mine = o.target

  span : (from to : ℕ) → to ≤ 2 ^ 64 → All (IsOwn o.target) ((byte_rank o.target from, byte_rank o.target to) ∷ [])
  span from to le =
      All-cons (IsOwn o.target) (byte_rank o.target from, byte_rank o.target to) [] (inr (from, to, le, refl, refl))
      (All-nil (IsOwn o.target))

  of_cut : (from to : ℕ) → to ≤ 2 ^ 64 → IsOf o.target (cut_body o from to)
  of_cut from to le = record {
    puts = All-nil (IsOwn o.target);
    zeros = All-nil (IsOwn o.target);
    cuts = span from to le;
  }

  of_zero : (from to : ℕ) → to ≤ 2 ^ 64 → IsOf o.target (zero_body o from to)
  of_zero from to le = record {
    puts = All-nil (IsOwn o.target);
    zeros = span from to le;
    cuts = All-nil (IsOwn o.target);
  }

  of_run : (xs : List ℕ) (from : ℕ) → from + length xs ≤ 2 ^ 64
      → All (IsOwn o.target) (put_keys (byte_pairs (byte_rank o.target from) xs))
  of_run [] from le = All-nil (IsOwn o.target)
  of_run (x ∷ xs) from le =
      let next = byte_after o.target from 1 in
      All-cons (IsOwn o.target) (byte_rank o.target from, byte_rank o.target from + 1)
      (put_keys (byte_pairs (byte_rank o.target from + 1) xs))
      (inr (from, from + 1, omega (arith, le), refl, sym next))
      (subst (λ (k : ℕ). All (IsOwn o.target) (put_keys (byte_pairs k xs))) next (of_run xs (from + 1) (omega
      (arith, le))))

  of_bytes : (from : ℕ) (xs : List ℕ) → from + length xs ≤ 2 ^ 64 → IsOf o.target (set_body o from xs)
  of_bytes from xs le = record {
    puts = of_run xs from le;
    zeros = All-nil (IsOwn o.target);
    cuts = All-nil (IsOwn o.target);
  }

  of_gap : (n : ℕ) → n ≤ 2 ^ 64 → IsOf o.target (fill_gap o n)
  of_gap n le = by_size (nat_lt o.attr.size n)
    where
      by_size : (b : Bool) → IsOf o.target (if b then zero_body o o.attr.size n else no_edits)
      by_size true = of_zero o.attr.size n le
      by_size false = none o.target

  of_unnamed : IsObject o.target → o.attr.size ≤ 2 ^ 64 → IsOf o.target (unnamed o)
  of_unnamed is le = by_kind (is_dir o) (nat_le o.attr.nlink 1)
    where
      by_kind : (d b : Bool) → IsOf o.target (if d then cut_key (stat_rank o.target)
          else if b then and_also (cut_key (stat_rank o.target)) (cut_body o 0 o.attr.size)
          else set_attr o (link_less o.attr))
      by_kind true b = of_key o.target (stat_rank o.target) (stat_off o.target is)
      by_kind false true =
          both o.target (cut_key (stat_rank o.target)) (cut_body o 0 o.attr.size)
          (of_key o.target (stat_rank o.target) (stat_off o.target is)) (of_cut 0 o.attr.size le)
      by_kind false false = of_attr o.target o (link_less o.attr) is

  of_written : (from : ℕ) (xs : List ℕ) → IsObject o.target → from + length xs ≤ 2 ^ 64
      → IsOf o.target (written o from xs)
  of_written from xs is le =
      let n = larger o.attr.size (from + length xs) in
      both o.target (fill_gap o from) (and_also (set_body o from xs) (resize o n)) (of_gap from (omega (arith, le)))
      (both o.target (set_body o from xs) (resize o n) (of_bytes from xs le) (of_resize o.target o n is))

  of_truncated : (n : ℕ) → IsObject o.target → n ≤ 2 ^ 64 → o.attr.size ≤ 2 ^ 64 → IsOf o.target (truncated o n)
  of_truncated n is le size =
      both o.target (if nat_lt n o.attr.size then cut_body o n o.attr.size else fill_gap o n) (resize o n)
      (by_size (nat_lt n o.attr.size)) (of_resize o.target o n is)
    where
      by_size : (c : Bool) → IsOf o.target (if c then cut_body o n o.attr.size else fill_gap o n)
      by_size true = of_cut n o.attr.size size
      by_size false = of_gap n le

  of_gone : (dir : Object) (n : List ℕ) → IsObject dir.target → IsObject o.target → dir.target.oid.0 < 2 ^ 60
      → All (λ x. x < 256) n → o.attr.size ≤ 2 ^ 64 → IsOf o.target (unname_in dir n o)
  of_gone dir n di is small bytes le =
      both o.target (cut_key (entry_rank dir.target n))
      (and_also (set_attr dir (entry_less (is_dir o) dir.attr)) (unnamed o))
      (of_key o.target (entry_rank dir.target n) (entry_off dir.target n small bytes))
      (both o.target (set_attr dir (entry_less (is_dir o) dir.attr)) (unnamed o)
      (of_attr o.target dir (entry_less (is_dir o) dir.attr) di) (of_unnamed is le))

-- ---- the commands

of_object : (e : Edits) (o : Target) → IsObject o → IsOf o e → IsOneBody e
of_object e o is own = record { file = o; object = is; own = own }

module _ (limit : ℕ) (lt : limit < 2 ^ 64) (m : Content) (lawful : IsLawful limit m) where
  size_is : (o : Object) → IsThere m o → is_dir o ≡ false → o.attr.size ≤ 2 ^ 64
  size_is o there file =
      let small = lawful.bodies.small o.target o.attr (stat_was m o there) file in
      omega (arith, small, lt)

  sets : (o : Object) (a : Attr) → IsThere m o → IsOneBody (set_attr o a)
  sets o a there =
      let is = (stat_was m o there).0 in
      of_object (set_attr o a) o.target is (of_attr o.target o a is)

  writes : (from : ℕ) (xs : List ℕ) (o : Object) → IsThere m o → from + length xs ≤ limit
      → IsOneBody (written o from xs)
  writes from xs o there le =
      let is = (stat_was m o there).0 in
      of_object (written o from xs) o.target is (of_written o from xs is (omega (arith, le, lt)))

  names : (dir o : Object) (n : List ℕ) → Gains m dir o n → IsOneBody (name_in dir n o)
  names dir o n h =
      of_object (name_in dir n o) o.target h.object
      (of_name o.target dir o n h.dir_stat.0 h.object h.small h.bytes)

  loses : (dir o : Object) (n : List ℕ) → Loses m dir o n → IsOneBody (unname_in dir n o)
  loses dir o n h =
      of_object (unname_in dir n o) o.target h.stat.0 (of_gone o dir n h.dir_stat.0 h.stat.0 h.small h.bytes h.size)

  moves : (dir o : Object) (name new_name : List ℕ) (new : Object) (over : Bool) (old : Object)
      → CanMove m dir o new name new_name over old → IsOneBody (moving dir name o new new_name over old)
  moves dir o name new_name new true old h =
      let is = (h.onto refl).stat.0 in
      of_object (and_also (unnamed old) (moved dir name o (comes_to o new true) new_name)) old.target is
      (both old.target (unnamed old) (moved dir name o (comes_to o new true) new_name)
      (of_unnamed old is (h.size refl))
      (of_moved old.target dir o (comes_to o new true) name new_name h.dir_stat.0 h.new_stat.0 h.dir_small h.new_small
      h.bytes h.new_bytes))
  moves dir o name new_name new false old h =
      of_object (moved dir name o (comes_to o new false) new_name) dir.target h.dir_stat.0
      (of_moved dir.target dir o (comes_to o new false) name new_name h.dir_stat.0 h.new_stat.0 h.dir_small h.new_small
      h.bytes h.new_bytes)

  each : (c : Command) → HoldsOf limit m IsOneBody c
  each (Create path oid) = λ dir n gains new. names dir (made_in dir n oid new_file) n gains
  each (Mkdir path oid) = λ dir n gains new. names dir (made_in dir n oid new_directory) n gains
  each (Write path from xs) = λ o there file le. writes from xs o there le
  each (Fill path from len x) = λ o there file le. writes from (replicate len x) o there le
  each (Truncate path n) = λ o there file le.
      (let is = (stat_was m o there).0 in
      of_object (truncated o n) o.target is (of_truncated o n is (omega (arith, le, lt)) (size_is o there file)))
  each (Link from to) = λ dir o n gains stat file. names dir (linked o) n gains
  each (Unlink path) = λ dir o n h. loses dir o n h
  each (Rmdir path) = λ dir o n h. loses dir o n h
  each (Rename from to) =
      λ dir o name new_name r path e paths over old h few. moves dir o name new_name r.here over old h
  each (Chmod path mode) =
      λ o there. sets o (record o.attr { mode = o.attr.mode / 4096 * 4096 + mode % 4096 }) there
  each (Chown path uid gid) = λ o there. sets o (record o.attr { uid = uid; gid = gid }) there
  each (Times path atime mtime ctime) =
      λ o there. sets o (record o.attr { atime = atime; mtime = mtime; ctime = ctime }) there
  each (Read path from len) = tt
  each (Ask path) = tt
  each (Names path) = tt
  each Begin = tt
  each End = tt
  each Commit = tt

  pub one_body : (c : Command) → HasBytePaths c → NamesUnused m c
      → IsOneBody (ending (course limit c) (of_content m)).edits
  one_body c bytes unused =
      holds_of limit c m lt lawful bytes unused IsOneBody
      (of_object no_edits root_object root_is_object (none root_object)) (each c)

-- ---- what it says of the keys

module _ (e : Edits) (h : IsOneBody e) where
  abbrev Own : ℕ × ℕ → Type 0
  Own = IsOwn h.file

  -- all intervals are own ones
  owns : All (IsOwn h.file) (changed e)
  owns =
      All-append (IsOwn h.file) (put_keys e.puts) (e.zeros ++ e.cuts) h.own.puts
      (All-append (IsOwn h.file) e.zeros e.cuts h.own.zeros h.own.cuts)

  by_interval : (r : ℕ × ℕ) (k : ℕ) → IsOwn h.file r → is_between r.0 r.1 k ≡ true → is_body k ≡ true
      → (is_body r.0 ≡ true) × ((x : ℕ) × (x < 2 ^ 64) × (k ≡ byte_rank h.file x))
  by_interval r k (inl (next, off)) on body =
      let (low, high) = between_is r.0 r.1 k on in
      let same : k ≡ r.0 = omega (arith, low, high, next) in
      let both : true ≡ false = sym body ∙ ap is_body same ∙ off in
      cc
  by_interval r k (inr (x, y, le, from, to)) on body =
      let (z, is, low, high) = in_body h.file x y k (ap (λ (a : ℕ). is_between a (byte_rank h.file y) k) (sym from)
      ∙ ap (λ (b : ℕ). is_between r.0 b k) (sym to) ∙ on) in (
        ap is_body from ∙ byte_on h.file x h.object (omega (arith, low, high, le)),
        (z, omega (arith, high, le), is),
      )

  -- the first key of a body among intervals
  record IsFirst (rs : Intervals) : Type 0 where
    key : ℕ
    found : body_key rs ≡ Some key
    on : is_in rs key ≡ true
    body : is_body key ≡ true

  starts : (r : ℕ × ℕ) (rs : Intervals) → nat_lt r.0 r.1 ≡ true → is_body r.0 ≡ true → IsFirst (r ∷ rs)
  starts r rs some body = record {
    key = r.0;
    found = rw (some, body) refl;
    on = or_left (is_between r.0 r.1 r.0) (is_in rs r.0) (between_starts r.0 r.1 (ltb-true r.0 r.1 some));
    body = body;
  }
    where
      between_starts : (a b : ℕ) → a < b → is_between a b a ≡ true
      between_starts a b lt = rw (le-leb a a (omega arith), lt-ltb a b lt) refl

  goes_on : (r : ℕ × ℕ) (rs : Intervals) → IsFirst rs → IsFirst (r ∷ rs)
  goes_on r rs h = by_test (nat_lt r.0 r.1) (is_body r.0) refl refl
    where
      by_test : (t b : Bool) → nat_lt r.0 r.1 ≡ t → is_body r.0 ≡ b → IsFirst (r ∷ rs)
      by_test true true some body = starts r rs some body
      by_test true false some off = record {
        key = h.key;
        found = rw (some, off) h.found;
        on = or_right (is_between r.0 r.1 h.key) (is_in rs h.key) h.on;
        body = h.body;
      }
      by_test false b none off = record {
        key = h.key;
        found = rw none h.found;
        on = or_right (is_between r.0 r.1 h.key) (is_in rs h.key) h.on;
        body = h.body;
      }

  at_body : (rs : Intervals) → All (IsOwn h.file) rs → (k : ℕ) → is_in rs k ≡ true → is_body k ≡ true
      → IsFirst rs × ((x : ℕ) × (x < 2 ^ 64) × (k ≡ byte_rank h.file x))
  at_body [] all k on body = absurd (let f : false ≡ true = on in cc)
  at_body (r ∷ rs) all k on body = elim (or_cases (is_between r.0 r.1 k) (is_in rs k) on) [
    | inl here ↦
        let (first, own) = by_interval r k (All-head (IsOwn h.file) r rs all) here body in
        let (low, high) = between_is r.0 r.1 k here in
        (starts r rs (lt-ltb r.0 r.1 (omega (arith, low, high))) first, own)
    | inr later ↦
        let (first, own) = at_body rs (All-tail (IsOwn h.file) r rs all) k later body in
        (goes_on r rs first, own)
  ]

  -- a key of a body that is changed is one of the file's, and there is a first one
  pub of_file : (k : ℕ) → is_in (changed e) k ≡ true → is_body k ≡ true
      → (x : ℕ) × (x < 2 ^ 64) × (k ≡ byte_rank h.file x)
  of_file k on body = (at_body (changed e) owns k on body).1

  pub first_of : (k : ℕ) → is_in (changed e) k ≡ true → is_body k ≡ true
      → (j : ℕ) × (body_key (changed e) ≡ Some j) × (is_in (changed e) j ≡ true) × (is_body j ≡ true)
  first_of k on body =
      let first = (at_body (changed e) owns k on body).0 in
      (first.key, first.found, first.on, first.body)

  pub file_is : (k : ℕ) → is_in (changed e) k ≡ true → is_body k ≡ true → object_of (key_of_rank k) ≡ h.file
  file_is k on body =
      let (x, lt, is) = of_file k on body in
      ap (λ (q : ℕ). object_of (key_of_rank q)) is ∙ byte_owner h.file x h.object lt

  -- ---- what is cut

  of_all : (rs : Intervals) → All (IsOwn h.file) rs → (r : ℕ × ℕ) → Contains rs r → IsOwn h.file r
  of_all [] all r has = absurd (Members.none r has)
  of_all (q ∷ rs) all r has = elim (Members.cases q r rs has) [
    | inl is ↦ subst (IsOwn h.file) (sym is) (All-head (IsOwn h.file) q rs all)
    | inr rest ↦ of_all rs (All-tail (IsOwn h.file) q rs all) r rest
  ]

  own_cut : (r : ℕ × ℕ) → Contains e.cuts r → IsOwn h.file r
  own_cut = of_all e.cuts h.own.cuts

  -- what begins in a body ends within the file's keys
  pub cut_ends : (r : ℕ × ℕ) → Contains e.cuts r → is_body r.0 ≡ true → r.1 ≤ byte_rank h.file 0 + 2 ^ 64
  cut_ends r has body = by (own_cut r has)
    where
      by : IsOwn h.file r → r.1 ≤ byte_rank h.file 0 + 2 ^ 64
      by (inl (next, off)) = absurd (let f : true ≡ false = sym body ∙ off in cc)
      by (inr (x, y, le, from, to)) =
          let step : byte_rank h.file (0 + y) ≡ byte_rank h.file 0 + y = byte_after h.file 0 y in
          let zero : byte_rank h.file (0 + y) ≡ byte_rank h.file y = ap (byte_rank h.file) (omega arith) in
          omega (arith, step, zero, to, le)

  -- what begins in none has no key of a body
  pub cut_apart : (r : ℕ × ℕ) → Contains e.cuts r → is_body r.0 ≡ false → (k : ℕ) → is_between r.0 r.1 k ≡ true
      → is_body k ≡ false
  cut_apart r has off k on = by (is_body k) refl
    where
      by : (t : Bool) → is_body k ≡ t → t ≡ false
      by false is = refl
      by true is = absurd (let f : true ≡ false = sym (by_interval r k (own_cut r has) on is).0 ∙ off in cc)
