-- Of bodies, commands take away bytes of files that are there.
use Rattle.std.specs.Prelude.{◌≡◌, ℕ, ◌+◌, ◌*◌, ◌/◌, ◌%◌, ◌^◌, ◌<◌, ◌≤◌, List, [], ◌∷◌, All, Bool, true, false, ◌||◌}
use Rattle.std.specs.Prelude.{◌==◌, nat_le, nat_lt, length, replicate, if◌then◌else◌}
use Rattle.std.proofs.Common.{arith, inl, inr, refl, sym, ap, ◌∙◌}
use Rattle.std.proofs.lemmas.Bool.{eqb-true, or_cases}
use Rattle.r4_base.specs.Key.{minor_of}
use Rattle.r4_base.specs.Value.{Content}
use Rattle.r4_base.specs.Volume.{HasStat, IsObject, byte_rank, is_directory, stat_rank}
use Rattle.r4_base.specs.declared.items.Attr.{Attr}
use Rattle.r4_base.specs.declared.items.Target.{Target}
use Rattle.r4_content.specs.Bodies.{fill_gap, larger, resize, truncated, written}
use Rattle.r4_content.specs.Course.{ending, of_content}
use Rattle.r4_content.specs.Edited.{Edits, and_also, is_between, is_in, no_edits}
use Rattle.r4_content.specs.Entries.{linked, moved, name_in, set_parents, unname_in}
use Rattle.r4_content.specs.Fields.{HasBytePaths, NamesUnused}
use Rattle.r4_content.specs.Lawful.{IsLawful}
use Rattle.r4_content.specs.Meaning.{course}
use Rattle.r4_content.specs.Objects.{Object, cut_body, cut_key, entry_less, entry_more, entry_rank, is_dir}
use Rattle.r4_content.specs.Objects.{is_same, link_less, made_in, new_directory, new_file, set_attr, set_body}
use Rattle.r4_content.specs.Objects.{set_entry, sized, unnamed, zero_body}
use Rattle.r4_content.specs.declared.command.Command.{Command}
use Rattle.r4_content.specs.declared.command.Command.TheVariants.{Create, Mkdir, Write, Fill, Truncate, Read}
use Rattle.r4_content.specs.declared.command.Command.TheVariants.{Stat as Ask, Names, Link, Unlink, Rmdir, Rename}
use Rattle.r4_content.specs.declared.command.Command.TheVariants.{Chmod, Chown, Times, Begin, End, Commit}
use Rattle.r4_content.proofs.Doing.{HoldsOf, holds_of}
use Rattle.r4_content.proofs.EditLaws.{in_append, one_key}
use Rattle.r4_content.proofs.Losing.{Loses}
use Rattle.r4_content.proofs.MoveEdits.{CanMove, comes_to, moving}
use Rattle.r4_content.proofs.OneObject.{stat_was}
use Rattle.r4_content.proofs.Ranks.{in_body}
use Rattle.r4_content.proofs.SameWay.{IsThere}
use Rattle.r4_content.proofs.Shapes.{entry_dir, stat_back}
use Rattle.r4_turned_moves.specs.r4_extent_moves.r4_applied.r4_reach.Reach.{is_body}

no_true : false ≡ true → ⊥
no_true e = cc

-- The key is that of a byte of a file that is there.
pub record IsFileByte (m : Content) (k : ℕ) : Type 0 where
  pub file : Target
  pub attr : Attr
  pub stat : HasStat m file attr
  pub kind : is_directory attr ≡ false
  pub at : ℕ
  pub small : at < 2 ^ 64
  pub key : k ≡ byte_rank file at

-- so is each key of a body that is taken away
abbrev pub CutsFiles : Content → Edits → Type 0
CutsFiles m e = (k : ℕ) → is_in e.cuts k ≡ true → is_body k ≡ true → IsFileByte m k

first_of : (a b : Bool) → (a || b) ≡ true → b ≡ false → a ≡ true
first_of true b e f = refl
first_of false b e f = absurd (no_true (sym f ∙ e))

one_cut : (k q : ℕ) → is_in ((k, k + 1) ∷ []) q ≡ true → q ≡ k
one_cut k q e = eqb-true q k (sym (one_key q k) ∙ first_of (is_between k (k + 1) q) false e refl)

stat_off : (t : Target) → IsObject t → is_body (stat_rank t) ≡ false
stat_off t is =
    let one : (t.locality * 16 + 1) % 16 ≡ 1 = omega arith in
    ap (λ k. minor_of k == 4) (stat_back t is) ∙ ap (λ (x : ℕ). x == 4) one

entry_off : (d : Target) (n : List ℕ) → d.oid.0 < 2 ^ 60 → All (λ x. x < 256) n → is_body (entry_rank d n) ≡ false
entry_off d n small bytes = ap (λ (x : ℕ). x == 4) (entry_dir d n small bytes).1

module _ (m : Content) where
  both : (e f : Edits) → CutsFiles m e → CutsFiles m f → CutsFiles m (and_also e f)
  both e f h g k on body = elim (or_cases (is_in e.cuts k) (is_in f.cuts k) (sym (in_append e.cuts f.cuts k) ∙ on)) [
    | inl x ↦ h k x body
    | inr x ↦ g k x body
  ]

  none : CutsFiles m no_edits
  none k on body = absurd (no_true on)

  of_attr : (o : Object) (a : Attr) → CutsFiles m (set_attr o a)
  of_attr o a k on body = absurd (no_true on)

  of_entry : (d : Object) (n : List ℕ) (t : Target) → CutsFiles m (set_entry d n t)
  of_entry d n t k on body = absurd (no_true on)

  of_zeros : (o : Object) (from to : ℕ) → CutsFiles m (zero_body o from to)
  of_zeros o from to k on body = absurd (no_true on)

  of_bytes : (o : Object) (from : ℕ) (xs : List ℕ) → CutsFiles m (set_body o from xs)
  of_bytes o from xs k on body = absurd (no_true on)

  of_key : (q : ℕ) → is_body q ≡ false → CutsFiles m (cut_key q)
  of_key q off k on body =
      let is : k ≡ q = one_cut q k on in
      absurd (let f : true ≡ false = sym body ∙ ap is_body is ∙ off in cc)

  of_body : (o : Object) (from to : ℕ) → HasStat m o.target o.attr → is_dir o ≡ false → to ≤ 2 ^ 64
      → CutsFiles m (cut_body o from to)
  of_body o from to stat file le k on body =
      let (x, same, low, high) = in_body o.target from to k
      (first_of (is_between (byte_rank o.target from) (byte_rank o.target to) k) false on refl) in
      record {
        file = o.target;
        attr = o.attr;
        stat = stat;
        kind = file;
        at = x;
        small = omega (arith, high, le);
        key = same;
      }

  of_gap : (o : Object) (n : ℕ) → CutsFiles m (fill_gap o n)
  of_gap o n = by_size (nat_lt o.attr.size n)
    where
      by_size : (b : Bool) → CutsFiles m (if b then zero_body o o.attr.size n else no_edits)
      by_size true = of_zeros o o.attr.size n
      by_size false = none

  of_resize : (o : Object) (n : ℕ) → CutsFiles m (resize o n)
  of_resize o n = by_size (o.attr.size == n)
    where
      by_size : (b : Bool) → CutsFiles m (if b then no_edits else set_attr o (sized o.attr n))
      by_size true = none
      by_size false = of_attr o (sized o.attr n)

  of_unnamed : (o : Object) → HasStat m o.target o.attr → o.attr.size ≤ 2 ^ 64 → CutsFiles m (unnamed o)
  of_unnamed o stat size = by_kind (is_dir o) (nat_le o.attr.nlink 1) refl
    where
      by_kind : (d b : Bool) → is_dir o ≡ d → CutsFiles m (if d then cut_key (stat_rank o.target)
          else if b then and_also (cut_key (stat_rank o.target)) (cut_body o 0 o.attr.size)
          else set_attr o (link_less o.attr))
      by_kind true b is = of_key (stat_rank o.target) (stat_off o.target stat.0)
      by_kind false true is =
          both (cut_key (stat_rank o.target)) (cut_body o 0 o.attr.size)
          (of_key (stat_rank o.target) (stat_off o.target stat.0)) (of_body o 0 o.attr.size stat is size)
      by_kind false false is = of_attr o (link_less o.attr)

  of_parents : (from to : Object) (d : Bool) → CutsFiles m (set_parents from to d)
  of_parents from to d = by_test (is_same from to)
    where
      by_test : (c : Bool) → CutsFiles m (if c then set_attr to (entry_more d (entry_less d to.attr))
          else and_also (set_attr from (entry_less d from.attr)) (set_attr to (entry_more d to.attr)))
      by_test true = of_attr to (entry_more d (entry_less d to.attr))
      by_test false = both (set_attr from (entry_less d from.attr)) (set_attr to (entry_more d to.attr))
          (of_attr from (entry_less d from.attr)) (of_attr to (entry_more d to.attr))

  -- ---- each command

  writes : (from : ℕ) (xs : List ℕ) (o : Object) → CutsFiles m (written o from xs)
  writes from xs o =
      let n = larger o.attr.size (from + length xs) in
      both (fill_gap o from) (and_also (set_body o from xs) (resize o n)) (of_gap o from)
      (both (set_body o from xs) (resize o n) (of_bytes o from xs) (of_resize o n))

  cuts : (n : ℕ) (o : Object) → IsThere m o → is_dir o ≡ false → o.attr.size ≤ 2 ^ 64 → CutsFiles m (truncated o n)
  cuts n o there file size =
      both (if nat_lt n o.attr.size then cut_body o n o.attr.size else fill_gap o n) (resize o n)
      (keeps (nat_lt n o.attr.size)) (of_resize o n)
    where
      keeps : (c : Bool) → CutsFiles m (if c then cut_body o n o.attr.size else fill_gap o n)
      keeps true = of_body o n o.attr.size (stat_was m o there) file size
      keeps false = of_gap o n

  loses : (dir o : Object) (n : List ℕ) → Loses m dir o n → CutsFiles m (unname_in dir n o)
  loses dir o n h =
      both (cut_key (entry_rank dir.target n)) (and_also (set_attr dir (entry_less (is_dir o) dir.attr)) (unnamed o))
      (of_key (entry_rank dir.target n) (entry_off dir.target n h.small h.bytes))
      (both (set_attr dir (entry_less (is_dir o) dir.attr)) (unnamed o) (of_attr dir (entry_less (is_dir o) dir.attr))
      (of_unnamed o h.stat h.size))

  names : (dir o : Object) (n : List ℕ) → CutsFiles m (name_in dir n o)
  names dir o n =
      both (set_entry dir n o.target) (and_also (set_attr o o.attr) (set_attr dir (entry_more (is_dir o) dir.attr)))
      (of_entry dir n o.target)
      (both (set_attr o o.attr) (set_attr dir (entry_more (is_dir o) dir.attr)) (of_attr o o.attr)
      (of_attr dir (entry_more (is_dir o) dir.attr)))

  of_moved : (dir o to : Object) (name new_name : List ℕ) → dir.target.oid.0 < 2 ^ 60 → All (λ x. x < 256) name
      → CutsFiles m (moved dir name o to new_name)
  of_moved dir o to name new_name small bytes =
      both (cut_key (entry_rank dir.target name))
      (and_also (set_entry to new_name o.target) (set_parents dir to (is_dir o)))
      (of_key (entry_rank dir.target name) (entry_off dir.target name small bytes))
      (both (set_entry to new_name o.target) (set_parents dir to (is_dir o)) (of_entry to new_name o.target)
      (of_parents dir to (is_dir o)))

  moves : (dir o : Object) (name new_name : List ℕ) (new : Object) (over : Bool) (old : Object)
      → CanMove m dir o new name new_name over old → CutsFiles m (moving dir name o new new_name over old)
  moves dir o name new_name new true old h =
      both (unnamed old) (moved dir name o (comes_to o new true) new_name) (of_unnamed old (h.onto refl).stat (h.size refl))
      (of_moved dir o (comes_to o new true) name new_name h.dir_small h.bytes)
  moves dir o name new_name new false old h = of_moved dir o (comes_to o new false) name new_name h.dir_small h.bytes

module _ (limit : ℕ) (lt : limit < 2 ^ 64) (m : Content) (lawful : IsLawful limit m) where
  sizes : (o : Object) → IsThere m o → is_dir o ≡ false → o.attr.size ≤ 2 ^ 64
  sizes o there file =
      let small = lawful.bodies.small o.target o.attr (stat_was m o there) file in
      omega (arith, small, lt)

  each : (c : Command) → HoldsOf limit m (CutsFiles m) c
  each (Create path oid) = λ dir n gains new. names m dir (made_in dir n oid new_file) n
  each (Mkdir path oid) = λ dir n gains new. names m dir (made_in dir n oid new_directory) n
  each (Write path from xs) = λ o there file le. writes m from xs o
  each (Fill path from len x) = λ o there file le. writes m from (replicate len x) o
  each (Truncate path n) = λ o there file le. cuts m n o there file (sizes o there file)
  each (Link from to) = λ dir o n gains stat file. names m dir (linked o) n
  each (Unlink path) = λ dir o n h. loses m dir o n h
  each (Rmdir path) = λ dir o n h. loses m dir o n h
  each (Rename from to) =
      λ dir o name new_name r path e paths over old h few. moves m dir o name new_name r.here over old h
  each (Chmod path mode) =
      λ o there. of_attr m o (record o.attr { mode = o.attr.mode / 4096 * 4096 + mode % 4096 })
  each (Chown path uid gid) = λ o there. of_attr m o (record o.attr { uid = uid; gid = gid })
  each (Times path atime mtime ctime) =
      λ o there. of_attr m o (record o.attr { atime = atime; mtime = mtime; ctime = ctime })
  each (Read path from len) = tt
  each (Ask path) = tt
  each (Names path) = tt
  each Begin = tt
  each End = tt
  each Commit = tt

  pub cut_files : (c : Command) → HasBytePaths c → NamesUnused m c
      → CutsFiles m (ending (course limit c) (of_content m)).edits
  cut_files c bytes unused = holds_of limit c m lt lawful bytes unused (CutsFiles m) (none m) (each c)
