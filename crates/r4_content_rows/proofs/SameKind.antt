-- After a command a directory is one still, and a file a file.
use Rattle.std.specs.Prelude.{◌≡◌, ◌+◌, ◌*◌, ◌/◌, ◌%◌, ◌^◌, ◌<◌, ℕ, List, ◌++◌, Bool, true, false, ◌==◌, nat_le}
use Rattle.std.specs.Prelude.{nat_lt, length, replicate, Some, if◌then◌else◌}
use Rattle.std.proofs.Common.{arith, refl, sym, ap, ◌∙◌}
use Rattle.r4_base.specs.Value.{Content, Stat, at_key}
use Rattle.r4_base.specs.Volume.{HasStat, byte_rank, is_directory, stat_rank}
use Rattle.r4_base.specs.declared.items.Attr.{Attr}
use Rattle.r4_base.specs.declared.items.Target.{Target}
use Rattle.r4_content.specs.Bodies.{fill_gap, larger, resize, truncated, written}
use Rattle.r4_content.specs.Course.{ending, of_content}
use Rattle.r4_content.specs.Edited.{Edits, and_also, no_edits}
use Rattle.r4_content.specs.Entries.{linked, moved, name_in, set_parents, unname_in}
use Rattle.r4_content.specs.Fields.{HasBytePaths, NamesUnused}
use Rattle.r4_content.specs.Lawful.{IsLawful}
use Rattle.r4_content.specs.Meaning.{after, course}
use Rattle.r4_content.specs.Objects.{Object, byte_pairs, cut_body, cut_key, entry_less, entry_more, is_dir, is_same}
use Rattle.r4_content.specs.Objects.{link_less, link_more, made_in, new_directory, new_file, set_attr, sized, unnamed}
use Rattle.r4_content.specs.Objects.{zero_body}
use Rattle.r4_content.specs.declared.command.Command.{Command}
use Rattle.r4_content.specs.declared.command.Command.TheVariants.{Create, Mkdir, Write, Fill, Truncate, Read}
use Rattle.r4_content.specs.declared.command.Command.TheVariants.{Stat as Ask, Names, Link, Unlink, Rmdir, Rename}
use Rattle.r4_content.specs.declared.command.Command.TheVariants.{Chmod, Chown, Times, Begin, End, Commit}
use Rattle.r4_content.proofs.Doing.{HoldsOf, holds_of}
use Rattle.r4_content.proofs.Gaining.{Gains, IsNew, more_kind, stat_same}
use Rattle.r4_content.proofs.Losing.{Loses, less_kind}
use Rattle.r4_content.proofs.MoveEdits.{CanMove, comes_to, moving}
use Rattle.r4_content.proofs.OneObject.{stat_was}
use Rattle.r4_content.proofs.SameWay.{IsThere}
use Rattle.r4_content.proofs.Widths.{EachStat, each_append, each_byte, each_edited}

module _ (limit : ℕ) (m : Content) where
  -- attributes at a key are of the kind of those that stood there
  abbrev IsOfKind : ℕ → Attr → Type 0
  IsOfKind k b = (a : Attr) → at_key m k ≡ Some (Stat a) → is_directory b ≡ is_directory a

  abbrev P : Edits → Type 0
  P e = EachStat IsOfKind e.puts

  of_kind : (t : Target) (a b : Attr) → HasStat m t a → is_directory b ≡ is_directory a → IsOfKind (stat_rank t) b
  of_kind t a b there kind c at = kind ∙ ap is_directory (stat_same a c (sym there.1 ∙ at))

  k_sized : (o : Object) (n : ℕ) → IsThere m o → P (resize o n)
  k_sized o n there = by_size (o.attr.size == n)
    where
      by_size : (b : Bool) → P (if b then no_edits else set_attr o (sized o.attr n))
      by_size true = tt
      by_size false = (of_kind o.target o.attr (sized o.attr n) (stat_was m o there) refl, tt)

  k_gap : (o : Object) (n : ℕ) → P (fill_gap o n)
  k_gap o n = by_size (nat_lt o.attr.size n)
    where
      by_size : (b : Bool) → P (if b then zero_body o o.attr.size n else no_edits)
      by_size true = tt
      by_size false = tt

  k_cut : (o : Object) (n : ℕ) → P (if nat_lt n o.attr.size then cut_body o n o.attr.size else fill_gap o n)
  k_cut o n = by_size (nat_lt n o.attr.size)
    where
      by_size : (b : Bool) → P (if b then cut_body o n o.attr.size else fill_gap o n)
      by_size true = tt
      by_size false = k_gap o n

  k_writes : (from : ℕ) (xs : List ℕ) (o : Object) → IsThere m o → P (written o from xs)
  k_writes from xs o there =
      let n = larger o.attr.size (from + length xs) in
      each_append IsOfKind (fill_gap o from).puts (byte_pairs (byte_rank o.target from) xs ++ (resize o n).puts)
      (k_gap o from)
      (each_append IsOfKind (byte_pairs (byte_rank o.target from) xs) (resize o n).puts
      (each_byte IsOfKind (byte_rank o.target from) xs) (k_sized o n there))

  k_cuts : (n : ℕ) (o : Object) → IsThere m o → P (truncated o n)
  k_cuts n o there =
      each_append IsOfKind (if nat_lt n o.attr.size then cut_body o n o.attr.size else fill_gap o n).puts
      (resize o n).puts (k_cut o n) (k_sized o n there)

  k_unnamed : (o : Object) → HasStat m o.target o.attr → P (unnamed o)
  k_unnamed o stat = by_kind (is_dir o) (nat_le o.attr.nlink 1)
    where
      by_kind : (d b : Bool) → P (if d then cut_key (stat_rank o.target) else if b then and_also
          (cut_key (stat_rank o.target)) (cut_body o 0 o.attr.size) else set_attr o (link_less o.attr))
      by_kind true b = tt
      by_kind false true = tt
      by_kind false false = (of_kind o.target o.attr (link_less o.attr) stat refl, tt)

  k_loses : (dir o : Object) (n : List ℕ) → Loses m dir o n → P (unname_in dir n o)
  k_loses dir o n h = (
    of_kind dir.target dir.attr (entry_less (is_dir o) dir.attr) h.dir_stat
        (less_kind (is_dir o) dir.attr),
    k_unnamed o h.stat,
  )

  k_links : (dir o : Object) (n : List ℕ) → Gains m dir (linked o) n → HasStat m o.target o.attr
      → P (name_in dir n (linked o))
  k_links dir o n h stat = (
    of_kind o.target o.attr (link_more o.attr) stat refl,
    (
      of_kind dir.target dir.attr (entry_more (is_dir (linked o)) dir.attr) h.dir_stat
          (more_kind (is_dir (linked o)) dir.attr),
      tt,
    ),
  )

  -- nothing stood at the stat key of a new object
  k_makes : (dir o : Object) (n : List ℕ) → Gains m dir o n → IsNew m o → P (name_in dir n o)
  k_makes dir o n h new = (
    fresh,
    (of_kind dir.target dir.attr (entry_more (is_dir o) dir.attr) h.dir_stat (more_kind (is_dir o) dir.attr), tt),
  )
    where
      fresh : IsOfKind (stat_rank o.target) o.attr
      fresh a at = absurd (new.unused o.target a (h.object, at) refl)

  k_parents : (dir new : Object) (d : Bool) (was : Attr) → HasStat m dir.target dir.attr → HasStat m new.target was
      → is_directory new.attr ≡ is_directory was → P (set_parents dir new d)
  k_parents dir new d was stat new_stat kind = by_test (is_same dir new)
    where
      by_test : (b : Bool) → P (if b then set_attr new (entry_more d (entry_less d new.attr)) else and_also
          (set_attr dir (entry_less d dir.attr)) (set_attr new (entry_more d new.attr)))
      by_test true = (
        of_kind new.target was (entry_more d (entry_less d new.attr)) new_stat
            (more_kind d (entry_less d new.attr) ∙ less_kind d new.attr ∙ kind),
        tt,
      )
      by_test false = (
        of_kind dir.target dir.attr (entry_less d dir.attr) stat (less_kind d dir.attr),
        (of_kind new.target was (entry_more d new.attr) new_stat (more_kind d new.attr ∙ kind), tt),
      )

  k_moves : (dir o : Object) (name new_name : List ℕ) (new : Object) (over : Bool) (old : Object)
      → CanMove m dir o new name new_name over old → P (moving dir name o new new_name over old)
  k_moves dir o name new_name new true old h =
      let y = h.onto refl in
      each_append IsOfKind (unnamed old).puts (moved dir name o (comes_to o new true) new_name).puts
      (k_unnamed old y.stat)
      (k_parents dir (comes_to o new true) (is_dir o) new.attr h.dir_stat h.new_stat (less_kind (is_dir o) new.attr))
  k_moves dir o name new_name new false old h = k_parents dir (comes_to o new false)
      (is_dir o) new.attr h.dir_stat h.new_stat refl

  k_sets : (o : Object) (b : Attr) → IsThere m o → is_directory b ≡ is_directory o.attr → P (set_attr o b)
  k_sets o b there kind = (of_kind o.target o.attr b (stat_was m o there) kind, tt)

  mode_kind : (mode bits : ℕ) → (mode / 4096 * 4096 + bits % 4096) / 4096 ≡ mode / 4096
  mode_kind mode bits = omega arith

  each_kind : (c : Command) → HoldsOf limit m P c
  each_kind (Create path oid) = λ dir n gains new. k_makes dir (made_in dir n oid new_file) n gains new
  each_kind (Mkdir path oid) = λ dir n gains new. k_makes dir (made_in dir n oid new_directory) n gains new
  each_kind (Write path from xs) = λ o there file le. k_writes from xs o there
  each_kind (Fill path from len x) = λ o there file le. k_writes from (replicate len x) o there
  each_kind (Truncate path n) = λ o there file le. k_cuts n o there
  each_kind (Link from to) = λ dir o n gains stat file. k_links dir o n gains stat
  each_kind (Unlink path) = λ dir o n loses. k_loses dir o n loses
  each_kind (Rmdir path) = λ dir o n loses. k_loses dir o n loses
  each_kind (Rename from to) = λ dir o name new_name r path e paths over old h few. k_moves dir o name new_name r.here
      over old h
  each_kind (Chmod path mode) = λ o there. k_sets o (record o.attr { mode = o.attr.mode / 4096 * 4096 + mode % 4096 })
      there (ap (λ (x : ℕ). x == 4) (mode_kind o.attr.mode mode))
  each_kind (Chown path uid gid) = λ o there. k_sets o (record o.attr { uid = uid; gid = gid }) there refl
  each_kind (Times path atime mtime ctime) = λ o there. k_sets o
      (record o.attr { atime = atime; mtime = mtime; ctime = ctime }) there refl
  each_kind (Read path from len) = tt
  each_kind (Ask path) = tt
  each_kind (Names path) = tt
  each_kind Begin = tt
  each_kind End = tt
  each_kind Commit = tt

  pub kinds_stay : (c : Command) → limit < 2 ^ 64 → IsLawful limit m → HasBytePaths c → NamesUnused m c
      → (k : ℕ) (a b : Attr) → at_key m k ≡ Some (Stat a) → at_key (after limit c m) k ≡ Some (Stat b)
      → is_directory b ≡ is_directory a
  kinds_stay c lt lawful bytes unused k a b was now =
      each_edited IsOfKind (ending (course limit c) (of_content m)).edits m k b
      (holds_of limit c m lt lawful bytes unused P tt (each_kind c))
      (λ x at y too. ap is_directory (stat_same x y (sym at ∙ too))) now a was
