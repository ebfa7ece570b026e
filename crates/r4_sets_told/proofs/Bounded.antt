-- What every command's edits keep to: they put stat data where some were, or for the object that the command makes; and
-- of a body they take away bytes below its size alone.
use Rattle.std.specs.Prelude.{◌≡◌, ◌⊎◌, ℕ, ◌+◌, ◌*◌, ◌/◌, ◌%◌, ◌-◌, ◌^◌, ◌<◌, ◌≤◌, List, [], ◌∷◌, All, Bool, true}
use Rattle.std.specs.Prelude.{false, ◌||◌, ◌==◌, nat_le, nat_lt, length, replicate, slice_index_or, Option, Some, None}
use Rattle.std.specs.Prelude.{if◌then◌else◌}
use Rattle.std.proofs.Common.{arith, inl, inr, refl, sym, ap, subst, ◌∙◌}
use Rattle.std.proofs.Math.Nat.{lt_of_not-le}
use Rattle.std.proofs.lemmas.Bool.{eqb-true, le-leb, or_cases}
use Rattle.std.proofs.lemmas.Option.{none-some, same_Some}
use Rattle.r4_base.specs.Value.{Stat, Content, at_key}
use Rattle.r4_base.specs.Volume.{HasStat, IsObject, byte_rank, stat_rank}
use Rattle.r4_base.specs.declared.items.Attr.{Attr}
use Rattle.r4_base.specs.declared.items.Target.{Target}
use Rattle.r4_base.specs.declared.things.Oid.{Oid}
use Rattle.r4_content.specs.Bodies.{fill_gap, larger, resize, truncated, written}
use Rattle.r4_content.specs.Course.{Answer, Change, Course, Ending, ending, of_content}
use Rattle.r4_content.specs.Edited.{Edits, and_also, edited, is_between, is_in, no_edits}
use Rattle.r4_content.specs.Entries.{is_no_id, linked, moved, name_in, set_parents, unname_in}
use Rattle.r4_content.specs.Fields.{HasBytePaths, NamesUnused}
use Rattle.r4_content.specs.Lawful.{IsLawful}
use Rattle.r4_content.specs.Meaning.{after, course, named, reply}
use Rattle.r4_content.specs.Objects.{Object, cut_body, cut_key, entry_less, entry_more, entry_rank, is_dir, is_full}
use Rattle.r4_content.specs.Objects.{is_same, link_less, made_in, new_directory, new_file, set_attr, set_body}
use Rattle.r4_content.specs.Objects.{set_entry, sized, unnamed, zero_body}
use Rattle.r4_content.specs.Ways.{free_here, to_free}
use Rattle.r4_content.specs.declared.command.Command.{Command}
use Rattle.r4_content.specs.declared.command.Command.TheVariants.{Create, Mkdir, Write, Fill, Truncate, Read}
use Rattle.r4_content.specs.declared.command.Command.TheVariants.{Stat as Ask, Names, Link, Unlink, Rmdir, Rename}
use Rattle.r4_content.specs.declared.command.Command.TheVariants.{Chmod, Chown, Times, Begin, End, Commit}
use Rattle.r4_content.specs.declared.reply.Reply.TheVariants.{Okay, Exists, Links, Oids}
use Rattle.r4_content.proofs.Doing.{HoldsOf, holds_of}
use Rattle.r4_content.proofs.EditLaws.{in_append, one_key}
use Rattle.r4_content.proofs.Gaining.{Gains}
use Rattle.r4_content.proofs.Losing.{Loses}
use Rattle.r4_content.proofs.MoveEdits.{CanMove, comes_to, moving}
use Rattle.r4_content.proofs.Naming.{came_above, free_is}
use Rattle.r4_content.proofs.OneObject.{stat_was}
use Rattle.r4_content.proofs.Ranks.{byte_after, entry_not_byte, in_body, same_bytes, same_stat, stat_not_byte}
use Rattle.r4_content.proofs.Refusals.{nothing_or_okay}
use Rattle.r4_content.proofs.SameWay.{IsThere}
use Rattle.r4_content.proofs.Widths.{EachStat, each_append, each_byte, each_edited}
use Rattle.r4_sets.specs.r4_trace.Ids.{id_of, no_id}
use Rattle.r4_sets.proofs.Bodies.{one_attr}

no_true : false ≡ true → ⊥
no_true e = cc

-- stat data stand at the key, or it is the stat key of what the command makes
abbrev pub MayHave : Content → (made : Option ℕ) → ℕ → Attr → Type 0
MayHave m made k a =
    ((b : Attr) × (at_key m k ≡ Some (Stat b)))
    ⊎ ((t : Target) × (k ≡ stat_rank t) × IsObject t × (made ≡ Some t.oid.0))

pub record Bounded (m : Content) (made : Option ℕ) (e : Edits) : Type 0 where
  pub puts : EachStat (MayHave m made) e.puts
  pub cuts : (o : Target) (a : Attr) (y : ℕ) → HasStat m o a → y < 2 ^ 64 → is_in e.cuts (byte_rank o y) ≡ true
      → y < a.size

-- ---- each edit

first_of : (a b : Bool) → (a || b) ≡ true → b ≡ false → a ≡ true
first_of true b e f = refl
first_of false b e f = absurd (no_true (sym f ∙ e))

one_cut : (k q : ℕ) → is_in ((k, k + 1) ∷ []) q ≡ true → q ≡ k
one_cut k q e = eqb-true q k (sym (one_key q k) ∙ first_of (is_between k (k + 1) q) false e refl)

module _ (m : Content) (made : Option ℕ) where
  no_cuts : (o : Target) (a : Attr) (y : ℕ) → HasStat m o a → y < 2 ^ 64 → false ≡ true → y < a.size
  no_cuts o a y stat lt e = absurd (no_true e)

  b_both : (e f : Edits) → Bounded m made e → Bounded m made f → Bounded m made (and_also e f)
  b_both e f h g = record {
    puts = each_append (MayHave m made) e.puts f.puts h.puts g.puts;
    cuts = λ o a y stat lt on.
        elim (or_cases (is_in e.cuts (byte_rank o y)) (is_in f.cuts (byte_rank o y))
        (sym (in_append e.cuts f.cuts (byte_rank o y)) ∙ on)) [
          | inl x ↦ h.cuts o a y stat lt x
          | inr x ↦ g.cuts o a y stat lt x
        ];
  }

  b_none : Bounded m made no_edits
  b_none = record { puts = tt; cuts = no_cuts }

  b_attr : (o : Object) (a : Attr) → MayHave m made (stat_rank o.target) a → Bounded m made (set_attr o a)
  b_attr o a h = record { puts = (h, tt); cuts = no_cuts }

  was : (o : Target) (a b : Attr) → HasStat m o a → MayHave m made (stat_rank o) b
  was o a b h = inl (a, h.1)

  b_entry : (d : Object) (n : List ℕ) (t : Target) → Bounded m made (set_entry d n t)
  b_entry d n t = record { puts = tt; cuts = no_cuts }

  b_zeros : (o : Object) (from to : ℕ) → Bounded m made (zero_body o from to)
  b_zeros o from to = record { puts = tt; cuts = no_cuts }

  b_bytes : (o : Object) (from : ℕ) (xs : List ℕ) → Bounded m made (set_body o from xs)
  b_bytes o from xs = record { puts = each_byte (MayHave m made) (byte_rank o.target from) xs; cuts = no_cuts }

  b_key : (d : Object) (n : List ℕ) → d.target.oid.0 < 2 ^ 60 → All (λ x. x < 256) n
      → Bounded m made (cut_key (entry_rank d.target n))
  b_key d n small bytes = record {
    puts = tt;
    cuts = λ o a y stat lt on.
        absurd (entry_not_byte d.target o n y small bytes stat.0 lt
        (sym (one_cut (entry_rank d.target n) (byte_rank o y) on)));
  }

  b_stat : (o : Object) → IsObject o.target → Bounded m made (cut_key (stat_rank o.target))
  b_stat o is = record {
    puts = tt;
    cuts = λ p a y stat lt on.
        absurd (stat_not_byte o.target p y is stat.0 lt (sym (one_cut (stat_rank o.target) (byte_rank p y) on)));
  }

  b_body : (o : Object) (from : ℕ) → HasStat m o.target o.attr → o.attr.size ≤ 2 ^ 64
      → Bounded m made (cut_body o from o.attr.size)
  b_body o from there le = record {
    puts = tt;
    cuts = λ p a y stat lt on.
        let (x, same, low, high) = in_body o.target from o.attr.size (byte_rank p y)
        (first_of (is_between (byte_rank o.target from) (byte_rank o.target o.attr.size) (byte_rank p y)) false on
        refl) in
        let is : p ≡ o.target = same_bytes p o.target y x stat.0 there.0 lt (omega (arith, high, le)) same in
        let at : y ≡ x = same_place p o.target y x stat.0 there.0 lt (omega (arith, high, le)) same in
        let sizes : a ≡ o.attr = one_attr m o.target a o.attr (subst (λ (q : Target). HasStat m q a) is stat) there in
        let size = ap (λ (b : Attr). b.size) sizes in
        omega (arith, high, at, size);
  }
    where
      from_first : (t : Target) (x : ℕ) → byte_rank t x ≡ byte_rank t 0 + x
      from_first t x = ap (byte_rank t) (omega arith) ∙ byte_after t 0 x

      same_place : (t u : Target) (x y : ℕ) → IsObject t → IsObject u → x < 2 ^ 64 → y < 2 ^ 64 → byte_rank t x
          ≡ byte_rank u y → x ≡ y
      same_place t u x y ht hu lx ly e =
          let is : t ≡ u = same_bytes t u x y ht hu lx ly e in
          let one = from_first u x in
          let two = from_first u y in
          let now : byte_rank u x ≡ byte_rank u y = ap (λ (q : Target). byte_rank q x) (sym is) ∙ e in
          omega (arith, one, two, now)

  b_gap : (o : Object) (n : ℕ) → Bounded m made (fill_gap o n)
  b_gap o n = by_size (nat_lt o.attr.size n)
    where
      by_size : (b : Bool) → Bounded m made (if b then zero_body o o.attr.size n else no_edits)
      by_size true = b_zeros o o.attr.size n
      by_size false = b_none

  b_resize : (o : Object) (n : ℕ) → HasStat m o.target o.attr → Bounded m made (resize o n)
  b_resize o n there = by_size (o.attr.size == n)
    where
      by_size : (b : Bool) → Bounded m made (if b then no_edits else set_attr o (sized o.attr n))
      by_size true = b_none
      by_size false = b_attr o (sized o.attr n) (was o.target o.attr (sized o.attr n) there)

  b_unnamed : (o : Object) → HasStat m o.target o.attr → o.attr.size ≤ 2 ^ 64 → Bounded m made (unnamed o)
  b_unnamed o stat size = by_kind (is_dir o) (nat_le o.attr.nlink 1)
    where
      by_kind : (d b : Bool) → Bounded m made (if d then cut_key (stat_rank o.target)
          else if b then and_also (cut_key (stat_rank o.target)) (cut_body o 0 o.attr.size)
          else set_attr o (link_less o.attr))
      by_kind true b = b_stat o stat.0
      by_kind false true = b_both (cut_key (stat_rank o.target)) (cut_body o 0 o.attr.size) (b_stat o stat.0)
          (b_body o 0 stat size)
      by_kind false false = b_attr o (link_less o.attr) (was o.target o.attr (link_less o.attr) stat)

  b_parents : (from to : Object) (d : Bool) (a b : Attr) → HasStat m from.target a → HasStat m to.target b
      → Bounded m made (set_parents from to d)
  b_parents from to d a b one two = by_test (is_same from to)
    where
      by_test : (c : Bool) → Bounded m made (if c then set_attr to (entry_more d (entry_less d to.attr))
          else and_also (set_attr from (entry_less d from.attr)) (set_attr to (entry_more d to.attr)))
      by_test true = b_attr to (entry_more d (entry_less d to.attr))
          (was to.target b (entry_more d (entry_less d to.attr)) two)
      by_test false = b_both (set_attr from (entry_less d from.attr)) (set_attr to (entry_more d to.attr))
          (b_attr from (entry_less d from.attr) (was from.target a (entry_less d from.attr) one))
          (b_attr to (entry_more d to.attr) (was to.target b (entry_more d to.attr) two))

  -- ---- each command

  b_sets : (o : Object) (a : Attr) → IsThere m o → Bounded m made (set_attr o a)
  b_sets o a there = b_attr o a (was o.target o.attr a (stat_was m o there))

  b_writes : (from : ℕ) (xs : List ℕ) (o : Object) → IsThere m o → Bounded m made (written o from xs)
  b_writes from xs o there =
      let n = larger o.attr.size (from + length xs) in
      b_both (fill_gap o from) (and_also (set_body o from xs) (resize o n)) (b_gap o from)
      (b_both (set_body o from xs) (resize o n) (b_bytes o from xs) (b_resize o n (stat_was m o there)))

  b_cuts : (n : ℕ) (o : Object) → IsThere m o → o.attr.size ≤ 2 ^ 64 → Bounded m made (truncated o n)
  b_cuts n o there size =
      b_both (if nat_lt n o.attr.size then cut_body o n o.attr.size else fill_gap o n) (resize o n)
      (keeps (nat_lt n o.attr.size)) (b_resize o n (stat_was m o there))
    where
      keeps : (c : Bool) → Bounded m made (if c then cut_body o n o.attr.size else fill_gap o n)
      keeps true = b_body o n (stat_was m o there) size
      keeps false = b_gap o n

  b_loses : (dir o : Object) (n : List ℕ) → Loses m dir o n → Bounded m made (unname_in dir n o)
  b_loses dir o n h =
      b_both (cut_key (entry_rank dir.target n)) (and_also (set_attr dir (entry_less (is_dir o) dir.attr)) (unnamed o))
      (b_key dir n h.small h.bytes)
      (b_both (set_attr dir (entry_less (is_dir o) dir.attr)) (unnamed o)
      (b_attr dir (entry_less (is_dir o) dir.attr)
      (was dir.target dir.attr (entry_less (is_dir o) dir.attr) h.dir_stat)) (b_unnamed o h.stat h.size))

  b_names : (dir o : Object) (n : List ℕ) → Gains m dir o n → MayHave m made (stat_rank o.target) o.attr
      → Bounded m made (name_in dir n o)
  b_names dir o n h may =
      b_both (set_entry dir n o.target) (and_also (set_attr o o.attr) (set_attr dir (entry_more (is_dir o) dir.attr)))
      (b_entry dir n o.target)
      (b_both (set_attr o o.attr) (set_attr dir (entry_more (is_dir o) dir.attr)) (b_attr o o.attr may)
      (b_attr dir (entry_more (is_dir o) dir.attr)
      (was dir.target dir.attr (entry_more (is_dir o) dir.attr) h.dir_stat)))

  b_moved : (dir o to : Object) (name new_name : List ℕ) (a b : Attr) → HasStat m dir.target a → HasStat m to.target b
      → dir.target.oid.0 < 2 ^ 60 → All (λ x. x < 256) name
      → Bounded m made (moved dir name o to new_name)
  b_moved dir o to name new_name a b one two small bytes =
      b_both (cut_key (entry_rank dir.target name))
      (and_also (set_entry to new_name o.target) (set_parents dir to (is_dir o))) (b_key dir name small bytes)
      (b_both (set_entry to new_name o.target) (set_parents dir to (is_dir o)) (b_entry to new_name o.target)
      (b_parents dir to (is_dir o) a b one two))

  b_moves : (dir o : Object) (name new_name : List ℕ) (new : Object) (over : Bool) (old : Object)
      → CanMove m dir o new name new_name over old
      → Bounded m made (moving dir name o new new_name over old)
  b_moves dir o name new_name new true old h =
      b_both (unnamed old) (moved dir name o (comes_to o new true) new_name)
      (b_unnamed old (h.onto refl).stat (h.size refl))
      (b_moved dir o (comes_to o new true) name new_name dir.attr new.attr h.dir_stat h.new_stat h.dir_small h.bytes)
  b_moves dir o name new_name new false old h =
      b_moved dir o (comes_to o new false) name new_name dir.attr new.attr h.dir_stat h.new_stat h.dir_small h.bytes

-- ---- the commands

module _ (limit : ℕ) (lt : limit < 2 ^ 64) (m : Content) (lawful : IsLawful limit m) where
  sizes : (o : Object) → IsThere m o → is_dir o ≡ false → o.attr.size ≤ 2 ^ 64
  sizes o there file = let small =
      lawful.bodies.small o.target o.attr (stat_was m o there) file in omega (arith, small, lt)

  all_bounded : (c : Command) → HoldsOf limit m (Bounded m (id_of c)) c
  all_bounded (Create path oid) =
      λ dir n gains new. b_names m (Some oid.0) dir (made_in dir n oid new_file) n gains
      (inr ((made_in dir n oid new_file).target, refl, gains.object, refl))
  all_bounded (Mkdir path oid) =
      λ dir n gains new. b_names m (Some oid.0) dir (made_in dir n oid new_directory) n gains
      (inr ((made_in dir n oid new_directory).target, refl, gains.object, refl))
  all_bounded (Write path from xs) = λ o there file le. b_writes m None from xs o there
  all_bounded (Fill path from len x) = λ o there file le. b_writes m None from (replicate len x) o there
  all_bounded (Truncate path n) = λ o there file le. b_cuts m None n o there (sizes o there file)
  all_bounded (Link from to) = λ dir o n gains stat file. b_names m None dir (linked o) n gains
      (was m None o.target o.attr (linked o).attr stat)
  all_bounded (Unlink path) = λ dir o n loses. b_loses m None dir o n loses
  all_bounded (Rmdir path) = λ dir o n loses. b_loses m None dir o n loses
  all_bounded (Rename from to) =
      λ dir o name new_name r path e paths over old h few. b_moves m None dir o name new_name r.here over old h
  all_bounded (Chmod path mode) =
      λ o there. b_sets m None o (record o.attr { mode = o.attr.mode / 4096 * 4096 + mode % 4096 }) there
  all_bounded (Chown path uid gid) = λ o there. b_sets m None o (record o.attr { uid = uid; gid = gid }) there
  all_bounded (Times path atime mtime ctime) =
      λ o there. b_sets m None o (record o.attr { atime = atime; mtime = mtime; ctime = ctime }) there
  all_bounded (Read path from len) = tt
  all_bounded (Ask path) = tt
  all_bounded (Names path) = tt
  all_bounded Begin = tt
  all_bounded End = tt
  all_bounded Commit = tt

  pub bounded : (c : Command) → HasBytePaths c → NamesUnused m c
      → Bounded m (id_of c) (ending (course limit c) (of_content m)).edits
  bounded c bytes unused = holds_of limit c m lt lawful bytes unused (Bounded m (id_of c)) (b_none m (id_of c))
      (all_bounded c)

  -- an object was there before, or the command made it
  pub was_or_made : (c : Command) (o : Target) (a : Attr) → HasBytePaths c → NamesUnused m c
      → HasStat (after limit c m) o a
      → ((b : Attr) × HasStat m o b) ⊎ (id_of c ≡ Some o.oid.0)
  was_or_made c o a bytes unused stat =
      of_key (each_edited (MayHave m (id_of c)) (ending (course limit c) (of_content m)).edits m (stat_rank o) a
      (bounded c bytes unused).puts (λ b at. inl (b, at)) stat.1)
    where
      of_key : MayHave m (id_of c) (stat_rank o) a → ((b : Attr) × HasStat m o b) ⊎ (id_of c ≡ Some o.oid.0)
      of_key (inl (b, at)) = inl (b, (stat.0, at))
      of_key (inr (t, same, is, made)) =
          inr (made ∙ ap (λ (q : Target). Some q.oid.0) (sym (same_stat o t stat.0 is same)))

-- ---- nothing is made of the number that stands for no id

module _ (m : Content) (path : List (List ℕ)) where
  never_made : (make : Object → (name : List ℕ) → Course)
      → ((dir : Object) (n : List ℕ) → (ending (make dir n) (of_content m)).reply ≡ Okay → ⊥)
      → (ending (named path (to_free path make)) (of_content m)).reply ≡ Okay → ⊥
  unfolding to_free
  never_made make never okay =
      let c = came_above m Exists path (free_here make) (λ e. cc) okay in
      let n = slice_index_or path (length path - 1) [] in
      let (is, free, goes) = free_is m make c.place n (sym (ap (λ (x : Ending). x.reply) c.ends) ∙ okay) in
      never c.place.here n (sym (ap (λ (x : Ending). x.reply) (c.ends ∙ goes)) ∙ okay)

  no_file : (oid : Oid) → is_no_id oid ≡ true → (dir : Object) (n : List ℕ)
      → (ending (if is_no_id oid then Answer Oids else Change (name_in dir n (made_in dir n oid new_file)))
      (of_content m)).reply ≡ Okay → ⊥
  no_file oid e dir n okay = by_test (is_no_id oid) e okay
    where
      by_test : (b : Bool) → b ≡ true
          → (ending (if b then Answer Oids else Change (name_in dir n (made_in dir n oid new_file)))
          (of_content m)).reply ≡ Okay → ⊥
      by_test true f g = cc
      by_test false f g = no_true f

  no_directory : (oid : Oid) → is_no_id oid ≡ true → (dir : Object) (n : List ℕ)
      → (ending (if is_full dir then Answer Links else if is_no_id oid then Answer Oids else Change
      (name_in dir n (made_in dir n oid new_directory))) (of_content m)).reply ≡ Okay → ⊥
  no_directory oid e dir n okay = by_tests (is_full dir) (is_no_id oid) e okay
    where
      by_tests : (f b : Bool) → b ≡ true
          → (ending (if f then Answer Links else if b then Answer Oids else Change
          (name_in dir n (made_in dir n oid new_directory))) (of_content m)).reply ≡ Okay → ⊥
      by_tests true b h g = cc
      by_tests false true h g = cc
      by_tests false false h g = no_true h

  file_without_id : (limit : ℕ) (oid : Oid) → is_no_id oid ≡ true → reply limit (Create path oid) m ≡ Okay → ⊥
  file_without_id limit oid e okay =
      never_made (λ dir n. if is_no_id oid then Answer Oids else Change (name_in dir n (made_in dir n oid new_file)))
      (no_file oid e) okay

  directory_without_id : (limit : ℕ) (oid : Oid) → is_no_id oid ≡ true → reply limit (Mkdir path oid) m ≡ Okay → ⊥
  directory_without_id limit oid e okay =
      never_made (λ dir n. if is_full dir then Answer Links else if is_no_id oid then Answer Oids else Change
      (name_in dir n (made_in dir n oid new_directory))) (no_directory oid e) okay

without_id : (limit : ℕ) (m : Content) (c : Command) (i : ℕ) → id_of c ≡ Some i → nat_le no_id i ≡ true
    → reply limit c m ≡ Okay → ⊥
without_id limit m (Create path oid) i e none okay =
    file_without_id m path limit oid (ap (nat_le no_id) (same_Some oid.0 i e) ∙ none) okay
without_id limit m (Mkdir path oid) i e none okay =
    directory_without_id m path limit oid (ap (nat_le no_id) (same_Some oid.0 i e) ∙ none) okay
without_id limit m c i e none okay = absurd (none-some i e)

module _ (limit : ℕ) (lt : limit < 2 ^ 64) (m : Content) (lawful : IsLawful limit m) (c : Command)
    (bytes : HasBytePaths c) (unused : NamesUnused m c) (o : Target) (a : Attr) (stat : HasStat (after limit c m) o a)
  where
    abbrev WasOrMade : Type 0
    WasOrMade = ((b : Attr) × HasStat m o b) ⊎ ((id_of c ≡ Some o.oid.0) × (o.oid.0 < no_id))

    refused : (i : ℕ) → id_of c ≡ Some i → nat_le no_id i ≡ true → WasOrMade
    refused i e no_one = elim (nothing_or_okay (course limit c) (of_content m)) [
      | inl none ↦ inl (a, subst (λ (x : Edits). HasStat (edited x m) o a) none stat)
      | inr okay ↦ absurd (without_id limit m c i e no_one okay)
    ]

    by_id : (b : Bool) → nat_le no_id o.oid.0 ≡ b → id_of c ≡ Some o.oid.0 → WasOrMade
    by_id true e is = refused o.oid.0 is e
    by_id false e is = inr (is, lt_of_not-le (λ le. no_true (sym e ∙ le-leb no_id o.oid.0 le)))

    -- an object was there before, or the command made it, of an id that stands for one
    pub was_or_drawn : WasOrMade
    was_or_drawn = elim (was_or_made limit lt m lawful c o a bytes unused stat) [
      | inl was ↦ inl was
      | inr made ↦ by_id (nat_le no_id o.oid.0) refl made
    ]
