-- Numbers of attributes stay within their fields.
use Rattle.std.specs.Prelude.{◌≡◌, ℕ, ◌+◌, ◌-◌, ◌*◌, ◌/◌, ◌%◌, ◌^◌, ◌<◌, ◌≤◌, List, [], ◌∷◌, ◌++◌, Bool, true, false, ◌==◌, cond, nat_lt, nat_le, length, replicate, Option, Some, None, if◌then◌else◌}
use Rattle.std.proofs.Common.{arith, refl, sym, ap, subst, ◌∙◌}
use Rattle.std.proofs.lemmas.Bool.{eqb-true}
use Rattle.std.proofs.lemmas.Grind.{common_steps}
use Rattle.r4_base.specs.Value.{Value, Stat, Entry, Byte, Content, at_key}
use Rattle.r4_base.specs.Volume.{HasStat, byte_rank, is_directory, stat_rank}
use Rattle.r4_base.specs.declared.items.Attr.{Attr}
use Rattle.r4_base.specs.declared.items.Target.{Target}
use Rattle.r4_content.specs.Bodies.{fill_gap, larger, resize, truncated, written}
use Rattle.r4_content.specs.Course.{ending, of_content}
use Rattle.r4_content.specs.Edited.{Edits, Pairs, and_also, edited, is_in, no_edits}
use Rattle.r4_content.specs.Entries.{linked, moved, name_in, set_parents, unname_in}
use Rattle.r4_content.specs.Fields.{HasBytePaths, NamesUnused}
use Rattle.r4_content.specs.Lawful.{IsLawful, RoomFor}
use Rattle.r4_content.specs.Meaning.{after, course}
use Rattle.r4_content.specs.Objects.{Object, byte_pairs, cut_body, cut_key, entry_less, entry_more, is_dir, is_same, link_less, link_more, made_in, new_directory, new_file, one_more, set_attr, sized, unnamed, zero_body}
use Rattle.r4_content.specs.declared.command.Command.{Command}
use Rattle.r4_content.specs.declared.command.Command.TheVariants.{Create, Mkdir, Write, Fill, Truncate, Read, Stat as Ask, Names, Link, Unlink, Rmdir, Rename, Chmod, Chown, Times, Begin, End, Commit}
use Rattle.r4_content.proofs.Doing.{HoldsOf, holds_of}
use Rattle.r4_content.proofs.EditLaws.{at_edited, last_put}
use Rattle.r4_content.proofs.EditParts.{true_not_false}
use Rattle.r4_content.proofs.Gaining.{Gains}
use Rattle.r4_content.proofs.Losing.{Loses}
use Rattle.r4_content.proofs.MoveEdits.{CanMove, comes_to, moving}
use Rattle.r4_content.proofs.OneObject.{stat_was}
use Rattle.r4_content.proofs.SameWay.{IsThere}

-- ---- what holds of all attributes that are put

module _ (R : ℕ → Attr → Type 0) where
  abbrev pub EachStat : Pairs → Type 0
  EachStat [] = Unit {0}
  EachStat ((k, Stat a) ∷ es) = R k a × EachStat es
  EachStat ((k, Entry n t) ∷ es) = EachStat es
  EachStat ((k, Byte x) ∷ es) = EachStat es

  pub each_append : (xs ys : Pairs) → EachStat xs → EachStat ys → EachStat (xs ++ ys)
  each_append [] ys h g = g
  each_append ((k, Stat a) ∷ xs) ys h g = (h.0, each_append xs ys h.1 g)
  each_append ((k, Entry n t) ∷ xs) ys h g = each_append xs ys h g
  each_append ((k, Byte x) ∷ xs) ys h g = each_append xs ys h g

  pub each_byte : (k : ℕ) (xs : List ℕ) → EachStat (byte_pairs k xs)
  each_byte k [] = tt
  each_byte k (x ∷ xs) = each_byte (k + 1) xs

  abbrev HoldsIn : ℕ → Option Value → Type 0
  HoldsIn k None = Unit {0}
  HoldsIn k (Some (Stat a)) = R k a
  HoldsIn k (Some (Entry n t)) = Unit {0}
  HoldsIn k (Some (Byte x)) = Unit {0}

  holds_put : (es : Pairs) (k : ℕ) (v : Option Value) → EachStat es → HoldsIn k v → HoldsIn k (last_put es k v)
  holds_put [] k v h g = g
  holds_put ((q, Stat a) ∷ es) k v h g = holds_put es k (cond (k == q) (Some (Stat a)) v) h.1 (by_key (k == q) refl)
    where
      by_key : (b : Bool) → (k == q) ≡ b → HoldsIn k (cond b (Some (Stat a)) v)
      by_key true e = subst (λ (x : ℕ). R x a) (sym (eqb-true k q e)) h.0
      by_key false e = g
  holds_put ((q, Entry n t) ∷ es) k v h g = holds_put es k (cond (k == q) (Some (Entry n t)) v) h (by_key (k == q) refl)
    where
      by_key : (b : Bool) → (k == q) ≡ b → HoldsIn k (cond b (Some (Entry n t)) v)
      by_key true e = tt
      by_key false e = g
  holds_put ((q, Byte x) ∷ es) k v h g = holds_put es k (cond (k == q) (Some (Byte x)) v) h (by_key (k == q) refl)
    where
      by_key : (b : Bool) → (k == q) ≡ b → HoldsIn k (cond b (Some (Byte x)) v)
      by_key true e = tt
      by_key false e = g

  -- what holds of all attributes, and of those that are put, holds of all after the edits
  pub each_edited : (e : Edits) (m : Content) (k : ℕ) (a : Attr) → EachStat e.puts → ((b : Attr) → at_key m k ≡ Some (Stat b) → R k b) → at_key (edited e m) k ≡ Some (Stat a) → R k a
  each_edited e m k a puts old at = subst (HoldsIn k) (sym (at_edited e m k) ∙ at) (holds_put e.puts k _ puts (by_keys (is_in e.zeros k) (is_in e.cuts k)))
    where
      by_value : (v : Option Value) → at_key m k ≡ v → HoldsIn k v
      by_value None is = tt
      by_value (Some (Stat b)) is = old b is
      by_value (Some (Entry n t)) is = tt
      by_value (Some (Byte x)) is = tt

      by_keys : (p q : Bool) → HoldsIn k (cond p (Some (Byte 0)) (cond q None (at_key m k)))
      by_keys true q = tt
      by_keys false true = tt
      by_keys false false = by_value (at_key m k) refl

-- ---- what each command puts

-- What holds of the attributes in a content m, or of new ones, as B; and so of those that a command makes of them, as R.
pub record Passes (m : Content) (R : Attr → Type 0) : Type 0 where
  pub more : (t : Target) (a : Attr) (d : Bool) → HasStat m t a → is_directory a ≡ true → R (entry_more d a)
  pub less : (t : Target) (a : Attr) (d : Bool) → HasStat m t a → is_directory a ≡ true → R (entry_less d a)
  pub both : (t : Target) (a : Attr) (d : Bool) → HasStat m t a → is_directory a ≡ true → R (entry_more d (entry_less d a))
  pub again : (t : Target) (a : Attr) (c d : Bool) → HasStat m t a → is_directory a ≡ true → R (entry_more d (entry_less c a))
  pub twice : (t : Target) (a : Attr) (c d : Bool) → HasStat m t a → is_directory a ≡ true → R (entry_more d (entry_less d (entry_less c a)))
  pub linked : (t : Target) (a : Attr) → HasStat m t a → is_directory a ≡ false → R (link_more a)
  pub left : (t : Target) (a : Attr) → HasStat m t a → R (link_less a)
  pub grown : (t : Target) (a : Attr) (n : ℕ) → HasStat m t a → is_directory a ≡ false → R (sized a n)
  pub set : (t : Target) (a b : Attr) → HasStat m t a → b.mode / 4096 ≡ a.mode / 4096 → b.nlink ≡ a.nlink → b.size ≡ a.size → R b
  pub file : R new_file
  pub directory : (t : Target) (a : Attr) → HasStat m t a → is_directory a ≡ true → R new_directory

module _ (limit : ℕ) (m : Content) (R : Attr → Type 0) (p : Passes m R) where
  abbrev P : Edits → Type 0
  P e = EachStat (λ k a. R a) e.puts

  p_written : (o : Object) (n : ℕ) → IsThere m o → is_dir o ≡ false → P (resize o n)
  p_written o n there file = by_size (o.attr.size == n)
    where
      by_size : (b : Bool) → P (if b then no_edits else set_attr o (sized o.attr n))
      by_size true = tt
      by_size false = (p.grown o.target o.attr n (stat_was m o there) file, tt)

  p_gap : (o : Object) (n : ℕ) → P (fill_gap o n)
  p_gap o n = by_size (nat_lt o.attr.size n)
    where
      by_size : (b : Bool) → P (if b then zero_body o o.attr.size n else no_edits)
      by_size true = tt
      by_size false = tt

  p_cut : (o : Object) (n : ℕ) → P (if nat_lt n o.attr.size then cut_body o n o.attr.size else fill_gap o n)
  p_cut o n = by_size (nat_lt n o.attr.size)
    where
      by_size : (b : Bool) → P (if b then cut_body o n o.attr.size else fill_gap o n)
      by_size true = tt
      by_size false = p_gap o n

  p_writes : (from : ℕ) (xs : List ℕ) (o : Object) → IsThere m o → is_dir o ≡ false → from + length xs ≤ limit → P (written o from xs)
  p_writes from xs o there file le =
      let n = larger o.attr.size (from + length xs) in
      each_append (λ k a. R a) (fill_gap o from).puts (byte_pairs (byte_rank o.target from) xs ++ (resize o n).puts) (p_gap o from)
      (each_append (λ k a. R a) (byte_pairs (byte_rank o.target from) xs) (resize o n).puts (each_byte (λ k a. R a) (byte_rank o.target from) xs) (p_written o n there file))

  p_cuts : (n : ℕ) (o : Object) → IsThere m o → is_dir o ≡ false → n ≤ limit → P (truncated o n)
  p_cuts n o there file le =
      each_append (λ k a. R a) (if nat_lt n o.attr.size then cut_body o n o.attr.size else fill_gap o n).puts (resize o n).puts (p_cut o n) (p_written o n there file)

  p_unnamed : (o : Object) → HasStat m o.target o.attr → P (unnamed o)
  p_unnamed o stat = by_kind (is_dir o) (nat_le o.attr.nlink 1)
    where
      by_kind : (d b : Bool) → P (if d then cut_key (stat_rank o.target) else if b then and_also (cut_key (stat_rank o.target)) (cut_body o 0 o.attr.size) else set_attr o (link_less o.attr))
      by_kind true b = tt
      by_kind false true = tt
      by_kind false false = (p.left o.target o.attr stat, tt)

  p_loses : (dir o : Object) (n : List ℕ) → Loses m dir o n → P (unname_in dir n o)
  p_loses dir o n h = (p.less dir.target dir.attr (is_dir o) h.dir_stat h.dir_is, p_unnamed o h.stat)

  p_links : (dir o : Object) (n : List ℕ) → Gains m dir (linked o) n → HasStat m o.target o.attr → is_dir o ≡ false → P (name_in dir n (linked o))
  p_links dir o n h stat file = (p.linked o.target o.attr stat file, (p.more dir.target dir.attr (is_dir o) h.dir_stat h.dir_is, tt))

  p_makes : (dir : Object) (n : List ℕ) (o : Object) → Gains m dir o n → R o.attr → P (name_in dir n o)
  p_makes dir n o h r = (r, (p.more dir.target dir.attr (is_dir o) h.dir_stat h.dir_is, tt))

  p_parents : (dir new : Object) (d : Bool) → HasStat m dir.target dir.attr → is_directory dir.attr ≡ true → R (entry_more d new.attr) → R (entry_more d (entry_less d new.attr)) → P (set_parents dir new d)
  p_parents dir new d stat is one two = by_test (is_same dir new)
    where
      by_test : (b : Bool) → P (if b then set_attr new (entry_more d (entry_less d new.attr)) else and_also (set_attr dir (entry_less d dir.attr)) (set_attr new (entry_more d new.attr)))
      by_test true = (two, tt)
      by_test false = (p.less dir.target dir.attr d stat is, (one, tt))

  p_moves : (dir o : Object) (name new_name : List ℕ) (new : Object) (over : Bool) (old : Object) → CanMove m dir o new name new_name over old → P (moving dir name o new new_name over old)
  p_moves dir o name new_name new true old h =
      let y = h.onto refl in
      each_append (λ k a. R a) (unnamed old).puts (moved dir name o (comes_to o new true) new_name).puts (p_unnamed old y.stat)
      (p_parents dir (comes_to o new true) (is_dir o) h.dir_stat h.dir_is (p.again new.target new.attr (is_dir o) (is_dir o) h.new_stat h.new_is) (p.twice new.target new.attr (is_dir o) (is_dir o) h.new_stat h.new_is))
  p_moves dir o name new_name new false old h =
      p_parents dir (comes_to o new false) (is_dir o) h.dir_stat h.dir_is (p.more new.target new.attr (is_dir o) h.new_stat h.new_is) (p.both new.target new.attr (is_dir o) h.new_stat h.new_is)

  p_sets : (o : Object) (b : Attr) → IsThere m o → b.mode / 4096 ≡ o.attr.mode / 4096 → b.nlink ≡ o.attr.nlink → b.size ≡ o.attr.size → P (set_attr o b)
  p_sets o b there mode links size = (p.set o.target o.attr b (stat_was m o there) mode links size, tt)

  mode_kind : (mode bits : ℕ) → (mode / 4096 * 4096 + bits % 4096) / 4096 ≡ mode / 4096
  mode_kind mode bits = omega arith

  all_pass : (c : Command) → HoldsOf limit m P c
  all_pass (Create path oid) = λ dir n gains new. p_makes dir n (made_in dir n oid new_file) gains p.file
  all_pass (Mkdir path oid) = λ dir n gains new. p_makes dir n (made_in dir n oid new_directory) gains (p.directory dir.target dir.attr gains.dir_stat gains.dir_is)
  all_pass (Write path from xs) = λ o there file le. p_writes from xs o there file le
  all_pass (Fill path from len x) = λ o there file le. p_writes from (replicate len x) o there file le
  all_pass (Truncate path n) = λ o there file le. p_cuts n o there file le
  all_pass (Link from to) = λ dir o n gains stat file. p_links dir o n gains stat file
  all_pass (Unlink path) = λ dir o n loses. p_loses dir o n loses
  all_pass (Rmdir path) = λ dir o n loses. p_loses dir o n loses
  all_pass (Rename from to) = λ dir o name new_name r path e paths over old h few. p_moves dir o name new_name r.here over old h
  all_pass (Chmod path mode) = λ o there. p_sets o _ there (mode_kind o.attr.mode mode) refl refl
  all_pass (Chown path uid gid) = λ o there. p_sets o _ there refl refl refl
  all_pass (Times path atime mtime ctime) = λ o there. p_sets o _ there refl refl refl
  all_pass (Read path from len) = tt
  all_pass (Ask path) = tt
  all_pass (Names path) = tt
  all_pass Begin = tt
  all_pass End = tt
  all_pass Commit = tt

  pub passes_on : (c : Command) → limit < 2 ^ 64 → IsLawful limit m → HasBytePaths c → NamesUnused m c → ((t : Target) (a : Attr) → HasStat m t a → R a)
      → (t : Target) (a : Attr) → HasStat (after limit c m) t a → R a
  passes_on c lt lawful bytes unused old t a there =
      each_edited (λ k a. R a) (ending (course limit c) (of_content m)).edits m (stat_rank t) a (holds_of limit c m lt lawful bytes unused P tt (all_pass c)) (λ b at. old t b (there.0, at)) there.1

-- ---- links

more_links : (last n : ℕ) → n ≤ last → one_more last n ≤ last
more_links last n le = grind (arith, common_steps)

links_more : (d : Bool) (a : Attr) → a.nlink < 2 ^ 32 → (entry_more d a).nlink < 2 ^ 32
links_more true a lt = let le = more_links (2 ^ 32 - 1) a.nlink (omega (arith, lt)) in omega (arith, le)
links_more false a lt = lt

links_less : (d : Bool) (a : Attr) → a.nlink < 2 ^ 32 → (entry_less d a).nlink < 2 ^ 32
links_less true a lt = omega (arith, lt)
links_less false a lt = lt

pub links_after : (limit : ℕ) (c : Command) (m : Content) → limit < 2 ^ 64 → IsLawful limit m → HasBytePaths c → NamesUnused m c → (t : Target) (a : Attr) → HasStat (after limit c m) t a → a.nlink < 2 ^ 32
links_after limit c m lt lawful bytes unused = passes_on limit m (λ a. a.nlink < 2 ^ 32) (record {
  more = λ t a d h is. links_more d a (lawful.links t a h);
  less = λ t a d h is. links_less d a (lawful.links t a h);
  both = λ t a d h is. links_more d (entry_less d a) (links_less d a (lawful.links t a h));
  again = λ t a c d h is. links_more d (entry_less c a) (links_less c a (lawful.links t a h));
  twice = λ t a c d h is. links_more d (entry_less d (entry_less c a)) (links_less d (entry_less c a) (links_less c a (lawful.links t a h)));
  linked = λ t a h file. let le = more_links (2 ^ 32 - 1) a.nlink (let lt = lawful.links t a h in omega (arith, lt)) in omega (arith, le);
  left = λ t a h. let lt = lawful.links t a h in omega (arith, lt);
  grown = λ t a n h file. lawful.links t a h;
  set = λ t a b h mode links size. let lt = lawful.links t a h in omega (arith, links, lt);
  file = omega arith;
  directory = λ t a h is. omega arith;
}) c lt lawful bytes unused lawful.links

-- ---- room

abbrev Room : ℕ → Attr → Type 0
Room k a = is_directory a ≡ true → a.size + k < 2 ^ 64

more_size : (last n : ℕ) → one_more last n ≤ n + 1
more_size last n = grind (arith, common_steps)

size_more : (d : Bool) (a : Attr) → (entry_more d a).size ≤ a.size + 1
size_more true a = more_size (2 ^ 64 - 1) a.size
size_more false a = more_size (2 ^ 64 - 1) a.size

size_less : (d : Bool) (a : Attr) → (entry_less d a).size ≤ a.size
size_less true a = omega arith
size_less false a = omega arith

kind_same : (a b : Attr) → b.mode / 4096 ≡ a.mode / 4096 → is_directory b ≡ true → is_directory a ≡ true
kind_same a b e d = ap (λ (x : ℕ). x == 4) (sym e) ∙ d

not_both : {A : Type 0} (a : Attr) → is_directory a ≡ false → is_directory a ≡ true → A
not_both a f d = absurd (true_not_false (sym d ∙ f))

pub room_after : (limit : ℕ) (c : Command) (m : Content) (k : ℕ) → limit < 2 ^ 64 → IsLawful limit m → HasBytePaths c → NamesUnused m c → RoomFor (k + 1) m → RoomFor k (after limit c m)
room_after limit c m k lt lawful bytes unused room t a there = passes_on limit m (Room k) (record {
  more = λ t a d h is d2. let r = room t a h is in let s = size_more d a in omega (arith, r, s);
  less = λ t a d h is d2. let r = room t a h is in let s = size_less d a in omega (arith, r, s);
  both = λ t a d h is d2. let r = room t a h is in let s = size_less d a in let u = size_more d (entry_less d a) in omega (arith, r, s, u);
  again = λ t a c d h is d2. let r = room t a h is in let s = size_less c a in let u = size_more d (entry_less c a) in omega (arith, r, s, u);
  twice = λ t a c d h is d2. let r = room t a h is in let s = size_less c a in let v = size_less d (entry_less c a) in let u = size_more d (entry_less d (entry_less c a)) in omega (arith, r, s, v, u);
  linked = λ t a h file d2. not_both a file d2;
  left = λ t a h d2. let r = room t a h d2 in omega (arith, r);
  grown = λ t a n h file d2. not_both a file d2;
  set = λ t a b h mode links size d2. let r = room t a h (kind_same a b mode d2) in omega (arith, r, size);
  file = λ d2. absurd cc;
  directory = λ t a h is d2. let r = room t a h is in omega (arith, r);
}) c lt lawful bytes unused (λ t a h is. let r = room t a h is in omega (arith, r)) t a there
