-- How many objects each command makes and takes away.
use Rattle.std.specs.Prelude.{◌≡◌, ◌≢◌, ◌⊎◌, ℕ, ◌+◌, ◌*◌, ◌/◌, ◌%◌, ◌^◌, ◌<◌, ◌≤◌, List, [], ◌∷◌, ◌++◌, All, Bool, true, false, ◌&&◌, ◌||◌, ◌==◌, nat_lt, nat_le, length, replicate, Option, Some, None, if◌then◌else◌}
use Rattle.std.proofs.Common.{arith, inl, inr, lit<, refl, sym, ap, subst, ◌∙◌}
use Rattle.std.specs.Option.{is_some}
use Rattle.std.proofs.lemmas.Bool.{eqb-true, ltb-true, or_cases}
use Rattle.r4_base.proofs.Visible.{byte_back}
use Rattle.r4_base.specs.Key.{key_of_rank, minor_of}
use Rattle.r4_base.specs.Value.{Value, Stat, Entry, Byte, Content, at_key}
use Rattle.r4_base.specs.Volume.{HasStat, IsObject, byte_rank, objects_in, stat_rank}
use Rattle.r4_base.specs.declared.items.Attr.{Attr}
use Rattle.r4_base.specs.declared.items.Target.{Target}
use Rattle.r4_content.specs.Bodies.{fill_gap, larger, resize, truncated, written}
use Rattle.r4_content.specs.Counts.{born, gone, is_okay, stats_in}
use Rattle.r4_content.specs.Course.{ending, of_content}
use Rattle.r4_content.specs.Edited.{Edits, Intervals, and_also, edited, is_between, is_in, no_edits}
use Rattle.r4_content.specs.Entries.{linked, moved, name_in, set_parents, unname_in}
use Rattle.r4_content.specs.Fields.{HasBytePaths, NamesUnused}
use Rattle.r4_content.specs.Lawful.{HasBodies, IsLawful}
use Rattle.r4_content.specs.Meaning.{after, course, makes_object, reply}
use Rattle.r4_content.specs.Objects.{Object, cut_body, cut_key, entry_less, entry_more, entry_rank, is_dir, is_same, link_less, made_in, new_directory, new_file, set_attr, set_body, set_entry, sized, unnamed, zero_body}
use Rattle.r4_content.specs.declared.command.Command.{Command}
use Rattle.r4_content.specs.declared.command.Command.TheVariants.{Create, Mkdir, Write, Fill, Truncate, Read, Stat as Ask, Names, Link, Unlink, Rmdir, Rename, Chmod, Chown, Times, Begin, End, Commit}
use Rattle.r4_content.specs.declared.reply.Reply.{Reply}
use Rattle.r4_content.specs.declared.reply.Reply.TheVariants.{Okay}
use Rattle.r4_content.proofs.Doing.{HoldsOf, holds_of}
use Rattle.r4_content.proofs.EditLaws.{in_append, one_key}
use Rattle.r4_content.proofs.EditParts.{true_not_false}
use Rattle.r4_content.proofs.Gaining.{Gains, IsNew, gain_object}
use Rattle.r4_content.proofs.Losing.{Loses, object_now, rest_of, stat_value}
use Rattle.r4_content.proofs.Makers.{create_done, mkdir_done}
use Rattle.r4_content.proofs.MoveEdits.{CanMove, comes_to, moving, old_now}
use Rattle.r4_content.proofs.ObjectCounts.{KeepsStats, has_stat, keeps_all, stat_here, stat_minor}
use Rattle.r4_content.proofs.OneObject.{numbers_of, stat_was}
use Rattle.r4_content.proofs.Ranks.{in_body, same_stat}
use Rattle.r4_content.proofs.Refusals.{refused_edits}
use Rattle.r4_content.proofs.SameWay.{IsThere}
use Rattle.r4_content.proofs.Shapes.{entry_dir, stat_back}
use Rattle.r4_content.proofs.Staying.{lawful_stays}
use Rattle.r4_content.proofs.Widths.{each_append, each_byte}

abbrev pub as_number : Bool → ℕ
as_number c = if c then 1 else 0

-- ---- keys

stat_one : (o : Target) → IsObject o → minor_of (key_of_rank (stat_rank o)) ≡ 1
stat_one o is = ap minor_of (stat_back o is) ∙ omega arith

byte_four : (o : Target) (x : ℕ) → IsObject o → x < 2 ^ 64 → minor_of (key_of_rank (byte_rank o x)) ≡ 4
byte_four o x is lt = ap minor_of (byte_back o x is lt) ∙ omega arith

zero_minor : minor_of (key_of_rank 0) ≡ 0
unfolding key_of_rank
zero_minor = refl

stats_append : (rs qs : Intervals) → stats_in (rs ++ qs) ≡ stats_in rs + stats_in qs
stats_append [] qs = sym (omega arith)
stats_append (r ∷ rs) qs = let rest = stats_append rs qs in omega (arith, rest)

-- one interval
stats_one : (r : ℕ × ℕ) (minor : ℕ) → minor_of (key_of_rank r.0) ≡ minor → stats_in (r ∷ []) ≡ as_number (minor == 1)
stats_one r minor e = let same = ap (λ (x : ℕ). as_number (x == 1)) e in omega (arith, same)

-- ---- what keeps all objects but for one at most

module _ (m : Content) (s : ℕ) where
  abbrev R : ℕ → Attr → Type 0
  R k a = (k ≡ s) ⊎ (has_stat (at_key m k) ≡ true)

  no_cuts : (k : ℕ) → false ≡ true → minor_of (key_of_rank k) ≡ 1 → k ≡ s
  no_cuts k e one = absurd (true_not_false (sym e))

  k_both : (e f : Edits) → KeepsStats m s e → KeepsStats m s f → KeepsStats m s (and_also e f)
  k_both e f h g = record {
    puts = each_append R e.puts f.puts h.puts g.puts;
    cuts = λ k on one. elim (or_cases (is_in e.cuts k) (is_in f.cuts k) (sym (in_append e.cuts f.cuts k) ∙ on)) [ inl a ↦ h.cuts k a one | inr b ↦ g.cuts k b one ];
  }

  k_none : KeepsStats m s no_edits
  k_none = record { puts = tt; cuts = no_cuts }

  k_attr : (o : Object) (a : Attr) → R (stat_rank o.target) a → KeepsStats m s (set_attr o a)
  k_attr o a h = record { puts = (h, tt); cuts = no_cuts }

  was_stat : (o : Target) (a b : Attr) → HasStat m o a → R (stat_rank o) b
  was_stat o a b h = inr (ap has_stat h.1)

  k_entry : (d : Object) (n : List ℕ) (t : Target) → KeepsStats m s (set_entry d n t)
  k_entry d n t = record { puts = tt; cuts = no_cuts }

  k_zeros : (o : Object) (from to : ℕ) → KeepsStats m s (zero_body o from to)
  k_zeros o from to = record { puts = tt; cuts = no_cuts }

  k_bytes : (o : Object) (from : ℕ) (xs : List ℕ) → KeepsStats m s (set_body o from xs)
  k_bytes o from xs = record { puts = each_byte R (byte_rank o.target from) xs; cuts = no_cuts }

  first_of : (a b : Bool) → (a || b) ≡ true → b ≡ false → a ≡ true
  first_of true b e f = refl
  first_of false b e f = absurd (true_not_false (sym e ∙ f))

  one_cut : (k q : ℕ) → is_in ((k, k + 1) ∷ []) q ≡ true → q ≡ k
  one_cut k q e = eqb-true q k (sym (one_key q k) ∙ first_of (is_between k (k + 1) q) false e refl)

  k_key : (d : Object) (n : List ℕ) → d.target.oid.0 < 2 ^ 60 → All (λ x. x < 256) n → KeepsStats m s (cut_key (entry_rank d.target n))
  k_key d n small bytes = record {
    puts = tt;
    cuts = λ k on one.
        let zero = (entry_dir d.target n small bytes).1 in
        let same : minor_of (key_of_rank (entry_rank d.target n)) ≡ 1 = ap (λ (x : ℕ). minor_of (key_of_rank x)) (sym (one_cut (entry_rank d.target n) k on)) ∙ one in
        absurd (omega (arith, zero, same));
  }

  k_stat : (o : Object) → stat_rank o.target ≡ s → KeepsStats m s (cut_key (stat_rank o.target))
  k_stat o e = record { puts = tt; cuts = λ k on one. one_cut (stat_rank o.target) k on ∙ e }

  k_body : (o : Object) (from to : ℕ) → IsObject o.target → to ≤ 2 ^ 64 → KeepsStats m s (cut_body o from to)
  k_body o from to is le = record {
    puts = tt;
    cuts = λ k on one.
        let (x, same, low, high) = in_body o.target from to k (first_of (is_between (byte_rank o.target from) (byte_rank o.target to) k) false on refl) in
        let four = byte_four o.target x is (omega (arith, high, le)) in
        let two : minor_of (key_of_rank (byte_rank o.target x)) ≡ 1 = ap (λ (y : ℕ). minor_of (key_of_rank y)) (sym same) ∙ one in
        absurd (omega (arith, four, two));
  }

  k_gap : (o : Object) (n : ℕ) → KeepsStats m s (fill_gap o n)
  k_gap o n = by_size (nat_lt o.attr.size n)
    where
      by_size : (b : Bool) → KeepsStats m s (if b then zero_body o o.attr.size n else no_edits)
      by_size true = k_zeros o o.attr.size n
      by_size false = k_none

  k_resize : (o : Object) (n : ℕ) → IsThere m o → KeepsStats m s (resize o n)
  k_resize o n there = by_size (o.attr.size == n)
    where
      by_size : (b : Bool) → KeepsStats m s (if b then no_edits else set_attr o (sized o.attr n))
      by_size true = k_none
      by_size false = k_attr o (sized o.attr n) (was_stat o.target o.attr (sized o.attr n) (stat_was m o there))

  k_unnamed : (o : Object) → HasStat m o.target o.attr → o.attr.size ≤ 2 ^ 64 → stat_rank o.target ≡ s → KeepsStats m s (unnamed o)
  k_unnamed o stat size e = by_kind (is_dir o) (nat_le o.attr.nlink 1)
    where
      by_kind : (d b : Bool) → KeepsStats m s (if d then cut_key (stat_rank o.target) else if b then and_also (cut_key (stat_rank o.target)) (cut_body o 0 o.attr.size) else set_attr o (link_less o.attr))
      by_kind true b = k_stat o e
      by_kind false true = k_both (cut_key (stat_rank o.target)) (cut_body o 0 o.attr.size) (k_stat o e) (k_body o 0 o.attr.size stat.0 size)
      by_kind false false = k_attr o (link_less o.attr) (was_stat o.target o.attr (link_less o.attr) stat)

  k_parents : (from to : Object) (d : Bool) (a b : Attr) → HasStat m from.target a → HasStat m to.target b → KeepsStats m s (set_parents from to d)
  k_parents from to d a b one two = by_test (is_same from to)
    where
      by_test : (c : Bool) → KeepsStats m s (if c then set_attr to (entry_more d (entry_less d to.attr)) else and_also (set_attr from (entry_less d from.attr)) (set_attr to (entry_more d to.attr)))
      by_test true = k_attr to (entry_more d (entry_less d to.attr)) (was_stat to.target b (entry_more d (entry_less d to.attr)) two)
      by_test false = k_both (set_attr from (entry_less d from.attr)) (set_attr to (entry_more d to.attr)) (k_attr from (entry_less d from.attr) (was_stat from.target a (entry_less d from.attr) one))
          (k_attr to (entry_more d to.attr) (was_stat to.target b (entry_more d to.attr) two))

-- ---- stat keys that are cut

parents_cut : (from to : Object) (d : Bool) → stats_in (set_parents from to d).cuts ≡ 0
parents_cut from to d = by_test (is_same from to)
  where
    by_test : (c : Bool) → stats_in (if c then set_attr to (entry_more d (entry_less d to.attr)) else and_also (set_attr from (entry_less d from.attr)) (set_attr to (entry_more d to.attr))).cuts ≡ 0
    by_test true = refl
    by_test false = refl

entry_cut : (d : Object) (n : List ℕ) → d.target.oid.0 < 2 ^ 60 → All (λ x. x < 256) n → stats_in (cut_key (entry_rank d.target n)).cuts ≡ 0
entry_cut d n small bytes = stats_one (entry_rank d.target n, entry_rank d.target n + 1) 0 (entry_dir d.target n small bytes).1

abbrev some_there : Option Attr → ℕ
some_there o = as_number (is_some o)

unnamed_cut : (o : Object) → IsObject o.target → stats_in (unnamed o).cuts + some_there (rest_of o) ≡ 1
unnamed_cut o is = by_kind (is_dir o) (nat_le o.attr.nlink 1)
  where
    stat : stats_in ((stat_rank o.target, stat_rank o.target + 1) ∷ []) ≡ 1
    stat = stats_one (stat_rank o.target, stat_rank o.target + 1) 1 (stat_one o.target is)

    body : stats_in ((byte_rank o.target 0, byte_rank o.target o.attr.size) ∷ []) ≡ 0
    body = stats_one (byte_rank o.target 0, byte_rank o.target o.attr.size) 4 (byte_four o.target 0 is (lit< tt))

    by_kind : (d b : Bool) → stats_in (if d then cut_key (stat_rank o.target) else if b then and_also (cut_key (stat_rank o.target)) (cut_body o 0 o.attr.size) else set_attr o (link_less o.attr)).cuts
        + as_number (is_some (if d then None else if b then None else Some (link_less o.attr))) ≡ 1
    by_kind true b = omega (arith, stat)
    by_kind false true = let all = stats_append ((stat_rank o.target, stat_rank o.target + 1) ∷ []) ((byte_rank o.target 0, byte_rank o.target o.attr.size) ∷ []) in omega (arith, stat, body, all)
    by_kind false false = refl

gap_cut : (o : Object) (n : ℕ) → stats_in (fill_gap o n).cuts ≡ 0
gap_cut o n = by_size (nat_lt o.attr.size n)
  where
    by_size : (b : Bool) → stats_in (if b then zero_body o o.attr.size n else no_edits).cuts ≡ 0
    by_size true = refl
    by_size false = refl

resize_cut : (o : Object) (n : ℕ) → stats_in (resize o n).cuts ≡ 0
resize_cut o n = by_size (o.attr.size == n)
  where
    by_size : (b : Bool) → stats_in (if b then no_edits else set_attr o (sized o.attr n)).cuts ≡ 0
    by_size true = refl
    by_size false = refl

-- ---- each edit

stat_there_is : (m : Content) (t : Target) (a : Attr) → HasStat m t a → stat_here m (stat_rank t) ≡ 1
stat_there_is m t a h = ap (λ (o : Option Value). as_number (has_stat o)) h.1

rest_there : (o : Option Attr) → as_number (has_stat (stat_value o)) ≡ some_there o
rest_there None = refl
rest_there (Some a) = refl

module _ (limit : ℕ) (m : Content) (lt : limit < 2 ^ 64) (lawful : IsLawful limit m) (b : ℕ) where
  abbrev P : Edits → Type 0
  P e = HasBodies limit (edited e m) → objects_in (edited e m) + stats_in e.cuts ≡ objects_in m + b

  nothing_at_zero : (n : Content) → HasBodies limit n → stat_here n 0 ≡ 0
  nothing_at_zero n bodies = by_test (has_stat (at_key n 0)) refl
    where
      by_test : (c : Bool) → has_stat (at_key n 0) ≡ c → as_number c ≡ 0
      by_test false e = refl
      by_test true e = let one = stat_minor limit n 0 bodies e in let zero = zero_minor in absurd (omega (arith, one, zero))

  -- all objects stay
  all_stay : (e : Edits) → b ≡ 0 → KeepsStats m 0 e → stats_in e.cuts ≡ 0 → P e
  all_stay e none keeps cuts bodies =
      let all = keeps_all limit m 0 e lawful.bodies bodies keeps in
      let before = nothing_at_zero m lawful.bodies in
      let now = nothing_at_zero (edited e m) bodies in
      omega (arith, none, cuts, all, before, now)

  -- one may go
  one_goes : (e : Edits) (o : Object) → b ≡ 0 → HasStat m o.target o.attr → KeepsStats m (stat_rank o.target) e → at_key (edited e m) (stat_rank o.target) ≡ stat_value (rest_of o) → stats_in e.cuts + some_there (rest_of o) ≡ 1 → P e
  one_goes e o none stat keeps now cuts bodies =
      let all = keeps_all limit m (stat_rank o.target) e lawful.bodies bodies keeps in
      let before = stat_there_is m o.target o.attr stat in
      let later = ap (λ (v : Option Value). as_number (has_stat v)) now ∙ rest_there (rest_of o) in
      omega (arith, none, cuts, all, before, later)

  p_sets : (o : Object) (a : Attr) → b ≡ 0 → IsThere m o → P (set_attr o a)
  p_sets o a none there = all_stay (set_attr o a) none (k_attr m 0 o a (was_stat m 0 o.target o.attr a (stat_was m o there))) refl

  p_writes : (from : ℕ) (xs : List ℕ) (o : Object) → b ≡ 0 → IsThere m o → P (written o from xs)
  p_writes from xs o none there =
      let n = larger o.attr.size (from + length xs) in
      all_stay (written o from xs) none (k_both m 0 (fill_gap o from) (and_also (set_body o from xs) (resize o n)) (k_gap m 0 o from) (k_both m 0 (set_body o from xs) (resize o n) (k_bytes m 0 o from xs) (k_resize m 0 o n there)))
      (let one = stats_append (fill_gap o from).cuts ([] ++ (resize o n).cuts) in let two = gap_cut o from in let three = resize_cut o n in omega (arith, one, two, three))

  p_cuts : (n : ℕ) (o : Object) → b ≡ 0 → IsThere m o → P (truncated o n)
  p_cuts n o none there = all_stay (truncated o n) none (k_both m 0 (if nat_lt n o.attr.size then cut_body o n o.attr.size else fill_gap o n) (resize o n) (keeps (nat_lt n o.attr.size)) (k_resize m 0 o n there))
      (let one = stats_append (if nat_lt n o.attr.size then cut_body o n o.attr.size else fill_gap o n).cuts (resize o n).cuts in let two = cut (nat_lt n o.attr.size) refl in let three = resize_cut o n in omega (arith, one, two, three))
    where
      size : o.attr.size < 2 ^ 64
      size = (numbers_of limit m lt lawful).sizes o.target o.attr (stat_was m o there)

      keeps : (c : Bool) → KeepsStats m 0 (if c then cut_body o n o.attr.size else fill_gap o n)
      keeps true = k_body m 0 o n o.attr.size there.object (omega (arith, size))
      keeps false = k_gap m 0 o n

      cut : (c : Bool) → nat_lt n o.attr.size ≡ c → stats_in (if c then cut_body o n o.attr.size else fill_gap o n).cuts ≡ 0
      cut true e = let less = ltb-true n o.attr.size e in stats_one (byte_rank o.target n, byte_rank o.target o.attr.size) 4 (byte_four o.target n there.object (omega (arith, less, size)))
      cut false e = gap_cut o n

  p_loses : (dir o : Object) (n : List ℕ) → b ≡ 0 → Loses m dir o n → P (unname_in dir n o)
  p_loses dir o n none h =
      let s = stat_rank o.target in
      one_goes (unname_in dir n o) o none h.stat
      (k_both m s (cut_key (entry_rank dir.target n)) (and_also (set_attr dir (entry_less (is_dir o) dir.attr)) (unnamed o)) (k_key m s dir n h.small h.bytes)
      (k_both m s (set_attr dir (entry_less (is_dir o) dir.attr)) (unnamed o) (k_attr m s dir (entry_less (is_dir o) dir.attr) (was_stat m s dir.target dir.attr (entry_less (is_dir o) dir.attr) h.dir_stat)) (k_unnamed m s o h.stat h.size refl)))
      (object_now limit m dir o n lawful.objects lawful.bodies h)
      (let one = entry_cut dir n h.small h.bytes in let two = unnamed_cut o h.stat.0 in let all = stats_append (cut_key (entry_rank dir.target n)).cuts (unnamed o).cuts in omega (arith, one, two, all))

  p_links : (dir o : Object) (n : List ℕ) → b ≡ 0 → Gains m dir (linked o) n → HasStat m o.target o.attr → P (name_in dir n (linked o))
  p_links dir o n none h stat =
      all_stay (name_in dir n (linked o)) none (k_both m 0 (set_entry dir n o.target) (and_also (set_attr (linked o) (linked o).attr) (set_attr dir (entry_more (is_dir (linked o)) dir.attr))) (k_entry m 0 dir n o.target)
      (k_both m 0 (set_attr (linked o) (linked o).attr) (set_attr dir (entry_more (is_dir (linked o)) dir.attr)) (k_attr m 0 (linked o) (linked o).attr (was_stat m 0 o.target o.attr (linked o).attr stat))
      (k_attr m 0 dir (entry_more (is_dir (linked o)) dir.attr) (was_stat m 0 dir.target dir.attr (entry_more (is_dir (linked o)) dir.attr) h.dir_stat)))) refl

  p_makes : (dir : Object) (n : List ℕ) (o : Object) → b ≡ 1 → Gains m dir o n → IsNew m o → P (name_in dir n o)
  p_makes dir n o one h new bodies =
      let s = stat_rank o.target in
      let keeps = k_both m s (set_entry dir n o.target) (and_also (set_attr o o.attr) (set_attr dir (entry_more (is_dir o) dir.attr))) (k_entry m s dir n o.target)
      (k_both m s (set_attr o o.attr) (set_attr dir (entry_more (is_dir o) dir.attr)) (k_attr m s o o.attr (inl refl)) (k_attr m s dir (entry_more (is_dir o) dir.attr) (was_stat m s dir.target dir.attr (entry_more (is_dir o) dir.attr) h.dir_stat))) in
      let all = keeps_all limit m s (name_in dir n o) lawful.bodies bodies keeps in
      let unlike : stat_rank dir.target ≢ stat_rank o.target = λ e. new.unused dir.target dir.attr h.dir_stat (ap (λ (t : Target). t.oid.0) (same_stat dir.target o.target h.dir_stat.0 h.object e)) in
      let now : stat_here (edited (name_in dir n o) m) s ≡ 1 = ap (λ (v : Option Value). as_number (has_stat v)) (gain_object m dir o n h.dir_stat.0 h.object h.small h.bytes unlike) in
      let before = unused_there in
      omega (arith, one, all, now, before)
    where
      unused_there : stat_here m (stat_rank o.target) ≡ 0
      unused_there = by_value (at_key m (stat_rank o.target)) refl
        where
          by_value : (v : Option Value) → at_key m (stat_rank o.target) ≡ v → as_number (has_stat v) ≡ 0
          by_value None at = refl
          by_value (Some (Stat a)) at = absurd (new.unused o.target a (h.object, at) refl)
          by_value (Some (Entry x t)) at = refl
          by_value (Some (Byte x)) at = refl

  p_moves : (dir o : Object) (name new_name : List ℕ) (new : Object) (over : Bool) (old : Object) → b ≡ 0 → CanMove m dir o new name new_name over old → P (moving dir name o new new_name over old)
  p_moves dir o name new_name new true old none h =
      let s = stat_rank old.target in
      let y = h.onto refl in
      let to = comes_to o new true in
      one_goes (moving dir name o new new_name true old) old none y.stat
      (k_both m s (unnamed old) (moved dir name o to new_name) (k_unnamed m s old y.stat (h.size refl) refl)
      (k_both m s (cut_key (entry_rank dir.target name)) (and_also (set_entry to new_name o.target) (set_parents dir to (is_dir o))) (k_key m s dir name h.dir_small h.bytes)
      (k_both m s (set_entry to new_name o.target) (set_parents dir to (is_dir o)) (k_entry m s to new_name o.target) (k_parents m s dir to (is_dir o) dir.attr new.attr h.dir_stat h.new_stat))))
      (old_now limit m dir o new name new_name true old lawful.objects lawful.bodies h refl)
      (let one = unnamed_cut old y.stat.0 in
      let two = entry_cut dir name h.dir_small h.bytes in
      let three = parents_cut dir to (is_dir o) in
      let all = stats_append (unnamed old).cuts (moved dir name o to new_name).cuts in
      let rest = stats_append (cut_key (entry_rank dir.target name)).cuts (set_parents dir to (is_dir o)).cuts in
      omega (arith, one, two, three, all, rest))
  p_moves dir o name new_name new false old none h =
      let to = comes_to o new false in
      all_stay (moving dir name o new new_name false old) none
      (k_both m 0 (cut_key (entry_rank dir.target name)) (and_also (set_entry to new_name o.target) (set_parents dir to (is_dir o))) (k_key m 0 dir name h.dir_small h.bytes)
      (k_both m 0 (set_entry to new_name o.target) (set_parents dir to (is_dir o)) (k_entry m 0 to new_name o.target) (k_parents m 0 dir to (is_dir o) dir.attr new.attr h.dir_stat h.new_stat)))
      (let two = entry_cut dir name h.dir_small h.bytes in
      let three = parents_cut dir to (is_dir o) in
      let rest = stats_append (cut_key (entry_rank dir.target name)).cuts (set_parents dir to (is_dir o)).cuts in
      omega (arith, two, three, rest))

-- ---- the commands

all_count : (limit : ℕ) (m : Content) (lt : limit < 2 ^ 64) (lawful : IsLawful limit m) (c : Command) → HoldsOf limit m (P limit m lt lawful (as_number (makes_object c))) c
all_count limit m lt lawful (Create path oid) = λ dir n gains new. p_makes limit m lt lawful 1 dir n (made_in dir n oid new_file) refl gains new
all_count limit m lt lawful (Mkdir path oid) = λ dir n gains new. p_makes limit m lt lawful 1 dir n (made_in dir n oid new_directory) refl gains new
all_count limit m lt lawful (Write path from xs) = λ o there file le. p_writes limit m lt lawful 0 from xs o refl there
all_count limit m lt lawful (Fill path from len x) = λ o there file le. p_writes limit m lt lawful 0 from (replicate len x) o refl there
all_count limit m lt lawful (Truncate path n) = λ o there file le. p_cuts limit m lt lawful 0 n o refl there
all_count limit m lt lawful (Link from to) = λ dir o n gains stat file. p_links limit m lt lawful 0 dir o n refl gains stat
all_count limit m lt lawful (Unlink path) = λ dir o n loses. p_loses limit m lt lawful 0 dir o n refl loses
all_count limit m lt lawful (Rmdir path) = λ dir o n loses. p_loses limit m lt lawful 0 dir o n refl loses
all_count limit m lt lawful (Rename from to) = λ dir o name new_name r path e paths over old h few. p_moves limit m lt lawful 0 dir o name new_name r.here over old refl h
all_count limit m lt lawful (Chmod path mode) = λ o there. p_sets limit m lt lawful 0 o (record o.attr { mode = o.attr.mode / 4096 * 4096 + mode % 4096 }) refl there
all_count limit m lt lawful (Chown path uid gid) = λ o there. p_sets limit m lt lawful 0 o (record o.attr { uid = uid; gid = gid }) refl there
all_count limit m lt lawful (Times path atime mtime ctime) = λ o there. p_sets limit m lt lawful 0 o (record o.attr { atime = atime; mtime = mtime; ctime = ctime }) refl there
all_count limit m lt lawful (Read path from len) = tt
all_count limit m lt lawful (Ask path) = tt
all_count limit m lt lawful (Names path) = tt
all_count limit m lt lawful Begin = tt
all_count limit m lt lawful End = tt
all_count limit m lt lawful Commit = tt

maker_counts : (limit : ℕ) (c : Command) (m : Content) (lt : limit < 2 ^ 64) (lawful : IsLawful limit m) → HasBytePaths c → NamesUnused m c → makes_object c ≡ true → reply limit c m ≡ Okay
    → P limit m lt lawful 1 (ending (course limit c) (of_content m)).edits
maker_counts limit (Create path oid) m lt lawful bytes unused is okay =
    create_done limit path oid m lt lawful bytes unused (P limit m lt lawful 1) (λ dir n gains new. p_makes limit m lt lawful 1 dir n (made_in dir n oid new_file) refl gains new) okay
maker_counts limit (Mkdir path oid) m lt lawful bytes unused is okay =
    mkdir_done limit path oid m lt lawful bytes unused (P limit m lt lawful 1) (λ dir n gains new. p_makes limit m lt lawful 1 dir n (made_in dir n oid new_directory) refl gains new) okay
maker_counts limit (Write path from xs) m lt lawful bytes unused is okay = absurd (true_not_false (sym is))
maker_counts limit (Fill path from len x) m lt lawful bytes unused is okay = absurd (true_not_false (sym is))
maker_counts limit (Truncate path n) m lt lawful bytes unused is okay = absurd (true_not_false (sym is))
maker_counts limit (Read path from len) m lt lawful bytes unused is okay = absurd (true_not_false (sym is))
maker_counts limit (Ask path) m lt lawful bytes unused is okay = absurd (true_not_false (sym is))
maker_counts limit (Names path) m lt lawful bytes unused is okay = absurd (true_not_false (sym is))
maker_counts limit (Link from to) m lt lawful bytes unused is okay = absurd (true_not_false (sym is))
maker_counts limit (Unlink path) m lt lawful bytes unused is okay = absurd (true_not_false (sym is))
maker_counts limit (Rmdir path) m lt lawful bytes unused is okay = absurd (true_not_false (sym is))
maker_counts limit (Rename from to) m lt lawful bytes unused is okay = absurd (true_not_false (sym is))
maker_counts limit (Chmod path mode) m lt lawful bytes unused is okay = absurd (true_not_false (sym is))
maker_counts limit (Chown path uid gid) m lt lawful bytes unused is okay = absurd (true_not_false (sym is))
maker_counts limit (Times path atime mtime ctime) m lt lawful bytes unused is okay = absurd (true_not_false (sym is))
maker_counts limit Begin m lt lawful bytes unused is okay = absurd (true_not_false (sym is))
maker_counts limit End m lt lawful bytes unused is okay = absurd (true_not_false (sym is))
maker_counts limit Commit m lt lawful bytes unused is okay = absurd (true_not_false (sym is))

okay_is : (r : Reply) → is_okay r ≡ true → r ≡ Okay
okay_is Okay e = refl
okay_is _ e = absurd (true_not_false (sym e))

okay_too : (r : Reply) → r ≡ Okay → is_okay r ≡ true
okay_too r e = ap is_okay e

pub objects_after : (limit : ℕ) (c : Command) (m : Content) → limit < 2 ^ 64 → IsLawful limit m → HasBytePaths c → NamesUnused m c
    → objects_in (after limit c m) + gone limit c m ≡ objects_in m + born limit c m
objects_after limit c m lt lawful bytes unused = by_okay (is_okay (reply limit c m)) refl
  where
    and_true : (p q : Bool) → q ≡ true → as_number (p && q) ≡ as_number p
    and_true true q e = ap as_number e
    and_true false q e = refl

    and_false : (p q : Bool) → q ≡ false → as_number (p && q) ≡ 0
    and_false true q e = ap as_number e
    and_false false q e = refl

    stays : HasBodies limit (after limit c m)
    stays = (lawful_stays limit c m lt lawful bytes unused).1

    kind : (b : Bool) → makes_object c ≡ b → reply limit c m ≡ Okay → objects_in (after limit c m) + gone limit c m ≡ objects_in m + as_number (makes_object c)
    kind true is okay = maker_counts limit c m lt lawful bytes unused is okay stays ∙ ap (λ (x : ℕ). objects_in m + x) (sym (ap as_number is))
    kind false is okay =
        holds_of limit c m lt lawful bytes unused (P limit m lt lawful (as_number (makes_object c))) (λ bodies. ap (λ (x : ℕ). objects_in m + x) (sym (ap as_number is))) (all_count limit m lt lawful c) stays

    by_okay : (b : Bool) → is_okay (reply limit c m) ≡ b → objects_in (after limit c m) + gone limit c m ≡ objects_in m + born limit c m
    by_okay true e = kind (makes_object c) refl (okay_is (reply limit c m) e) ∙ ap (λ (x : ℕ). objects_in m + x) (sym (and_true (makes_object c) (is_okay (reply limit c m)) e))
    by_okay false e =
        let none = refused_edits limit c m (λ okay. true_not_false (sym (okay_too (reply limit c m) okay) ∙ e)) in
        subst (λ (x : Edits). objects_in (edited x m) + stats_in x.cuts ≡ objects_in m + born limit c m) (sym none)
        (ap (λ (x : ℕ). objects_in m + x) (sym (and_false (makes_object c) (is_okay (reply limit c m)) e)))
