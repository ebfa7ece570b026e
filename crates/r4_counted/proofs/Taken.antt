-- How many stat keys the edits of a command take away: one at most.
use Rattle.std.specs.Prelude.{◌≡◌, ℕ, ◌+◌, ◌^◌, ◌<◌, ◌≤◌, List, [], ◌∷◌, ◌++◌, Bool, true, false, ◌==◌, nat_lt}
use Rattle.std.specs.Prelude.{nat_le, length, if◌then◌else◌}
use Rattle.std.proofs.Common.{arith, lit<, refl, sym, ap, ◌∙◌}
use Rattle.r4_base.proofs.Visible.{byte_back}
use Rattle.r4_base.specs.Key.{key_of_rank, minor_of}
use Rattle.r4_base.specs.Volume.{IsObject, byte_rank, stat_rank}
use Rattle.r4_base.specs.declared.items.Target.{Target}
use Rattle.r4_content.specs.Bodies.{fill_gap, larger, resize, truncated, written}
use Rattle.r4_content.specs.Counts.{stats_in}
use Rattle.r4_content.specs.Edited.{Edits, Intervals, Pairs, and_also, no_edits}
use Rattle.r4_content.specs.Entries.{moved, set_parents, unname_in, without}
use Rattle.r4_content.specs.Fields.{HasBytePaths}
use Rattle.r4_content.specs.Objects.{Object, cut_body, cut_key, entry_less, entry_more, entry_rank, is_dir, is_same}
use Rattle.r4_content.specs.Objects.{link_less, set_attr, set_entry, sized, unnamed, zero_body}
use Rattle.r4_content.specs.declared.command.Command.{Command}
use Rattle.r4_content.proofs.Found.{small_object}
use Rattle.r4_content.proofs.Shapes.{entry_dir, stat_back}
use Rattle.r4_suited.specs.r4_reach.Touched.{edits_on}
use Rattle.r4_suited.specs.Suited.{AreLawfulSeen}
use Rattle.r4_suited.proofs.Few.{IsHere, IsName}
use Rattle.r4_suited.proofs.Walked.{HoldsOfEdits, edits_hold}

-- ---- intervals

stats_append : (rs qs : Intervals) → stats_in (rs ++ qs) ≡ stats_in rs + stats_in qs
stats_append [] qs = sym (omega arith)
stats_append (r ∷ rs) qs = let rest = stats_append rs qs in omega (arith, rest)

abbrev as_number : Bool → ℕ
as_number c = if c then 1 else 0

-- one interval, with the minor of its first key
stats_one : (r : ℕ × ℕ) (minor : ℕ) → minor_of (key_of_rank r.0) ≡ minor → stats_in (r ∷ []) ≡ as_number (minor == 1)
stats_one r minor e = let same = ap (λ (x : ℕ). as_number (x == 1)) e in omega (arith, same)

both : (e f : Edits) → stats_in (and_also e f).cuts ≡ stats_in e.cuts + stats_in f.cuts
both e f = stats_append e.cuts f.cuts

-- ---- the parts

stat_one : (o : Target) → IsObject o → stats_in (cut_key (stat_rank o)).cuts ≡ 1
stat_one o is = stats_one (stat_rank o, stat_rank o + 1) 1 (ap minor_of (stat_back o is) ∙ omega arith)

body_none : (o : Object) (from to : ℕ) → IsObject o.target → from < 2 ^ 64 → stats_in (cut_body o from to).cuts ≡ 0
body_none o from to is lt =
    stats_one (byte_rank o.target from, byte_rank o.target to) 4
    (ap minor_of (byte_back o.target from is lt) ∙ omega arith)

entry_none : (s : Pairs) (d : Object) (n : List ℕ) → IsHere s d → IsName n
    → stats_in (cut_key (entry_rank d.target n)).cuts ≡ 0
entry_none s d n here name =
    stats_one (entry_rank d.target n, entry_rank d.target n + 1) 0
    (entry_dir d.target n (small_object d.target here.may).1 name.0).1

parents_none : (from to : Object) (d : Bool) → stats_in (set_parents from to d).cuts ≡ 0
parents_none from to d = by_test (is_same from to)
  where
    by_test : (c : Bool) → stats_in (if c then set_attr to (entry_more d (entry_less d to.attr))
        else and_also (set_attr from (entry_less d from.attr)) (set_attr to (entry_more d to.attr))).cuts ≡ 0
    by_test true = refl
    by_test false = refl

gap_none : (o : Object) (n : ℕ) → stats_in (fill_gap o n).cuts ≡ 0
gap_none o n = by_size (nat_lt o.attr.size n)
  where
    by_size : (b : Bool) → stats_in (if b then zero_body o o.attr.size n else no_edits).cuts ≡ 0
    by_size true = refl
    by_size false = refl

resize_none : (o : Object) (n : ℕ) → stats_in (resize o n).cuts ≡ 0
resize_none o n = by_size (o.attr.size == n)
  where
    by_size : (b : Bool) → stats_in (if b then no_edits else set_attr o (sized o.attr n)).cuts ≡ 0
    by_size true = refl
    by_size false = refl

-- ---- the edits of commands

unnamed_one : (o : Object) → IsObject o.target → stats_in (unnamed o).cuts ≤ 1
unnamed_one o is = by_kind (is_dir o) (nat_le o.attr.nlink 1)
  where
    by_kind : (d b : Bool) → stats_in (if d then cut_key (stat_rank o.target)
        else if b then and_also (cut_key (stat_rank o.target)) (cut_body o 0 o.attr.size)
        else set_attr o (link_less o.attr)).cuts ≤ 1
    by_kind true b = let one = stat_one o.target is in omega (arith, one)
    by_kind false true =
        let all = both (cut_key (stat_rank o.target)) (cut_body o 0 o.attr.size) in
        let one = stat_one o.target is in
        let none = body_none o 0 o.attr.size is (lit< tt) in
        omega (arith, all, one, none)
    by_kind false false = omega arith

unname_one : (s : Pairs) (dir : Object) (n : List ℕ) (o : Object) → IsHere s dir → IsName n → IsHere s o
    → stats_in (unname_in dir n o).cuts ≤ 1
unname_one s dir n o here name there =
    let all = both (cut_key (entry_rank dir.target n))
    (and_also (set_attr dir (entry_less (is_dir o) dir.attr)) (unnamed o)) in
    let none = entry_none s dir n here name in
    let one = unnamed_one o there.object in
    omega (arith, all, none, one)

moved_none : (s : Pairs) (dir : Object) (n : List ℕ) (o to : Object) (new_name : List ℕ) → IsHere s dir → IsName n
    → stats_in (moved dir n o to new_name).cuts ≡ 0
moved_none s dir n o to new_name here name =
    let all = both (cut_key (entry_rank dir.target n))
    (and_also (set_entry to new_name o.target) (set_parents dir to (is_dir o))) in
    let none = entry_none s dir n here name in
    let rest = parents_none dir to (is_dir o) in
    omega (arith, all, none, rest)

written_none : (o : Object) (from : ℕ) (xs : List ℕ) → stats_in (written o from xs).cuts ≡ 0
written_none o from xs =
    let n = larger o.attr.size (from + length xs) in
    let all = stats_append (fill_gap o from).cuts ([] ++ (resize o n).cuts) in
    let gap = gap_none o from in
    let size = resize_none o n in
    omega (arith, all, gap, size)

truncated_none : (o : Object) (n : ℕ) → IsObject o.target → n < 2 ^ 64 → stats_in (truncated o n).cuts ≡ 0
truncated_none o n is lt =
    let all = both (if nat_lt n o.attr.size then cut_body o n o.attr.size else fill_gap o n) (resize o n) in
    let first = by_size (nat_lt n o.attr.size) in
    let size = resize_none o n in
    omega (arith, all, first, size)
  where
    by_size : (b : Bool) → stats_in (if b then cut_body o n o.attr.size else fill_gap o n).cuts ≡ 0
    by_size true = body_none o n o.attr.size is lt
    by_size false = gap_none o n

-- ---- all commands

none_taken : (e : Edits) → stats_in e.cuts ≡ 0 → stats_in e.cuts ≤ 1
none_taken e none = omega (arith, none)

each_takes_one : (s : Pairs) (S : ℕ → Type 0) → HoldsOfEdits s S (λ e. stats_in e.cuts ≤ 1)
each_takes_one s S = record {
  none = omega arith;
  made = λ dir n oid a f name kind e. omega arith;
  linked = λ dir n o f name fo. omega arith;
  attrs = λ o a f kind. omega arith;
  writes = λ e w at.
      none_taken e (ap (λ (x : Edits). stats_in x.cuts) w.is ∙ written_none w.file w.from w.bytes);
  resizes = λ e w at.
      none_taken e (ap (λ (x : Edits). stats_in x.cuts) w.is
      ∙ truncated_none w.file w.size w.here.object (let low = w.fits in omega (arith, low)));
  unnamed = λ dir n o f name fo. unname_one s dir n o f.here name fo.here;
  moved = λ dir n o to new_name f name ft new. none_taken (moved dir n o to new_name)
      (moved_none s dir n o to new_name f.here name);
  onto = λ dir n o to new_name old f name ft fo new.
      let all = both (unnamed old) (moved dir n o (without to old) new_name) in
      let one = unnamed_one old fo.here.object in
      let rest = moved_none s dir n o (without to old) new_name f.here name in
      omega (arith, all, one, rest);
}

pub takes_one : (c : Command) (s : Pairs) → AreLawfulSeen c s → HasBytePaths c → stats_in (edits_on c s).cuts ≤ 1
takes_one c s lawful bytes = edits_hold c s (λ e. stats_in e.cuts ≤ 1) (each_takes_one s _) lawful bytes
