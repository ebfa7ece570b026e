-- What is written is read.
use Rattle.std.specs.Prelude.{◌≡◌, ◌≢◌, ℕ, ◌+◌, ◌^◌, ◌<◌, ◌≤◌, List, [], ◌∷◌, Bool, true, false, ◌==◌, cond, nat_lt, length, replicate, if◌then◌else◌}
use Rattle.std.proofs.Common.{arith, refl, sym, ap, ◌∙◌}
use Rattle.std.proofs.lemmas.Bool.{eqb-true, lt-ltb}
use Rattle.std.proofs.lemmas.Grind.{common_steps}
use Rattle.std.proofs.lemmas.List.{length-replicate}
use Rattle.std.specs.FinMap.{find}
use Rattle.std.specs.Ordering.{nat_cmp}
use Rattle.r4_base.specs.Value.{Value, Content, at_key}
use Rattle.r4_base.specs.Volume.{byte_rank, stat_rank}
use Rattle.r4_base.specs.declared.items.Attr.{Attr}
use Rattle.r4_content.specs.Bodies.{bytes_in, fill_gap, larger, read_in, resize, smaller, truncated, written}
use Rattle.r4_content.specs.Course.{Course, Scan, Answer, Change, Ending, ending, of_content}
use Rattle.r4_content.specs.Edited.{Edits, and_also, edited, is_between, is_in, put_keys, pairs_between}
use Rattle.r4_content.specs.Fields.{HasBytes, HasNumbers}
use Rattle.r4_content.specs.Meaning.{after, course, is_path, named, reply}
use Rattle.r4_content.specs.Objects.{Object, byte_pairs, cut_body, is_dir, set_body}
use Rattle.r4_content.specs.Ways.{Place, to_file, to_object}
use Rattle.r4_content.specs.declared.command.Command.TheVariants.{Write, Fill, Truncate, Read, Stat as StatCommand}
use Rattle.r4_content.specs.declared.reply.Reply.TheVariants.{Okay, Data, Isdir, Toobig, Attr as AttrReply, Name as NameReply}
use Rattle.r4_content.proofs.BytePairs.{bytes_of_pairs, keys_in, put_found, read_pairs}
use Rattle.r4_content.proofs.EditLaws.{at_edited}
use Rattle.r4_content.proofs.EditParts.{IsOff, edited_first, edited_over, edited_second, off_both, put_first}
use Rattle.r4_content.proofs.FileEdits.{EditsFile, file_again, off_body, off_cuts, off_gap, off_resize, resized, resized_size, resized_stat, with_size, with_size_kind}
use Rattle.r4_content.proofs.Found.{Found, There, NotDirectory, NotThere, answered, ends_at, found, stat_there, way_ends}
use Rattle.r4_content.proofs.Ranks.{byte_after, in_body, same_itself, stat_not_byte}
use Rattle.r4_content.proofs.SameWay.{IsThere, found_object, place_with, with_attrs}

-- ---- a command that was done came to its object

pub okay_there : (m : Content) (next : Place → Course) (f : Found) → (ends_at m next f).reply ≡ Okay → (p : Place) × (f ≡ There p) × ((ending (next p) (of_content m)).reply ≡ Okay)
okay_there m next (There p) e = (p, refl, e)
okay_there m next NotDirectory e = absurd cc
okay_there m next NotThere e = absurd cc

pub okay_named : (m : Content) (path : List (List ℕ)) (c : Course) → (ending (named path c) (of_content m)).reply ≡ Okay → is_path path ≡ true
okay_named m path c e = split (is_path path) e
  where
    split : (b : Bool) → (ending (if b then c else Answer NameReply) (of_content m)).reply ≡ Okay → b ≡ true
    split true h = refl
    split false h = absurd cc

pub named_ends : (m : Content) (path : List (List ℕ)) (c : Course) → is_path path ≡ true → ending (named path c) (of_content m) ≡ ending c (of_content m)
named_ends m path c e = ap (λ (b : Bool). ending (if b then c else Answer NameReply) (of_content m)) e

-- to the place that was found
pub goes_on : (m : Content) (path : List (List ℕ)) (next : Place → Course) (p : Place) → is_path path ≡ true → found m path ≡ There p → ending (named path (to_object path next)) (of_content m) ≡ ending (next p) (of_content m)
goes_on m path next p is at = named_ends m path (to_object path next) is ∙ way_ends m path next ∙ ap (ends_at m next) at

-- a command on a file came to a file, and the limit holds
pub record CameTo (limit : ℕ) (m : Content) (path : List (List ℕ)) (end : ℕ) (next : Object → Course) : Type 0 where
  pub place : Place
  pub name : is_path path ≡ true
  pub at : found m path ≡ There place
  pub file : is_dir place.here ≡ false
  pub small : end ≤ limit
  pub ends : ending (named path (to_file limit path end next)) (of_content m) ≡ ending (next place.here) (of_content m)

pub came_to : (limit : ℕ) (m : Content) (path : List (List ℕ)) (end : ℕ) (next : Object → Course) → (ending (named path (to_file limit path end next)) (of_content m)).reply ≡ Okay → CameTo limit m path end next
unfolding to_file
came_to limit m path end next e =
    let on : Place → Course = λ (p : Place). if is_dir p.here then Answer Isdir else if nat_lt limit end then Answer Toobig else next p.here in
    let is = okay_named m path (to_object path on) e in
    let way = named_ends m path (to_object path on) is ∙ way_ends m path on in
    let (p, at, okay) = okay_there m on (found m path) (sym (ap (λ (x : Ending). x.reply) way) ∙ e) in
    let (file, small) = told p (is_dir p.here) (nat_lt limit end) okay in
    record {
      place = p;
      name = is;
      at = at;
      file = file;
      small = not_less small;
      ends = goes_on m path on p is at
          ∙ ap (λ (b : Bool). ending (if b then Answer Isdir else if nat_lt limit end then Answer Toobig else next p.here) (of_content m)) file
          ∙ ap (λ (b : Bool). ending (if b then Answer Toobig else next p.here) (of_content m)) small;
    }
  where
    told : (p : Place) (a b : Bool) → (ending (if a then Answer Isdir else if b then Answer Toobig else next p.here) (of_content m)).reply ≡ Okay → (a ≡ false) × (b ≡ false)
    told p true b h = absurd cc
    told p false true h = absurd cc
    told p false false h = (refl, refl)

    not_less : nat_lt limit end ≡ false → end ≤ limit
    not_less h = grind (arith, common_steps)

-- ---- reading

smaller_is : (a b : ℕ) → a ≤ b → smaller a b ≡ a
smaller_is a b le = grind (arith, common_steps)

larger_is : (a b : ℕ) → (a ≤ larger a b) × (b ≤ larger a b)
larger_is a b = (grind (arith, common_steps), grind (arith, common_steps))

no_bytes : (xs : List ℕ) → (length xs == 0) ≡ true → xs ≡ []
no_bytes [] e = refl
no_bytes (x ∷ xs) e = absurd (omega (arith, eqb-true _ _ e))

read_ends : (limit : ℕ) (m : Content) (path : List (List ℕ)) (p : Place) (from len : ℕ) → is_path path ≡ true → found m path ≡ There p → is_dir p.here ≡ false
    → ending (course limit (Read path from len)) (of_content m) ≡ ending (read_in p.here from len) (of_content m)
read_ends limit m path p from len is at file =
    goes_on m path (λ p. if is_dir p.here then Answer Isdir else read_in p.here from len) p is at
    ∙ ap (λ (b : Bool). ending (if b then Answer Isdir else read_in p.here from len) (of_content m)) file

-- no bytes are asked for
none_read : (o : Object) (from : ℕ) (m : Content) → ending (read_in o from 0) (of_content m) ≡ answered (Data [])
none_read o from m = ap (λ (b : Bool). ending (if b then Scan (byte_rank o.target from) (byte_rank o.target (smaller (from + 0) o.attr.size)) (λ es. Answer (Data (bytes_in es))) else Answer (Data [])) (of_content m)) (not_above from o.attr.size)
  where
    not_above : (a b : ℕ) → nat_lt a (smaller (a + 0) b) ≡ false
    not_above a b = grind (arith, common_steps)

-- all bytes that are asked for are there
some_read : (o : Object) (from : ℕ) (xs : List ℕ) (m : Content) → 0 < length xs → from + length xs ≤ o.attr.size
    → ((k : ℕ) → is_between (byte_rank o.target from) (byte_rank o.target from + length xs) k ≡ true → at_key m k ≡ find nat_cmp k (byte_pairs (byte_rank o.target from) xs))
    → ending (read_in o from (length xs)) (of_content m) ≡ answered (Data xs)
some_read o from xs m some le bytes =
    let to = smaller (from + length xs) o.attr.size in
    let all : to ≡ from + length xs = smaller_is (from + length xs) o.attr.size le in
    ap (λ (b : Bool). ending (if b then Scan (byte_rank o.target from) (byte_rank o.target to) (λ es. Answer (Data (bytes_in es))) else Answer (Data [])) (of_content m)) (lt-ltb from to (omega arith))
    ∙ ap (λ (end : ℕ). answered (Data (bytes_in (pairs_between m (byte_rank o.target from) end)))) (ap (byte_rank o.target) all ∙ byte_after o.target from (length xs))
    ∙ ap (λ (es : List (ℕ × Value)). answered (Data (bytes_in es))) (read_pairs m (byte_rank o.target from) xs bytes) ∙ ap (λ (ys : List ℕ). answered (Data ys)) (bytes_of_pairs (byte_rank o.target from) xs)

-- ---- writing

module _ (m : Content) (o : Object) (there : IsThere m o) (from : ℕ) (xs : List ℕ) (fits : from + length xs ≤ 2 ^ 64) where
  last : ℕ
  last = larger o.attr.size (from + length xs)

  stat_elsewhere : (x : ℕ) → x < 2 ^ 64 → stat_rank o.target ≢ byte_rank o.target x
  stat_elsewhere x lt is = stat_not_byte o.target o.target x there.object there.object lt is

  pub write_edits : EditsFile m o (larger o.attr.size (from + length xs)) (written o from xs)
  write_edits = record {
    elsewhere = λ k h. off_both (fill_gap o from) (and_also (set_body o from xs) (resize o (larger o.attr.size (from + length xs)))) k (off_gap o from k (omega arith) h.bytes)
        (off_both (set_body o from xs) (resize o (larger o.attr.size (from + length xs))) k (off_body o from xs k fits h.bytes) (off_resize o (larger o.attr.size (from + length xs)) k h.stat));
    size = edited_second (fill_gap o from) (and_also (set_body o from xs) (resize o (larger o.attr.size (from + length xs)))) m (stat_rank o.target) (off_gap o from (stat_rank o.target) (omega arith) stat_elsewhere)
        ∙ edited_second (set_body o from xs) (resize o (larger o.attr.size (from + length xs))) m (stat_rank o.target) (off_body o from xs (stat_rank o.target) fits stat_elsewhere)
        ∙ resized_stat o (larger o.attr.size (from + length xs)) m (stat_there m o.target o.attr there.stat).1;
  }

  pub written_bytes : (k : ℕ) → is_between (byte_rank o.target from) (byte_rank o.target from + length xs) k ≡ true → at_key (edited (written o from xs) m) k ≡ find nat_cmp k (byte_pairs (byte_rank o.target from) xs)
  written_bytes k in_it =
      let body = set_body o from xs in
      let size = resize o (larger o.attr.size (from + length xs)) in
      let put : is_in (put_keys body.puts) k ≡ true = keys_in (byte_rank o.target from) xs k ∙ in_it in
      let (x, is, low, high) = in_body o.target from (from + length xs) k (ap (λ (end : ℕ). is_between (byte_rank o.target from) end k) (byte_after o.target from (length xs)) ∙ in_it) in
      let off = off_resize o (larger o.attr.size (from + length xs)) k (λ e. stat_not_byte o.target o.target x there.object there.object (omega arith) (sym e ∙ is)) in
      edited_over (fill_gap o from) (and_also body size) m k (put_first body size k put) ∙ edited_first body size m k off ∙ at_edited body m k ∙ put_found (byte_rank o.target from) xs k (at_key m k)
      ∙ ap (λ (b : Bool). cond b (find nat_cmp k (byte_pairs (byte_rank o.target from) xs)) (at_key m k)) in_it

-- ---- what is written is read

-- what a file is after a change of its size
abbrev file_with : Object → ℕ → Object
file_with o n = record { target = o.target; attr = resized n o.attr }

with_size_here : (o : Object) (n : ℕ) → with_attrs (with_size o.target n) o ≡ file_with o n
with_size_here o n = ap (λ (b : Bool). let p : Object = record { target = o.target; attr = if b then resized n o.attr else o.attr } in p) (same_itself o.target)

pub positive : (n : ℕ) → (n == 0) ≡ false → 0 < n
positive n e = grind (arith, common_steps)

abbrev pub write_on : ℕ → List ℕ → Object → Course
write_on from xs o = if length xs == 0 then Answer Okay else Change (written o from xs)

pub write_read : (limit : ℕ) (path : List (List ℕ)) (from : ℕ) (xs : List ℕ) (m : Content) → HasNumbers m → limit ≤ 2 ^ 64 → HasBytes path → reply limit (Write path from xs) m ≡ Okay
    → reply limit (Read path from (length xs)) (after limit (Write path from xs) m) ≡ Data xs
write_read limit path from xs m numbers le bytes okay =
    by_length (length xs == 0) refl
  where
    by_length : (b : Bool) → (length xs == 0) ≡ b → reply limit (Read path from (length xs)) (after limit (Write path from xs) m) ≡ Data xs
    by_length true none =
        let c = came_to limit m path (from + length xs) (write_on from xs) okay in
        let o = c.place.here in
        let done : ending (course limit (Write path from xs)) (of_content m) ≡ answered Okay = c.ends ∙ ap (λ (b : Bool). ending (if b then Answer Okay else Change (written o from xs)) (of_content m)) none in
        let read = read_ends limit m path c.place from (length xs) c.name c.at c.file ∙ ap (λ (len : ℕ). ending (read_in o from len) (of_content m)) (eqb-true (length xs) 0 none) ∙ none_read o from m in
        ap (λ (x : Ending). reply limit (Read path from (length xs)) (edited x.edits m)) done ∙ ap (λ (x : Ending). x.reply) read ∙ ap (λ (ys : List ℕ). Data ys) (sym (no_bytes xs none))
    by_length false some =
        let c = came_to limit m path (from + length xs) (write_on from xs) okay in
        let o = c.place.here in
        let n = larger o.attr.size (from + length xs) in
        let made = edited (written o from xs) m in
        let done : ending (course limit (Write path from xs)) (of_content m) ≡ record { edits = written o from xs; reply = Okay }
        = c.ends ∙ ap (λ (b : Bool). ending (if b then Answer Okay else Change (written o from xs)) (of_content m)) some in
        let there = found_object m numbers.orderings path c.place c.at in
        let small = c.small in
        let fits : from + length xs ≤ 2 ^ 64 = omega arith in
        let again = file_again m path c.place n (written o from xs) numbers bytes c.at there (write_edits m o there from xs fits) in
        let p = place_with (with_size o.target n) c.place in
        let file : is_dir p.here ≡ false = with_size_kind o.target n o.target o.attr ∙ c.file in
        let size : p.here.attr.size ≡ n = ap (λ (x : Object). x.attr.size) (with_size_here o n) ∙ resized_size n o.attr in
        let enough = (larger_is o.attr.size (from + length xs)).1 in
        let read = read_ends limit made path p from (length xs) c.name again file ∙ some_read p.here from xs made (positive (length xs) some) (omega arith) (written_bytes m o there from xs fits) in
        ap (λ (x : Ending). reply limit (Read path from (length xs)) (edited x.edits m)) done ∙ ap (λ (x : Ending). x.reply) read

-- `fill` writes the same byte again and again
pub fill_read : (limit : ℕ) (path : List (List ℕ)) (from len x : ℕ) (m : Content) → HasNumbers m → limit ≤ 2 ^ 64 → HasBytes path → reply limit (Fill path from len x) m ≡ Okay
    → reply limit (Read path from len) (after limit (Fill path from len x) m) ≡ Data (replicate len x)
fill_read limit path from len x m numbers le bytes okay =
    ap (λ (n : ℕ). reply limit (Read path from n) (after limit (Fill path from len x) m)) (sym (length-replicate len x)) ∙ write_read limit path from (replicate len x) m numbers le bytes okay

-- ---- a file that is cut, or grown with zeros

abbrev pub cut_or_grown : Object → ℕ → Bool → Edits
cut_or_grown o n b = if b then cut_body o n o.attr.size else fill_gap o n

module _ (m : Content) (o : Object) (there : IsThere m o) (n : ℕ) (fits : n ≤ 2 ^ 64) (old : o.attr.size ≤ 2 ^ 64) where
  pub truncate_edits : EditsFile m o n (truncated o n)
  truncate_edits = record {
    elsewhere = λ k h. off_both (cut_or_grown o n (nat_lt n o.attr.size)) (resize o n) k (off_first (nat_lt n o.attr.size) k h.bytes) (off_resize o n k h.stat);
    size = edited_second (cut_or_grown o n (nat_lt n o.attr.size)) (resize o n) m (stat_rank o.target)
        (off_first (nat_lt n o.attr.size) (stat_rank o.target) (λ x lt is. stat_not_byte o.target o.target x there.object there.object lt is))
        ∙ resized_stat o n m (stat_there m o.target o.attr there.stat).1;
  }
    where
      off_first : (b : Bool) (k : ℕ) → ((x : ℕ) → x < 2 ^ 64 → k ≢ byte_rank o.target x) → IsOff (cut_or_grown o n b) k
      off_first true k ne = off_cuts o n o.attr.size k old ne
      off_first false k ne = off_gap o n k fits ne

pub stat_ends : (limit : ℕ) (m : Content) (path : List (List ℕ)) (p : Place) → is_path path ≡ true → found m path ≡ There p → reply limit (StatCommand path) m ≡ AttrReply p.here.attr
stat_ends limit m path p is at = ap (λ (x : Ending). x.reply) (goes_on m path (λ p. Answer (AttrReply p.here.attr)) p is at)

pub truncate_stat : (limit : ℕ) (path : List (List ℕ)) (n : ℕ) (m : Content) → HasNumbers m → limit ≤ 2 ^ 64 → HasBytes path → reply limit (Truncate path n) m ≡ Okay
    → (a : Attr) × (reply limit (StatCommand path) (after limit (Truncate path n) m) ≡ AttrReply a) × (a.size ≡ n)
truncate_stat limit path n m numbers le bytes okay =
    let c = came_to limit m path n (λ o. Change (truncated o n)) okay in
    let o = c.place.here in
    let there = found_object m numbers.orderings path c.place c.at in
    let small = c.small in
    let size = numbers.sizes o.target o.attr (there.object, (stat_there m o.target o.attr there.stat).1) in
    let again = file_again m path c.place n (truncated o n) numbers bytes c.at there (truncate_edits m o there n (omega arith) (omega arith)) in
    let p = place_with (with_size o.target n) c.place in (
      p.here.attr,
      ap (λ (x : Ending). reply limit (StatCommand path) (edited x.edits m)) c.ends ∙ stat_ends limit (edited (truncated o n) m) path p c.name again,
      ap (λ (x : Object). x.attr.size) (with_size_here o n) ∙ resized_size n o.attr,
    )
