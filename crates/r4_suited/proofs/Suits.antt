-- The edits of a command are such as leaves can take.
use Rattle.std.specs.Prelude.{◌≡◌, ℕ, ◌+◌, ◌-◌, ◌^◌, ◌<◌, ◌≤◌, List, [], ◌∷◌, ◌++◌, length, Bool, true, false, ◌==◌}
use Rattle.std.specs.Prelude.{◌&&◌, nat_lt, All, Option, Some, None, option_map, if◌then◌else◌}
use Rattle.std.proofs.Common.{arith, inl, inr, lit<, refl, sym, ap, subst, ◌∙◌}
use Rattle.std.specs.FinMap.{find}
use Rattle.std.specs.Ordering.{nat_cmp}
use Rattle.std.proofs.lemmas.Bool.{le-ltb, lt-ltb, ltb-false, ltb-true, or_parts}
use Rattle.std.proofs.lemmas.List.Elements.{All-append, All-nil}
use Rattle.r4_base.specs.Value.{Byte, Content, Stat, Value, at_key}
use Rattle.r4_base.specs.Volume.{byte_rank, object_of, stat_rank}
use Rattle.r4_base.specs.declared.items.Target.{Target}
use Rattle.r4_base.proofs.Visible.{byte_back, byte_object}
use Rattle.r4_content.specs.Bodies.{larger, resize, truncated, written}
use Rattle.r4_content.specs.Edited.{Edits, Intervals, Pairs, and_also, changed, edited, no_edits, put_keys}
use Rattle.r4_content.specs.Fields.{HasBytePaths}
use Rattle.r4_content.specs.Held.{interval_of}
use Rattle.r4_content.specs.Listed.{list_edited}
use Rattle.r4_content.specs.Objects.{Object, byte_pairs, set_body, sized}
use Rattle.r4_content.specs.Meaning.{greatest_size}
use Rattle.r4_content.specs.Seen.{Rises}
use Rattle.r4_content.specs.declared.command.Command.{Command}
use Rattle.r4_content.specs.declared.edits.Interval.{Interval}
use Rattle.r4_content.proofs.FileEdits.{attr_of, resized, resized_size}
use Rattle.r4_content.proofs.OneBodies.{larger_cases}
use Rattle.r4_content.proofs.Ranks.{byte_after}
use Rattle.r4_content.proofs.SameWay.{IsThere}
use Rattle.r4_content.proofs.SeenLaws.{at_content, content_of, edited_list}
use Rattle.r4_content.proofs.Writing.{truncate_edits, write_edits}
use Rattle.r4_leaf_edits.specs.Made.{bytes_end, spread_keys}
use Rattle.r4_leaf_edits.specs.Suiting.{AreOnce, IsBefore, IsLawfulPut, SuitLeaves}
use Rattle.r4_leaf_edits.specs.r4_reach.Reach.{is_body}
use Rattle.r4_leaf_edits.specs.r4_reach.Touched.{Body, body_key, body_of, body_on, edits_on, first_byte, is_spread, size_in}
use Rattle.r4_suited.specs.Suited.{AreLawfulSeen, end_of_bytes}
use Rattle.r4_suited.proofs.Few.{AreFew, IsHere, few_attr, few_less, few_none, stat_off}
use Rattle.r4_suited.proofs.Runs.{byte_body, few_lawful, few_set, gap_on, grown_end, run_lawful, run_suits, size_on}
use Rattle.r4_suited.proofs.Runs.{sized_by, sized_run, written_run}
use Rattle.r4_suited.proofs.Walked.{AreMade, edits_made}

-- the body that edits change
abbrev pub body_after : Edits → Pairs → Bool → Option Body
body_after e s in_extents = option_map (body_of e s in_extents) (body_key (changed e))

-- ---- which body it is

pub first_body : (a b : ℕ) (rs : Intervals) → a < b → is_body a ≡ true → body_key ((a, b) ∷ rs) ≡ Some a
first_body a b rs lt is =
    ap (λ (t : Bool). if t && is_body a then Some a else body_key rs) (lt-ltb a b lt)
    ∙ ap (λ (t : Bool). if t then Some a else body_key rs) is

pub skip_body : (a b : ℕ) (rs : Intervals) → is_body a ≡ false → body_key ((a, b) ∷ rs) ≡ body_key rs
skip_body a b rs off = ap (λ (t : Bool). if nat_lt a b && t then Some a else body_key rs) off ∙ no_key (nat_lt a b)
  where
    no_key : (t : Bool) → (if t && false then Some a else body_key rs) ≡ body_key rs
    no_key true = refl
    no_key false = refl

first_put : (k : ℕ) (v : Value) (ps : Pairs) (rs : Intervals) → is_body k ≡ true
    → body_key (put_keys ((k, v) ∷ ps) ++ rs) ≡ Some k
first_put k v ps rs is = first_body k (k + 1) (put_keys ps ++ rs) (omega arith) is

-- ---- where bytes end

pub end_most : (b : Option Body) → end_of_bytes b ≤ 2 ^ 64
end_most None = lit< tt
end_most (Some b) = by_test (is_spread b)
  where
    by_test : (t : Bool) → (if t then 2 ^ 64 else 16384) ≤ 2 ^ 64
    by_test true = omega arith
    by_test false = omega arith

end_fits : (b : Body) (m : ℕ) → m ≤ b.now → m ≤ 2 ^ 64 → m ≤ end_of_bytes (Some b)
end_fits b m le most = by_test (is_spread b) refl
  where
    by_test : (t : Bool) → is_spread b ≡ t → m ≤ (if t then 2 ^ 64 else 16384)
    by_test true e = most
    by_test false e =
        let small = ltb-false 16384 b.now (or_parts b.in_extents (nat_lt 16384 b.now) e).1 in
        omega (arith, small, le)

-- the body of an object that has a size afterwards
pub body_is : (e : Edits) (s : Pairs) (in_extents : Bool) (o : Object) (x : ℕ) → IsHere s o → x < 2 ^ 64
    → body_key (changed e) ≡ Some (byte_rank o.target x)
    → (b : Body) × (body_after e s in_extents ≡ Some b) ×
    (b.now ≡ size_in (find nat_cmp (stat_rank o.target) (list_edited e s)))
body_is e s in_extents o x h lt key = (
  body_of e s in_extents (byte_rank o.target x),
  ap (λ (k : Option ℕ). option_map (body_of e s in_extents) k) key,
  ap (λ (t : Target). size_in (find nat_cmp (stat_rank t) (list_edited e s)))
      (ap object_of (byte_back o.target x h.object lt) ∙ byte_object o.target x),
)

pub fits_end : (e : Edits) (s : Pairs) (in_extents : Bool) (o : Object) (x m : ℕ) → IsHere s o → x < 2 ^ 64
    → body_key (changed e) ≡ Some (byte_rank o.target x)
    → m ≤ size_in (find nat_cmp (stat_rank o.target) (list_edited e s)) → m ≤ 2 ^ 64
    → m ≤ end_of_bytes (body_after e s in_extents)
fits_end e s in_extents o x m h lt key le most =
    let (b, is, now) = body_is e s in_extents o x h lt key in
    subst (λ (y : Option Body). m ≤ end_of_bytes y) (sym is) (end_fits b m (omega (arith, now, le)) most)

-- ---- the size afterwards

pub there : (s : Pairs) (o : Object) → Rises s → IsHere s o → IsThere (content_of s) o
there s o r h = record {
  object = h.object;
  stat = attr_of (content_of s) o.target o.attr h.may
      (at_content s (stat_rank o.target) r ∙ h.found);
}

pub size_after : (s : Pairs) (e : Edits) (o : Object) (n : ℕ) → Rises s
    → at_key (edited e (content_of s)) (stat_rank o.target) ≡ Some (Stat (resized n o.attr))
    → size_in (find nat_cmp (stat_rank o.target) (list_edited e s)) ≡ n
size_after s e o n r at =
    let made = edited_list e s r in
    ap size_in (sym (at_content (list_edited e s) (stat_rank o.target) made.1)
    ∙ ap (λ (m : Content). at_key m (stat_rank o.target)) (sym made.0) ∙ at) ∙ resized_size n o.attr

-- ---- bytes are written

first_written : (o : Object) (from x : ℕ) (xs : List ℕ) (b : Bool) (e : Edits)
    → is_body (byte_rank o.target from) ≡ true
    → body_key (changed (and_also (gap_on o from b) (and_also (set_body o from (x ∷ xs)) e)))
    ≡ Some (byte_rank o.target from)
first_written o from x xs true e is =
    let w = and_also (gap_on o from true) (and_also (set_body o from (x ∷ xs)) e) in
    first_put (byte_rank o.target from) (Byte x) (byte_pairs (byte_rank o.target from + 1) xs ++ e.puts)
    (w.zeros ++ w.cuts) is
first_written o from x xs false e is =
    let w = and_also (gap_on o from false) (and_also (set_body o from (x ∷ xs)) e) in
    first_put (byte_rank o.target from) (Byte x) (byte_pairs (byte_rank o.target from + 1) xs ++ e.puts)
    (w.zeros ++ w.cuts) is

written_key : (o : Object) (from : ℕ) (x : ℕ) (xs : List ℕ) → is_body (byte_rank o.target from) ≡ true
    → body_key (changed (written o from (x ∷ xs))) ≡ Some (byte_rank o.target from)
written_key o from x xs is = first_written o from x xs (nat_lt o.attr.size from)
    (resize o (larger o.attr.size (from + length (x ∷ xs)))) is

pub size_few : (s : Pairs) (o : Object) (n : ℕ) (b : Bool) → IsHere s o → AreFew 1 0 (size_on o n b)
size_few s o n true h = few_less 0 0 1 0 no_edits (omega arith) (omega arith) few_none
size_few s o n false h = few_attr o (sized o.attr n) h.object h.kind

gap_lawful : (o : Object) (to : ℕ) (b : Bool) → All IsLawfulPut (gap_on o to b).puts
gap_lawful o to true = All-nil IsLawfulPut
gap_lawful o to false = All-nil IsLawfulPut

size_lawful : (s : Pairs) (o : Object) (n : ℕ) (b : Bool) → IsHere s o → All IsLawfulPut (size_on o n b).puts
size_lawful s o n b h = few_lawful 1 0 (size_on o n b) (size_few s o n b h)

written_lawful : (s : Pairs) (o : Object) (from : ℕ) (xs : List ℕ) → IsHere s o
    → All IsLawfulPut (written o from xs).puts
written_lawful s o from xs h =
    let n = larger o.attr.size (from + length xs) in
    All-append IsLawfulPut _ _ (gap_lawful o from (nat_lt o.attr.size from))
    (All-append IsLawfulPut _ _ (run_lawful (byte_rank o.target from) xs) (size_lawful s o n (o.attr.size == n) h))

-- it is the body of the file, and the bytes end within its size
pub written_body : (s : Pairs) (o : Object) (from : ℕ) (xs : List ℕ) → Rises s → IsHere s o → 0 < length xs
    → from + length xs ≤ greatest_size
    → (body_key (changed (written o from xs)) ≡ Some (byte_rank o.target from)) ×
    (size_in (find nat_cmp (stat_rank o.target) (list_edited (written o from xs) s))
    ≡ larger o.attr.size (from + length xs))
written_body s o from [] r h some fits = absurd (omega (arith, some))
written_body s o from (x ∷ xs) r h some fits = (
  written_key o from x xs (byte_body o.target from h.object (omega (arith, fits))),
  size_after s (written o from (x ∷ xs)) o (larger o.attr.size (from + length (x ∷ xs))) r
      (write_edits (content_of s) o (there s o r h) from (x ∷ xs) (omega (arith, fits))).size,
)

pub within_larger : (a b : ℕ) → b ≤ larger a b
within_larger a b = elim (larger_cases a b) [ inl (d, i) ↦ omega (arith, d, i) | inr (d, i) ↦ omega (arith, d) ]

written_suits : (s : Pairs) (in_extents : Bool) (o : Object) (from : ℕ) (xs : List ℕ) → Rises s → IsHere s o
    → 0 < length xs → from + length xs ≤ greatest_size
    → SuitLeaves (end_of_bytes (body_after (written o from xs) s in_extents)) (written o from xs)
written_suits s in_extents o from xs r h some fits =
    let e = written o from xs in
    let (key, size) = written_body s o from xs r h some fits in
    let le = within_larger o.attr.size (from + length xs) in
    run_suits o.target (from + length xs) (end_of_bytes (body_after e s in_extents)) e h.object (written_run o from xs)
    (fits_end e s in_extents o from (from + length xs) h (omega (arith, fits)) key (omega (arith, size, le))
    (omega (arith, fits))) (end_most (body_after e s in_extents)) (written_lawful s o from xs h)

-- ---- a file gets a size

grown_key : (o : Object) (n : ℕ) (same : Bool) → is_body (stat_rank o.target) ≡ false
    → is_body (byte_rank o.target o.attr.size) ≡ true → o.attr.size < n
    → body_key (changed (sized_by o n false true same)) ≡ Some (byte_rank o.target o.attr.size)
grown_key o n same off is lt = by_size same
  where
    rises : byte_rank o.target o.attr.size < byte_rank o.target n
    rises =
        let a : byte_rank o.target (o.attr.size + (n - o.attr.size))
        ≡ byte_rank o.target o.attr.size + (n - o.attr.size) = byte_after o.target o.attr.size (n - o.attr.size) in
        let b : byte_rank o.target (o.attr.size + (n - o.attr.size))
        ≡ byte_rank o.target n = ap (byte_rank o.target) (omega (arith, lt)) in
        omega (arith, a, b, lt)

    zeros_first : body_key ((byte_rank o.target o.attr.size, byte_rank o.target n) ∷ [])
        ≡ Some (byte_rank o.target o.attr.size)
    zeros_first = first_body (byte_rank o.target o.attr.size) (byte_rank o.target n) [] rises is

    by_size : (b : Bool) → body_key (changed (sized_by o n false true b)) ≡ Some (byte_rank o.target o.attr.size)
    by_size true = zeros_first
    by_size false = skip_body (stat_rank o.target) (stat_rank o.target + 1)
        ((byte_rank o.target o.attr.size, byte_rank o.target n) ∷ []) off ∙ zeros_first

sized_lawful : (s : Pairs) (o : Object) (n : ℕ) (shrinks grows same : Bool) → IsHere s o
    → All IsLawfulPut (sized_by o n shrinks grows same).puts
sized_lawful s o n true grows same h = size_lawful s o n same h
sized_lawful s o n false true same h = size_lawful s o n same h
sized_lawful s o n false false same h = size_lawful s o n same h

-- where the file grows
pub grown_body : (s : Pairs) (o : Object) (n : ℕ) → Rises s → IsHere s o → n ≤ greatest_size → o.attr.size < n
    → (truncated o n ≡ sized_by o n false true (o.attr.size == n)) ×
    (body_key (changed (truncated o n)) ≡ Some (byte_rank o.target o.attr.size))
    × (size_in (find nat_cmp (stat_rank o.target) (list_edited (truncated o n) s)) ≡ n)
grown_body s o n r h fits lt =
    let shrinks : nat_lt n o.attr.size ≡ false = le-ltb n o.attr.size (omega (arith, lt)) in
    let grows : nat_lt o.attr.size n ≡ true = lt-ltb o.attr.size n lt in
    let is : truncated o n ≡ sized_by o n false true (o.attr.size == n)
    = ap (λ (t : Bool). sized_by o n t (nat_lt o.attr.size n) (o.attr.size == n)) shrinks
    ∙ ap (λ (t : Bool). sized_by o n false t (o.attr.size == n)) grows in (
      is,
      ap (λ (e : Edits). body_key (changed e)) is
          ∙ grown_key o n (o.attr.size == n) (stat_off o.target h.object)
          (byte_body o.target o.attr.size h.object (omega (arith, lt, fits))) lt,
      size_after s (truncated o n) o n r (truncate_edits (content_of s) o (there s o r h) n (omega (arith, fits))
          (omega (arith, lt, fits))).size,
    )

resized_suits : (s : Pairs) (in_extents : Bool) (o : Object) (n : ℕ) → Rises s → IsHere s o → n ≤ greatest_size
    → SuitLeaves (end_of_bytes (body_after (truncated o n) s in_extents)) (truncated o n)
resized_suits s in_extents o n r h fits =
    run_suits o.target (grown_end n (if nat_lt n o.attr.size then false else nat_lt o.attr.size n))
    (end_of_bytes (body_after (truncated o n) s in_extents)) (truncated o n) h.object
    (sized_run o n (nat_lt n o.attr.size) (nat_lt o.attr.size n) (o.attr.size == n) refl)
    (by_tests (nat_lt n o.attr.size) (nat_lt o.attr.size n) refl) (end_most (body_after (truncated o n) s in_extents))
    (sized_lawful s o n (nat_lt n o.attr.size) (nat_lt o.attr.size n) (o.attr.size == n) h)
  where
    by_tests : (a b : Bool) → nat_lt o.attr.size n ≡ b
        → grown_end n (if a then false else b) ≤ end_of_bytes (body_after (truncated o n) s in_extents)
    by_tests true b e = omega arith
    by_tests false false e = omega arith
    by_tests false true e =
        let lt = ltb-true o.attr.size n e in
        let g = grown_body s o n r h fits lt in
        let size = g.2 in
        fits_end (truncated o n) s in_extents o o.attr.size n h (omega (arith, lt, fits)) g.1 (omega (arith, size))
        (omega (arith, fits))

-- ---- all of them

few_suits : (end n m : ℕ) (e : Edits) → AreFew n m e → SuitLeaves end e
few_suits end n m e h = record {
  once = subst AreOnce (sym (few_set n m e h)) tt;
  bytes = subst (λ (ps : Pairs). All (IsBefore end) ps) (sym (few_set n m e h)) (All-nil (IsBefore end));
  values = few_lawful n m e h;
}

made_suits : (s : Pairs) (in_extents : Bool) (e : Edits) → Rises s → AreMade s e
    → SuitLeaves (end_of_bytes (body_after e s in_extents)) e
made_suits s in_extents e r (inl few) = few_suits _ 4 3 e few
made_suits s in_extents e r (inr (inl w)) = subst
    (λ (x : Edits). SuitLeaves (end_of_bytes (body_after x s in_extents)) x) (sym w.is)
    (written_suits s in_extents w.file w.from w.bytes r w.here w.some w.fits)
made_suits s in_extents e r (inr (inr w)) = subst
    (λ (x : Edits). SuitLeaves (end_of_bytes (body_after x s in_extents)) x) (sym w.is)
    (resized_suits s in_extents w.file w.size r w.here w.fits)

pub command_suits : (c : Command) (s : Pairs) (in_extents : Bool) → HasBytePaths c → Rises s → AreLawfulSeen c s
    → SuitLeaves (end_of_bytes (body_on c s in_extents)) (edits_on c s)
command_suits c s in_extents bytes r lawful = made_suits s in_extents (edits_on c s) r (edits_made c s lawful bytes)

-- what a leaf is told of a body says where its bytes end
same_end : (b : Option Body) (spread : Option Interval) → option_map interval_of spread ≡ spread_keys b
    → bytes_end spread ≡ end_of_bytes b
same_end None None e = refl
same_end None (Some i) e = absurd cc
same_end (Some b) spread e = by_test (is_spread b) spread e
  where
    by_test : (t : Bool) (spread : Option Interval)
        → option_map interval_of spread ≡ (if t then Some (first_byte b, first_byte b + 2 ^ 64) else None)
        → bytes_end spread ≡ (if t then 2 ^ 64 else 16384)
    by_test true (Some i) e = refl
    by_test true None e = absurd cc
    by_test false None e = refl
    by_test false (Some i) e = absurd cc

pub told_suits : (c : Command) (s : Pairs) (in_extents : Bool) (spread : Option Interval) → HasBytePaths c → Rises s
    → AreLawfulSeen c s
    → option_map interval_of spread ≡ spread_keys (body_on c s in_extents)
    → SuitLeaves (bytes_end spread) (edits_on c s)
told_suits c s in_extents spread bytes r lawful told =
    subst (λ (end : ℕ). SuitLeaves end (edits_on c s)) (sym (same_end (body_on c s in_extents) spread told))
    (command_suits c s in_extents bytes r lawful)
