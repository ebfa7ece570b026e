-- Whether keys lie in ranges, from where some of them end on to where others do; and what bytes do of
-- which each lies there.
use Rattle.std.proofs.Common.{◌≡◌, ◌⊎◌, inl, inr, ℕ, zero, suc, ◌+◌, ◌-◌, ◌%◌, ◌^◌, ◌<◌, ◌≤◌, Bool, true, false}
use Rattle.std.proofs.Common.{List, [], ◌∷◌, ◌++◌, length, refl, sym, ap, ◌∙◌, arith, Option, None, Some}
use Rattle.std.specs.Prelude.{All, ◌==◌, ◌&&◌, ◌||◌, nat_lt, not, replicate, if◌then◌else◌}
use Rattle.std.specs.List.{list_all, list_any}
use Rattle.std.specs.Option.{option_or}
use Rattle.std.proofs.Math.Decide.{dec_le, ℕ_discrete}
use Rattle.std.proofs.Math.Nat.{lt_of_not-le}
use Rattle.std.proofs.lemmas.Bool.{and_parts, eqb-true, lt-ltb, or_cases, or_left, or_right}
use Rattle.std.proofs.lemmas.List.{length-replicate}
use Rattle.std.proofs.lemmas.List.Elements.{All-head, All-tail}
use Rattle.std.proofs.lemmas.Option.{same_Some}
use Rattle.r4_base.specs.Key.{key_of_rank, offset_of, rank}
use Rattle.r4_base.specs.Value.{Byte, Entry, Stat, Value}
use Rattle.r4_content.specs.Edited.{Edits, Intervals, Pairs, is_between, is_in}
use Rattle.r4_content.specs.Held.{fill_pairs}
use Rattle.r4_content.specs.Objects.{byte_pairs}
use Rattle.r4_content.specs.declared.edits.FilledInterval.{FilledInterval}
use Rattle.r4_content.proofs.EditLaws.{in_append}
use Rattle.r4_content.proofs.Ranks.{between_is}
use Rattle.r4_lost_tasks.specs.r4_extent_growth.r4_extent_change.r4_extent_blocks.Setting.{byte_of, byte_set, last_put}
use Rattle.r4_lost_tasks.specs.r4_extent_growth.r4_leaf_edits.Suiting.{IsBefore}
use Rattle.r4_lost_tasks.specs.r4_extent_growth.r4_measure.r4_cell.Seen.{CellSeen}
use Rattle.r4_lost_tasks.specs.r4_extent_growth.r4_measure.r4_reach.Touched.{Body, coming}
use Rattle.r4_lost_tasks.proofs.r4_extent_growth.r4_extent_change.r4_extent_build.UnitsFilled.{in_on}
use Rattle.r4_lost_tasks.proofs.r4_extent_growth.r4_extent_change.r4_extent_build.r4_extent_demands.PutsInto.{there_any}
use Rattle.r4_grown_tasks.specs.Places.{AreRead, HavePlaces, bytes_lie, each_key, goes_on, has_first, have_first, have_places}
use Rattle.r4_grown_tasks.specs.Places.{lies, places, put_lies, still}

no_true : false ≡ true → ⊥
no_true e = cc

-- ---- how far ranges go on

pub goes_low : (rs : Intervals) (k : ℕ) → k ≤ goes_on rs k
goes_low [] k = omega arith
goes_low (r ∷ rs) k = by (is_between r.0 r.1 k) refl (goes_low rs k) (goes_low rs r.1)
  where
    by : (t : Bool) → is_between r.0 r.1 k ≡ t → k ≤ goes_on rs k → r.1 ≤ goes_on rs r.1
        → k ≤ goes_on rs (if t then r.1 else k)
    by true is here_on there = let (low, high) = between_is r.0 r.1 k is in omega (arith, high, there)
    by false is here_on there = here_on

-- the keys on the way lie in them
pub goes_in : (rs : Intervals) (from k : ℕ) → from ≤ k → k < goes_on rs from → is_in rs k ≡ true
goes_in [] from k low high = absurd (omega (arith, low, high))
goes_in (r ∷ rs) from k low high =
    by (is_between r.0 r.1 from) refl high (λ at le lt. goes_in rs at k le lt)
  where
    by : (t : Bool) → is_between r.0 r.1 from ≡ t → k < goes_on rs (if t then r.1 else from)
        → ((at : ℕ) → at ≤ k → k < goes_on rs at → is_in rs k ≡ true) → is_in (r ∷ rs) k ≡ true
    by false is more rest = or_right (is_between r.0 r.1 k) (is_in rs k) (rest from low more)
    by true is more rest =
        let (start, _) = between_is r.0 r.1 from is in
        elim (dec_le r.1 k) [
          | yes past ↦ or_right (is_between r.0 r.1 k) (is_in rs k) (rest r.1 past more)
          | no within ↦ or_left (is_between r.0 r.1 k) (is_in rs k)
              (in_on r.0 r.1 k (omega (arith, start, low)) (lt_of_not-le within))
        ]

-- where they do not go on from a key, none has it
pub goes_stuck : (rs : Intervals) (k : ℕ) → goes_on rs k ≤ k → is_in rs k ≡ false
goes_stuck [] k le = refl
goes_stuck (r ∷ rs) k le = by (is_between r.0 r.1 k) refl le (goes_low rs r.1) (λ at. goes_stuck rs k at)
  where
    by : (t : Bool) → is_between r.0 r.1 k ≡ t → goes_on rs (if t then r.1 else k) ≤ k → r.1 ≤ goes_on rs r.1
        → (goes_on rs k ≤ k → is_in rs k ≡ false) → (is_between r.0 r.1 k || is_in rs k) ≡ false
    by true is at low rest = let (_, high) = between_is r.0 r.1 k is in absurd (omega (arith, high, at, low))
    by false is at low rest = (λ i. is i || rest at i)

-- ---- each of so many keys

module _ (f : ℕ → Bool) where
  each_on : (a n : ℕ) → ((k : ℕ) → a ≤ k → k < a + n → f k ≡ true) → each_key f a n ≡ true
  each_on a zero h = refl
  each_on a (suc n) h = (λ i. h a (omega arith) (omega arith) i
      && each_on (a + 1) n (λ k low high. h k (omega (arith, low)) (omega (arith, high))) i)

  each_of : (a n k : ℕ) → each_key f a n ≡ true → a ≤ k → k < a + n → f k ≡ true
  each_of a zero k h low high = absurd (omega (arith, low, high))
  each_of a (suc n) k h low high =
      let (first, rest) = and_parts (f a) (each_key f (a + 1) n) h in
      elim (ℕ_discrete a k) [
        | yes same ↦ ap f (sym same) ∙ first
        | no other ↦ each_of (a + 1) n k rest (omega (arith, low, other)) (omega (arith, high))
      ]

  each_off : (a n k : ℕ) → a ≤ k → k < a + n → f k ≡ false → each_key f a n ≡ false
  each_off a n k low high off = by (each_key f a n) refl
    where
      by : (t : Bool) → each_key f a n ≡ t → each_key f a n ≡ false
      by false is = is
      by true is = absurd (no_true (sym off ∙ each_of a n k is low high))

pub lies_on : (rs : Intervals) (a b : ℕ) → ((k : ℕ) → a ≤ k → k < b → is_in rs k ≡ true) → lies rs (a, b) ≡ true
lies_on rs a b h = each_on (is_in rs) a (b - a) (λ k low high. h k low (omega (arith, low, high)))

pub lies_off : (rs : Intervals) (a b k : ℕ) → a ≤ k → k < b → is_in rs k ≡ false → lies rs (a, b) ≡ false
lies_off rs a b k low high off = each_off (is_in rs) a (b - a) k low (omega (arith, low, high)) off

-- ---- bytes at one key after another

pub bytes_each : (rs : Intervals) (a : ℕ) (xs : List ℕ)
    → list_all (put_lies rs) (byte_pairs a xs) ≡ each_key (is_in rs) a (length xs)
bytes_each rs a [] = refl
bytes_each rs a (x ∷ xs) = ap (λ (t : Bool). is_in rs a && t) (bytes_each rs (a + 1) xs)

pub fill_each : (rs : Intervals) (f : FilledInterval)
    → list_all (put_lies rs) (fill_pairs f) ≡ lies rs (rank f.from, rank f.to)
fill_each rs f =
    bytes_each rs (rank f.from) (replicate (rank f.to - rank f.from) f.byte)
    ∙ ap (each_key (is_in rs) (rank f.from)) (length-replicate (rank f.to - rank f.from) f.byte)

pub run_each : (rs : Intervals) (a b : ℕ) (xs : List ℕ) → b ≡ a + length xs
    → lies rs (a, b) ≡ list_all (put_lies rs) (byte_pairs a xs)
run_each rs a b xs is =
    ap (each_key (is_in rs) a) (let n : b - a ≡ length xs = omega (arith, is) in n) ∙ sym (bytes_each rs a xs)

offset_at : (k : ℕ) → offset_of (key_of_rank k) ≡ k % 2 ^ 64
unfolding key_of_rank
offset_at k = refl

next_offset : (k : ℕ) → k % 2 ^ 64 < 2 ^ 30 → (k + 1) % 2 ^ 64 ≡ k % 2 ^ 64 + 1
next_offset k h = omega arith

-- they end before byte 2^30 of their file
pub ends_before : (k : ℕ) (xs : List ℕ) → 1 ≤ length xs → All (IsBefore (2 ^ 30)) (byte_pairs k xs)
    → k % 2 ^ 64 + length xs ≤ 2 ^ 30
ends_before k [] some all = absurd (omega arith)
ends_before k (x ∷ []) some all =
    let first = All-head (IsBefore (2 ^ 30)) (k, Byte x) [] all in
    let at = offset_at k in
    let lt = first.1 in
    omega (arith, at, lt)
ends_before k (x ∷ (y ∷ xs)) some all =
    let first = All-head (IsBefore (2 ^ 30)) (k, Byte x) (byte_pairs (k + 1) (y ∷ xs)) all in
    let at = offset_at k in
    let lt = first.1 in
    let next = next_offset k (omega (arith, at, lt)) in
    let rest = ends_before (k + 1) (y ∷ xs) (omega arith)
    (All-tail (IsBefore (2 ^ 30)) (k, Byte x) (byte_pairs (k + 1) (y ∷ xs)) all) in
    omega (arith, next, rest)

-- ---- what that says of each byte

zero_lies : (rs : Intervals) (k : ℕ) (zs : Intervals) → list_all (lies rs) zs ≡ true → is_in zs k ≡ true
    → is_in rs k ≡ true
zero_lies rs k [] all on = absurd (no_true on)
zero_lies rs k (z ∷ zs) all on =
    let (first, rest) = and_parts (lies rs z) (list_all (lies rs) zs) all in
    elim (or_cases (is_between z.0 z.1 k) (is_in zs k) on) [
      | inl own ↦
          let (low, high) = between_is z.0 z.1 k own in
          each_of (is_in rs) z.0 (z.1 - z.0) k first low (omega (arith, low, high))
      | inr more ↦ zero_lies rs k zs rest more
    ]

module _ (rs : Intervals) (k : ℕ) where
  put_on : (v : Value) (x q : ℕ) → put_lies rs (q, v) ≡ true → q ≡ k → byte_of v ≡ Some x → is_in rs k ≡ true
  put_on (Stat a) x q on is byte = absurd (let f = byte in cc)
  put_on (Entry m t) x q on is byte = absurd (let f = byte in cc)
  put_on (Byte y) x q on is byte = ap (is_in rs) (sym is) ∙ on

  last_lies : (ps : Pairs) (x : ℕ) → list_all (put_lies rs) ps ≡ true → last_put ps k ≡ Some x → is_in rs k ≡ true
  last_lies [] x all is = absurd (let f = is in cc)
  last_lies (p ∷ ps) x all is =
      let (first, rest) = and_parts (put_lies rs p) (list_all (put_lies rs) ps) all in
      by (last_put ps k) (p.0 == k) refl refl is first (λ y at. last_lies ps y rest at)
    where
      by : (o : Option ℕ) (t : Bool) → last_put ps k ≡ o → (p.0 == k) ≡ t
          → option_or o (if t then byte_of p.1 else None) ≡ Some x → put_lies rs p ≡ true
          → ((y : ℕ) → last_put ps k ≡ Some y → is_in rs k ≡ true) → is_in rs k ≡ true
      by (Some y) t at own is first more = more y at
      by None true at own is first more = put_on p.1 x p.0 first (eqb-true p.0 k own) is
      by None false at own is first more = absurd (let f = is in cc)

  set_lies : (ss : Intervals) (e : Edits) (x : ℕ) → bytes_lie rs ss e ≡ true → byte_set e k ≡ Some x
      → (is_in rs k ≡ true) ⊎ ((x ≡ 0) × (is_in ss k ≡ true))
  set_lies ss e x all is =
      let (puts, zeros) = and_parts (list_all (put_lies rs) e.puts) (list_all (lies (rs ++ ss)) e.zeros) all in
      by (last_put e.puts k) (is_in e.zeros k) refl refl is puts zeros
    where
      by : (o : Option ℕ) (t : Bool) → last_put e.puts k ≡ o → is_in e.zeros k ≡ t
          → option_or o (if t then Some 0 else None) ≡ Some x → list_all (put_lies rs) e.puts ≡ true
          → list_all (lies (rs ++ ss)) e.zeros ≡ true → (is_in rs k ≡ true) ⊎ ((x ≡ 0) × (is_in ss k ≡ true))
      by (Some y) t at own is puts zeros = inl (last_lies e.puts y puts at)
      by None true at own is puts zeros =
          elim (or_cases (is_in rs k) (is_in ss k) (sym (in_append rs ss k) ∙ zero_lies (rs ++ ss) k e.zeros zeros own)) [
            | inl place ↦ inl place
            | inr still_on ↦ inr (sym (same_Some 0 x is), still_on)
          ]
      by None false at own is puts zeros = absurd (let f = is in cc)

pub have : (b : Body) (e : Edits) (reads cells : List CellSeen) → AreRead reads → have_places b e reads cells ≡ true
    → HavePlaces b e reads cells
have b e reads cells read is =
    let (first, all) = and_parts (have_first b e cells) (bytes_lie (places b e cells) (still b reads) e) is in
    record {
      bytes = λ k x set. set_lies (places b e cells) k (still b reads) e x all set;
      read = read;
      first = λ lt. there_any (has_first b e) cells (second (nat_lt (coming b).0 (coming b).1)
          (list_any (has_first b e) cells) (lt-ltb (coming b).0 (coming b).1 lt) first);
    }
  where
    second : (t u : Bool) → t ≡ true → (not t || u) ≡ true → u ≡ true
    second true u on or = or
    second false u on or = absurd (no_true on)
