-- What counts as changed by intervals that come behind others.
use Rattle.std.specs.Prelude.{◌≡◌, ℕ, suc, ◌+◌, ◌-◌, ◌*◌, ◌/◌, ◌%◌, ◌<◌, ◌≤◌, ◌^◌, List, [], ◌∷◌, ◌++◌, length, map}
use Rattle.std.specs.Prelude.{All, Bool, true, false, ◌||◌, if◌then◌else◌, Option, None, Some}
use Rattle.std.proofs.Common.{arith, refl, sym, ap, ◌∙◌, append_assoc}
use Rattle.std.specs.List.{flat_map}
use Rattle.std.proofs.lemmas.Bool.Decides.{nat_tests}
use Rattle.std.proofs.lemmas.List.{map-append}
use Rattle.std.proofs.lemmas.List.Elements.{All-head, All-tail}
use Rattle.r4_base.specs.Key.{key_of_rank, offset_of, top}
use Rattle.r4_base.specs.Value.{Byte}
use Rattle.r4_content.specs.Edited.{Intervals, Pairs, changed, is_between, is_in, put_keys}
use Rattle.r4_content.specs.Held.{edits_of, fill_pairs, interval_of, pair_of, run_pairs}
use Rattle.r4_content.specs.Objects.{byte_pairs}
use Rattle.r4_content.specs.declared.edits.Edits.{Edits as HeldEdits}
use Rattle.r4_content.specs.declared.edits.Interval.{Interval}
use Rattle.r4_content.proofs.EditLaws.{in_append}
use Rattle.r4_twig_asks.specs.r4_leaf_edits.Suiting.{IsBefore}
use Rattle.r4_twig_asks.proofs.r4_leaf_edits.Puts.{put_keys_append}
use Rattle.r4_twig_asks.specs.r4_reach.Reach.{is_body}
use Rattle.r4_twig_asks.specs.r4_reach.Touched.{Body, first_byte, is_spread, whole_blocks, with_blocks}
use Rattle.r4_extent_asks.specs.Widening.{AddsChanges, widened}

or_none : (b : Bool) → b ≡ (b || false)
or_none true = refl
or_none false = refl

or_assoc : (a b c : Bool) → ((a || b) || c) ≡ (a || (b || c))
or_assoc true b c = refl
or_assoc false b c = refl

-- ---- where bytes end

offset_at : (k : ℕ) → offset_of (key_of_rank k) ≡ k % 2 ^ 64
unfolding key_of_rank
offset_at k = refl

next_offset : (k : ℕ) → k % 2 ^ 64 < (2 ^ 30) → (k + 1) % 2 ^ 64 ≡ k % 2 ^ 64 + 1
next_offset k h = omega arith

-- they end before byte (2 ^ 30) of their file
pub ends_before : (k : ℕ) (xs : List ℕ) → 1 ≤ length xs → All (IsBefore (2 ^ 30)) (byte_pairs k xs) → k % 2 ^ 64 + length xs ≤ 2 ^ 30
ends_before k [] some all = absurd (omega arith)
ends_before k (x ∷ []) some all =
    let first = All-head (IsBefore (2 ^ 30)) (k, Byte x) [] all in
    let at = offset_at k in
    let lt = first.1 in
    omega (arith, at, lt)
ends_before k (x ∷ (y ∷ xs)) some all =
    let first = All-head (IsBefore (2 ^ 30)) (k, Byte x) (byte_pairs (k + 1) (y ∷ xs)) all in
    let at = offset_at k in
    let lt = first.1 in
    let next = next_offset k (omega (arith, at, lt)) in
    let rest = ends_before (k + 1) (y ∷ xs) (omega arith) (All-tail (IsBefore (2 ^ 30)) (k, Byte x) (byte_pairs (k + 1) (y ∷ xs)) all) in
    omega (arith, next, rest)

-- ---- intervals behind others

pub adds_none : (a : List Interval) (rs : Intervals) → rs ≡ [] → AddsChanges a rs a
adds_none a rs none b k low = or_none (is_in (map (widened b) (map interval_of a)) k)
    ∙ ap (λ (ss : Intervals). is_in (map (widened b) (map interval_of a)) k || is_in (map (widened b) ss) k) (sym none)

pub adds_one : (a c : List Interval) (r : Interval) (rs : Intervals) → c ≡ a ++ r ∷ []
    → ((b : Option Body) (k : ℕ) → k < top → is_in (widened b (interval_of r) ∷ []) k ≡ is_in (map (widened b) rs) k)
    → AddsChanges a rs c
adds_one a c r rs is same b k low =
    ap (λ (xs : List Interval). is_in (map (widened b) (map interval_of xs)) k) is
    ∙ ap (λ (ss : Intervals). is_in (map (widened b) ss) k) (map-append interval_of a (r ∷ []))
    ∙ ap (λ (ss : Intervals). is_in ss k) (map-append (widened b) (map interval_of a) (interval_of r ∷ []))
    ∙ in_append (map (widened b) (map interval_of a)) (widened b (interval_of r) ∷ []) k
    ∙ ap (λ (t : Bool). is_in (map (widened b) (map interval_of a)) k || t) (same b k low)

pub adds_both : (a c d : List Interval) (rs ss all : Intervals) → all ≡ rs ++ ss → AddsChanges a rs c → AddsChanges c ss d
    → AddsChanges a all d
adds_both a c d rs ss all is first next b k low =
    next b k low
    ∙ ap (λ (t : Bool). t || is_in (map (widened b) ss) k) (first b k low)
    ∙ or_assoc (is_in (map (widened b) (map interval_of a)) k) (is_in (map (widened b) rs) k) (is_in (map (widened b) ss) k)
    ∙ ap (λ (t : Bool). is_in (map (widened b) (map interval_of a)) k || t)
    (sym (ap (λ (qs : Intervals). is_in (map (widened b) qs) k) is
    ∙ ap (λ (qs : Intervals). is_in qs k) (map-append (widened b) rs ss)
    ∙ in_append (map (widened b) rs) (map (widened b) ss) k))

pub keys_both : (ps qs all : Pairs) → all ≡ ps ++ qs → put_keys all ≡ put_keys ps ++ put_keys qs
keys_both ps qs all is = ap put_keys is ∙ put_keys_append ps qs

pub nothing_of : {A : Type 0} (xs : List A) → length xs ≡ 0 → xs ≡ []
nothing_of [] e = refl
nothing_of (x ∷ xs) e = absurd (omega (arith, e))

-- ---- bytes at one key after another are one interval

joined : (p q r s k : ℕ) → p ≤ r → r ≤ q → q ≤ s → (is_between p q k || is_between r s k) ≡ is_between p s k
joined p q r s k a b c = grind (arith, nat_tests, a, b, c)

single : (r : ℕ × ℕ) (k : ℕ) → is_in (r ∷ []) k ≡ is_between r.0 r.1 k
single r k = sym (or_none (is_between r.0 r.1 k))

module _ (b : Option Body) (k : ℕ) where
  plain_next : (a n : ℕ) → (is_in ((a, a + 1) ∷ []) k || is_in ((a + 1, a + 1 + n) ∷ []) k)
      ≡ is_in ((a, a + suc n) ∷ []) k
  plain_next a n =
      (λ i. single (a, a + 1) k i || single (a + 1, a + 1 + n) k i)
      ∙ joined a (a + 1) (a + 1) (a + 1 + n) k (omega arith) (omega arith) (omega arith)
      ∙ ap (λ (m : ℕ). is_between a m k) (omega arith) ∙ sym (single (a, a + suc n) k)

  -- one key more in front
  next_in : (o : Option Body) (a n : ℕ) → is_body a ≡ true → is_body (a + 1) ≡ true → 1 ≤ n
      → (is_in (widened o (a, a + 1) ∷ []) k || is_in (widened o (a + 1, a + 1 + n) ∷ []) k)
      ≡ is_in (widened o (a, a + suc n) ∷ []) k
  next_in None a n one two some = plain_next a n
  next_in (Some x) a n one two some = by_spread (is_spread x)
    where
      by_spread : (t : Bool) → (is_in ((if t then with_blocks x (a, a + 1) else (a, a + 1)) ∷ []) k
          || is_in ((if t then with_blocks x (a + 1, a + 1 + n) else (a + 1, a + 1 + n)) ∷ []) k)
          ≡ is_in ((if t then with_blocks x (a, a + suc n) else (a, a + suc n)) ∷ []) k
      by_spread false = plain_next a n
      by_spread true =
          (λ i. is_in ((if one i then whole_blocks x (a, a + 1) else (a, a + 1)) ∷ []) k
          || is_in ((if two i then whole_blocks x (a + 1, a + 1 + n) else (a + 1, a + 1 + n)) ∷ []) k)
          ∙ (λ i. single (whole_blocks x (a, a + 1)) k i || single (whole_blocks x (a + 1, a + 1 + n)) k i)
          ∙ joined (whole_blocks x (a, a + 1)).0 (whole_blocks x (a, a + 1)).1 (whole_blocks x (a + 1, a + 1 + n)).0
          (whole_blocks x (a + 1, a + 1 + n)).1 k (omega arith) (omega arith) (omega arith)
          ∙ ap (λ (m : ℕ). is_between (whole_blocks x (a, a + 1)).0
          (first_byte x + (m - first_byte x + 4095) / 4096 * 4096) k) (omega arith)
          ∙ sym (single (whole_blocks x (a, a + suc n)) k)
          ∙ sym (λ i. is_in ((if one i then whole_blocks x (a, a + suc n) else (a, a + suc n)) ∷ []) k)

  pub bytes_in : (end a : ℕ) (xs : List ℕ) → 1 ≤ length xs → All (IsBefore end) (byte_pairs a xs)
      → is_in (widened b (a, a + length xs) ∷ []) k ≡ is_in (map (widened b) (put_keys (byte_pairs a xs))) k
  bytes_in end a [] some all = absurd (omega (arith, some))
  bytes_in end a (x ∷ []) some all = refl
  bytes_in end a (x ∷ (y ∷ xs)) some all =
      let rest = All-tail (IsBefore end) (a, _) (byte_pairs (a + 1) (y ∷ xs)) all in
      sym (next_in b a (length (y ∷ xs)) (All-head (IsBefore end) (a, _) (byte_pairs (a + 1) (y ∷ xs)) all).0
      (All-head (IsBefore end) (a + 1, _) (byte_pairs (a + 1 + 1) xs) rest).0 (omega arith))
      ∙ ap (λ (t : Bool). is_in (widened b (a, a + 1) ∷ []) k || t)
      (bytes_in end (a + 1) (y ∷ xs) (omega arith) rest)
      ∙ first_or (is_between (widened b (a, a + 1)).0 (widened b (a, a + 1)).1 k) _
    where
      first_or : (p q : Bool) → ((p || false) || q) ≡ (p || q)
      first_or true q = refl
      first_or false q = refl

-- ---- all of them

module _ (e : HeldEdits) where
  abbrev fs : Intervals
  fs = put_keys (flat_map fill_pairs e.fills.items)

  abbrev rs : Intervals
  rs = put_keys (flat_map run_pairs e.runs.items)

  abbrev vs : Intervals
  vs = put_keys (map pair_of e.puts.items)

  abbrev zs : Intervals
  zs = map interval_of e.zeros.items

  abbrev cs : Intervals
  cs = map interval_of e.cuts.items

  in_order : changed (edits_of e) ≡ (((fs ++ rs) ++ vs) ++ zs) ++ cs
  in_order =
      ap (λ (qs : Intervals). qs ++ (zs ++ cs))
      (keys_both (flat_map fill_pairs e.fills.items) (flat_map run_pairs e.runs.items ++ map pair_of e.puts.items)
      (edits_of e).puts refl
      ∙ (ap (λ (qs : Intervals). fs ++ qs)
      (keys_both (flat_map run_pairs e.runs.items) (map pair_of e.puts.items)
      (flat_map run_pairs e.runs.items ++ map pair_of e.puts.items) refl)
      ∙ sym (append_assoc fs rs vs)))
      ∙ sym (append_assoc ((fs ++ rs) ++ vs) zs cs)

  pub all_added : (a c d f g : List Interval) → AddsChanges [] fs a → AddsChanges a rs c → AddsChanges c vs d
      → AddsChanges d zs f → AddsChanges f cs g → (b : Option Body) (k : ℕ) → k < top
      → is_in (map (widened b) (map interval_of g)) k ≡ is_in (map (widened b) (changed (edits_of e))) k
  all_added a c d f g fills runs values zeros cuts b k low =
      let one = adds_both [] a c fs rs (fs ++ rs) refl fills runs in
      let two = adds_both [] c d (fs ++ rs) vs ((fs ++ rs) ++ vs) refl one values in
      let three = adds_both [] d f ((fs ++ rs) ++ vs) zs (((fs ++ rs) ++ vs) ++ zs) refl two zeros in
      let four = adds_both [] f g (((fs ++ rs) ++ vs) ++ zs) cs ((((fs ++ rs) ++ vs) ++ zs) ++ cs) refl three cuts in
      four b k low ∙ sym (ap (λ (qs : Intervals). is_in (map (widened b) qs) k) in_order)
