-- Bytes that are set one after another.
use Rattle.std.proofs.Common.{◌≡◌, ltb, map, ℕ, zero, suc, ◌+◌, ◌-◌, ◌<◌, ◌≤◌, Bool, true, false, cond, List, [], ◌∷◌, ◌++◌, length, get_or, replicate, refl, sym, ap, subst, ◌∙◌, arith, inl, inr}
use Rattle.std.specs.Prelude.{slice_index, unwrap_or, Option, None, Some, ◌==◌, ◌||◌}
use Rattle.std.specs.List.{flat_map}
use Rattle.std.specs.Option.{IsSome, option_or}
use Rattle.std.proofs.lemmas.List.Concat.{flat_map-cons}
use Rattle.std.proofs.lemmas.Bool.{cases_lt, eqb-true, eqb-false, ltb-false, ltb-true, true≢false}
use Rattle.std.proofs.lemmas.Bool.Decides.{nat_tests}
use Rattle.std.proofs.lemmas.Grind.{common_steps}
use borrow.Rule.Slice.PartMut.{put_mid}
use Rattle.std.proofs.lemmas.List.{places, length-replicate, get_or-replicate}
use Rattle.std.specs.Prelude.{min, take, drop}
use Rattle.r4_base.specs.Key.{rank}
use Rattle.r4_base.specs.declared.key.Key.{Key}
use Rattle.r4_base.specs.declared.values.Value.{Value as HeldValue}
use Rattle.r4_base.specs.Value.{Value}
use Rattle.r4_content.specs.Edited.{Pairs, is_between, is_in}
use Rattle.r4_content.specs.Held.{edits_of, fill_pairs, interval_of, pair_of, run_pairs}
use Rattle.r4_content.specs.declared.edits.ByteRun.{ByteRun}
use Rattle.r4_content.specs.declared.edits.Edits.{Edits as HeldEdits}
use Rattle.r4_content.specs.declared.edits.FilledInterval.{FilledInterval}
use Rattle.r4_content.specs.Objects.{byte_pairs}
use Rattle.r4_content.specs.declared.edits.Interval.{Interval}
use Rattle.r4_extent_blocks.specs.Setting.{AreSet, SetsAll, TellsSets, byte_of, byte_set, last_put, zero_in}

-- ---- one function after another

or_none : {A : Type 0} (x : Option A) → option_or x None ≡ x
or_none None = refl
or_none (Some x) = refl

or_assoc : {A : Type 0} (x y z : Option A) → option_or (option_or x y) z ≡ option_or x (option_or y z)
or_assoc None y z = refl
or_assoc (Some x) y z = refl

unwrap_both : (x y : Option ℕ) (d : ℕ) → unwrap_or x (unwrap_or y d) ≡ unwrap_or (option_or x y) d
unwrap_both None y d = refl
unwrap_both (Some x) y d = refl

pub set_none : (f : ℕ → Option ℕ) (lo : ℕ) (xs : List ℕ) → ((i : ℕ) → i < length xs → f (lo + i) ≡ None) → AreSet f lo xs xs
set_none f lo xs h = record { long = refl; each = λ i lt. sym (ap (λ (o : Option ℕ). unwrap_or o (slice_index xs i)) (h i lt)) }

pub set_same : (f g : ℕ → Option ℕ) (lo : ℕ) (xs ys : List ℕ) → ((k : ℕ) → f k ≡ g k) → AreSet f lo xs ys → AreSet g lo xs ys
set_same f g lo xs ys same s = record { long = s.long; each = λ i lt. s.each i lt ∙ ap (λ (o : Option ℕ). unwrap_or o (slice_index xs i)) (same (lo + i)) }

pub set_both : (f g h : ℕ → Option ℕ) (lo : ℕ) (xs ys zs : List ℕ) → ((k : ℕ) → option_or (g k) (f k) ≡ h k) → AreSet f lo xs ys → AreSet g lo ys zs → AreSet h lo xs zs
set_both f g h lo xs ys zs is one two =
    let l = one.long in
    let m = two.long in
    record {
      long = m ∙ l;
      each = λ i lt.
          two.each i (omega (arith, lt, l))
          ∙ (ap (λ (x : ℕ). unwrap_or (g (lo + i)) x) (one.each i lt)
          ∙ (unwrap_both (g (lo + i)) (f (lo + i)) (slice_index xs i)
          ∙ ap (λ (o : Option ℕ). unwrap_or o (slice_index xs i)) (is (lo + i))));
    }

-- ---- pairs

pub last_more : (ps qs : Pairs) (k : ℕ) → option_or (last_put qs k) (last_put ps k) ≡ last_put (ps ++ qs) k
last_more [] qs k = or_none (last_put qs k)
last_more (p ∷ ps) qs k =
    sym (or_assoc (last_put qs k) (last_put ps k) (cond (p.0 == k) (byte_of p.1) None))
    ∙ ap (λ (o : Option ℕ). option_or o (cond (p.0 == k) (byte_of p.1) None)) (last_more ps qs k)

pub last_first : (p : ℕ × Value) (ps : Pairs) (k : ℕ) → option_or (last_put ps k) (last_put (p ∷ []) k) ≡ last_put (p ∷ ps) k
last_first p ps k = refl

-- bytes at one key after another
pub last_past : (a : ℕ) (xs : List ℕ) (k : ℕ) → k < a → last_put (byte_pairs a xs) k ≡ None
last_past a [] k lt = refl
last_past a (x ∷ xs) k lt =
    ap (λ (o : Option ℕ). option_or o (cond (a == k) (Some x) None)) (last_past (a + 1) xs k (omega (arith, lt)))
    ∙ not_here (a == k) refl
  where
    not_here : (b : Bool) → (a == k) ≡ b → cond b (Some x) None ≡ None
    not_here true e = absurd (let h = eqb-true a k e in omega (arith, h, lt))
    not_here false e = refl

pub last_behind : (a : ℕ) (xs : List ℕ) (k : ℕ) → a + length xs ≤ k → last_put (byte_pairs a xs) k ≡ None
last_behind a [] k le = refl
last_behind a (x ∷ xs) k le =
    ap (λ (o : Option ℕ). option_or o (cond (a == k) (Some x) None)) (last_behind (a + 1) xs k (omega (arith, le)))
    ∙ not_here (a == k) refl
  where
    not_here : (b : Bool) → (a == k) ≡ b → cond b (Some x) None ≡ None
    not_here true e = absurd (let h = eqb-true a k e in omega (arith, h, le))
    not_here false e = refl

pub last_within : (a : ℕ) (xs : List ℕ) (i : ℕ) → i < length xs → last_put (byte_pairs a xs) (a + i) ≡ Some (get_or xs i 0)
last_within a [] i lt = absurd (omega (arith, lt))
last_within a (x ∷ xs) zero lt =
    ap (λ (o : Option ℕ). option_or o (cond (a == a + 0) (Some x) None)) (last_past (a + 1) xs (a + 0) (omega arith))
    ∙ here (a == a + 0) refl
  where
    here : (b : Bool) → (a == a + 0) ≡ b → cond b (Some x) None ≡ Some x
    here true e = refl
    here false e = absurd (eqb-false a (a + 0) e (omega arith))
last_within a (x ∷ xs) (suc i) lt =
    ap (λ (o : Option ℕ). option_or o (cond (a == a + suc i) (Some x) None))
    (ap (last_put (byte_pairs (a + 1) xs)) (let e : a + suc i ≡ a + 1 + i = omega arith in e) ∙ last_within (a + 1) xs i (omega (arith, lt)))

-- ---- a part of a block

module _ (a n : ℕ) (xs ys : List ℕ) (fits : a + n ≤ length xs) (long : length ys ≡ n) where
  pub mid_long : length (put_mid a n xs ys) ≡ length xs
  mid_long = grind (arith, places)

  pub mid_below : (i : ℕ) → i < a → get_or (put_mid a n xs ys) i 0 ≡ get_or xs i 0
  mid_below i lt = grind (arith, places)

  pub mid_in : (i : ℕ) → i < n → get_or (put_mid a n xs ys) (a + i) 0 ≡ get_or ys i 0
  mid_in i lt = grind (arith, places)

  pub mid_above : (i : ℕ) → a + n ≤ i → get_or (put_mid a n xs ys) i 0 ≡ get_or xs i 0
  mid_above i le = grind (arith, places)

-- the function has a part's bytes at its keys, and none for the other keys of the block
pub record AreOfPart (f : ℕ → Option ℕ) (lo a n size : ℕ) (ys : List ℕ) : Type 0 where
  pub within : (i : ℕ) → i < n → f (lo + (a + i)) ≡ Some (get_or ys i 0)
  pub below : (i : ℕ) → i < a → f (lo + i) ≡ None
  pub above : (i : ℕ) → a + n ≤ i → i < size → f (lo + i) ≡ None

pub part_set : (f : ℕ → Option ℕ) (lo a n : ℕ) (xs ys : List ℕ) → a + n ≤ length xs → length ys ≡ n → AreOfPart f lo a n (length xs) ys → AreSet f lo xs (put_mid a n xs ys)
part_set f lo a n xs ys fits long part = record { long = mid_long a n xs ys fits long; each = λ i lt. at i lt }
  where
    at : (i : ℕ) → i < length xs → get_or (put_mid a n xs ys) i 0 ≡ unwrap_or (f (lo + i)) (get_or xs i 0)
    at i lt = elim (cases_lt i a) [
      | inl low ↦ mid_below a n xs ys fits long i low ∙ sym (ap (λ (o : Option ℕ). unwrap_or o (get_or xs i 0)) (part.below i low))
      | inr high ↦ elim (cases_lt i (a + n)) [
        | inl inside ↦
            let e : i ≡ a + (i - a) = omega arith in
            let lt2 : i - a < n = omega arith in
            ap (λ (j : ℕ). get_or (put_mid a n xs ys) j 0) e
            ∙ (mid_in a n xs ys fits long (i - a) lt2
            ∙ sym (ap (λ (o : Option ℕ). unwrap_or o (get_or xs i 0)) (ap (λ (j : ℕ). f (lo + j)) e ∙ part.within (i - a) lt2)))
        | inr past ↦ mid_above a n xs ys fits long i past ∙ sym (ap (λ (o : Option ℕ). unwrap_or o (get_or xs i 0)) (part.above i past lt))
      ]
    ]

pub part_long : (xs : List ℕ) (a b : ℕ) → b ≤ length xs → length (take (b - a) (drop a xs)) ≡ b - a
part_long xs a b le = grind (arith, common_steps)

pub part_at : (xs : List ℕ) (a n i : ℕ) → i < n → a + n ≤ length xs → get_or (take n (drop a xs)) i 0 ≡ get_or xs (a + i) 0
part_at xs a n i lt le = grind (arith, places)

-- ---- a fill

module _ (lo from to byte : ℕ) (a b : ℕ) (a_is : a ≡ min (from - lo) 4096) (b_is : b ≡ min (to - lo) 4096) where
  abbrev filled : ℕ → Option ℕ
  filled = last_put (byte_pairs from (replicate (to - from) byte))

  filled_long : length (replicate (to - from) byte) ≡ to - from
  filled_long = length-replicate (to - from) byte

  filled_in : a < b → (ys : List ℕ) → ((i : ℕ) → i < b - a → get_or ys i 0 ≡ byte) → (i : ℕ) → i < b - a → filled (lo + (a + i)) ≡ Some (get_or ys i 0)
  filled_in some ys each i lt =
      let key : lo + (a + i) ≡ from + (lo + (a + i) - from) = omega (arith, a_is, b_is, some, lt) in
      let in_range : lo + (a + i) - from < to - from = omega (arith, a_is, b_is, some, lt) in
      let n = filled_long in
      ap filled key
      ∙ (last_within from (replicate (to - from) byte) (lo + (a + i) - from) (omega (arith, in_range, n))
      ∙ ap Some (get_or-replicate (to - from) (lo + (a + i) - from) byte 0 in_range ∙ sym (each i lt)))

  filled_below : (i : ℕ) → i < a → filled (lo + i) ≡ None
  filled_below i lt = last_past from (replicate (to - from) byte) (lo + i) (omega (arith, a_is, lt))

  filled_above : a < b → (i : ℕ) → a + (b - a) ≤ i → i < 4096 → filled (lo + i) ≡ None
  filled_above some i le lt = let n = filled_long in last_behind from (replicate (to - from) byte) (lo + i) (omega (arith, n, a_is, b_is, some, le, lt))

  pub fill_set : (xs ys : List ℕ) → length xs ≡ 4096 → a < b → length ys ≡ b - a → ((i : ℕ) → i < b - a → get_or ys i 0 ≡ byte) → AreSet filled lo xs (put_mid a (b - a) xs ys)
  fill_set xs ys whole some long each =
      let fits : a + (b - a) ≤ length xs = omega (arith, b_is, some, whole) in
      part_set filled lo a (b - a) xs ys fits long (record {
        within = λ i lt. filled_in some ys each i lt;
        below = λ i lt. filled_below i lt;
        above = λ i le lt. filled_above some i le (omega (arith, lt, whole));
      })

  pub fill_nothing : (xs : List ℕ) → length xs ≡ 4096 → b ≤ a → AreSet filled lo xs xs
  fill_nothing xs whole none = set_none filled lo xs (λ i lt. elim (cases_lt (lo + i) from) [
    | inl low ↦ last_past from (replicate (to - from) byte) (lo + i) low
    | inr high ↦ let n = filled_long in last_behind from (replicate (to - from) byte) (lo + i) (omega (arith, n, a_is, b_is, none, high, lt, whole))
  ])

-- ---- a run

module _ (lo from : ℕ) (run : List ℕ) (a s n : ℕ) (a_is : a ≡ min (from - lo) 4096) (s_is : s ≡ min (lo - from) (length run)) (n_is : n ≡ min (length run - s) (4096 - a)) where
  abbrev run_put : ℕ → Option ℕ
  run_put = last_put (byte_pairs from run)

  pub run_set : (xs ys : List ℕ) → length xs ≡ 4096 → length ys ≡ n → ((i : ℕ) → i < n → get_or ys i 0 ≡ get_or run (s + i) 0) → AreSet run_put lo xs (put_mid a n xs ys)
  run_set xs ys whole long each =
      let fits : a + n ≤ length xs = omega (arith, a_is, n_is, whole) in
      part_set run_put lo a n xs ys fits long (record {
        within = λ i lt.
            let key : lo + (a + i) ≡ from + (s + i) = omega (arith, a_is, s_is, n_is, lt) in
            ap run_put key ∙ (last_within from run (s + i) (omega (arith, s_is, n_is, lt)) ∙ ap Some (sym (each i lt)));
        below = λ i lt. last_past from run (lo + i) (omega (arith, a_is, lt));
        above = λ i le lt. last_behind from run (lo + i) (omega (arith, a_is, s_is, n_is, le, lt, whole));
      })

-- ---- lists of them

pub flat_first : {X : Type 0} (p : X → Pairs) (all : List X) (x : X) (xs : List X) → all ≡ x ∷ xs → (k : ℕ) → option_or (last_put (flat_map p xs) k) (last_put (p x) k) ≡ last_put (flat_map p all) k
flat_first p all x xs is k =
    last_more (p x) (flat_map p xs) k ∙ ap (λ (ps : Pairs). last_put ps k) (sym (flat_map-cons p x xs) ∙ ap (flat_map p) (sym is))

pub last_filled : (a b x k : ℕ) → last_put (byte_pairs a (replicate (b - a) x)) k ≡ cond (is_between a b k) (Some x) None
last_filled a b x k = elim (cases_lt k a) [
  | inl low ↦ last_past a (replicate (b - a) x) k low ∙ sym (ap (λ (c : Bool). cond c (Some x) None) (out_low low))
  | inr high ↦ elim (cases_lt k b) [
    | inl within ↦
        let key : k ≡ a + (k - a) = omega arith in
        let inside : k - a < b - a = omega arith in
        let n = length-replicate (b - a) x in
        ap (last_put (byte_pairs a (replicate (b - a) x))) key
        ∙ (last_within a (replicate (b - a) x) (k - a) (omega (arith, n, inside))
        ∙ (ap Some (get_or-replicate (b - a) (k - a) x 0 inside) ∙ sym (ap (λ (c : Bool). cond c (Some x) None) (out_in high within))))
    | inr past ↦
        let n = length-replicate (b - a) x in
        last_behind a (replicate (b - a) x) k (omega (arith, n, high, past)) ∙ sym (ap (λ (c : Bool). cond c (Some x) None) (out_high past))
  ]
]
  where
    out_low : k < a → is_between a b k ≡ false
    out_low h = grind (arith, nat_tests)

    out_high : b ≤ k → is_between a b k ≡ false
    out_high h = grind (arith, nat_tests)

    out_in : a ≤ k → k < b → is_between a b k ≡ true
    out_in h g = grind (arith, nat_tests)

pub zero_first : (all : List Interval) (i : Interval) (is : List Interval) → all ≡ i ∷ is → (k : ℕ)
    → option_or (zero_in (map interval_of is) k) (last_put (byte_pairs (rank i.from) (replicate (rank i.to - rank i.from) 0)) k) ≡ zero_in (map interval_of all) k
zero_first all i is e k =
    ap (option_or (zero_in (map interval_of is) k)) (last_filled (rank i.from) (rank i.to) 0 k)
    ∙ (by_tests (is_in (map interval_of is) k) (is_between (rank i.from) (rank i.to) k) ∙ ap (λ (xs : List Interval). zero_in (map interval_of xs) k) (sym e))
  where
    by_tests : (a b : Bool) → option_or {T = ℕ} (cond a (Some 0) None) (cond b (Some 0) None) ≡ cond (b || a) (Some 0) None
    by_tests true true = refl
    by_tests true false = refl
    by_tests false true = refl
    by_tests false false = refl

pub value_first : (all : List (Key × HeldValue)) (x : Key × HeldValue) (xs : List (Key × HeldValue)) → all ≡ x ∷ xs → (k : ℕ)
    → option_or (last_put (map pair_of xs) k) (last_put (pair_of x ∷ []) k) ≡ last_put (map pair_of all) k
value_first all x xs is k = ap (λ (ys : List (Key × HeldValue)). last_put (map pair_of ys) k) (sym is)

-- ---- all of them

pub all_puts : (fs rs vs : Pairs) (z : Option ℕ) (k : ℕ) → option_or (last_put vs k) (option_or (last_put rs k) (option_or (last_put fs k) z)) ≡ option_or (last_put (fs ++ (rs ++ vs)) k) z
all_puts fs rs vs z k =
    sym (or_assoc (last_put vs k) (last_put rs k) (option_or (last_put fs k) z))
    ∙ (sym (or_assoc (option_or (last_put vs k) (last_put rs k)) (last_put fs k) z)
    ∙ ap (λ (o : Option ℕ). option_or o z) (ap (λ (o : Option ℕ). option_or o (last_put fs k)) (last_more rs vs k) ∙ last_more fs (rs ++ vs) k))

-- what was there before says nothing where each byte is set
pub set_over : (f : ℕ → Option ℕ) (lo : ℕ) (xs ys zs : List ℕ) → length xs ≡ 4096 → length ys ≡ 4096 → SetsAll f lo → AreSet f lo xs zs → AreSet f lo ys zs
set_over f lo xs ys zs m n all set =
    let l = set.long in
    record { long = omega (arith, l, m, n); each = λ i lt. set.each i (omega (arith, lt, m, n)) ∙ either (f (lo + i)) (all (lo + i) (omega arith) (omega (arith, lt, n))) (slice_index xs i) (slice_index ys i) }
  where
    either : (o : Option ℕ) → IsSome o → (a b : ℕ) → unwrap_or o a ≡ unwrap_or o b
    either None h a b = absurd (true≢false (sym h))
    either (Some x) h a b = refl

-- ---- whether there are some

module _ (f g h : ℕ → Option ℕ) (lo : ℕ) (both : (k : ℕ) → option_or (g k) (f k) ≡ h k) where
  some_or : (x y : Option ℕ) → IsSome y → IsSome (option_or x y)
  some_or None y s = s
  some_or (Some x) y s = refl

  some_left : (x y : Option ℕ) → IsSome x → IsSome (option_or x y)
  some_left None y s = absurd (true≢false (sym s))
  some_left (Some x) y s = refl

  none_or : (x y : Option ℕ) → x ≡ None → y ≡ None → option_or x y ≡ None
  none_or x y e d = ap (λ (o : Option ℕ). option_or o y) e ∙ d

  pub tells_first : (a : Bool) → TellsSets a f lo → a ≡ true → TellsSets a h lo
  tells_first a t is = record {
    some = λ _. let (k, low, high, s) = t.some is in (k, low, high, subst IsSome (both k) (some_or (g k) (f k) s));
    none = λ e. absurd (true≢false (sym is ∙ e));
  }

  pub tells_rest : (a b : Bool) → TellsSets a f lo → a ≡ false → TellsSets b g lo → TellsSets b h lo
  tells_rest a b t is u = record {
    some = λ e. let (k, low, high, s) = u.some e in (k, low, high, subst IsSome (both k) (some_left (g k) (f k) s));
    none = λ e k low high. sym (both k) ∙ none_or (g k) (f k) (u.none e k low high) (t.none is k low high);
  }

  pub all_first : SetsAll f lo → SetsAll h lo
  all_first all k low high = subst IsSome (both k) (some_or (g k) (f k) (all k low high))

  pub all_rest : SetsAll g lo → SetsAll h lo
  all_rest all k low high = subst IsSome (both k) (some_left (g k) (f k) (all k low high))

pub tells_none : (f : ℕ → Option ℕ) (lo : ℕ) → ((k : ℕ) → f k ≡ None) → TellsSets false f lo
tells_none f lo none = record { some = λ e. absurd (true≢false (sym e)); none = λ _ k low high. none k }

-- ---- one fill, one run

module _ (lo from to byte : ℕ) where
  abbrev one_fill : ℕ → Option ℕ
  one_fill = last_put (byte_pairs from (replicate (to - from) byte))

  pub fill_tells : (b : Bool) (x y : ℕ) → x ≡ min (from - lo) 4096 → y ≡ min (to - lo) 4096 → b ≡ ltb x y → TellsSets b one_fill lo
  fill_tells b x y x_is y_is b_is = record {
    some = λ e. let lt = ltb-true x y (sym b_is ∙ e) in
        let key : lo + x ≡ from + (lo + x - from) = omega (arith, x_is, y_is, lt) in
        let inside : lo + x - from < to - from = omega (arith, x_is, y_is, lt) in
        (lo + x, omega arith, omega (arith, y_is, lt), is_some_of (is_in_range lt));
    none = λ e k low high. let le = ltb-false x y (sym b_is ∙ e) in last_filled from to byte k ∙ ap (λ (c : Bool). cond c (Some byte) None) (is_out le low high);
  }
    where
      is_in_range : x < y → is_between from to (lo + x) ≡ true
      is_in_range lt = let low : from ≤ lo + x = omega (arith, x_is, y_is, lt) in let high : lo + x < to = omega (arith, x_is, y_is, lt) in grind (arith, nat_tests)

      is_some_of : is_between from to (lo + x) ≡ true → IsSome (one_fill (lo + x))
      is_some_of e = subst IsSome (sym (last_filled from to byte (lo + x) ∙ ap (λ (c : Bool). cond c (Some byte) None) e)) refl

      is_out : {k : ℕ} → y ≤ x → lo ≤ k → k < lo + 4096 → is_between from to k ≡ false
      is_out {k} le low high = elim (cases_lt k from) [
        | inl before ↦ grind (arith, nat_tests)
        | inr behind ↦ let past : to ≤ k = omega (arith, x_is, y_is, le, low, high, behind) in grind (arith, nat_tests)
      ]

  pub fill_all : from ≤ lo → min (to - lo) 4096 ≡ 4096 → SetsAll one_fill lo
  fill_all le e k low high = subst IsSome (sym (last_filled from to byte k ∙ ap (λ (c : Bool). cond c (Some byte) None) is_in_it)) refl
    where
      is_in_it : is_between from to k ≡ true
      is_in_it = let a : from ≤ k = omega (arith, le, low) in let b : k < to = omega (arith, e, high) in grind (arith, nat_tests)

module _ (lo from : ℕ) (run : List ℕ) where
  abbrev one_run : ℕ → Option ℕ
  one_run = last_put (byte_pairs from run)

  run_some : (k : ℕ) → from ≤ k → k < from + length run → IsSome (one_run k)
  run_some k low high =
      let key : from + (k - from) ≡ k = omega (arith, low) in
      subst (λ (j : ℕ). IsSome (one_run j)) key (subst IsSome (sym (last_within from run (k - from) (omega (arith, low, high)))) refl)

  pub run_near : (x y : ℕ) → x ≡ min (from - lo) 4096 → x < 4096 → y ≡ min (lo - from) (length run) → TellsSets (ltb y (length run)) one_run lo
  run_near x y x_is near y_is = record {
    some = λ e. let lt = ltb-true y (length run) e in (lo + (from - lo), omega arith, omega (arith, near, x_is), run_some (lo + (from - lo)) (omega arith) (omega (arith, lt, y_is)));
    none = λ e k low high. let le = ltb-false y (length run) e in elim (cases_lt k from) [
      | inl before ↦ last_past from run k before
      | inr behind ↦ last_behind from run k (omega (arith, le, y_is, low, behind))
    ];
  }

  pub run_far : (x : ℕ) → x ≡ min (from - lo) 4096 → 4096 ≤ x → TellsSets (ltb x 4096) one_run lo
  run_far x x_is far = record {
    some = λ e. absurd (let lt = ltb-true x 4096 e in omega (arith, lt, far));
    none = λ _ k low high. last_past from run k (omega (arith, x_is, far, low, high));
  }

  pub run_all : from ≤ lo → 4096 ≤ length run - min (lo - from) (length run) → SetsAll one_run lo
  run_all le long k low high = run_some k (omega (arith, le, low)) (omega (arith, long, high))

-- ---- all edits of a block

pub set_run_at : (lo a : ℕ) (run xs ys zs : List ℕ) → zs ≡ run → AreSet (last_put (byte_pairs a zs)) lo xs ys → AreSet (last_put (byte_pairs a run)) lo xs ys
set_run_at lo a run xs ys zs e s = subst (λ (b : List ℕ). AreSet (last_put (byte_pairs a b)) lo xs ys) e s

pub all_set : (e : HeldEdits) (lo : ℕ) (zs : List Interval) (fs : List FilledInterval) (rs : List ByteRun) (vs : List (Key × HeldValue)) (v w x y z : List ℕ)
    → zs ≡ e.zeros.items → fs ≡ e.fills.items → rs ≡ e.runs.items → vs ≡ e.puts.items
    → AreSet (zero_in (map interval_of zs)) lo v w → AreSet (last_put (flat_map fill_pairs fs)) lo w x → AreSet (last_put (flat_map run_pairs rs)) lo x y → AreSet (last_put (map pair_of vs)) lo y z
    → AreSet (byte_set (edits_of e)) lo v z
all_set e lo zs fs rs vs v w x y z zeros fills runs puts a b c d =
    let zf : ℕ → Option ℕ = λ k. option_or (last_put (flat_map fill_pairs fs) k) (zero_in (map interval_of zs) k) in
    let zr : ℕ → Option ℕ = λ k. option_or (last_put (flat_map run_pairs rs) k) (zf k) in
    let one : AreSet zf lo v x = set_both (zero_in (map interval_of zs)) (last_put (flat_map fill_pairs fs)) zf lo v w x (λ k. refl) a b in
    let two : AreSet zr lo v y = set_both zf (last_put (flat_map run_pairs rs)) zr lo v x y (λ k. refl) one c in
    set_both zr (last_put (map pair_of vs)) (byte_set (edits_of e)) lo v y z (λ k.
    all_puts (flat_map fill_pairs fs) (flat_map run_pairs rs) (map pair_of vs) (zero_in (map interval_of zs) k) k
    ∙ (ap (λ (l : List FilledInterval). option_or (last_put (flat_map fill_pairs l ++ (flat_map run_pairs rs ++ map pair_of vs)) k) (zero_in (map interval_of zs) k)) fills
    ∙ (ap (λ (l : List ByteRun). option_or (last_put (flat_map fill_pairs e.fills.items ++ (flat_map run_pairs l ++ map pair_of vs)) k) (zero_in (map interval_of zs) k)) runs
    ∙ (ap (λ (l : List (Key × HeldValue)). option_or (last_put (flat_map fill_pairs e.fills.items ++ (flat_map run_pairs e.runs.items ++ map pair_of l)) k) (zero_in (map interval_of zs) k)) puts
    ∙ ap (λ (l : List Interval). option_or (last_put (flat_map fill_pairs e.fills.items ++ (flat_map run_pairs e.runs.items ++ map pair_of e.puts.items)) k) (zero_in (map interval_of l) k)) zeros)))) two d

pub tells_at : (b : Bool) (lo a : ℕ) (run zs : List ℕ) → zs ≡ run → TellsSets b (last_put (byte_pairs a zs)) lo → TellsSets b (last_put (byte_pairs a run)) lo
tells_at b lo a run zs e s = subst (λ (r : List ℕ). TellsSets b (last_put (byte_pairs a r)) lo) e s

-- what holds of the bytes of the three kinds of puts
module _ (e : HeldEdits) (fs : List FilledInterval) (rs : List ByteRun) (vs : List (Key × HeldValue)) (fills : fs ≡ e.fills.items) (runs : rs ≡ e.runs.items) (values : vs ≡ e.puts.items) (k : ℕ) where
  pub parts_one : option_or (last_put (map pair_of vs) k) (last_put (flat_map run_pairs rs) k) ≡ last_put (flat_map run_pairs e.runs.items ++ map pair_of e.puts.items) k
  parts_one =
      last_more (flat_map run_pairs rs) (map pair_of vs) k
      ∙ (ap (λ (l : List ByteRun). last_put (flat_map run_pairs l ++ map pair_of vs) k) runs
      ∙ ap (λ (l : List (Key × HeldValue)). last_put (flat_map run_pairs e.runs.items ++ map pair_of l) k) values)

pub parts_two : (e : HeldEdits) (fs : List FilledInterval) → fs ≡ e.fills.items → (k : ℕ)
    → option_or (last_put (flat_map run_pairs e.runs.items ++ map pair_of e.puts.items) k) (last_put (flat_map fill_pairs fs) k) ≡ last_put ((edits_of e).puts) k
parts_two e fs fills k =
    last_more (flat_map fill_pairs fs) (flat_map run_pairs e.runs.items ++ map pair_of e.puts.items) k
    ∙ ap (λ (l : List FilledInterval). last_put (flat_map fill_pairs l ++ (flat_map run_pairs e.runs.items ++ map pair_of e.puts.items)) k) fills

pub parts_three : (e : HeldEdits) (zs : List Interval) → zs ≡ e.zeros.items → (k : ℕ) → option_or (last_put (edits_of e).puts k) (zero_in (map interval_of zs) k) ≡ byte_set (edits_of e) k
parts_three e zs zeros k = ap (λ (l : List Interval). option_or (last_put (edits_of e).puts k) (zero_in (map interval_of l) k)) zeros

-- all bytes of the block are set where fills or runs set all
module _ (e : HeldEdits) (lo : ℕ) where
  over_all : SetsAll (last_put (edits_of e).puts) lo → SetsAll (byte_set (edits_of e)) lo
  over_all = all_rest (zero_in (map interval_of e.zeros.items)) (last_put (edits_of e).puts) (byte_set (edits_of e)) lo (λ k. refl)

  pub over_fills : (fs : List FilledInterval) → fs ≡ e.fills.items → SetsAll (last_put (flat_map fill_pairs fs)) lo → SetsAll (byte_set (edits_of e)) lo
  over_fills fs fills all =
      over_all (all_first (last_put (flat_map fill_pairs fs)) (last_put (flat_map run_pairs e.runs.items ++ map pair_of e.puts.items)) (last_put (edits_of e).puts) lo (parts_two e fs fills) all)

  pub over_runs : (rs : List ByteRun) → rs ≡ e.runs.items → SetsAll (last_put (flat_map run_pairs rs)) lo → SetsAll (byte_set (edits_of e)) lo
  over_runs rs runs all =
      over_all (all_rest (last_put (flat_map fill_pairs e.fills.items)) (last_put (flat_map run_pairs e.runs.items ++ map pair_of e.puts.items)) (last_put (edits_of e).puts) lo (parts_two e e.fills.items refl)
      (all_first (last_put (flat_map run_pairs rs)) (last_put (map pair_of e.puts.items)) (last_put (flat_map run_pairs e.runs.items ++ map pair_of e.puts.items)) lo
      (parts_one e e.fills.items rs e.puts.items refl runs refl) all))
