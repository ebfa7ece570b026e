-- What the steps of a splice leave, byte by byte and header by header.
use Rattle.std.proofs.Common.{◌≡◌, ℕ, ◌+◌, ◌-◌, ◌*◌, ◌^◌, ◌<◌, ◌≤◌, List, length, get_or, refl, sym, ap, subst, ◌∙◌, arith, ◌⊎◌, inl, inr}
use Rattle.std.proofs.lemmas.Bool.{cases_eq, cases_lt}
use Rattle.std.specs.Prelude.{slice_range}
use Rattle.r4_base.specs.Bytes.{number_at, number_bytes, overwrite}
use Rattle.r4_base.specs.Node.{count_of, start_of, free_of, key_at, plugin_at, offset_at, item_flags_at, edge_at}
use Rattle.r4_base.proofs.Numbers.{length-overwrite, length-number_bytes, length-slice_range, get_or-slice_range, get_or-overwrite_below, get_or-overwrite_inside, get_or-overwrite_above, number_at-overwrite, number_at-overwrite_before, number_at-overwrite_after}
use Rattle.r4_node40.specs.Laid.{SameHeader}
use Rattle.r4_node40.specs.Splice.{CanSplice, IsSpliced, ShiftedHeader, ShiftsOffsets}
use Rattle.r4_node40.specs.declared.edit.Splice.{Splice}
use Rattle.r4_node40.proofs.Laid.{edge_next, edges_apart, edge_stands}
use Rattle.r4_node40.proofs.Headers.{same_header}

-- ---- one offset is written

pub record OffsetWritten (i v : ℕ) (old new : List ℕ) : Type 0 where
  pub here : offset_at new i ≡ v
  pub elsewhere : (k : ℕ) → (k ≡ i → ⊥) → 38 * (k + 1) ≤ 4096 → offset_at new k ≡ offset_at old k
  pub keys : (k : ℕ) → 38 * (k + 1) ≤ 4096 → key_at new k ≡ key_at old k
  pub plugins : (k : ℕ) → 38 * (k + 1) ≤ 4096 → plugin_at new k ≡ plugin_at old k
  pub flags : (k : ℕ) → 38 * (k + 1) ≤ 4096 → item_flags_at new k ≡ item_flags_at old k
  pub bytes : (p : ℕ) → p + 38 * (i + 1) < 4096 → get_or new p 0 ≡ get_or old p 0

apart : (n q i k : ℕ) (old ys : List ℕ) → length ys ≡ 2 → length old ≡ 4096 → 38 * (i + 1) ≤ 4096 → 38 * (k + 1) ≤ 4096 → q + n ≤ 38 → (k ≡ i → (q + n ≤ 32) ⊎ (34 ≤ q))
    → number_at n (4096 - 38 * (k + 1) + q) (overwrite (4096 - 38 * (i + 1) + 32) ys old) ≡ number_at n (4096 - 38 * (k + 1) + q) old
apart n q i k old ys two whole room room' fit off =
    let before : 4096 - 38 * (i + 1) + 32 + length ys ≤ length old = omega arith in
    elim (cases_eq k i) [
      | inl same ↦
          elim (off same) [
            | inl low ↦ number_at-overwrite_after n (4096 - 38 * (k + 1) + q) (4096 - 38 * (i + 1) + 32) ys old before (omega arith)
            | inr high ↦ number_at-overwrite_before n (4096 - 38 * (k + 1) + q) (4096 - 38 * (i + 1) + 32) ys old before (omega arith)
          ]
      | inr other ↦
          elim (cases_lt k i) [
            | inl below ↦ number_at-overwrite_before n (4096 - 38 * (k + 1) + q) (4096 - 38 * (i + 1) + 32) ys old before (omega arith)
            | inr above ↦ number_at-overwrite_after n (4096 - 38 * (k + 1) + q) (4096 - 38 * (i + 1) + 32) ys old before (omega arith)
          ]
    ]

pub offset_written : (i v : ℕ) (old new : List ℕ) → length old ≡ 4096 → 38 * (i + 1) ≤ 4096 → v < 2 ^ 16 → new ≡ overwrite (4096 - 38 * (i + 1) + 32) (number_bytes 2 v) old → OffsetWritten i v old new
unfolding key_at plugin_at offset_at item_flags_at
offset_written i v old new whole room small e =
    let two : length (number_bytes 2 v) ≡ 2 = length-number_bytes 2 v in
    let within : 4096 - 38 * (i + 1) + 32 + length (number_bytes 2 v) ≤ length old = omega arith in
    let zeroth = λ (k : ℕ) (r : 38 * (k + 1) ≤ 4096). apart 8 0 i k old (number_bytes 2 v) two whole room r (omega arith) (λ _. inl (omega arith)) in
    record {
      here = rw e (number_at-overwrite 2 (4096 - 38 * (i + 1) + 32) v old (omega arith) small);
      elsewhere = λ k ne r. rw e (apart 2 32 i k old (number_bytes 2 v) two whole room r (omega arith) (λ same. absurd (ne same)));
      keys = λ k r.
          let z : 4096 - 38 * (k + 1) + 0 ≡ 4096 - 38 * (k + 1) = omega arith in
          let a = subst (λ (h : ℕ). number_at 8 h (overwrite (4096 - 38 * (i + 1) + 32) (number_bytes 2 v) old) ≡ number_at 8 h old) z (zeroth k r) in
          let b = apart 8 8 i k old (number_bytes 2 v) two whole room r (omega arith) (λ _. inl (omega arith)) in
          let c = apart 8 16 i k old (number_bytes 2 v) two whole room r (omega arith) (λ _. inl (omega arith)) in
          let d = apart 8 24 i k old (number_bytes 2 v) two whole room r (omega arith) (λ _. inl (omega arith)) in
          rw (e, a, b, c, d) refl;
      plugins = λ k r. rw e (apart 2 36 i k old (number_bytes 2 v) two whole room r (omega arith) (λ _. inr (omega arith)));
      flags = λ k r. rw e (apart 2 34 i k old (number_bytes 2 v) two whole room r (omega arith) (λ _. inr (omega arith)));
      bytes = λ p lt. rw e (get_or-overwrite_below (4096 - 38 * (i + 1) + 32) (number_bytes 2 v) old p 0 within (omega arith));
    }

-- ---- a loop that shifts offsets

pub record Shifted (first count old new j : ℕ) (b c : List ℕ) : Type 0 where
  pub before : (k : ℕ) → k < first → k < count → SameHeader c b k k
  pub done : (k : ℕ) → first ≤ k → k < j → k < count → ShiftedHeader old new c b k k
  pub todo : (k : ℕ) → j ≤ k → k < count → SameHeader c b k k
  pub bytes : (p : ℕ) → p + 38 * count < 4096 → get_or c p 0 ≡ get_or b p 0

unmoved : (b : List ℕ) (k : ℕ) → SameHeader b b k k
unmoved b k = record { key = refl; plugin = refl; offset = refl; flags = refl }

pub shifted_none : (first count old new : ℕ) (b : List ℕ) → Shifted first count old new first b b
shifted_none first count old new b = record {
  before = λ k lt within. unmoved b k;
  done = λ k le lt within. absurd (omega arith);
  todo = λ k le lt. unmoved b k;
  bytes = λ p lt. refl;
}

pub shifted_more : (first count old new j v : ℕ) (b c d : List ℕ) → Shifted first count old new j b c → first ≤ j → j < count → old ≤ offset_at b j → offset_at b j + new < 2 ^ 16 → 38 * count ≤ 4068 → length c ≡ 4096 → v ≡ offset_at c j
    → d ≡ overwrite (4096 - 38 * (j + 1) + 32) (number_bytes 2 (v + new - old)) c → Shifted first count old new (j + 1) b d
shifted_more first count old new j v b c d so_far le lt enough small room whole is e =
    let now = (so_far.todo j (omega arith) lt).offset in
    let w = offset_written j (v + new - old) c d whole (omega arith) (omega arith) e in
    let here = w.here in
    let still = λ (k : ℕ) (h : SameHeader c b k k) (ne : k ≡ j → ⊥) (within : k < count).
    let r : SameHeader d b k k = record { key = w.keys k (omega arith) ∙ h.key; plugin = w.plugins k (omega arith) ∙ h.plugin; offset = w.elsewhere k ne (omega arith) ∙ h.offset; flags = w.flags k (omega arith) ∙ h.flags } in
    r in
    record {
      before = λ k below within. still k (so_far.before k below within) (λ x. omega (arith, x)) within;
      done = λ k from below within. elim (cases_eq k j) [
        | inl same ↦
            let h = so_far.todo k (omega arith) within in
            let here' : offset_at d k ≡ v + new - old = ap (offset_at d) same ∙ here in
            let was : offset_at b k ≡ offset_at b j = ap (offset_at b) same in
            record { key = w.keys k (omega arith) ∙ h.key; plugin = w.plugins k (omega arith) ∙ h.plugin; offset = omega arith; flags = w.flags k (omega arith) ∙ h.flags }
        | inr other ↦
            let h = so_far.done k from (omega arith) within in
            record { key = w.keys k (omega arith) ∙ h.key; plugin = w.plugins k (omega arith) ∙ h.plugin; offset = rw (w.elsewhere k other (omega arith)) h.offset; flags = w.flags k (omega arith) ∙ h.flags }
      ];
      todo = λ k above within. still k (so_far.todo k (omega arith) within) (λ x. omega (arith, x)) within;
      bytes = λ p below. w.bytes p (omega arith) ∙ so_far.bytes p below;
    }

pub shifted_all : (first count old new j : ℕ) (b c : List ℕ) → Shifted first count old new j b c → count ≤ j → ShiftsOffsets first count old new b c
shifted_all first count old new j b c s le = record { before = s.before; after = λ k from within. s.done k from (omega arith) within; bytes = s.bytes }

-- ---- what the two moves leave

pub record Moved (b c : List ℕ) (n at gone come from old new : ℕ) : Type 0 where
  pub whole : length c ≡ 4096
  pub kept : (k : ℕ) → k < at + come → SameHeader c b k k
  pub shifted : (k : ℕ) → at ≤ k → k + gone < n → SameHeader c b (k + come) (k + gone)
  pub low : (p : ℕ) → p < from + new → get_or c p 0 ≡ get_or b p 0
  pub high : (q : ℕ) → from ≤ q → q + old < start_of b → get_or c (q + new) 0 ≡ get_or b (q + old) 0
  pub middle : (p : ℕ) → start_of b + new ≤ p + old → p + 38 * n + 38 * come < 4096 + 38 * gone → get_or c p 0 ≡ get_or b p 0

pub moved : (b b1 b2 : List ℕ) (n m at gone come from old new start : ℕ) → length b ≡ 4096 → start ≡ start_of b → m + gone ≡ n + come → at + gone ≤ n → from + old ≤ start → start + 38 * n ≤ 4096
    → start + new + 38 * m ≤ 4096 + old → start + new + 38 * n ≤ 4096 + old
    → b1 ≡ overwrite (from + new) (slice_range b (from + old) start) b → b2 ≡ overwrite (4096 - 38 * m) (slice_range b1 (4096 - 38 * n) (4096 - 38 * (at + gone))) b1 → Moved b b2 n at gone come from old new
moved b b1 b2 n m at gone come from old new start whole is count within inside room room' room'' e1 e2 =
    let tail = slice_range b (from + old) start in
    let tail_long : length tail ≡ start - (from + old) = length-slice_range b (from + old) start inside (omega arith) in
    let fits : from + new + length tail ≤ length b = omega arith in
    let whole1 : length b1 ≡ 4096 = ap length e1 ∙ length-overwrite (from + new) tail b fits ∙ whole in
    let heads = slice_range b1 (4096 - 38 * n) (4096 - 38 * (at + gone)) in
    let heads_long : length heads ≡ 4096 - 38 * (at + gone) - (4096 - 38 * n) = length-slice_range b1 (4096 - 38 * n) (4096 - 38 * (at + gone)) (omega arith) (omega arith) in
    let heads_end : 4096 - 38 * m + length heads ≡ 4096 - 38 * (at + come) = omega arith in
    let fits2 : 4096 - 38 * m + length heads ≤ length b1 = omega arith in
    let whole2 : length b2 ≡ 4096 = ap length e2 ∙ length-overwrite (4096 - 38 * m) heads b1 fits2 ∙ whole1 in
    let first_low = λ (p : ℕ) (h : p < from + new). ap (λ (xs : List ℕ). get_or xs p 0) e1 ∙ get_or-overwrite_below (from + new) tail b p 0 fits h in
    let first_high = λ (p : ℕ) (h : start + new ≤ p + old). ap (λ (xs : List ℕ). get_or xs p 0) e1 ∙ get_or-overwrite_above (from + new) tail b p 0 fits (omega arith) in
    let first_mid = λ (q : ℕ) (ge : from ≤ q) (h : q + old < start).
    let place : from + old + (q + new - (from + new)) ≡ q + old = omega arith in
    ap (λ (xs : List ℕ). get_or xs (q + new) 0) e1 ∙ get_or-overwrite_inside (from + new) tail b (q + new) 0 fits (omega arith) (omega arith) ∙ get_or-slice_range b (from + old) start (q + new - (from + new)) (omega arith) ∙ ap (λ (r : ℕ). get_or b r 0) place in
    let second_low = λ (p : ℕ) (h : p < 4096 - 38 * m). ap (λ (xs : List ℕ). get_or xs p 0) e2 ∙ get_or-overwrite_below (4096 - 38 * m) heads b1 p 0 fits2 h in
    let second_high = λ (p : ℕ) (h : 4096 - 38 * (at + come) ≤ p). ap (λ (xs : List ℕ). get_or xs p 0) e2 ∙ get_or-overwrite_above (4096 - 38 * m) heads b1 p 0 fits2 (omega arith) in
    let second_mid = λ (p q : ℕ) (ge : 4096 - 38 * m ≤ p) (h : p < 4096 - 38 * (at + come)) (back : q + 38 * n ≡ p + 38 * m).
    let place : 4096 - 38 * n + (p - (4096 - 38 * m)) ≡ q = omega arith in
    ap (λ (xs : List ℕ). get_or xs p 0) e2 ∙ get_or-overwrite_inside (4096 - 38 * m) heads b1 p 0 fits2 ge (omega arith) ∙ get_or-slice_range b1 (4096 - 38 * n) (4096 - 38 * (at + gone)) (p - (4096 - 38 * m)) (omega arith) ∙ ap (λ (r : ℕ). get_or b1 r 0) place in
    record {
      whole = whole2;
      kept = λ k below. same_header b2 b k k (λ r small. second_high (4096 - 38 * (k + 1) + r) (omega arith) ∙ first_high (4096 - 38 * (k + 1) + r) (omega arith));
      shifted = λ k above below. same_header b2 b (k + come) (k + gone) (λ r small.
          second_mid (4096 - 38 * (k + come + 1) + r) (4096 - 38 * (k + gone + 1) + r) (omega arith) (omega arith) (omega arith) ∙ first_high (4096 - 38 * (k + gone + 1) + r) (omega arith));
      low = λ p h. second_low p (omega arith) ∙ first_low p h;
      high = λ q ge h. second_low (q + new) (omega arith) ∙ first_mid q ge (omega arith);
      middle = λ p ge h. second_low p (omega arith) ∙ first_high p (omega arith);
    }

-- ---- the numbers of the header

pub record Headed (b new : List ℕ) (count free start : ℕ) : Type 0 where
  pub whole : length new ≡ 4096
  pub count_is : count_of new ≡ count
  pub free_is : free_of new ≡ free
  pub start_is : start_of new ≡ start
  pub bytes : (p : ℕ) → 8 ≤ p → get_or new p 0 ≡ get_or b p 0
  pub front : (p : ℕ) → p < 2 → get_or new p 0 ≡ get_or b p 0

pub headed : (b b1 b2 b3 : List ℕ) (count free start : ℕ) → length b ≡ 4096 → count < 2 ^ 16 → free < 2 ^ 16 → start < 2 ^ 16
    → b1 ≡ overwrite 2 (number_bytes 2 count) b → b2 ≡ overwrite 4 (number_bytes 2 free) b1 → b3 ≡ overwrite 6 (number_bytes 2 start) b2 → Headed b b3 count free start
headed b b1 b2 b3 count free start whole f1 f2 f3 e1 e2 e3 =
    let n1 = length-number_bytes 2 count in
    let n2 = length-number_bytes 2 free in
    let n3 = length-number_bytes 2 start in
    let fit1 : 2 + length (number_bytes 2 count) ≤ length b = omega arith in
    let w1 : length b1 ≡ 4096 = ap length e1 ∙ length-overwrite 2 (number_bytes 2 count) b fit1 ∙ whole in
    let fit2 : 4 + length (number_bytes 2 free) ≤ length b1 = omega arith in
    let w2 : length b2 ≡ 4096 = ap length e2 ∙ length-overwrite 4 (number_bytes 2 free) b1 fit2 ∙ w1 in
    let fit3 : 6 + length (number_bytes 2 start) ≤ length b2 = omega arith in
    let w3 : length b3 ≡ 4096 = ap length e3 ∙ length-overwrite 6 (number_bytes 2 start) b2 fit3 ∙ w2 in
    record {
      whole = w3;
      count_is = ap (number_at 2 2) e3 ∙ number_at-overwrite_after 2 2 6 (number_bytes 2 start) b2 fit3 (omega arith) ∙ ap (number_at 2 2) e2 ∙ number_at-overwrite_after 2 2 4 (number_bytes 2 free) b1 fit2 (omega arith) ∙ ap (number_at 2 2) e1 ∙ number_at-overwrite 2 2 count b (omega arith) f1;
      free_is = ap (number_at 2 4) e3 ∙ number_at-overwrite_after 2 4 6 (number_bytes 2 start) b2 fit3 (omega arith) ∙ ap (number_at 2 4) e2 ∙ number_at-overwrite 2 4 free b1 (omega arith) f2;
      start_is = ap (number_at 2 6) e3 ∙ number_at-overwrite 2 6 start b2 (omega arith) f3;
      bytes = λ p le. ap (λ (xs : List ℕ). get_or xs p 0) e3 ∙ get_or-overwrite_above 6 (number_bytes 2 start) b2 p 0 fit3 (omega arith) ∙ ap (λ (xs : List ℕ). get_or xs p 0) e2 ∙ get_or-overwrite_above 4 (number_bytes 2 free) b1 p 0 fit2 (omega arith) ∙ ap (λ (xs : List ℕ). get_or xs p 0) e1 ∙ get_or-overwrite_above 2 (number_bytes 2 count) b p 0 fit1 (omega arith);
      front = λ p lt. ap (λ (xs : List ℕ). get_or xs p 0) e3 ∙ get_or-overwrite_below 6 (number_bytes 2 start) b2 p 0 fit3 (omega arith) ∙ ap (λ (xs : List ℕ). get_or xs p 0) e2 ∙ get_or-overwrite_below 4 (number_bytes 2 free) b1 p 0 fit2 (omega arith) ∙ ap (λ (xs : List ℕ). get_or xs p 0) e1 ∙ get_or-overwrite_below 2 (number_bytes 2 count) b p 0 fit1 lt;
    }

-- ---- the splice

-- what the steps of a splice start from
pub record Start (s : Splice) (b : List ℕ) : Type 0 where
  pub low : 28 ≤ s.from
  pub inside : s.from + s.old ≤ start_of b
  pub sum : start_of b + free_of b + 38 * count_of b ≡ 4096
  pub start : 28 ≤ start_of b

pub started : (s : Splice) (b : List ℕ) → CanSplice s b → Start s b
started s b can =
    let f = edge_stands b (count_of b) s.at can.laid refl (omega (arith, can.within)) in
    let t = edge_stands b (count_of b) (s.at + s.gone) can.laid refl can.within in
    record { low = omega (arith, f.low, can.from); inside = omega (arith, t.high, can.to); sum = can.laid.sum; start = can.laid.low }

-- how a splice moves
pub moves : (s : Splice) (b b1 b2 : List ℕ) (n m start : ℕ) → CanSplice s b → n ≡ count_of b → start ≡ start_of b → m + s.gone ≡ n + s.come
    → b1 ≡ overwrite (s.from + s.new) (slice_range b (s.from + s.old) start) b → b2 ≡ overwrite (4096 - 38 * m) (slice_range b1 (4096 - 38 * n) (4096 - 38 * (s.at + s.gone))) b1 → Moved b b2 n s.at s.gone s.come s.from s.old s.new
moves s b b1 b2 n m start can is here count e1 e2 =
    let st = started s b can in
    let inside = st.inside in
    let sum = st.sum in
    let room = can.room in
    let bodies = can.bodies in
    let within = can.within in
    moved b b1 b2 n m s.at s.gone s.come s.from s.old s.new start can.laid.whole here count (omega arith) (omega arith) (omega arith) (omega arith) (omega arith) e1 e2

-- an offset that is shifted
pub offset_moved : (s : Splice) (b c : List ℕ) (n m : ℕ) → CanSplice s b → n ≡ count_of b → m + s.gone ≡ n + s.come → Moved b c n s.at s.gone s.come s.from s.old s.new
    → (k : ℕ) → s.at + s.come ≤ k → k < m → (s.old ≤ offset_at c k) × (offset_at c k + s.new < 2 ^ 16)
offset_moved s b c n m can is count mv k ge lt =
    let st = started s b can in
    let j : ℕ = k - s.come in
    let back : j + s.come ≡ k = omega arith in
    let h = (mv.shifted j (omega arith) (omega arith)).offset in
    let same : offset_at c (j + s.come) ≡ offset_at c k = ap (offset_at c) back in
    let next = edge_next n (j + s.gone) b (omega arith) in
    let to : s.from + s.old ≡ edge_at n b (s.at + s.gone) = can.to ∙ ap (λ (x : ℕ). edge_at x b (s.at + s.gone)) (sym is) in
    let apart = edges_apart b n (s.at + s.gone) (j + s.gone) can.laid is (omega arith) (omega arith) in
    let high = (edge_stands b n (j + s.gone) can.laid is (omega arith)).high in
    let sum = st.sum in
    let bodies = can.bodies in
    let inside = st.inside in
    (omega arith, omega arith)

pub spliced : (s : Splice) (b b2 b3 b4 : List ℕ) (n m free start : ℕ) → CanSplice s b → n ≡ count_of b → m + s.gone ≡ n + s.come → free + s.new + 38 * s.come ≡ free_of b + s.old + 38 * s.gone → start + s.old ≡ start_of b + s.new
    → Moved b b2 n s.at s.gone s.come s.from s.old s.new → ShiftsOffsets (s.at + s.come) m s.old s.new b2 b3 → Headed b3 b4 m free start → IsSpliced s b b4
spliced s b b2 b3 b4 n m free start can is count free_is start_is mv sh h =
    let st = started s b can in
    let sum = st.sum in
    let low = st.low in
    let inside = st.inside in
    let room = can.room in
    let bodies = can.bodies in
    let within = can.within in
    let start_low = st.start in
    let start_now = h.start_is in
    let free_now = h.free_is in
    let count_now = h.count_is in
    let full : 38 * m ≤ 4068 = omega arith in
    let headers = λ (k : ℕ) (r : k < m). same_header b4 b3 k k (λ q small. h.bytes (4096 - 38 * (k + 1) + q) (omega arith)) in
    record {
      whole = h.whole;
      count = omega arith;
      free = omega arith;
      start = omega arith;
      before = λ k below.
          let x = headers k (omega arith) in
          let y = sh.before k below (omega arith) in
          let z = mv.kept k below in
          record { key = x.key ∙ y.key ∙ z.key; plugin = x.plugin ∙ y.plugin ∙ z.plugin; offset = x.offset ∙ y.offset ∙ z.offset; flags = x.flags ∙ y.flags ∙ z.flags };
      after = λ k above below.
          let x = headers (k + s.come) (omega arith) in
          let y = sh.after (k + s.come) (omega arith) (omega arith) in
          let z = mv.shifted k above (omega arith) in
          record { key = x.key ∙ y.key ∙ z.key; plugin = x.plugin ∙ y.plugin ∙ z.plugin; offset = rw (x.offset, y.offset, z.offset) refl; flags = x.flags ∙ y.flags ∙ z.flags };
      front = λ p lt. h.front p lt ∙ sh.bytes p (omega arith) ∙ mv.low p (omega arith);
      low = λ p ge below. h.bytes p ge ∙ sh.bytes p (omega arith) ∙ mv.low p below;
      high = λ q ge below. h.bytes (q + s.new) (omega arith) ∙ sh.bytes (q + s.new) (omega arith) ∙ mv.high q ge below;
      middle = λ p ge below. h.bytes p (omega arith) ∙ sh.bytes p (omega arith) ∙ mv.middle p (omega arith) (omega arith);
    }
