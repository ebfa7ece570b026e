-- What the steps of a splice leave, byte by byte and header by header.
use Rattle.std.proofs.Common.{◌≡◌, inl, inr, ℕ, ◌+◌, ◌-◌, ◌*◌, ◌^◌, ◌<◌, ◌≤◌, List, length, get_or, refl, sym, ap, ◌∙◌, arith}
use Rattle.std.specs.Prelude.{slice_range}
use Rattle.r4_base.specs.Bytes.{number_at, number_bytes, overwrite}
use Rattle.r4_base.specs.declared.key.Key.{Key}
use Rattle.r4_base.specs.Dir.{entry_count, entry_header, entry_key_at, entry_offset}
use Rattle.r4_base.proofs.Numbers.{length-overwrite, length-number_bytes, length-slice_range, get_or-slice_range, get_or-overwrite_below, get_or-overwrite_inside, get_or-overwrite_above, number_at-overwrite, number_at-moved}
use Rattle.r4_cde.specs.Offsets.{ShiftsOffsets}
use Rattle.r4_cde.specs.Splice.{CanSplice, IsSpliced}
use Rattle.r4_cde.specs.declared.splice.Splice.{Splice}

-- ---- headers with the same bytes say the same

pub record SameHeader (xs ys : List ℕ) (k m : ℕ) : Type 0 where
  pub key : (item : Key) → entry_key_at item xs k ≡ entry_key_at item ys m
  pub offset : entry_offset xs k ≡ entry_offset ys m

field_same : (n q : ℕ) (xs ys : List ℕ) (h g : ℕ) → q + n ≤ 26 → ((r : ℕ) → r < 26 → get_or xs (h + r) 0 ≡ get_or ys (g + r) 0) → number_at n (h + q) xs ≡ number_at n (g + q) ys
field_same n q xs ys h g fit same =
    number_at-moved n (h + q) (g + q) xs ys (λ r lt.
    let a : h + q + r ≡ h + (q + r) = omega arith in
    let b : g + q + r ≡ g + (q + r) = omega arith in
    ap (λ (p : ℕ). get_or xs p 0) a ∙ same (q + r) (omega arith) ∙ ap (λ (p : ℕ). get_or ys p 0) (sym b))

pub same_header : (xs ys : List ℕ) (k m : ℕ) → ((r : ℕ) → r < 26 → get_or xs (entry_header k + r) 0 ≡ get_or ys (entry_header m + r) 0) → SameHeader xs ys k m
unfolding entry_key_at entry_offset
same_header xs ys k m same =
    let a = number_at-moved 8 (entry_header k) (entry_header m) xs ys (λ r lt. same r (omega arith)) in
    let b = field_same 8 8 xs ys (entry_header k) (entry_header m) (omega arith) same in
    let c = field_same 8 16 xs ys (entry_header k) (entry_header m) (omega arith) same in
    record { key = λ item. rw (a, b, c) refl; offset = field_same 2 24 xs ys (entry_header k) (entry_header m) (omega arith) same }

-- ---- the two moves

pub record Moved (s : Splice) (used : ℕ) (b c : List ℕ) : Type 0 where
  pub whole : length c ≡ length b
  pub head : (p : ℕ) → p < entry_header s.at → get_or c p 0 ≡ get_or b p 0
  pub low : (p q : ℕ) → entry_header (s.at + s.gone) ≤ q → q < s.from → p + 26 * s.gone ≡ q + 26 * s.come → get_or c p 0 ≡ get_or b q 0
  pub high : (p q : ℕ) → s.from + s.old ≤ q → q < used → p + s.old + 26 * s.gone ≡ q + s.new + 26 * s.come → get_or c p 0 ≡ get_or b q 0
  pub rest : (p : ℕ) → used ≤ p → used + s.new + 26 * s.come ≤ p + s.old + 26 * s.gone → used + s.new ≤ p + s.old → get_or c p 0 ≡ get_or b p 0

pub moved : (s : Splice) (used come gone end : ℕ) (b b1 b2 : List ℕ) → CanSplice s used b → come ≡ s.come → gone ≡ s.gone → end + s.old ≡ used + s.new
    → b1 ≡ overwrite (s.from + s.new) (slice_range b (s.from + s.old) used) b → b2 ≡ overwrite (entry_header s.at + 26 * come) (slice_range b1 (entry_header s.at + 26 * gone) end) b1 → Moved s used b b2
moved s used come gone end b b1 b2 can is is' until e1 e2 =
    let inside = can.inside in
    let within = can.within in
    let headers = can.headers in
    let ends = can.ends in
    let bodies = can.bodies in
    let room = can.room in
    let tail = slice_range b (s.from + s.old) used in
    let tail_long : length tail ≡ used - (s.from + s.old) = length-slice_range b (s.from + s.old) used ends inside in
    let fits : s.from + s.new + length tail ≤ length b = omega arith in
    let whole1 : length b1 ≡ length b = ap length e1 ∙ length-overwrite (s.from + s.new) tail b fits in
    let rest = slice_range b1 (entry_header s.at + 26 * gone) end in
    let rest_long : length rest ≡ end - (entry_header s.at + 26 * gone) = length-slice_range b1 (entry_header s.at + 26 * gone) end (omega arith) (omega arith) in
    let fits2 : entry_header s.at + 26 * come + length rest ≤ length b1 = omega arith in
    let whole2 : length b2 ≡ length b = ap length e2 ∙ length-overwrite (entry_header s.at + 26 * come) rest b1 fits2 ∙ whole1 in
    let first_low = λ (p : ℕ) (h : p < s.from + s.new). ap (λ (xs : List ℕ). get_or xs p 0) e1 ∙ get_or-overwrite_below (s.from + s.new) tail b p 0 fits h in
    let first_high = λ (p : ℕ) (h : used + s.new ≤ p + s.old). ap (λ (xs : List ℕ). get_or xs p 0) e1 ∙ get_or-overwrite_above (s.from + s.new) tail b p 0 fits (omega arith) in
    let first_mid = λ (p q : ℕ) (ge : s.from + s.old ≤ q) (lt : q < used) (at : p + s.old ≡ q + s.new).
    let place : s.from + s.old + (p - (s.from + s.new)) ≡ q = omega arith in
    ap (λ (xs : List ℕ). get_or xs p 0) e1 ∙ get_or-overwrite_inside (s.from + s.new) tail b p 0 fits (omega arith) (omega arith) ∙ get_or-slice_range b (s.from + s.old) used (p - (s.from + s.new)) (omega arith) ∙ ap (λ (r : ℕ). get_or b r 0) place in
    let second_low = λ (p : ℕ) (h : p < entry_header s.at + 26 * come). ap (λ (xs : List ℕ). get_or xs p 0) e2 ∙ get_or-overwrite_below (entry_header s.at + 26 * come) rest b1 p 0 fits2 h in
    let second_high = λ (p : ℕ) (h : end + 26 * come ≤ p + 26 * gone). ap (λ (xs : List ℕ). get_or xs p 0) e2 ∙ get_or-overwrite_above (entry_header s.at + 26 * come) rest b1 p 0 fits2 (omega arith) in
    let second_mid = λ (p q : ℕ) (ge : entry_header s.at + 26 * gone ≤ q) (lt : q < end) (at : p + 26 * gone ≡ q + 26 * come).
    let place : entry_header s.at + 26 * gone + (p - (entry_header s.at + 26 * come)) ≡ q = omega arith in
    ap (λ (xs : List ℕ). get_or xs p 0) e2 ∙ get_or-overwrite_inside (entry_header s.at + 26 * come) rest b1 p 0 fits2 (omega arith) (omega arith) ∙ get_or-slice_range b1 (entry_header s.at + 26 * gone) end (p - (entry_header s.at + 26 * come)) (omega arith) ∙ ap (λ (r : ℕ). get_or b1 r 0) place in
    record {
      whole = whole2;
      head = λ p lt. second_low p (omega arith) ∙ first_low p (omega arith);
      low = λ p q ge lt at. second_mid p q (omega arith) (omega arith) (omega arith) ∙ first_low q (omega arith);
      high = λ p q ge lt at.
          let mid : ℕ = q + s.new - s.old in
          second_mid p mid (omega arith) (omega arith) (omega arith) ∙ first_mid mid q ge lt (omega arith);
      rest = λ p ge ge' ge''. second_high p (omega arith) ∙ first_high p ge'';
    }

-- ---- the count

pub record Counted (m : ℕ) (b c : List ℕ) : Type 0 where
  pub whole : length c ≡ length b
  pub count : entry_count c ≡ m
  pub bytes : (p : ℕ) → 2 ≤ p → get_or c p 0 ≡ get_or b p 0

pub counted : (m : ℕ) (b c : List ℕ) → 2 ≤ length b → m < 2 ^ 16 → c ≡ overwrite 0 (number_bytes 2 m) b → Counted m b c
counted m b c room small e =
    let two = length-number_bytes 2 m in
    let within : 0 + length (number_bytes 2 m) ≤ length b = omega arith in
    record {
      whole = ap length e ∙ length-overwrite 0 (number_bytes 2 m) b within;
      count = rw e (number_at-overwrite 2 0 m b (omega arith) small);
      bytes = λ p ge. ap (λ (xs : List ℕ). get_or xs p 0) e ∙ get_or-overwrite_above 0 (number_bytes 2 m) b p 0 within (omega arith);
    }

-- ---- headers that were moved

pub head_same : (s : Splice) (used m : ℕ) (b c d : List ℕ) → Moved s used b c → Counted m c d → (k : ℕ) → k < s.at → SameHeader d b k k
head_same s used m b c d mv co k lt = same_header d b k k (λ r small. co.bytes (entry_header k + r) (omega arith) ∙ mv.head (entry_header k + r) (omega arith))

pub head_moved : (s : Splice) (used m : ℕ) (b c d : List ℕ) → CanSplice s used b → Moved s used b c → Counted m c d → (k : ℕ) → s.at ≤ k → k + s.gone < entry_count b → SameHeader d b (k + s.come) (k + s.gone)
head_moved s used m b c d can mv co k ge lt =
    let headers = can.headers in
    same_header d b (k + s.come) (k + s.gone) (λ r small.
    co.bytes (entry_header (k + s.come) + r) (omega arith) ∙ mv.low (entry_header (k + s.come) + r) (entry_header (k + s.gone) + r) (omega arith) (omega arith) (omega arith))

-- what the first shift of offsets needs
pub first_offsets : (s : Splice) (used m : ℕ) (b c d : List ℕ) → CanSplice s used b → Moved s used b c → Counted m c d → (k : ℕ) → k < s.at → (26 * s.gone ≤ entry_offset d k) × (entry_offset d k ≤ 4096)
first_offsets s used m b c d can mv co k lt =
    let same = (head_same s used m b c d mv co k lt).offset in
    let stands = can.before k lt in
    let within = can.within in
    let low = stands.0 in
    let high = stands.1 in
    (omega arith, omega arith)

-- what the second one needs
pub second_offsets : (s : Splice) (used m come gone : ℕ) (b c d e : List ℕ) → CanSplice s used b → Moved s used b c → Counted m c d → m + s.gone ≡ entry_count b + s.come → ShiftsOffsets 0 s.at gone come d e → entry_header m ≤ length d
    → (k : ℕ) → s.at + s.come ≤ k → k < m → (s.old + 26 * s.gone ≤ entry_offset e k) × (entry_offset e k ≤ 4096)
second_offsets s used m come gone b c d e can mv co left sh room k ge lt =
    let j : ℕ = k - s.come in
    let back : j + s.come ≡ k = omega arith in
    let moved' = (head_moved s used m b c d can mv co j (omega arith) (omega arith)).offset in
    let same : entry_offset d (j + s.come) ≡ entry_offset d k = ap (entry_offset d) back in
    let still = sh.others k (inr (omega arith)) (omega arith) in
    let stands = can.after (j + s.gone) (omega arith) (omega arith) in
    let low = stands.0 in
    let high = stands.1 in
    let within = can.within in
    let headers = can.headers in
    (omega arith, omega arith)

-- ---- all steps

pub spliced : (s : Splice) (used m u come gone : ℕ) (b c d e f : List ℕ) → CanSplice s used b → Moved s used b c → Counted m c d → m + s.gone ≡ entry_count b + s.come → come ≡ 26 * s.come → gone ≡ 26 * s.gone
    → ShiftsOffsets 0 s.at gone come d e → ShiftsOffsets (s.at + s.come) m (s.old + gone) (s.new + come) e f → u + s.old + 26 * s.gone ≡ used + s.new + 26 * s.come → IsSpliced s used b u f
spliced s used m u come gone b c d e f can mv co left is is' one two end =
    let within = can.within in
    let headers = can.headers in
    let ends = can.ends in
    let inside = can.inside in
    let room = can.room in
    let long1 = co.whole ∙ mv.whole in
    let long2 = one.whole in
    let count = co.count in
    let bytes = λ (p : ℕ) (ge : entry_header m ≤ p). two.bytes p ge ∙ one.bytes p (omega arith) ∙ co.bytes p (omega arith) in
    record {
      whole = two.whole ∙ one.whole ∙ co.whole ∙ mv.whole;
      used_is = end;
      count = let n = two.count in let n' = one.count in omega arith;
      keys_before = λ item k lt. two.keys item k (omega arith) ∙ one.keys item k (omega arith) ∙ (head_same s used m b c d mv co k lt).key item;
      keys_after = λ item k ge lt. two.keys item (k + s.come) (omega arith) ∙ one.keys item (k + s.come) (omega arith) ∙ (head_moved s used m b c d can mv co k ge lt).key item;
      before = λ k lt.
          let x = two.others k (inl (omega arith)) (omega arith) in
          let y = one.shifted k (omega arith) lt in
          let z = (head_same s used m b c d mv co k lt).offset in
          omega arith;
      after = λ k ge lt.
          let x = two.shifted (k + s.come) (omega arith) (omega arith) in
          let y = one.others (k + s.come) (inr (omega arith)) (omega arith) in
          let z = (head_moved s used m b c d can mv co k ge lt).offset in
          omega arith;
      low = λ p q ge lt at. bytes p (omega arith) ∙ mv.low p q (omega arith) lt at;
      high = λ p q ge lt at. bytes p (omega arith) ∙ mv.high p q ge lt at;
      rest = λ p ge ge' ge''. bytes p (omega arith) ∙ mv.rest p ge (omega arith) ge'';
    }
