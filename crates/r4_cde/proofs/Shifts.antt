-- A loop that shifts offsets.
use Rattle.std.proofs.Common.{◌≡◌, ◌⊎◌, inl, inr, ℕ, ◌+◌, ◌-◌, ◌*◌, ◌^◌, ◌<◌, ◌≤◌, List, length, get_or, refl, ap, subst, ◌∙◌, arith}
use Rattle.std.proofs.lemmas.Bool.{cases_eq, cases_lt}
use Rattle.r4_base.specs.Bytes.{number_at, number_bytes, overwrite}
use Rattle.r4_base.specs.declared.key.Key.{Key}
use Rattle.r4_base.specs.Dir.{entry_count, entry_header, entry_key_at, entry_offset}
use Rattle.r4_base.proofs.Numbers.{length-overwrite, length-number_bytes, get_or-overwrite_above, number_at-overwrite, number_at-overwrite_before, number_at-overwrite_after}
use Rattle.r4_cde.specs.Offsets.{ShiftsOffsets}

-- ---- one offset is written

pub record OffsetPut (i v : ℕ) (b c : List ℕ) : Type 0 where
  pub whole : length c ≡ length b
  pub count : entry_count c ≡ entry_count b
  pub here : entry_offset c i ≡ v
  pub others : (k : ℕ) → (k ≡ i → ⊥) → entry_header (k + 1) ≤ length b → entry_offset c k ≡ entry_offset b k
  pub keys : (item : Key) (k : ℕ) → entry_header (k + 1) ≤ length b → entry_key_at item c k ≡ entry_key_at item b k
  pub bytes : (p : ℕ) → entry_header (i + 1) ≤ p → get_or c p 0 ≡ get_or b p 0

apart : (n q i k : ℕ) (b ys : List ℕ) → length ys ≡ 2 → 2 + 26 * (i + 1) ≤ length b → 2 + 26 * (k + 1) ≤ length b → q + n ≤ 26 → (k ≡ i → q + n ≤ 24)
    → number_at n (2 + 26 * k + q) (overwrite (2 + 26 * i + 24) ys b) ≡ number_at n (2 + 26 * k + q) b
apart n q i k b ys two room room' fit off = elim (cases_eq k i) [
  | inl same ↦ let low = off same in number_at-overwrite_after n (2 + 26 * k + q) (2 + 26 * i + 24) ys b (omega arith) (omega arith)
  | inr other ↦
      elim (cases_lt k i) [
        | inl below ↦ number_at-overwrite_after n (2 + 26 * k + q) (2 + 26 * i + 24) ys b (omega arith) (omega arith)
        | inr above ↦ number_at-overwrite_before n (2 + 26 * k + q) (2 + 26 * i + 24) ys b (omega arith) (omega arith)
      ]
]

pub offset_put : (i v : ℕ) (b c : List ℕ) → entry_header (i + 1) ≤ length b → v < 2 ^ 16 → c ≡ overwrite (entry_header i + 24) (number_bytes 2 v) b → OffsetPut i v b c
unfolding entry_key_at entry_offset
offset_put i v b c room small e =
    let two : length (number_bytes 2 v) ≡ 2 = length-number_bytes 2 v in
    let within : 2 + 26 * i + 24 + length (number_bytes 2 v) ≤ length b = omega arith in
    record {
      whole = ap length e ∙ length-overwrite (2 + 26 * i + 24) (number_bytes 2 v) b within;
      count = rw e (number_at-overwrite_after 2 0 (2 + 26 * i + 24) (number_bytes 2 v) b within (omega arith));
      here = rw e (number_at-overwrite 2 (2 + 26 * i + 24) v b (omega arith) small);
      others = λ k ne r. rw e (apart 2 24 i k b (number_bytes 2 v) two room r (omega arith) (λ same. absurd (ne same)));
      keys = λ item k r.
          let z : 2 + 26 * k + 0 ≡ 2 + 26 * k = omega arith in
          let x = subst (λ (h : ℕ). number_at 8 h (overwrite (2 + 26 * i + 24) (number_bytes 2 v) b) ≡ number_at 8 h b) z (apart 8 0 i k b (number_bytes 2 v) two room r (omega arith) (λ _. omega arith)) in
          let y = apart 8 8 i k b (number_bytes 2 v) two room r (omega arith) (λ _. omega arith) in
          let w = apart 8 16 i k b (number_bytes 2 v) two room r (omega arith) (λ _. omega arith) in
          rw (e, x, y, w) refl;
      bytes = λ p le. ap (λ (xs : List ℕ). get_or xs p 0) e ∙ get_or-overwrite_above (2 + 26 * i + 24) (number_bytes 2 v) b p 0 within (omega arith);
    }

-- ---- the loop

pub shifted_none : (first old new : ℕ) (b : List ℕ) → ShiftsOffsets first first old new b b
shifted_none first old new b = record {
  whole = refl;
  count = refl;
  keys = λ item k r. refl;
  shifted = λ k le lt. absurd (omega arith);
  others = λ k out r. refl;
  bytes = λ p le. refl;
}

pub shifted_more : (first old new j v : ℕ) (b c d : List ℕ) → ShiftsOffsets first j old new b c → first ≤ j → entry_header (j + 1) ≤ length b → old ≤ entry_offset b j → entry_offset b j + new < 2 ^ 16 + old → v ≡ entry_offset c j
    → d ≡ overwrite (entry_header j + 24) (number_bytes 2 (v - old + new)) c → ShiftsOffsets first (j + 1) old new b d
shifted_more first old new j v b c d s le room enough small is e =
    let long = s.whole in
    let now = s.others j (inr (omega arith)) room in
    let p = offset_put j (v - old + new) c d (omega arith) (omega arith) e in
    let here = p.here in
    record {
      whole = p.whole ∙ s.whole;
      count = p.count ∙ s.count;
      keys = λ item k r. p.keys item k (omega arith) ∙ s.keys item k r;
      shifted = λ k ge lt. elim (cases_eq k j) [
        | inl same ↦
            let now' : entry_offset d k ≡ entry_offset d j = ap (entry_offset d) same in
            let was : entry_offset b k ≡ entry_offset b j = ap (entry_offset b) same in
            omega arith
        | inr other ↦ let before = p.others k other (omega arith) in let done = s.shifted k ge (omega arith) in omega arith
      ];
      others = λ k out r.
          let apart : (k < first) ⊎ (j ≤ k) = elim out [ inl lo ↦ inl lo | inr hi ↦ inr (omega arith) ] in
          let ne : k ≡ j → ⊥ = λ same. elim out [ inl lo ↦ omega arith | inr hi ↦ omega arith ] in
          p.others k ne (omega arith) ∙ s.others k apart r;
      bytes = λ q ge. p.bytes q (omega arith) ∙ s.bytes q (omega arith);
    }
