-- The entries that an edit leaves, where they stand afterwards, and the lists and bodies that they make.
use Rattle.std.proofs.Common.{◌≡◌, inl, inr, ℕ, ◌+◌, ◌-◌, ◌*◌, ◌<◌, ◌≤◌, true, List, ◌++◌, length, get_or, take, drop, refl, sym, ap, subst, ◌∙◌, arith}
use Rattle.std.proofs.lemmas.Bool.{cases_eq, cases_lt}
use Rattle.std.proofs.lemmas.List.{places, same_lists, length-append, length-take-le, length-drop}
use Rattle.std.proofs.lemmas.List.Edits.{length-insert, get_or-insert_below, get_or-insert_at, get_or-insert_above}
use Rattle.std.specs.List.{insert}
use Rattle.r4_base.specs.declared.key.Key.{Key}
use Rattle.r4_base.specs.Key.{rank}
use Rattle.r4_base.specs.Dir.{entry_at, entry_body, entry_count, entry_edge, entry_key_at, entry_offset, entry_name_is_good, entries_of}
use Rattle.r4_base.specs.Entries.{IsLaid, first_key}
use Rattle.r4_base.proofs.Numbers.{slice_range-same}
use Rattle.r4_base.proofs.Dirs.{IsAccepted, edge_next, edge_last, edge_stands, edges_rise, length-entries_of, get_or-entries_of, keys_apart}
use Rattle.r4_cde.specs.declared.splice.Splice.{Splice}
use Rattle.r4_cde.proofs.Edits.{Edited}

-- ---- where bodies begin and end

pub edge_high : (s : Splice) (b c : List ℕ) (k : ℕ) → Edited s b c → s.at ≤ k → k + s.gone ≤ entry_count b → entry_edge c (k + s.come) + s.old + 26 * s.gone ≡ entry_edge b (k + s.gone) + s.new + 26 * s.come
edge_high s b c k e ge le =
    let count = e.count in
    let long = e.long in
    elim (cases_eq (k + s.gone) (entry_count b)) [
      | inl last ↦ let x = edge_last b (k + s.gone) last in let y = edge_last c (k + s.come) (omega arith) in omega arith
      | inr more ↦ let x = edge_next b (k + s.gone) (omega arith) in let y = edge_next c (k + s.come) (omega arith) in let z = e.after k ge (omega arith) in omega arith
    ]

pub edge_low : (s : Splice) (b c : List ℕ) (k : ℕ) → Edited s b c → k ≤ s.at → entry_edge c k + 26 * s.gone ≡ entry_edge b k + 26 * s.come
edge_low s b c k e le =
    let count = e.count in
    let within = e.within in
    elim (cases_lt k s.at) [
      | inl below ↦ let x = edge_next c k (omega arith) in let y = edge_next b k (omega arith) in let z = e.before k below in omega arith
      | inr here ↦
          let at : k ≡ s.at = omega arith in
          let same : entry_edge b k ≡ entry_edge b s.at = ap (entry_edge b) at in
          let from = e.from in
          elim (cases_eq s.come 0) [
            | inl none ↦
                let high = edge_high s b c s.at e (omega arith) within in
                let same' : entry_edge c (s.at + s.come) ≡ entry_edge c k = ap (entry_edge c) (omega arith) in
                let to = e.to in
                let empty = e.empty none in
                omega arith
            | inr some ↦
                let next = edge_next c s.at (omega (arith, e.one)) in
                let same' : entry_edge c k ≡ entry_edge c s.at = ap (entry_edge c) at in
                let place = e.place (omega (arith, e.one)) in
                omega arith
          ]
    ]

pub edited_laid : (s : Splice) (b c : List ℕ) → Edited s b c → IsLaid c
edited_laid s b c e =
    let count = e.count in
    let within = e.within in
    let long = e.long in
    let begin = e.laid.first in
    let from = e.from in
    let to = e.to in
    let low0 = edge_low s b c 0 e (omega arith) in
    let two = e.laid.two in
    let t = edge_stands b (s.at + s.gone) e.laid within in
    let t_high = t.high in
    let t_low = t.low in
    let f_low = (edge_stands b s.at e.laid (omega arith)).low in
    record {
      two = omega arith;
      first = omega arith;
      steps = λ k lt. elim (cases_lt k s.at) [
        | inl below ↦ let x = edge_low s b c k e (omega arith) in let y = edge_low s b c (k + 1) e (omega arith) in let up = e.laid.steps k (omega arith) in omega arith
        | inr ge ↦
            elim (cases_lt k (s.at + s.come)) [
              | inl this ↦
                  let one : s.come ≡ 1 = omega (arith, e.one) in
                  let at : k ≡ s.at = omega arith in
                  let x = edge_low s b c k e (omega arith) in
                  let same : entry_edge b k ≡ entry_edge b s.at = ap (entry_edge b) at in
                  let y = edge_high s b c s.at e (omega arith) within in
                  let same' : entry_edge c (s.at + s.come) ≡ entry_edge c (k + 1) = ap (entry_edge c) (omega arith) in
                  let filled = e.filled one in
                  omega arith
              | inr past ↦
                  let j : ℕ = k - s.come in
                  let x = edge_high s b c j e (omega arith) (omega arith) in
                  let y = edge_high s b c (j + 1) e (omega arith) (omega arith) in
                  let same : entry_edge c (j + s.come) ≡ entry_edge c k = ap (entry_edge c) (omega arith) in
                  let same' : entry_edge c (j + 1 + s.come) ≡ entry_edge c (k + 1) = ap (entry_edge c) (omega arith) in
                  let same'' : entry_edge b (j + 1 + s.gone) ≡ entry_edge b (j + s.gone + 1) = ap (entry_edge b) (omega arith) in
                  let up = e.laid.steps (j + s.gone) (omega arith) in
                  omega arith
            ]
      ];
    }

-- ---- entries that are carried

-- Entry j of one body is entry k of another.
pub record Carries (b c : List ℕ) (j k : ℕ) : Type 0 where
  pub key : (item : Key) → entry_key_at item c k ≡ entry_key_at item b j
  pub body : entry_body c k ≡ entry_body b j

pub carries_entry : (item : Key) (b c : List ℕ) (j k : ℕ) → Carries b c j k → entry_at item c k ≡ entry_at item b j
unfolding entry_at
carries_entry item b c j k h = rw (h.key item, h.body) refl

pub carries_named : (item : Key) (b c : List ℕ) (j k : ℕ) → Carries b c j k → entry_name_is_good (entry_key_at item b j) (entry_body b j) ≡ true → entry_name_is_good (entry_key_at item c k) (entry_body c k) ≡ true
carries_named item b c j k h good = rw (h.key item, h.body) good

pub carries_rank : (item : Key) (b c : List ℕ) (j k : ℕ) → Carries b c j k → rank (entry_key_at item c k) ≡ rank (entry_key_at item b j)
carries_rank item b c j k h = ap rank (h.key item)

-- bodies with the same bytes, d behind in one of them
pub same_body : (b c : List ℕ) (j k : ℕ) → IsLaid b → IsLaid c → j < entry_count b → k < entry_count c → entry_edge c (k + 1) + entry_edge b j ≡ entry_edge c k + entry_edge b (j + 1)
    → ((q : ℕ) → entry_edge b j ≤ q → q < entry_edge b (j + 1) → get_or c (q + entry_edge c k - entry_edge b j) 0 ≡ get_or b q 0) → entry_body c k ≡ entry_body b j
unfolding entry_body
same_body b c j k laid laid' lt lt' long same =
    let here = edge_next b j lt in
    let here' = edge_next c k lt' in
    let step = laid.steps j lt in
    let step' = laid'.steps k lt' in
    let high = (edge_stands b (j + 1) laid (omega arith)).high in
    let high' = (edge_stands c (k + 1) laid' (omega arith)).high in
    slice_range-same c b (entry_offset c k) (entry_edge c (k + 1)) (entry_offset b j) (entry_edge b (j + 1)) (omega arith) (omega arith) (omega arith) (omega arith) (omega arith) (λ q small.
    let place : entry_offset c k + q ≡ entry_offset b j + q + entry_edge c k - entry_edge b j = omega arith in
    ap (λ (p : ℕ). get_or c p 0) place ∙ same (entry_offset b j + q) (omega arith) (omega arith))

pub carried_low : (s : Splice) (b c : List ℕ) (k : ℕ) → Edited s b c → k < s.at → Carries b c k k
carried_low s b c k e lt =
    let count = e.count in
    let within = e.within in
    let again = edited_laid s b c e in
    let x = edge_low s b c k e (omega arith) in
    let y = edge_low s b c (k + 1) e (omega arith) in
    let low = (edge_stands b k e.laid (omega arith)).low in
    let up = edges_rise b (k + 1) s.at e.laid (omega arith) (omega arith) in
    let from = e.from in
    let step = e.laid.steps k (omega arith) in
    record {
      key = λ item. e.keys_before item k lt;
      body = same_body b c k k e.laid again (omega arith) (omega arith) (omega arith) (λ q ge small. e.low (q + entry_edge c k - entry_edge b k) q (omega arith) (omega arith) (omega arith));
    }

pub carried_high : (s : Splice) (b c : List ℕ) (k : ℕ) → Edited s b c → s.at ≤ k → k + s.gone < entry_count b → Carries b c (k + s.gone) (k + s.come)
carried_high s b c k e ge lt =
    let count = e.count in
    let within = e.within in
    let again = edited_laid s b c e in
    let x = edge_high s b c k e ge (omega arith) in
    let y = edge_high s b c (k + 1) e (omega arith) (omega arith) in
    let same : entry_edge c (k + 1 + s.come) ≡ entry_edge c (k + s.come + 1) = ap (entry_edge c) (omega arith) in
    let same' : entry_edge b (k + 1 + s.gone) ≡ entry_edge b (k + s.gone + 1) = ap (entry_edge b) (omega arith) in
    let up = edges_rise b (s.at + s.gone) (k + s.gone) e.laid (omega arith) (omega arith) in
    let to = e.to in
    let low = (edge_stands b (s.at + s.gone) e.laid within).low in
    let high = (edge_stands b (k + s.gone + 1) e.laid (omega arith)).high in
    let step = e.laid.steps (k + s.gone) lt in
    record {
      key = λ item. e.keys_after item k ge lt;
      body = same_body b c (k + s.gone) (k + s.come) e.laid again lt (omega arith) (omega arith) (λ q ge' small. e.high (q + entry_edge c (k + s.come) - entry_edge b (k + s.gone)) q (omega arith) (omega arith) (omega arith));
    }

-- ---- the list of entries

pub edited_cut : (s : Splice) (item : Key) (b c : List ℕ) → Edited s b c → s.come ≡ 0 → entries_of item c ≡ take s.at (entries_of item b) ++ drop (s.at + s.gone) (entries_of item b)
edited_cut s item b c e come =
    let count = e.count in
    let within = e.within in
    let old = entries_of item b in
    let old_long = length-entries_of item b in
    let new_long = length-entries_of item c in
    let front : length (take s.at old) ≡ s.at = length-take-le s.at old (omega arith) in
    let back = length-drop (s.at + s.gone) old in
    let both = length-append (take s.at old) (drop (s.at + s.gone) old) in
    same_lists (entries_of item c) (take s.at old ++ drop (s.at + s.gone) old) (omega arith) (λ k d h.
    elim (cases_lt k s.at) [
      | inl small ↦
          let r : get_or (take s.at old ++ drop (s.at + s.gone) old) k d ≡ get_or old k d = grind (arith, places) in
          get_or-entries_of item c k d (omega arith) ∙ carries_entry item b c k k (carried_low s b c k e small) ∙ sym (get_or-entries_of item b k d (omega arith)) ∙ sym r
      | inr large ↦
          let r : get_or (take s.at old ++ drop (s.at + s.gone) old) k d ≡ get_or old (k + s.gone) d = grind (arith, places) in
          let x : entry_at item c k ≡ entry_at item c (k + s.come) = ap (entry_at item c) (omega arith) in
          get_or-entries_of item c k d (omega arith) ∙ x ∙ carries_entry item b c (k + s.gone) (k + s.come) (carried_high s b c k e large (omega arith)) ∙ sym (get_or-entries_of item b (k + s.gone) d (omega arith)) ∙ sym r
    ])

pub edited_insert : (s : Splice) (item : Key) (b c : List ℕ) → Edited s b c → s.gone ≡ 0 → s.come ≡ 1 → entries_of item c ≡ insert (entries_of item b) s.at (entry_at item c s.at)
edited_insert s item b c e gone come =
    let count = e.count in
    let within = e.within in
    let entry = entry_at item c s.at in
    let old_long = length-entries_of item b in
    let new_long = length-entries_of item c in
    let grown = length-insert (entries_of item b) s.at entry (omega arith) in
    same_lists (entries_of item c) (insert (entries_of item b) s.at entry) (omega arith) (λ k d h.
    elim (cases_lt k s.at) [
      | inl small ↦ get_or-entries_of item c k d (omega arith) ∙ carries_entry item b c k k (carried_low s b c k e small) ∙ sym (get_or-entries_of item b k d (omega arith)) ∙ sym (get_or-insert_below (entries_of item b) s.at entry d k small (omega arith))
      | inr ge ↦
          elim (cases_eq k s.at) [
            | inl here ↦ rw here (get_or-entries_of item c s.at d (omega arith) ∙ sym (get_or-insert_at (entries_of item b) s.at entry d (omega arith)))
            | inr past ↦
                let j : ℕ = k - 1 in
                let back : j + 1 ≡ k = omega arith in
                let x : entry_at item c k ≡ entry_at item c (j + s.come) = ap (entry_at item c) (omega arith) in
                let y : entry_at item b (j + s.gone) ≡ entry_at item b j = ap (entry_at item b) (omega arith) in
                get_or-entries_of item c k d (omega arith) ∙ x ∙ carries_entry item b c (j + s.gone) (j + s.come) (carried_high s b c j e (omega arith) (omega arith)) ∙ y ∙ sym (get_or-entries_of item b j d (omega arith)) ∙ sym (get_or-insert_above (entries_of item b) s.at entry d j (omega arith) (omega arith)) ∙ ap (λ (i : ℕ). get_or (insert (entries_of item b) s.at entry) i d) back
          ]
    ])

-- ---- a body that is accepted again

pub same_dir : (item : Key) (c : List ℕ) (k : ℕ) → entry_key_at (first_key item c) c k ≡ entry_key_at item c k
unfolding entry_key_at
same_dir item c k = refl

pub accepted_by : (item : Key) (c : List ℕ) → IsLaid c → 0 < entry_count c → ((k : ℕ) → k + 1 < entry_count c → rank (entry_key_at item c k) < rank (entry_key_at item c (k + 1))) → ((k : ℕ) → k < entry_count c → entry_name_is_good (entry_key_at item c k) (entry_body c k) ≡ true) → IsAccepted (first_key item c) c
accepted_by item c laid some rise named = record {
  laid = laid;
  some = some;
  first = ap rank (same_dir item c 0);
  rise = λ k lt. rw (same_dir item c k, same_dir item c (k + 1)) (rise k lt);
  named = λ k lt. rw (same_dir item c k) (named k lt);
}

-- Each entry of a body is one of another, in the same order.
pub record AreCarried (b c : List ℕ) : Type 0 where
  pub from : (k : ℕ) → k < entry_count c → (j : ℕ) × (j < entry_count b) × Carries b c j k
  pub order : (k : ℕ) → k + 1 < entry_count c → (i : ℕ) × (j : ℕ) × (i < j) × (j < entry_count b) × Carries b c i k × Carries b c j (k + 1)

pub carried_accepted : (item : Key) (b c : List ℕ) → IsAccepted item b → IsLaid c → 0 < entry_count c → AreCarried b c → IsAccepted (first_key item c) c
carried_accepted item b c a laid some all =
    let rise : (k : ℕ) → k + 1 < entry_count c → rank (entry_key_at item c k) < rank (entry_key_at item c (k + 1)) = λ k lt.
    let o = all.order k lt in
    let up = keys_apart item b o.0 o.1 a o.2 o.3 in
    let x = carries_rank item b c o.0 k o.4 in
    let y = carries_rank item b c o.1 (k + 1) o.5 in
    omega arith in
    accepted_by item c laid some rise (λ k lt. let f = all.from k lt in carries_named item b c f.0 k f.2 (a.named f.0 f.1))

pub cut_carried : (s : Splice) (b c : List ℕ) → Edited s b c → s.come ≡ 0 → AreCarried b c
cut_carried s b c e come =
    let count = e.count in
    let within = e.within in
    let high = λ (k : ℕ) (ge : s.at ≤ k) (lt : k < entry_count c).
    let r : Carries b c (k + s.gone) k = subst (λ (i : ℕ). Carries b c (k + s.gone) i) (omega arith) (carried_high s b c k e ge (omega arith)) in
    r in
    record {
      from = λ k lt. elim (cases_lt k s.at) [
        | inl small ↦ (k, omega arith, carried_low s b c k e small)
        | inr large ↦ (k + s.gone, omega arith, high k large lt)
      ];
      order = λ k lt. elim (cases_lt (k + 1) s.at) [
        | inl small ↦ (k, k + 1, omega arith, omega arith, carried_low s b c k e (omega arith), carried_low s b c (k + 1) e small)
        | inr ge ↦
            elim (cases_lt k s.at) [
              | inl last ↦ (k, k + 1 + s.gone, omega arith, omega arith, carried_low s b c k e last, high (k + 1) ge lt)
              | inr large ↦ (k + s.gone, k + 1 + s.gone, omega arith, omega arith, high k large (omega arith), high (k + 1) ge lt)
            ]
      ];
    }
