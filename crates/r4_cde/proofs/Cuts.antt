-- A cut of entries.
use Rattle.std.proofs.Common.{◌≡◌, inl, inr, ℕ, ◌+◌, ◌-◌, ◌<◌, ◌≤◌, List, [], ◌∷◌, ◌++◌, length, take, drop, None, refl, sym, ap, ◌∙◌, arith}
use Rattle.std.proofs.lemmas.Bool.{cases_eq}
use Rattle.std.proofs.lemmas.List.{length-take-le}
use Rattle.r4_base.specs.Bytes.{number_at}
use Rattle.r4_base.specs.declared.key.Key.{Key}
use Rattle.r4_base.specs.Dir.{dir_fault, entries_from, entries_of, entry_count, entry_edge}
use Rattle.r4_base.specs.Entries.{IsLaid, first_key}
use Rattle.r4_base.proofs.Dirs.{accepted, accepted_none, edge_last, edge_stands, edges_rise}
use Rattle.r4_cde.specs.Edits.{IsDirBody}
use Rattle.r4_cde.specs.Splice.{CanSplice, IsSpliced}
use Rattle.r4_cde.specs.declared.splice.Splice.{Splice}
use Rattle.r4_cde.proofs.Edits.{Edited, can_splice, edited}
use Rattle.r4_cde.proofs.Carried.{edited_laid, edited_cut, cut_carried, carried_accepted}

abbrev pub cutting : (from to begin end : ℕ) → Splice
cutting from to begin end = record { at = from; gone = to - from; come = 0; from = begin; old = end - begin; new = 0 }

pub body_laid : (b : List ℕ) → IsDirBody b → IsLaid b
body_laid b h = (accepted h.key b h.accepted).laid

-- where the bodies of a cut begin and end
pub cut_order : (b : List ℕ) (from to begin end : ℕ) → IsLaid b → from ≤ to → to ≤ entry_count b → begin ≡ entry_edge b from → end ≡ entry_edge b to → begin ≤ end
cut_order b from to begin end laid order within is is' = let up = edges_rise b from to laid order within in omega arith

pub can_cut : (used from to begin end : ℕ) (b : List ℕ) → length b ≤ 4096 → used ≤ length b → IsLaid (take used b) → from ≤ to → to ≤ entry_count (take used b) → begin ≡ entry_edge (take used b) from → end ≡ entry_edge (take used b) to → CanSplice (cutting from to begin end) used b
can_cut used from to begin end b short inside laid order within is is' =
    let up = cut_order (take used b) from to begin end laid order within is is' in
    let to_is : begin + (end - begin) ≡ entry_edge (take used b) (from + (to - from)) = let e : entry_edge (take used b) (from + (to - from)) ≡ entry_edge (take used b) to = ap (entry_edge (take used b)) (omega arith) in omega arith in
    can_splice (cutting from to begin end) used b short inside laid (omega arith) is to_is (omega arith) (omega arith) (omega arith)

pub cut_edited : (used u from to begin end : ℕ) (b d : List ℕ) → length b ≤ 4096 → used ≤ length b → IsLaid (take used b) → from ≤ to → to ≤ entry_count (take used b) → begin ≡ entry_edge (take used b) from → end ≡ entry_edge (take used b) to
    → IsSpliced (cutting from to begin end) used b u d → Edited (cutting from to begin end) (take used b) (take u d)
cut_edited used u from to begin end b d short inside laid order within is is' sp =
    let up = cut_order (take used b) from to begin end laid order within is is' in
    let to_is : begin + (end - begin) ≡ entry_edge (take used b) (from + (to - from)) = let e : entry_edge (take used b) (from + (to - from)) ≡ entry_edge (take used b) to = ap (entry_edge (take used b)) (omega arith) in omega arith in
    edited (cutting from to begin end) used u b d d (can_cut used from to begin end b short inside laid order within is is') laid is to_is sp refl (λ p lt. refl) (λ p ge lt. refl) (λ p ge. refl) (λ one. absurd (omega arith)) (λ one. absurd (omega arith)) (λ none. refl)

-- the list of entries once they are cut
pub cut_entries : (item : Key) (from to begin end : ℕ) (b c : List ℕ) → from ≤ to → Edited (cutting from to begin end) b c → entries_of item c ≡ take from (entries_of item b) ++ drop to (entries_of item b)
cut_entries item from to begin end b c order e =
    let past : from + (to - from) ≡ to = omega arith in
    edited_cut (cutting from to begin end) item b c e refl ∙ ap (λ (i : ℕ). take from (entries_of item b) ++ drop i (entries_of item b)) past

-- a body of a count alone has no entry
pub count_alone : (b : List ℕ) → IsLaid b → length b ≡ 2 → entry_count b ≡ 0
count_alone b laid two = let s = edge_stands b 0 laid (omega arith) in let low = s.low in let high = s.high in omega arith

pub some_left : (b : List ℕ) → IsLaid b → (length b ≡ 2 → ⊥) → 0 < entry_count b
some_left b laid more = elim (cases_eq (entry_count b) 0) [
  | inl none ↦
      let first = laid.first in
      let s = edge_stands b 0 laid (omega arith) in
      let low = s.low in
      let last = edge_zero b none in
      absurd (more (omega arith))
  | inr some ↦ omega arith
]
  where
    edge_zero : (b : List ℕ) → entry_count b ≡ 0 → entry_edge b 0 ≡ length b
    edge_zero b none = edge_last b 0 (sym none)

pub empty_count : (xs : List ℕ) → length xs ≡ 0 → entry_count xs ≡ 0
unfolding number_at
empty_count [] none = refl
empty_count (x ∷ xs) none = absurd (omega arith)

pub no_entries : (item : Key) (b : List ℕ) → entry_count b ≡ 0 → entries_of item b ≡ []
unfolding entries_of entries_from
no_entries item b none = rw none refl

pub cut_all : (item : Key) (b c : List ℕ) → IsLaid c → length c ≡ 2 → entries_of item (take 0 b) ≡ entries_of item c
cut_all item b c laid two = no_entries item (take 0 b) (empty_count (take 0 b) (length-take-le 0 b (omega arith))) ∙ sym (no_entries item c (count_alone c laid two))

pub cut_accepted : (item : Key) (from to begin end : ℕ) (b c : List ℕ) → dir_fault item b ≡ None → Edited (cutting from to begin end) b c → (length c ≡ 2 → ⊥) → dir_fault (first_key item c) c ≡ None
cut_accepted item from to begin end b c ok e more =
    let laid = edited_laid (cutting from to begin end) b c e in
    accepted_none (first_key item c) c (carried_accepted item b c (accepted item b ok) laid (some_left c laid more) (cut_carried (cutting from to begin end) b c e refl))
