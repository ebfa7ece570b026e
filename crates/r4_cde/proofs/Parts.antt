-- A part of the entries of a body as a body of its own.
use Rattle.std.proofs.Common.{◌≡◌, inl, inr, ℕ, ◌+◌, ◌-◌, ◌<◌, ◌≤◌, List, length, get_or, take, drop, None, sym, ap, ◌∙◌, arith}
use Rattle.std.proofs.lemmas.Bool.{cases_eq}
use Rattle.std.proofs.lemmas.List.{same_lists, length-take-le, length-drop, get_or-take, get_or-drop}
use Rattle.std.specs.Prelude.{slice_range}
use Rattle.r4_base.specs.Bytes.{number_bytes, overwrite}
use Rattle.r4_base.specs.declared.key.Key.{Key}
use Rattle.r4_base.specs.Key.{rank}
use Rattle.r4_base.specs.Dir.{dir_fault, entries_of, entry_count, entry_edge, entry_header, entry_offset}
use Rattle.r4_base.specs.Entries.{IsLaid, first_key}
use Rattle.r4_base.proofs.Numbers.{length-overwrite, length-slice_range, get_or-slice_range, get_or-overwrite_below, get_or-overwrite_inside, get_or-overwrite_above, number_at-same}
use Rattle.r4_base.proofs.Dirs.{IsAccepted, accepted, accepted_none, edge_last, edge_next, edge_stands, edges_rise, get_or-entries_of, length-entries_of}
use Rattle.r4_cde.specs.Edits.{IsPart, part_room}
use Rattle.r4_cde.specs.Offsets.{ShiftsOffsets}
use Rattle.r4_cde.proofs.Splices.{Counted, SameHeader, counted, same_header}
use Rattle.r4_cde.proofs.Edits.{take_byte, take_count, take_header}
use Rattle.r4_cde.proofs.Carried.{AreCarried, Carries, carried_accepted, carries_entry, same_body, same_dir}

-- where a part stands
pub record PartStands (b : List ℕ) (first end : ℕ) : Type 0 where
  pub low : entry_header (entry_count b) ≤ entry_edge b first
  pub order : entry_edge b first ≤ entry_edge b end
  pub high : entry_edge b end ≤ length b

pub part_stands : (b : List ℕ) (first end : ℕ) → IsLaid b → first ≤ end → end ≤ entry_count b → PartStands b first end
part_stands b first end laid order within =
    let f = edge_stands b first laid (omega arith) in
    let low = f.low in
    let e = edge_stands b end laid within in
    let high = e.high in
    record { low = omega arith; order = edges_rise b first end laid order within; high = omega arith }

-- ---- what is copied

pub record Copied (b : List ℕ) (first end : ℕ) (a c : List ℕ) : Type 0 where
  pub whole : length c ≡ length a
  pub count : entry_count c ≡ end - first
  pub headers : (k : ℕ) → first + k < end → SameHeader c b k (first + k)
  pub bodies : (p q : ℕ) → entry_edge b first ≤ q → q < entry_edge b end → p + entry_edge b first ≡ q + entry_header (end - first) → get_or c p 0 ≡ get_or b q 0
  pub rest : (p : ℕ) → part_room b first end ≤ p → get_or c p 0 ≡ get_or a p 0

pub copied : (b : List ℕ) (first end from to : ℕ) (a c1 c2 c3 : List ℕ) → length b ≤ 4096 → IsLaid b → first ≤ end → end ≤ entry_count b → part_room b first end ≤ length a → from ≡ entry_edge b first → to ≡ entry_edge b end
    → c1 ≡ overwrite 0 (number_bytes 2 (end - first)) a → c2 ≡ overwrite 2 (slice_range b (entry_header first) (entry_header end)) c1 → c3 ≡ overwrite (entry_header (end - first)) (slice_range b from to) c2 → Copied b first end a c3
copied b first end from to a c1 c2 c3 short laid order within room is is' e1 e2 e3 =
    let st = part_stands b first end laid order within in
    let low = st.low in
    let up = st.order in
    let high = st.high in
    let heads = slice_range b (entry_header first) (entry_header end) in
    let tail = slice_range b from to in
    let n : length heads ≡ entry_header end - entry_header first = length-slice_range b (entry_header first) (entry_header end) (omega arith) (omega arith) in
    let m : length tail ≡ to - from = length-slice_range b from to (omega arith) (omega arith) in
    let co : Counted (end - first) a c1 = counted (end - first) a c1 (omega arith) (omega arith) e1 in
    let long1 = co.whole in
    let fit2 : 2 + length heads ≤ length c1 = omega arith in
    let long2 : length c2 ≡ length c1 = ap length e2 ∙ length-overwrite 2 heads c1 fit2 in
    let fit3 : entry_header (end - first) + length tail ≤ length c2 = omega arith in
    let long3 : length c3 ≡ length c2 = ap length e3 ∙ length-overwrite (entry_header (end - first)) tail c2 fit3 in
    let third_low = λ (p : ℕ) (lt : p < entry_header (end - first)). ap (λ (xs : List ℕ). get_or xs p 0) e3 ∙ get_or-overwrite_below (entry_header (end - first)) tail c2 p 0 fit3 lt in
    let second_low = λ (p : ℕ) (lt : p < 2). ap (λ (xs : List ℕ). get_or xs p 0) e2 ∙ get_or-overwrite_below 2 heads c1 p 0 fit2 lt in
    let second_mid = λ (p q : ℕ) (ge : entry_header first ≤ q) (lt : q < entry_header end) (at : p + entry_header first ≡ q + 2).
    let place : entry_header first + (p - 2) ≡ q = omega arith in
    ap (λ (xs : List ℕ). get_or xs p 0) e2 ∙ get_or-overwrite_inside 2 heads c1 p 0 fit2 (omega arith) (omega arith) ∙ get_or-slice_range b (entry_header first) (entry_header end) (p - 2) (omega arith) ∙ ap (λ (r : ℕ). get_or b r 0) place in
    let same : entry_count c3 ≡ entry_count c1 = number_at-same 2 0 c3 c1 (λ k lo hi. third_low k (omega arith) ∙ second_low k (omega arith)) in
    let count = co.count in
    record {
      whole = omega arith;
      count = omega arith;
      headers = λ k lt. same_header c3 b k (first + k) (λ r small. third_low (entry_header k + r) (omega arith) ∙ second_mid (entry_header k + r) (entry_header (first + k) + r) (omega arith) (omega arith) (omega arith));
      bodies = λ p q ge lt at.
          let place : from + (p - entry_header (end - first)) ≡ q = omega arith in
          ap (λ (xs : List ℕ). get_or xs p 0) e3 ∙ get_or-overwrite_inside (entry_header (end - first)) tail c2 p 0 fit3 (omega arith) (omega arith) ∙ get_or-slice_range b from to (p - entry_header (end - first)) (omega arith) ∙ ap (λ (r : ℕ). get_or b r 0) place;
      rest = λ p ge.
          ap (λ (xs : List ℕ). get_or xs p 0) e3 ∙ get_or-overwrite_above (entry_header (end - first)) tail c2 p 0 fit3 (omega arith)
          ∙ ap (λ (xs : List ℕ). get_or xs p 0) e2 ∙ get_or-overwrite_above 2 heads c1 p 0 fit2 (omega arith) ∙ co.bytes p (omega arith);
    }

-- what the shift of offsets needs
pub copied_offsets : (b : List ℕ) (first end : ℕ) (a c : List ℕ) → length b ≤ 4096 → IsLaid b → first ≤ end → end ≤ entry_count b → Copied b first end a c → (k : ℕ) → k < end - first → (entry_edge b first ≤ entry_offset c k) × (entry_offset c k ≤ 4096)
copied_offsets b first end a c short laid order within co k lt =
    let same = (co.headers k (omega arith)).offset in
    let here = edge_next b (first + k) (omega arith) in
    let up = edges_rise b first (first + k) laid (omega arith) (omega arith) in
    let top = (edge_stands b (first + k) laid (omega arith)).high in
    (omega arith, omega arith)

pub parted : (b : List ℕ) (first end from bodies u : ℕ) (a c d : List ℕ) → length b ≤ 4096 → IsLaid b → first ≤ end → end ≤ entry_count b → part_room b first end ≤ length a → Copied b first end a c → from ≡ entry_edge b first → bodies ≡ entry_header (end - first) → ShiftsOffsets 0 (end - first) from bodies c d
    → u ≡ part_room b first end → IsPart b first end u d
parted b first end from bodies u a c d short laid order within room co is is' sh used =
    let st = part_stands b first end laid order within in
    let low = st.low in
    let long = co.whole in
    let long' = sh.whole in
    record {
      used_is = used;
      room = omega arith;
      count = sh.count ∙ co.count;
      keys = λ item k lt. sh.keys item k (omega arith) ∙ (co.headers k lt).key item;
      offsets = λ k lt. let x = sh.shifted k (omega arith) (omega arith) in let y = (co.headers k lt).offset in omega arith;
      bodies = λ p q ge lt at. sh.bytes p (omega arith) ∙ co.bodies p q ge lt at;
    }

pub part_rest : (b : List ℕ) (first end from bodies u : ℕ) (a c d : List ℕ) → first ≤ end → Copied b first end a c → ShiftsOffsets 0 (end - first) from bodies c d → u ≡ part_room b first end → (p : ℕ) → u ≤ p → get_or d p 0 ≡ get_or a p 0
part_rest b first end from bodies u a c d order co sh used p past = sh.bytes p (omega arith) ∙ co.rest p (omega arith)

-- ---- the part as a list

-- What a part says as a body of its own.
pub record Part (b : List ℕ) (first end : ℕ) (t : List ℕ) : Type 0 where
  pub laid : IsLaid t
  pub count : entry_count t ≡ end - first
  pub carried : (k : ℕ) → first + k < end → Carries b t (first + k) k

pub part : (b : List ℕ) (first end u : ℕ) (c : List ℕ) → length b ≤ 4096 → IsLaid b → first ≤ end → end ≤ entry_count b → IsPart b first end u c → Part b first end (take u c)
part b first end u c short laid order within p =
    let st = part_stands b first end laid order within in
    let low = st.low in
    let up = st.order in
    let high = st.high in
    let t : List ℕ = take u c in
    let used = p.used_is in
    let room = p.room in
    let n : length t ≡ u = length-take-le u c room in
    let count : entry_count t ≡ end - first = take_count u c (omega arith) ∙ p.count in
    let edge : (k : ℕ) → first + k ≤ end → entry_edge t k + entry_edge b first ≡ entry_edge b (first + k) + entry_header (end - first) = λ k le.
    elim (cases_eq (first + k) end) [
      | inl last ↦
          let x = edge_last t k (omega arith) in
          let y : entry_edge b (first + k) ≡ entry_edge b end = ap (entry_edge b) last in
          omega arith
      | inr more ↦
          let x = edge_next t k (omega arith) in
          let y = edge_next b (first + k) (omega arith) in
          let z = (take_header u k c (omega arith)).offset in
          let o = p.offsets k (omega arith) in
          omega arith
    ] in
    let laid' : IsLaid t = record {
      two = omega arith;
      first =
          let x = edge 0 (omega arith) in
          let y : entry_edge b (first + 0) ≡ entry_edge b first = ap (entry_edge b) (omega arith) in
          omega arith;
      steps = λ k lt.
          let x = edge k (omega arith) in
          let y = edge (k + 1) (omega arith) in
          let z : entry_edge b (first + (k + 1)) ≡ entry_edge b (first + k + 1) = ap (entry_edge b) (omega arith) in
          let step = laid.steps (first + k) (omega arith) in
          omega arith;
    } in
    record {
      laid = laid';
      count = count;
      carried = λ k lt.
          let x = edge k (omega arith) in
          let y = edge (k + 1) (omega arith) in
          let z : entry_edge b (first + (k + 1)) ≡ entry_edge b (first + k + 1) = ap (entry_edge b) (omega arith) in
          let step = laid.steps (first + k) (omega arith) in
          let begin = edges_rise b first (first + k) laid (omega arith) (omega arith) in
          let end' = edges_rise b (first + k + 1) end laid (omega arith) within in
          record {
            key = λ item. (take_header u k c (omega arith)).key item ∙ p.keys item k lt;
            body = same_body b t (first + k) k laid laid' (omega arith) (omega arith) (omega arith) (λ q ge small.
                take_byte u (q + entry_edge t k - entry_edge b (first + k)) c (omega arith) ∙ p.bodies (q + entry_edge t k - entry_edge b (first + k)) q (omega arith) (omega arith) (omega arith));
          };
    }

pub part_entries : (item : Key) (b : List ℕ) (first end : ℕ) (t : List ℕ) → first ≤ end → end ≤ entry_count b → Part b first end t → entries_of item t ≡ take (end - first) (drop first (entries_of item b))
part_entries item b first end t order within p =
    let count = p.count in
    let old = length-entries_of item b in
    let new = length-entries_of item t in
    let rest = length-drop first (entries_of item b) in
    let cut = length-take-le (end - first) (drop first (entries_of item b)) (omega arith) in
    same_lists (entries_of item t) (take (end - first) (drop first (entries_of item b))) (omega arith) (λ k d h.
    get_or-entries_of item t k d (omega arith) ∙ carries_entry item b t (first + k) k (p.carried k (omega arith)) ∙ sym (get_or-entries_of item b (first + k) d (omega arith)) ∙ sym (get_or-take (end - first) (drop first (entries_of item b)) k d (omega arith) ∙ get_or-drop first (entries_of item b) k d))

pub part_accepted : (item : Key) (b : List ℕ) (first end : ℕ) (t : List ℕ) → dir_fault item b ≡ None → first < end → end ≤ entry_count b → Part b first end t → IsAccepted (first_key item t) t
part_accepted item b first end t ok some within p =
    let count = p.count in
    let all : AreCarried b t = record {
      from = λ k lt. (first + k, omega arith, p.carried k (omega arith));
      order = λ k lt. (first + k, first + (k + 1), omega arith, omega arith, p.carried k (omega arith), p.carried (k + 1) (omega arith));
    } in
    carried_accepted item b t (accepted item b ok) p.laid (omega arith) all

pub part_lawful : (item : Key) (b : List ℕ) (first end : ℕ) (t : List ℕ) → dir_fault item b ≡ None → first < end → end ≤ entry_count b → Part b first end t → dir_fault (first_key item t) t ≡ None
part_lawful item b first end t ok some within p = accepted_none (first_key item t) t (part_accepted item b first end t ok some within p)

-- a part from the first entry on keeps the item's key
pub front_lawful : (item : Key) (b : List ℕ) (end : ℕ) (t : List ℕ) → dir_fault item b ≡ None → 0 < end → end ≤ entry_count b → Part b 0 end t → dir_fault item t ≡ None
front_lawful item b end t ok some within p =
    let a = part_accepted item b 0 end t ok some within p in
    accepted_none item t (record {
      laid = a.laid;
      some = a.some;
      first = ap rank ((p.carried 0 (omega arith)).key item) ∙ (accepted item b ok).first;
      rise = λ k lt. rw (same_dir item t k, same_dir item t (k + 1)) at (a.rise k lt);
      named = λ k lt. rw (same_dir item t k) at (a.named k lt);
    })
