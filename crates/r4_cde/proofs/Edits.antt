-- What an edit of a body does to its entries: some give way to others at a place, and the rest is moved.
use Rattle.std.proofs.Common.{◌≡◌, ℕ, ◌+◌, ◌*◌, ◌<◌, ◌≤◌, List, length, get_or, take, sym, ◌∙◌, arith}
use Rattle.std.proofs.lemmas.List.{length-take-le, get_or-take}
use Rattle.r4_base.specs.declared.key.Key.{Key}
use Rattle.r4_base.specs.Dir.{entry_count, entry_edge, entry_header, entry_key_at, entry_offset}
use Rattle.r4_base.specs.Entries.{IsLaid}
use Rattle.r4_base.proofs.Numbers.{number_at-same}
use Rattle.r4_base.proofs.Dirs.{edge_next, edge_stands, edges_rise}
use Rattle.r4_cde.specs.Splice.{CanSplice, IsSpliced}
use Rattle.r4_cde.specs.declared.splice.Splice.{Splice}
use Rattle.r4_cde.proofs.Splices.{SameHeader, same_header}

-- ---- the first bytes of a body

pub take_byte : (u p : ℕ) (xs : List ℕ) → p < u → get_or (take u xs) p 0 ≡ get_or xs p 0
take_byte u p xs lt = get_or-take u xs p 0 lt

pub take_count : (u : ℕ) (xs : List ℕ) → 2 ≤ u → entry_count (take u xs) ≡ entry_count xs
take_count u xs room = number_at-same 2 0 (take u xs) xs (λ k lo hi. take_byte u k xs (omega arith))

pub take_header : (u k : ℕ) (xs : List ℕ) → entry_header (k + 1) ≤ u → SameHeader (take u xs) xs k k
take_header u k xs room = same_header (take u xs) xs k k (λ r small. take_byte u (entry_header k + r) xs (omega arith))

-- ---- what is spliced

-- A body whose entries from one place on gave way to others. What stands in the place is not spoken of, but for where its
-- body begins.
pub record Edited (s : Splice) (b c : List ℕ) : Type 0 where
  pub laid : IsLaid b
  pub within : s.at + s.gone ≤ entry_count b
  pub from : s.from ≡ entry_edge b s.at
  pub to : s.from + s.old ≡ entry_edge b (s.at + s.gone)
  pub one : s.come ≤ 1
  pub long : length c + s.old + 26 * s.gone ≡ length b + s.new + 26 * s.come
  pub count : entry_count c + s.gone ≡ entry_count b + s.come
  pub keys_before : (item : Key) (k : ℕ) → k < s.at → entry_key_at item c k ≡ entry_key_at item b k
  pub keys_after : (item : Key) (k : ℕ) → s.at ≤ k → k + s.gone < entry_count b → entry_key_at item c (k + s.come) ≡ entry_key_at item b (k + s.gone)
  pub before : (k : ℕ) → k < s.at → entry_offset c k + 26 * s.gone ≡ entry_offset b k + 26 * s.come
  pub after : (k : ℕ) → s.at ≤ k → k + s.gone < entry_count b → entry_offset c (k + s.come) + s.old + 26 * s.gone ≡ entry_offset b (k + s.gone) + s.new + 26 * s.come
  pub low : (p q : ℕ) → entry_header (entry_count b) ≤ q → q < s.from → p + 26 * s.gone ≡ q + 26 * s.come → get_or c p 0 ≡ get_or b q 0
  pub high : (p q : ℕ) → s.from + s.old ≤ q → q < length b → p + s.old + 26 * s.gone ≡ q + s.new + 26 * s.come → get_or c p 0 ≡ get_or b q 0
  pub place : s.come ≡ 1 → entry_offset c s.at + 26 * s.gone ≡ s.from + 26 * s.come
  pub filled : s.come ≡ 1 → 24 ≤ s.new
  pub empty : s.come ≡ 0 → s.new ≡ 0

-- where the bytes of a splice stand
pub can_splice : (s : Splice) (used : ℕ) (b : List ℕ) → length b ≤ 4096 → used ≤ length b → IsLaid (take used b) → s.at + s.gone ≤ entry_count (take used b) → s.from ≡ entry_edge (take used b) s.at → s.from + s.old ≡ entry_edge (take used b) (s.at + s.gone)
    → s.come ≤ 1 → used + s.new ≤ length b + s.old → used + s.new + 26 * s.come ≤ length b + s.old + 26 * s.gone → CanSplice s used b
can_splice s used b short inside laid within from to one bodies room =
    let t : List ℕ = take used b in
    let n : length t ≡ used = length-take-le used b inside in
    let two = laid.two in
    let count : entry_count t ≡ entry_count b = take_count used b (omega arith) in
    let first = edge_stands t s.at laid (omega arith) in
    let last = edge_stands t (s.at + s.gone) laid within in
    let low = first.low in
    let high = last.high in
    let offset = λ (k : ℕ) (lt : k < entry_count t).
    let here = edge_next t k lt in
    let stands = edge_stands t k laid (omega arith) in
    let stands_low = stands.low in
    let stands_high = stands.high in
    let same = (take_header used k b (omega arith)).offset in
    let r : (entry_offset b k ≡ entry_edge t k) × (entry_header (entry_count t) ≤ entry_edge t k) × (entry_edge t k ≤ used) = (omega arith, omega arith, omega arith) in
    r in
    record {
      short = short;
      inside = inside;
      within = omega arith;
      headers = omega arith;
      ends = omega arith;
      one = one;
      bodies = bodies;
      room = room;
      before = λ k lt. let o = offset k (omega arith) in let a = o.0 in let x = o.1 in let y = o.2 in (omega arith, omega arith);
      after = λ k ge lt.
          let o = offset k (omega arith) in
          let a = o.0 in
          let y = o.2 in
          let up = edges_rise t (s.at + s.gone) k laid ge (omega arith) in
          (omega arith, omega arith);
    }

-- a splice, and then writes in the place that it left
pub edited : (s : Splice) (used u : ℕ) (b mid d : List ℕ) → CanSplice s used b → IsLaid (take used b) → s.from ≡ entry_edge (take used b) s.at → s.from + s.old ≡ entry_edge (take used b) (s.at + s.gone) → IsSpliced s used b u mid → length d ≡ length mid
    → ((p : ℕ) → p < entry_header s.at → get_or d p 0 ≡ get_or mid p 0)
    → ((p : ℕ) → entry_header (s.at + s.come) ≤ p → p + 26 * s.gone < s.from + 26 * s.come → get_or d p 0 ≡ get_or mid p 0)
    → ((p : ℕ) → s.from + s.new + 26 * s.come ≤ p + 26 * s.gone → get_or d p 0 ≡ get_or mid p 0)
    → (s.come ≡ 1 → entry_offset d s.at + 26 * s.gone ≡ s.from + 26 * s.come) → (s.come ≡ 1 → 24 ≤ s.new) → (s.come ≡ 0 → s.new ≡ 0) → Edited s (take used b) (take u d)
edited s used u b mid d can laid from to sp whole below between above place filled empty =
    let t : List ℕ = take used b in
    let c : List ℕ = take u d in
    let inside = can.inside in
    let n : length t ≡ used = length-take-le used b inside in
    let two = laid.two in
    let count : entry_count t ≡ entry_count b = take_count used b (omega arith) in
    let within = can.within in
    let headers = can.headers in
    let ends = can.ends in
    let room = can.room in
    let used_is = sp.used_is in
    let count_mid = sp.count in
    let long = sp.whole in
    let m : length c ≡ u = length-take-le u d (omega arith) in
    let count_c : entry_count c ≡ entry_count d = take_count u d (omega arith) in
    let count_d : entry_count d ≡ entry_count mid = number_at-same 2 0 d mid (λ k lo hi. below k (omega arith)) in
    let head_before = λ (k : ℕ) (lt : k < s.at).
    let x = take_header u k d (omega arith) in
    let y = same_header d mid k k (λ r small. below (entry_header k + r) (omega arith)) in
    let z = take_header used k b (omega arith) in
    let r : ((item : Key) → entry_key_at item c k ≡ entry_key_at item t k) × (entry_offset c k + 26 * s.gone ≡ entry_offset t k + 26 * s.come) =
    (λ item. x.key item ∙ y.key item ∙ sp.keys_before item k lt ∙ sym (z.key item), let o = sp.before k lt in let xo = x.offset in let yo = y.offset in let zo = z.offset in omega arith) in
    r in
    let head_after = λ (k : ℕ) (ge : s.at ≤ k) (lt : k + s.gone < entry_count t).
    let x = take_header u (k + s.come) d (omega arith) in
    let y = same_header d mid (k + s.come) (k + s.come) (λ r small. between (entry_header (k + s.come) + r) (omega arith) (omega arith)) in
    let z = take_header used (k + s.gone) b (omega arith) in
    let r : ((item : Key) → entry_key_at item c (k + s.come) ≡ entry_key_at item t (k + s.gone)) × (entry_offset c (k + s.come) + s.old + 26 * s.gone ≡ entry_offset t (k + s.gone) + s.new + 26 * s.come) =
    (λ item. x.key item ∙ y.key item ∙ sp.keys_after item k ge (omega arith) ∙ sym (z.key item), let o = sp.after k ge (omega arith) in let xo = x.offset in let yo = y.offset in let zo = z.offset in omega arith) in
    r in
    record {
      laid = laid;
      within = omega arith;
      from = from;
      to = to;
      one = can.one;
      long = omega arith;
      count = omega arith;
      keys_before = λ item k lt. (head_before k lt).0 item;
      keys_after = λ item k ge lt. (head_after k ge lt).0 item;
      before = λ k lt. (head_before k lt).1;
      after = λ k ge lt. (head_after k ge lt).1;
      low = λ p q ge lt at. take_byte u p d (omega arith) ∙ between p (omega arith) (omega arith) ∙ sp.low p q (omega arith) lt at ∙ sym (take_byte used q b (omega arith));
      high = λ p q ge lt at. take_byte u p d (omega arith) ∙ above p (omega arith) ∙ sp.high p q ge (omega arith) at ∙ sym (take_byte used q b (omega arith));
      place = λ is. let x = (take_header u s.at d (omega arith)).offset in let o = place is in omega arith;
      filled = filled;
      empty = empty;
    }
