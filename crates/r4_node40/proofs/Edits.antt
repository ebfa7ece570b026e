-- What an edit of a block does to its items: items give way to others at a place, and the rest is moved.
use Rattle.std.proofs.Common.{◌≡◌, ℕ, ◌+◌, ◌-◌, ◌*◌, ◌<◌, ◌≤◌, List, length, get_or, set, take, replicate, refl, sym, ap, ◌∙◌, arith, inl, inr}
use Rattle.std.proofs.lemmas.Bool.{cases_eq, cases_lt, eq-eqb, ne_eqb}
use Rattle.std.proofs.lemmas.List.{places, length-append, length-take, ext_get_or, length-replicate, get_or-replicate, same_lists, length-set, get_or-set_same, get_or-set_other}
use Rattle.std.proofs.lemmas.List.Edits.{length-remove, get_or-remove_below, get_or-remove_above, length-insert, get_or-insert_below, get_or-insert_at, get_or-insert_above}
use Rattle.std.specs.Prelude.{slice_range, remove}
use Rattle.std.specs.List.{insert}
use Rattle.r4_base.specs.Bytes.{overwrite}
use Rattle.r4_base.specs.declared.key.Key.{Key}
use Rattle.r4_base.proofs.Numbers.{length-overwrite, get_or-overwrite_below, get_or-overwrite_inside, get_or-overwrite_above, length-slice_range, get_or-slice_range, slice_range-same, number_at-same}
use Rattle.r4_base.specs.Node.{count_of, start_of, free_of, key_at, plugin_at, offset_at, item_flags_at, edge_at, item_at, items_of}
use Rattle.r4_node40.specs.Laid.{IsLaid, KeepsFree, SameHeader, SameHead, room_of}
use Rattle.r4_node40.specs.Edits.{resized}
use Rattle.r4_node40.specs.Splice.{CanSplice, IsSpliced, IsSettled, ShiftedHeader}
use Rattle.r4_node40.specs.declared.edit.Splice.{Splice}
use Rattle.r4_node40.proofs.Laid.{edge_next, edge_last, edge_first, edge_step, edges_apart, edge_stands, laid_by_edges, length-items_of, get_or-items_of}
use Rattle.r4_node40.proofs.Splices.{started}
use Rattle.r4_node40.proofs.Headers.{same_head, same_header}

-- A block of n items that became one of m. What stands in the place is not spoken of, but for where its body begins.
pub record Edited (s : Splice) (b c : List ℕ) (n m : ℕ) : Type 0 where
  pub laid : IsLaid b
  pub counted : n ≡ count_of b
  pub settled : IsSettled b
  pub within : s.at + s.gone ≤ n
  pub from : s.from ≡ edge_at n b s.at
  pub to : s.from + s.old ≡ edge_at n b (s.at + s.gone)
  pub one : s.come ≤ 1
  pub whole : length c ≡ 4096
  pub now : m ≡ count_of c
  pub count : m + s.gone ≡ n + s.come
  pub free : free_of c + s.new + 38 * s.come ≡ free_of b + s.old + 38 * s.gone
  pub start : start_of c + s.old ≡ start_of b + s.new
  pub before : (k : ℕ) → k < s.at → SameHeader c b k k
  pub after : (k : ℕ) → s.at ≤ k → k + s.gone < n → ShiftedHeader s.old s.new c b (k + s.come) (k + s.gone)
  pub front : (p : ℕ) → p < 2 → get_or c p 0 ≡ get_or b p 0
  pub low : (p : ℕ) → 8 ≤ p → p < s.from → get_or c p 0 ≡ get_or b p 0
  pub high : (q : ℕ) → s.from ≤ q → q + s.old < start_of b → get_or c (q + s.new) 0 ≡ get_or b (q + s.old) 0
  pub middle : KeepsFree b c
  pub place : s.come ≡ 1 → offset_at c s.at ≡ s.from
  pub filled : s.come ≡ 1 → 1 ≤ s.new
  pub empty : s.come ≡ 0 → s.new ≡ 0

-- a splice, and then writes in the place that it left
pub edited : (s : Splice) (b mid c : List ℕ) (n : ℕ) → CanSplice s b → n ≡ count_of b → IsSettled b → IsSpliced s b mid → length c ≡ 4096
    → ((p : ℕ) → p < s.from → get_or c p 0 ≡ get_or mid p 0)
    → ((p : ℕ) → s.from + s.new ≤ p → p + 38 * (s.at + s.come) < 4096 → get_or c p 0 ≡ get_or mid p 0)
    → ((p : ℕ) → 4096 ≤ p + 38 * s.at → get_or c p 0 ≡ get_or mid p 0)
    → (s.come ≡ 1 → offset_at c s.at ≡ s.from) → (s.come ≡ 1 → 1 ≤ s.new) → (s.come ≡ 0 → s.new ≡ 0) → Edited s b c n (n + s.come - s.gone)
edited s b mid c n can is settled sp whole low between high place filled empty =
    let st = started s b can in
    let s_low = st.low in
    let inside = st.inside in
    let sum = st.sum in
    let within = can.within in
    let count_mid = sp.count in
    let free_mid = sp.free in
    let start_mid = sp.start in
    let room = can.room in
    let count_now : count_of c ≡ count_of mid = number_at-same 2 2 c mid (λ k lo hi. low k (omega arith)) in
    let free_now : free_of c ≡ free_of mid = number_at-same 2 4 c mid (λ k lo hi. low k (omega arith)) in
    let start_now : start_of c ≡ start_of mid = number_at-same 2 6 c mid (λ k lo hi. low k (omega arith)) in
    record {
      laid = can.laid;
      counted = is;
      settled = settled;
      within = omega arith;
      from = can.from ∙ ap (λ (x : ℕ). edge_at x b s.at) (sym is);
      to = can.to ∙ ap (λ (x : ℕ). edge_at x b (s.at + s.gone)) (sym is);
      one = can.come;
      whole = whole;
      now = omega arith;
      count = omega arith;
      free = omega arith;
      start = omega arith;
      before = λ k below.
          let h = same_header c mid k k (λ r small. high (4096 - 38 * (k + 1) + r) (omega arith)) in
          let g = sp.before k (omega arith) in
          record { key = h.key ∙ g.key; plugin = h.plugin ∙ g.plugin; offset = h.offset ∙ g.offset; flags = h.flags ∙ g.flags };
      after = λ k above below.
          let h = same_header c mid (k + s.come) (k + s.come) (λ r small. between (4096 - 38 * (k + s.come + 1) + r) (omega arith) (omega arith)) in
          let g = sp.after k above (omega arith) in
          record { key = h.key ∙ g.key; plugin = h.plugin ∙ g.plugin; offset = rw h.offset g.offset; flags = h.flags ∙ g.flags };
      front = λ p lt. low p (omega arith) ∙ sp.front p lt;
      low = λ p ge lt. low p lt ∙ sp.low p ge (omega arith);
      high = λ q ge lt. between (q + s.new) (omega arith) (omega arith) ∙ sp.high q ge lt;
      middle = λ p ge lt. between p (omega arith) (omega arith) ∙ sp.middle p (omega arith) (omega arith);
      place = place;
      filled = filled;
      empty = empty;
    }

-- ---- where bodies begin and end

edge_high : (s : Splice) (b c : List ℕ) (n m k : ℕ) → Edited s b c n m → s.at ≤ k → k + s.gone ≤ n → edge_at m c (k + s.come) + s.old ≡ edge_at n b (k + s.gone) + s.new
edge_high s b c n m k e ge le =
    let count = e.count in
    elim (cases_eq (k + s.gone) n) [
      | inl last ↦ let x = edge_last n (k + s.gone) b last in let y = edge_last m (k + s.come) c (omega arith) in let z = e.start in omega arith
      | inr more ↦ let x = edge_next n (k + s.gone) b (omega arith) in let y = edge_next m (k + s.come) c (omega arith) in let z = (e.after k ge (omega arith)).offset in omega arith
    ]

edge_low : (s : Splice) (b c : List ℕ) (n m k : ℕ) → Edited s b c n m → k ≤ s.at → edge_at m c k ≡ edge_at n b k
edge_low s b c n m k e le =
    let count = e.count in
    let within = e.within in
    elim (cases_lt k s.at) [
      | inl below ↦ edge_next m k c (omega arith) ∙ (e.before k below).offset ∙ sym (edge_next n k b (omega arith))
      | inr here ↦
          let at : k ≡ s.at = omega arith in
          let same : edge_at n b k ≡ edge_at n b s.at = ap (edge_at n b) at in
          let from = e.from in
          elim (cases_eq s.come 0) [
            | inl none ↦
                let high = edge_high s b c n m s.at e (omega arith) within in
                let same' : edge_at m c (s.at + s.come) ≡ edge_at m c k = ap (edge_at m c) (omega arith) in
                let to = e.to in
                let empty = e.empty none in
                omega arith
            | inr some ↦
                let next = edge_next m s.at c (omega (arith, e.one)) in
                let same' : edge_at m c k ≡ edge_at m c s.at = ap (edge_at m c) at in
                let place = e.place (omega (arith, e.one)) in
                omega arith
          ]
    ]

from_low : (s : Splice) (b c : List ℕ) (n m : ℕ) → Edited s b c n m → 28 ≤ s.from
from_low s b c n m e = let x = edge_stands b n s.at e.laid e.counted (omega (arith, e.within)) in omega (arith, x.low, e.from)

first_edge : (s : Splice) (b c : List ℕ) (n m : ℕ) → Edited s b c n m → edge_at m c 0 ≡ 28
first_edge s b c n m e = edge_low s b c n m 0 e (omega arith) ∙ elim (cases_eq n 0) [
  | inl none ↦ edge_last n 0 b (sym none) ∙ e.settled (omega (arith, e.counted))
  | inr some ↦ edge_first b n e.laid e.counted (omega arith)
]

step : (s : Splice) (b c : List ℕ) (n m k : ℕ) → Edited s b c n m → k < m → edge_at m c k < edge_at m c (k + 1)
step s b c n m k e lt =
    let count = e.count in
    let within = e.within in
    elim (cases_lt k s.at) [
      | inl below ↦ let x = edge_low s b c n m k e (omega arith) in let y = edge_low s b c n m (k + 1) e (omega arith) in let up = edge_step b n k e.laid e.counted (omega arith) in omega arith
      | inr ge ↦
          elim (cases_lt k (s.at + s.come)) [
            | inl this ↦
                let one : s.come ≡ 1 = omega (arith, e.one) in
                let at : k ≡ s.at = omega arith in
                let x = edge_low s b c n m k e (omega arith) in
                let same : edge_at n b k ≡ edge_at n b s.at = ap (edge_at n b) at in
                let y = edge_high s b c n m s.at e (omega arith) within in
                let same' : edge_at m c (s.at + s.come) ≡ edge_at m c (k + 1) = ap (edge_at m c) (omega arith) in
                let from = e.from in
                let to = e.to in
                let filled = e.filled one in
                omega arith
            | inr past ↦
                let j : ℕ = k - s.come in
                let x = edge_high s b c n m j e (omega arith) (omega arith) in
                let y = edge_high s b c n m (j + 1) e (omega arith) (omega arith) in
                let same : edge_at m c (j + s.come) ≡ edge_at m c k = ap (edge_at m c) (omega arith) in
                let same' : edge_at m c (j + 1 + s.come) ≡ edge_at m c (k + 1) = ap (edge_at m c) (omega arith) in
                let same'' : edge_at n b (j + 1 + s.gone) ≡ edge_at n b (j + s.gone + 1) = ap (edge_at n b) (omega arith) in
                let up = edge_step b n (j + s.gone) e.laid e.counted (omega arith) in
                omega arith
          ]
    ]

pub edited_laid : (s : Splice) (b c : List ℕ) (n m : ℕ) → Edited s b c n m → IsLaid c
edited_laid s b c n m e =
    let start = e.start in
    let free = e.free in
    let count = e.count in
    let sum = e.laid.sum in
    let counted = e.counted in
    let high = (edge_stands b n (s.at + s.gone) e.laid e.counted e.within).high in
    let to = e.to in
    let low = from_low s b c n m e in
    laid_by_edges c m e.now e.whole (omega arith) (omega arith) (λ pos. first_edge s b c n m e) (λ k lt. step s b c n m k e lt)

pub edited_settled : (s : Splice) (b c : List ℕ) (n m : ℕ) → Edited s b c n m → IsSettled c
edited_settled s b c n m e = λ none. sym (edge_last m 0 c (omega (arith, e.now))) ∙ first_edge s b c n m e

pub edited_head : (s : Splice) (b c : List ℕ) (n m : ℕ) → Edited s b c n m → SameHead b c
edited_head s b c n m e = let low = from_low s b c n m e in same_head b c e.front (λ p ge lt. e.low p ge (omega arith))

pub settled_room : (b : List ℕ) → IsLaid b → IsSettled b → room_of b ≡ free_of b
unfolding room_of
settled_room b laid settled = elim (cases_eq (count_of b) 0) [
  | inl none ↦ let t = eq-eqb (count_of b) 0 none in let start = settled none in let sum = laid.sum in let free : 4068 ≡ free_of b = omega arith in rw t free
  | inr some ↦ let t = ne_eqb (count_of b) 0 some in rw t refl
]

pub edited_room : (s : Splice) (b c : List ℕ) (n m : ℕ) → Edited s b c n m → room_of c + s.new + 38 * s.come ≡ room_of b + s.old + 38 * s.gone
edited_room s b c n m e =
    let x = settled_room b e.laid e.settled in
    let y = settled_room c (edited_laid s b c n m e) (edited_settled s b c n m e) in
    let free = e.free in
    omega arith

-- ---- the items

item_low : (s : Splice) (b c : List ℕ) (n m k : ℕ) → Edited s b c n m → k < s.at → item_at m c k ≡ item_at n b k
unfolding item_at
item_low s b c n m k e lt =
    let count = e.count in
    let within = e.within in
    let h = e.before k lt in
    let again = edited_laid s b c n m e in
    let here = edge_next n k b (omega arith) in
    let there = h.offset in
    let low = (edge_stands b n k e.laid e.counted (omega arith)).low in
    let order = edge_step b n k e.laid e.counted (omega arith) in
    let ends = edge_low s b c n m (k + 1) e (omega arith) in
    let apart = edges_apart b n (k + 1) s.at e.laid e.counted (omega arith) (omega arith) in
    let t = edge_stands b n s.at e.laid e.counted (omega arith) in
    let high = t.high in
    let start = t.start in
    let from = e.from in
    let body : slice_range c (offset_at c k) (edge_at m c (k + 1)) ≡ slice_range b (offset_at b k) (edge_at n b (k + 1)) =
    slice_range-same c b (offset_at c k) (edge_at m c (k + 1)) (offset_at b k) (edge_at n b (k + 1)) (omega arith) (omega (arith, e.whole)) (omega arith) (omega (arith, e.laid.whole)) (omega arith)
    (λ q small.
    let at : offset_at c k + q ≡ offset_at b k + q = omega arith in
    ap (λ (p : ℕ). get_or c p 0) at ∙ e.low (offset_at b k + q) (omega arith) (omega arith)) in
    rw (h.key, h.plugin, body) refl

item_high : (s : Splice) (b c : List ℕ) (n m k : ℕ) → Edited s b c n m → s.at ≤ k → k + s.gone < n → item_at m c (k + s.come) ≡ item_at n b (k + s.gone)
unfolding item_at
item_high s b c n m k e ge lt =
    let h = e.after k ge lt in
    let here = edge_next n (k + s.gone) b lt in
    let there = h.offset in
    let order = edge_step b n (k + s.gone) e.laid e.counted lt in
    let ends = edge_high s b c n m (k + 1) e (omega arith) (omega arith) in
    let same : edge_at m c (k + 1 + s.come) ≡ edge_at m c (k + s.come + 1) = ap (edge_at m c) (omega arith) in
    let same' : edge_at n b (k + 1 + s.gone) ≡ edge_at n b (k + s.gone + 1) = ap (edge_at n b) (omega arith) in
    let apart = edges_apart b n (s.at + s.gone) (k + s.gone) e.laid e.counted (omega arith) (omega arith) in
    let t = edge_stands b n (k + s.gone + 1) e.laid e.counted (omega arith) in
    let high = t.high in
    let start = t.start in
    let again = edited_laid s b c n m e in
    let start' = e.start in
    let sum' = again.sum in
    let to = e.to in
    let body : slice_range c (offset_at c (k + s.come)) (edge_at m c (k + s.come + 1)) ≡ slice_range b (offset_at b (k + s.gone)) (edge_at n b (k + s.gone + 1)) =
    slice_range-same c b (offset_at c (k + s.come)) (edge_at m c (k + s.come + 1)) (offset_at b (k + s.gone)) (edge_at n b (k + s.gone + 1)) (omega arith) (omega (arith, e.whole)) (omega arith) (omega (arith, e.laid.whole)) (omega arith)
    (λ q small.
    let p : ℕ = offset_at b (k + s.gone) + q - s.old in
    let was : p + s.old ≡ offset_at b (k + s.gone) + q = omega arith in
    let is : offset_at c (k + s.come) + q ≡ p + s.new = omega arith in
    ap (λ (r : ℕ). get_or c r 0) is ∙ e.high p (omega arith) (omega arith) ∙ ap (λ (r : ℕ). get_or b r 0) was) in
    rw (h.key, h.plugin, body) refl

-- ---- the list of items

pub edited_remove : (s : Splice) (b c : List ℕ) (n m : ℕ) → Edited s b c n m → s.gone ≡ 1 → s.come ≡ 0 → items_of c ≡ remove (items_of b) s.at
edited_remove s b c n m e gone come =
    let count = e.count in
    let within = e.within in
    let counted = e.counted in
    let now = e.now in
    let old_long = length-items_of b in
    let new_long = length-items_of c in
    let cut = length-remove (items_of b) s.at (omega arith) in
    same_lists (items_of c) (remove (items_of b) s.at) (omega arith) (λ k d h.
    elim (cases_lt k s.at) [
      | inl small ↦ get_or-items_of c m k d (sym now) (omega arith) ∙ item_low s b c n m k e small ∙ sym (get_or-items_of b n k d (sym counted) (omega arith)) ∙ sym (get_or-remove_below (items_of b) s.at d k small (omega arith))
      | inr large ↦
          let x : item_at m c k ≡ item_at m c (k + s.come) = ap (item_at m c) (omega arith) in
          let y : item_at n b (k + s.gone) ≡ item_at n b (k + 1) = ap (item_at n b) (omega arith) in
          get_or-items_of c m k d (sym now) (omega arith) ∙ x ∙ item_high s b c n m k e large (omega arith) ∙ y ∙ sym (get_or-items_of b n (k + 1) d (sym counted) (omega arith)) ∙ sym (get_or-remove_above (items_of b) s.at d k large (omega arith))
    ])

pub edited_insert : (s : Splice) (b c : List ℕ) (n m : ℕ) → Edited s b c n m → s.gone ≡ 0 → s.come ≡ 1 → items_of c ≡ insert (items_of b) s.at (item_at m c s.at)
edited_insert s b c n m e gone come =
    let count = e.count in
    let within = e.within in
    let counted = e.counted in
    let now = e.now in
    let item = item_at m c s.at in
    let old_long = length-items_of b in
    let new_long = length-items_of c in
    let grown = length-insert (items_of b) s.at item (omega arith) in
    same_lists (items_of c) (insert (items_of b) s.at item) (omega arith) (λ k d h.
    elim (cases_lt k s.at) [
      | inl small ↦ get_or-items_of c m k d (sym now) (omega arith) ∙ item_low s b c n m k e small ∙ sym (get_or-items_of b n k d (sym counted) (omega arith)) ∙ sym (get_or-insert_below (items_of b) s.at item d k small (omega arith))
      | inr ge ↦
          elim (cases_eq k s.at) [
            | inl here ↦ rw here (get_or-items_of c m s.at d (sym now) (omega arith) ∙ sym (get_or-insert_at (items_of b) s.at item d (omega arith)))
            | inr past ↦
                let j : ℕ = k - 1 in
                let back : j + 1 ≡ k = omega arith in
                let x : item_at m c k ≡ item_at m c (j + s.come) = ap (item_at m c) (omega arith) in
                let y : item_at n b (j + s.gone) ≡ item_at n b j = ap (item_at n b) (omega arith) in
                get_or-items_of c m k d (sym now) (omega arith) ∙ x ∙ item_high s b c n m j e (omega arith) (omega arith) ∙ y ∙ sym (get_or-items_of b n j d (sym counted) (omega arith)) ∙ sym (get_or-insert_above (items_of b) s.at item d j (omega arith) (omega arith)) ∙ ap (λ (i : ℕ). get_or (insert (items_of b) s.at item) i d) back
          ]
    ])

pub edited_set : (s : Splice) (b c : List ℕ) (n m : ℕ) → Edited s b c n m → s.gone ≡ 1 → s.come ≡ 1 → items_of c ≡ set (items_of b) s.at (item_at m c s.at)
edited_set s b c n m e gone come =
    let count = e.count in
    let within = e.within in
    let counted = e.counted in
    let now = e.now in
    let item = item_at m c s.at in
    let old_long = length-items_of b in
    let new_long = length-items_of c in
    let kept = length-set (items_of b) s.at item in
    same_lists (items_of c) (set (items_of b) s.at item) (omega arith) (λ k d h.
    elim (cases_eq k s.at) [
      | inl here ↦ rw here (get_or-items_of c m s.at d (sym now) (omega arith) ∙ sym (get_or-set_same (items_of b) s.at item d (omega arith)))
      | inr other ↦
          get_or-items_of c m k d (sym now) (omega arith) ∙ elim (cases_lt k s.at) [
            | inl small ↦ item_low s b c n m k e small
            | inr ge ↦
                let j : ℕ = k - 1 in
                let x : item_at m c k ≡ item_at m c (j + s.come) = ap (item_at m c) (omega arith) in
                let y : item_at n b (j + s.gone) ≡ item_at n b k = ap (item_at n b) (omega arith) in
                x ∙ item_high s b c n m j e (omega arith) (omega arith) ∙ y
          ] ∙ sym (get_or-items_of b n k d (sym counted) (omega arith)) ∙ sym (get_or-set_other (items_of b) s.at k item d other)
    ])

-- ---- an item is taken away

abbrev pub removal : (i from to : ℕ) → Splice
removal i from to = record { at = i; gone = 1; come = 0; from = from; old = to - from; new = 0 }

pub can_remove : (b : List ℕ) (n i from to : ℕ) → IsLaid b → n ≡ count_of b → i < n → from ≡ offset_at b i → to ≡ edge_at n b (i + 1) → from < to → CanSplice (removal i from to) b
can_remove b n i from to laid is lt here there order =
    let next = edge_next n i b lt in
    let first : from ≡ edge_at (count_of b) b i = here ∙ sym next ∙ ap (λ (x : ℕ). edge_at x b i) is in
    let last : to ≡ edge_at (count_of b) b (i + 1) = there ∙ ap (λ (x : ℕ). edge_at x b (i + 1)) is in
    record { laid = laid; within = omega arith; from = first; to = omega arith; gone = omega arith; come = omega arith; room = omega arith; bodies = omega arith }

pub removed : (b c : List ℕ) (n i from to : ℕ) → IsLaid b → n ≡ count_of b → i < n → from ≡ offset_at b i → to ≡ edge_at n b (i + 1) → from < to → IsSpliced (removal i from to) b c → Edited (removal i from to) b c n (n + 0 - 1)
removed b c n i from to laid is lt here there order sp =
    edited (removal i from to) b c c n (can_remove b n i from to laid is lt here there order) is (λ none. absurd (omega arith)) sp sp.whole (λ p h. refl) (λ p h g. refl) (λ p h. refl) (λ x. absurd (omega (arith, x))) (λ x. absurd (omega (arith, x))) (λ x. refl)

-- ---- an item is put in

abbrev pub insertion : (i from len : ℕ) → Splice
insertion i from len = record { at = i; gone = 0; come = 1; from = from; old = 0; new = len }

pub can_insert : (b : List ℕ) (n i from len : ℕ) → IsLaid b → IsSettled b → n ≡ count_of b → i ≤ n → from ≡ edge_at n b i → len + 38 ≤ room_of b → CanSplice (insertion i from len) b
can_insert b n i from len laid settled is le here room =
    let free = settled_room b laid settled in
    let first : from ≡ edge_at (count_of b) b i = here ∙ ap (λ (x : ℕ). edge_at x b i) is in
    let same : edge_at (count_of b) b (i + 0) ≡ edge_at (count_of b) b i = ap (edge_at (count_of b) b) (omega arith) in
    record { laid = laid; within = omega arith; from = first; to = omega arith; gone = omega arith; come = omega arith; room = omega arith; bodies = omega arith }

-- the bytes that come stay below the end of the block
pub start_room : (s : Splice) (b : List ℕ) → CanSplice s b → s.from + s.new ≤ 4096
start_room s b can =
    let st = started s b can in
    let inside = st.inside in
    let sum = st.sum in
    let bodies = can.bodies in
    omega arith

-- what is written in the place of the new item
pub record Filled (mid h c : List ℕ) (i from len : ℕ) (key : Key) (plugin : ℕ) : Type 0 where
  pub header : List ℕ
  pub long : length header ≡ 38
  pub header_is : h ≡ overwrite (4096 - 38 * (i + 1)) header mid
  pub key_is : key_at h i ≡ key
  pub offset_is : offset_at h i ≡ from
  pub plugin_is : plugin_at h i ≡ plugin
  pub flags_is : item_flags_at h i ≡ 0
  pub zeros : c ≡ overwrite from (replicate len 0) h

-- the bytes before and behind what was written
pub record Outside (mid h c : List ℕ) (i from len : ℕ) : Type 0 where
  pub whole : length c ≡ 4096
  pub low : (p : ℕ) → p < from → get_or c p 0 ≡ get_or mid p 0
  pub between : (p : ℕ) → from + len ≤ p → p + 38 * (i + 1) < 4096 → get_or c p 0 ≡ get_or mid p 0
  pub high : (p : ℕ) → 4096 ≤ p + 38 * i → get_or c p 0 ≡ get_or mid p 0
  pub header : (p : ℕ) → from + len ≤ p → get_or c p 0 ≡ get_or h p 0
  pub body : (p : ℕ) → from ≤ p → p < from + len → get_or c p 0 ≡ 0

outside : (mid h c : List ℕ) (i from len plugin : ℕ) (key : Key) → length mid ≡ 4096 → from + len + 38 * (i + 1) ≤ 4096 → Filled mid h c i from len key plugin → Outside mid h c i from len
outside mid h c i from len plugin key whole room f =
    let at : ℕ = 4096 - 38 * (i + 1) in
    let long = f.long in
    let zeros : List ℕ = replicate len 0 in
    let zeros_long : length zeros ≡ len = length-replicate {A = ℕ} len 0 in
    let fit1 : at + length f.header ≤ length mid = omega arith in
    let w1 : length h ≡ 4096 = ap length f.header_is ∙ length-overwrite at f.header mid fit1 ∙ whole in
    let fit2 : from + length zeros ≤ length h = omega arith in
    let w2 : length c ≡ 4096 = ap length f.zeros ∙ length-overwrite from zeros h fit2 ∙ w1 in
    let below1 = λ (p : ℕ) (lt : p < at). ap (λ (xs : List ℕ). get_or xs p 0) f.header_is ∙ get_or-overwrite_below at f.header mid p 0 fit1 lt in
    let above1 = λ (p : ℕ) (ge : at + 38 ≤ p). ap (λ (xs : List ℕ). get_or xs p 0) f.header_is ∙ get_or-overwrite_above at f.header mid p 0 fit1 (omega arith) in
    let below2 = λ (p : ℕ) (lt : p < from). ap (λ (xs : List ℕ). get_or xs p 0) f.zeros ∙ get_or-overwrite_below from zeros h p 0 fit2 lt in
    let above2 = λ (p : ℕ) (ge : from + len ≤ p). ap (λ (xs : List ℕ). get_or xs p 0) f.zeros ∙ get_or-overwrite_above from zeros h p 0 fit2 (omega arith) in
    record {
      whole = w2;
      low = λ p lt. below2 p lt ∙ below1 p (omega arith);
      between = λ p ge lt. above2 p ge ∙ below1 p (omega arith);
      high = λ p ge. above2 p (omega arith) ∙ above1 p (omega arith);
      header = above2;
      body = λ p ge lt. ap (λ (xs : List ℕ). get_or xs p 0) f.zeros ∙ get_or-overwrite_inside from zeros h p 0 fit2 ge (omega arith) ∙ get_or-replicate len (p - from) 0 0 (omega arith);
    }

-- the place of the new item stays clear of its header
insert_room : (b mid : List ℕ) (n i from len : ℕ) → CanSplice (insertion i from len) b → n ≡ count_of b → IsSpliced (insertion i from len) b mid → from + len + 38 * (i + 1) ≤ 4096
insert_room b mid n i from len can is sp =
    let st = started (insertion i from len) b can in
    let inside = st.inside in
    let sum = st.sum in
    let room = can.room in
    let within = can.within in
    omega arith

pub inserted : (b mid h c : List ℕ) (n i from len plugin : ℕ) (key : Key) → IsSettled b → CanSplice (insertion i from len) b → n ≡ count_of b → 1 ≤ len → IsSpliced (insertion i from len) b mid → Filled mid h c i from len key plugin → Edited (insertion i from len) b c n (n + 1 - 0)
inserted b mid h c n i from len plugin key settled can is some sp f =
    let o = outside mid h c i from len plugin key sp.whole (insert_room b mid n i from len can is sp) f in
    let room = insert_room b mid n i from len can is sp in
    let says = same_header c h i i (λ r small. o.header (4096 - 38 * (i + 1) + r) (omega arith)) in
    edited (insertion i from len) b mid c n can is settled sp o.whole o.low o.between o.high (λ x. says.offset ∙ f.offset_is) (λ x. some) (λ x. absurd (omega (arith, x)))

pub new_item : (b mid h c : List ℕ) (n i from len plugin : ℕ) (key : Key) → CanSplice (insertion i from len) b → n ≡ count_of b → IsSpliced (insertion i from len) b mid → Filled mid h c i from len key plugin → Edited (insertion i from len) b c n (n + 1 - 0) → item_at (n + 1 - 0) c i ≡ record { key = key; plugin = plugin; body = replicate len 0 }
unfolding item_at
new_item b mid h c n i from len plugin key can is sp f e =
    let room = insert_room b mid n i from len can is sp in
    let o = outside mid h c i from len plugin key sp.whole room f in
    let says = same_header c h i i (λ r small. o.header (4096 - 38 * (i + 1) + r) (omega arith)) in
    let begins : offset_at c i ≡ from = says.offset ∙ f.offset_is in
    let ends = edge_high (insertion i from len) b c n (n + 1 - 0) i e (omega arith) (omega (arith, can.within)) in
    let same : edge_at n b (i + 0) ≡ edge_at n b i = ap (edge_at n b) (omega arith) in
    let here = e.from in
    let zeros : List ℕ = replicate len 0 in
    let zeros_long : length zeros ≡ len = length-replicate {A = ℕ} len 0 in
    let end : edge_at (n + 1 - 0) c (i + 1) ≡ from + len = omega arith in
    let long = length-slice_range c (offset_at c i) (edge_at (n + 1 - 0) c (i + 1)) (omega arith) (omega (arith, o.whole)) in
    let body : slice_range c (offset_at c i) (edge_at (n + 1 - 0) c (i + 1)) ≡ zeros = ext_get_or 0 (slice_range c (offset_at c i) (edge_at (n + 1 - 0) c (i + 1))) zeros (omega arith) (λ q lt.
    get_or-slice_range c (offset_at c i) (edge_at (n + 1 - 0) c (i + 1)) q (omega arith) ∙ o.body (offset_at c i + q) (omega arith) (omega arith) ∙ sym (get_or-replicate len q 0 0 (omega arith))) in
    rw (says.key ∙ f.key_is, says.plugin ∙ f.plugin_is, body) refl

-- its flags are zero
pub new_flags : (b mid h c : List ℕ) (n i from len plugin : ℕ) (key : Key) → CanSplice (insertion i from len) b → n ≡ count_of b → IsSpliced (insertion i from len) b mid → Filled mid h c i from len key plugin → item_flags_at c i ≡ 0
new_flags b mid h c n i from len plugin key can is sp f =
    let room = insert_room b mid n i from len can is sp in
    let o = outside mid h c i from len plugin key sp.whole room f in
    (same_header c h i i (λ r small. o.header (4096 - 38 * (i + 1) + r) (omega arith))).flags ∙ f.flags_is

-- ---- an item gets a body of another length

abbrev pub resizing : (i from to len : ℕ) → Splice
resizing i from to len = record { at = i; gone = 1; come = 1; from = from; old = to - from; new = len }

-- a block with an item has its free space as its room
pub room_of_some : (b : List ℕ) (i : ℕ) → i < count_of b → room_of b ≡ free_of b
unfolding room_of
room_of_some b i lt = let t = ne_eqb (count_of b) 0 (λ e. omega (arith, e)) in rw t refl

pub can_resize : (b : List ℕ) (n i from to len : ℕ) → IsLaid b → n ≡ count_of b → i < n → from ≡ offset_at b i → to ≡ edge_at n b (i + 1) → from < to → len - (to - from) ≤ room_of b → CanSplice (resizing i from to len) b
can_resize b n i from to len laid is lt here there order room =
    let free = room_of_some b i (omega arith) in
    let next = edge_next n i b lt in
    let first : from ≡ edge_at (count_of b) b i = here ∙ sym next ∙ ap (λ (x : ℕ). edge_at x b i) is in
    let last : to ≡ edge_at (count_of b) b (i + 1) = there ∙ ap (λ (x : ℕ). edge_at x b (i + 1)) is in
    record { laid = laid; within = omega arith; from = first; to = omega arith; gone = omega arith; come = omega arith; room = omega arith; bodies = omega arith }

-- what is written behind a body that grew
pub record Grown (b mid c : List ℕ) (i from to len : ℕ) : Type 0 where
  pub whole : length c ≡ 4096
  pub fits : from + len + 38 * (i + 1) ≤ 4096
  pub low : (p : ℕ) → p < from → get_or c p 0 ≡ get_or mid p 0
  pub high : (p : ℕ) → from + len ≤ p → get_or c p 0 ≡ get_or mid p 0
  pub kept : (p : ℕ) → from ≤ p → p < from + len → p < to → get_or c p 0 ≡ get_or b p 0
  pub zeros : (p : ℕ) → p < from + len → to ≤ p → get_or c p 0 ≡ 0

pub grown : (b mid c : List ℕ) (i from to len need : ℕ) → CanSplice (resizing i from to len) b → from < to → need ≡ len - (to - from) → IsSpliced (resizing i from to len) b mid → c ≡ overwrite (from + len - need) (replicate need 0) mid → Grown b mid c i from to len
grown b mid c i from to len need can order is sp e =
    let s = resizing i from to len in
    let st = started s b can in
    let st_low = st.low in
    let inside = st.inside in
    let sum = st.sum in
    let room = can.room in
    let within = can.within in
    let at : ℕ = from + len - need in
    let zeros : List ℕ = replicate need 0 in
    let zeros_long : length zeros ≡ need = length-replicate {A = ℕ} need 0 in
    let fits : from + len + 38 * (i + 1) ≤ 4096 = omega arith in
    let fit : at + length zeros ≤ length mid = omega (arith, sp.whole) in
    let below = λ (p : ℕ) (lt : p < at). ap (λ (xs : List ℕ). get_or xs p 0) e ∙ get_or-overwrite_below at zeros mid p 0 fit lt in
    record {
      whole = ap length e ∙ length-overwrite at zeros mid fit ∙ sp.whole;
      fits = fits;
      low = λ p lt. below p (omega arith);
      high = λ p ge. ap (λ (xs : List ℕ). get_or xs p 0) e ∙ get_or-overwrite_above at zeros mid p 0 fit (omega arith);
      kept = λ p ge lt lt'. below p (omega arith) ∙ sp.low p (omega arith) lt;
      zeros = λ p lt ge. ap (λ (xs : List ℕ). get_or xs p 0) e ∙ get_or-overwrite_inside at zeros mid p 0 fit (omega arith) (omega arith) ∙ get_or-replicate need (p - at) 0 0 (omega arith);
    }

-- its header is the one that was there
resized_header : (b mid c : List ℕ) (i from to len : ℕ) → IsSpliced (resizing i from to len) b mid → Grown b mid c i from to len → SameHeader c b i i
resized_header b mid c i from to len sp g =
    let fits = g.fits in
    let h = same_header c mid i i (λ r small. g.high (4096 - 38 * (i + 1) + r) (omega arith)) in
    let k = sp.before i (omega arith) in
    record { key = h.key ∙ k.key; plugin = h.plugin ∙ k.plugin; offset = h.offset ∙ k.offset; flags = h.flags ∙ k.flags }

pub resized_edit : (b mid c : List ℕ) (n i from to len : ℕ) → CanSplice (resizing i from to len) b → n ≡ count_of b → i < n → 1 ≤ len → from ≡ offset_at b i → IsSpliced (resizing i from to len) b mid → Grown b mid c i from to len → Edited (resizing i from to len) b c n (n + 1 - 1)
resized_edit b mid c n i from to len can is lt some here sp g =
    let fits = g.fits in
    edited (resizing i from to len) b mid c n can is (λ none. absurd (omega arith)) sp g.whole g.low (λ p ge lt. g.high p ge) (λ p ge. g.high p (omega arith)) (λ x. (resized_header b mid c i from to len sp g).offset ∙ sym here) (λ x. some) (λ x. absurd (omega (arith, x)))

length-resized : (body : List ℕ) (len : ℕ) → length (resized body len) ≡ len
length-resized body len = omega (arith, length-append (take len body) (replicate (len - length body) 0), length-take len body, length-replicate {A = ℕ} (len - length body) 0)

get_or-resized_low : (body : List ℕ) (len q : ℕ) → q < len → q < length body → get_or (resized body len) q 0 ≡ get_or body q 0
get_or-resized_low body len q lt lt' = grind (arith, places)

get_or-resized_high : (body : List ℕ) (len q : ℕ) → q < len → length body ≤ q → get_or (resized body len) q 0 ≡ 0
get_or-resized_high body len q lt ge = grind (arith, places)

pub resized_item : (b mid c : List ℕ) (n i from to len : ℕ) → CanSplice (resizing i from to len) b → n ≡ count_of b → i < n → from < to → from ≡ offset_at b i → to ≡ edge_at n b (i + 1) → IsSpliced (resizing i from to len) b mid → Grown b mid c i from to len
    → Edited (resizing i from to len) b c n (n + 1 - 1) → item_at (n + 1 - 1) c i ≡ record { key = key_at b i; plugin = plugin_at b i; body = resized (slice_range b (offset_at b i) (edge_at n b (i + 1))) len }
unfolding item_at
resized_item b mid c n i from to len can is lt order here there sp g e =
    let h = resized_header b mid c i from to len sp g in
    let begins = h.offset in
    let fits = g.fits in
    let st = started (resizing i from to len) b can in
    let inside = st.inside in
    let sum = st.sum in
    let ends = edge_high (resizing i from to len) b c n (n + 1 - 1) i e (omega arith) (omega arith) in
    let end : edge_at (n + 1 - 1) c (i + 1) ≡ from + len = omega arith in
    let old = slice_range b (offset_at b i) (edge_at n b (i + 1)) in
    let old_long : length old ≡ edge_at n b (i + 1) - offset_at b i = length-slice_range b (offset_at b i) (edge_at n b (i + 1)) (omega arith) (omega (arith, can.laid.whole)) in
    let long : length (slice_range c (offset_at c i) (edge_at (n + 1 - 1) c (i + 1))) ≡ edge_at (n + 1 - 1) c (i + 1) - offset_at c i = length-slice_range c (offset_at c i) (edge_at (n + 1 - 1) c (i + 1)) (omega arith) (omega (arith, g.whole)) in
    let new_long = length-resized old len in
    let body : slice_range c (offset_at c i) (edge_at (n + 1 - 1) c (i + 1)) ≡ resized old len = ext_get_or 0 (slice_range c (offset_at c i) (edge_at (n + 1 - 1) c (i + 1))) (resized old len) (omega arith) (λ q small.
    get_or-slice_range c (offset_at c i) (edge_at (n + 1 - 1) c (i + 1)) q (omega arith) ∙ elim (cases_lt q (length old)) [
      | inl below ↦
          let at : offset_at c i + q ≡ offset_at b i + q = omega arith in
          g.kept (offset_at c i + q) (omega arith) (omega arith) (omega arith) ∙ ap (λ (p : ℕ). get_or b p 0) at ∙ sym (get_or-slice_range b (offset_at b i) (edge_at n b (i + 1)) q (omega arith)) ∙ sym (get_or-resized_low old len q (omega arith) below)
      | inr above ↦ g.zeros (offset_at c i + q) (omega arith) (omega arith) ∙ sym (get_or-resized_high old len q (omega arith) above)
    ]) in
    rw (h.key, h.plugin, body) refl

-- and all flags are those that were there
pub resized_flags : (b mid c : List ℕ) (n i from to len : ℕ) → n ≡ count_of b → IsSpliced (resizing i from to len) b mid → Grown b mid c i from to len → Edited (resizing i from to len) b c n (n + 1 - 1)
    → (k : ℕ) → k < count_of b → item_flags_at c k ≡ item_flags_at b k
resized_flags b mid c n i from to len is sp g e k lt = elim (cases_eq k i) [
  | inl here ↦ rw here (resized_header b mid c i from to len sp g).flags
  | inr other ↦
      elim (cases_lt k i) [
        | inl below ↦ (e.before k below).flags
        | inr above ↦
            let j : ℕ = k - 1 in
            let back : j + 1 ≡ k = omega arith in
            ap (item_flags_at c) (sym back) ∙ (e.after j (omega arith) (omega arith)).flags ∙ ap (item_flags_at b) back
      ]
]
