-- A write through the lent bodies of the items from i to j.
use Rattle.std.proofs.Common.{◌≡◌, ℕ, ◌+◌, ◌-◌, ◌*◌, ◌<◌, ◌≤◌, List, length, get_or, set, Some, refl, sym, ap, ◌∙◌, arith, inl, inr}
use Rattle.std.specs.Prelude.{slice_range}
use Rattle.std.proofs.lemmas.Bool.{cases_eq, cases_lt}
use Rattle.std.proofs.lemmas.List.{take_all, same_lists, length-set, get_or-set_same, get_or-set_other}
use Rattle.r4_base.specs.Bytes.{overwrite}
use Rattle.r4_base.specs.Lending.{written}
use Rattle.r4_base.proofs.Lent.{written_is}
use Rattle.r4_base.proofs.Numbers.{length-overwrite, length-slice_range, get_or-overwrite_below, get_or-overwrite_inside, get_or-overwrite_above, number_at-overwrite_after, slice_range-same}
use Rattle.r4_base.specs.Node.{Item, count_of, start_of, free_of, key_at, plugin_at, offset_at, edge_at, item_at, items_of}
use Rattle.r4_node40.specs.Laid.{IsLaid, SameHeader, SameHead, WritesBody, WritesSpan, span_at}
use Rattle.r4_node40.proofs.Laid.{edge_next, edge_last, edge_first, edge_step, edges_apart, edge_stands, laid_by_edges, length-items_of, get-items_of, get_or-items_of}
use Rattle.r4_node40.proofs.Headers.{same_header, same_head, room_same}

-- the block with other bytes from an edge on
abbrev pub with_span : List ℕ → ℕ → ℕ → List ℕ → List ℕ
with_span b n i ws = overwrite (edge_at n b i) ws b

-- the bytes stand in the bodies of items from i up to j and with it
pub record Fills (b ws : List ℕ) (n i j : ℕ) : Type 0 where
  pub laid : IsLaid b
  pub counted : n ≡ count_of b
  pub order : i ≤ j
  pub within : j < n
  pub long : edge_at n b i + length ws ≡ edge_at n b (j + 1)

pub record Kept (b new ws : List ℕ) (n i j : ℕ) : Type 0 where
  pub whole : length new ≡ 4096
  pub count_is : count_of new ≡ count_of b
  pub free_is : free_of new ≡ free_of b
  pub start_is : start_of new ≡ start_of b
  pub headers : (k : ℕ) → k < n → SameHeader new b k k
  pub edges : (k : ℕ) → k ≤ n → edge_at n new k ≡ edge_at n b k
  pub head : SameHead b new
  pub below : (p : ℕ) → p < edge_at n b i → get_or new p 0 ≡ get_or b p 0
  pub inside : (p : ℕ) → edge_at n b i ≤ p → p < edge_at n b (j + 1) → get_or new p 0 ≡ get_or ws (p - edge_at n b i) 0
  pub above : (p : ℕ) → edge_at n b (j + 1) ≤ p → get_or new p 0 ≡ get_or b p 0

kept : (b ws : List ℕ) (n i j : ℕ) → Fills b ws n i j → Kept b (with_span b n i ws) ws n i j
kept b ws n i j f =
    let new = with_span b n i ws in
    let from = edge_at n b i in
    let s = edge_stands b n i f.laid f.counted (omega (arith, f.order, f.within)) in
    let e = edge_stands b n (j + 1) f.laid f.counted (omega (arith, f.within)) in
    let s_low : 28 ≤ from = s.low in
    let e_high = e.high in
    let e_start = e.start in
    let long = f.long in
    let fits : from + length ws ≤ length b = omega (arith, f.laid.whole) in
    let headers : (k : ℕ) → k < n → SameHeader new b k k = λ k below. same_header new b k k (λ r small. get_or-overwrite_above from ws b (4096 - 38 * (k + 1) + r) 0 fits (omega arith)) in
    let start_is : start_of new ≡ start_of b = number_at-overwrite_after 2 6 from ws b fits (omega arith) in
    record {
      whole = length-overwrite from ws b fits ∙ f.laid.whole;
      count_is = number_at-overwrite_after 2 2 from ws b fits (omega arith);
      free_is = number_at-overwrite_after 2 4 from ws b fits (omega arith);
      start_is = start_is;
      headers = headers;
      edges = λ k le. elim (cases_eq k n) [
        | inl last ↦ edge_last n k new last ∙ start_is ∙ sym (edge_last n k b last)
        | inr more ↦ let lt : k < n = omega arith in edge_next n k new lt ∙ (headers k lt).offset ∙ sym (edge_next n k b lt)
      ];
      head = same_head b new (λ p lt. get_or-overwrite_below from ws b p 0 fits (omega arith)) (λ p ge lt. get_or-overwrite_below from ws b p 0 fits (omega arith));
      below = λ p lt. get_or-overwrite_below from ws b p 0 fits lt;
      inside = λ p ge lt. get_or-overwrite_inside from ws b p 0 fits ge (omega arith);
      above = λ p ge. get_or-overwrite_above from ws b p 0 fits (omega arith);
    }

laid_again : (b ws : List ℕ) (n i j : ℕ) → Fills b ws n i j → IsLaid (with_span b n i ws)
laid_again b ws n i j f =
    let k' = kept b ws n i j f in
    let new = with_span b n i ws in
    let count_now = k'.count_is in
    let free_now = k'.free_is in
    let start_now = k'.start_is in
    let low = f.laid.low in
    let sum = f.laid.sum in
    let is = f.counted in
    laid_by_edges new n (omega arith) k'.whole (omega arith) (omega arith) (λ pos. k'.edges 0 (omega arith) ∙ edge_first b n f.laid is pos)
    (λ k lt. let here = k'.edges k (omega arith) in let next = k'.edges (k + 1) (omega arith) in let up = edge_step b n k f.laid is lt in omega arith)

-- where the body of item k stands, before and after
pub record Stands (b new : List ℕ) (n k : ℕ) : Type 0 where
  pub old : offset_at b k ≡ edge_at n b k
  pub same : offset_at new k ≡ edge_at n b k
  pub ends : edge_at n new (k + 1) ≡ edge_at n b (k + 1)
  pub order : edge_at n b k < edge_at n b (k + 1)
  pub inside : edge_at n b (k + 1) ≤ 4096

stands : (b ws : List ℕ) (n i j k : ℕ) → Fills b ws n i j → k < n → Stands b (with_span b n i ws) n k
stands b ws n i j k f lt =
    let k' = kept b ws n i j f in
    let e = edge_stands b n (k + 1) f.laid f.counted (omega arith) in
    let old = edge_next n k b lt in
    record { old = sym old; same = (k'.headers k lt).offset ∙ sym old; ends = k'.edges (k + 1) (omega arith); order = edge_step b n k f.laid f.counted lt; inside = omega (arith, e.high, e.start) }

other_item : (b ws : List ℕ) (n i j k : ℕ) → Fills b ws n i j → k < n → ((p : ℕ) → edge_at n b k ≤ p → p < edge_at n b (k + 1) → get_or (with_span b n i ws) p 0 ≡ get_or b p 0) → item_at n (with_span b n i ws) k ≡ item_at n b k
unfolding item_at
other_item b ws n i j k f lt bytes =
    let new = with_span b n i ws in
    let k' = kept b ws n i j f in
    let h = k'.headers k lt in
    let s = stands b ws n i j k f lt in
    let old = s.old in
    let same = s.same in
    let ends = s.ends in
    let order = s.order in
    let inside = s.inside in
    let body : slice_range new (offset_at new k) (edge_at n new (k + 1)) ≡ slice_range b (offset_at b k) (edge_at n b (k + 1)) =
    slice_range-same new b (offset_at new k) (edge_at n new (k + 1)) (offset_at b k) (edge_at n b (k + 1)) (omega arith) (omega (arith, k'.whole)) (omega arith) (omega (arith, f.laid.whole)) (omega arith)
    (λ q small.
    let at : offset_at new k + q ≡ offset_at b k + q = omega arith in
    ap (λ (p : ℕ). get_or new p 0) at ∙ bytes (offset_at b k + q) (omega arith) (omega arith)) in
    rw (h.key, h.plugin, body) refl

low_item : (b ws : List ℕ) (n i j k : ℕ) → Fills b ws n i j → k < i → item_at n (with_span b n i ws) k ≡ item_at n b k
low_item b ws n i j k f lt =
    let k' = kept b ws n i j f in
    let le : i ≤ n = omega (arith, f.order, f.within) in
    let apart = edges_apart b n (k + 1) i f.laid f.counted (omega arith) le in
    other_item b ws n i j k f (omega arith) (λ p ge small. k'.below p (omega arith))

high_item : (b ws : List ℕ) (n i j k : ℕ) → Fills b ws n i j → j < k → k < n → item_at n (with_span b n i ws) k ≡ item_at n b k
high_item b ws n i j k f above lt =
    let k' = kept b ws n i j f in
    let apart = edges_apart b n (j + 1) k f.laid f.counted (omega arith) (omega arith) in
    other_item b ws n i j k f lt (λ p ge small. k'.above p (omega arith))

-- the part of the bytes that is the body of item k
part : (b ws : List ℕ) (n i j k : ℕ) → Fills b ws n i j → i ≤ k → k ≤ j
    → item_at n (with_span b n i ws) k ≡ record { key = key_at b k; plugin = plugin_at b k; body = slice_range ws (edge_at n b k - edge_at n b i) (edge_at n b (k + 1) - edge_at n b i) }
unfolding item_at
part b ws n i j k f ge le =
    let new = with_span b n i ws in
    let k' = kept b ws n i j f in
    let lt : k < n = omega (arith, f.within) in
    let h = k'.headers k lt in
    let s = stands b ws n i j k f lt in
    let same = s.same in
    let ends = s.ends in
    let order = s.order in
    let inside = s.inside in
    let long = f.long in
    let low = edges_apart b n i k f.laid f.counted ge (omega arith) in
    let high = edges_apart b n (k + 1) (j + 1) f.laid f.counted (omega arith) (omega (arith, f.within)) in
    let body : slice_range new (offset_at new k) (edge_at n new (k + 1)) ≡ slice_range ws (edge_at n b k - edge_at n b i) (edge_at n b (k + 1) - edge_at n b i) =
    slice_range-same new ws (offset_at new k) (edge_at n new (k + 1)) (edge_at n b k - edge_at n b i) (edge_at n b (k + 1) - edge_at n b i) (omega arith) (omega (arith, k'.whole)) (omega arith) (omega arith) (omega arith)
    (λ q small.
    let at : offset_at new k + q ≡ edge_at n b k + q = omega arith in
    let back : edge_at n b k + q - edge_at n b i ≡ edge_at n b k - edge_at n b i + q = omega arith in
    ap (λ (p : ℕ). get_or new p 0) at ∙ k'.inside (edge_at n b k + q) (omega arith) (omega arith) ∙ ap (λ (p : ℕ). get_or ws p 0) back) in
    rw (h.key, h.plugin, body) refl

-- ---- what the laws say

pub span_written : (b ws : List ℕ) (n i j : ℕ) → Fills b ws n i j → WritesSpan b ws i j (with_span b n i ws)
span_written b ws n i j f =
    let new = with_span b n i ws in
    let k' = kept b ws n i j f in
    let le : i ≤ j = f.order in
    let within : j < n = f.within in
    let is = f.counted in
    let now : n ≡ count_of new = is ∙ sym k'.count_is in
    record {
      laid = laid_again b ws n i j f;
      count = k'.count_is;
      before = λ k lt. get-items_of new n k now (omega arith) ∙ ap (λ (x : Item). Some x) (low_item b ws n i j k f lt) ∙ sym (get-items_of b n k is (omega arith));
      inside = λ k ge lt.
          let here = edge_next n k b (omega arith) in
          let first = edge_next n i b (omega arith) in
          get-items_of new n k now (omega arith) ∙ ap (λ (x : Item). Some x) (part b ws n i j k f ge lt) ∙ rw (← is, here, first) refl;
      after = λ k gt lt. get-items_of new n k now (omega arith) ∙ ap (λ (x : Item). Some x) (high_item b ws n i j k f gt (omega arith)) ∙ sym (get-items_of b n k is (omega arith));
      head = k'.head;
      room = room_same b new k'.count_is k'.free_is;
      flags = λ k lt. (k'.headers k (omega arith)).flags;
      start = k'.start_is;
      free = λ p ge lt. k'.above p (omega (arith, (edge_stands b n (j + 1) f.laid f.counted (omega (arith, f.within))).high, k'.start_is));
    }

whole_range : (ws : List ℕ) (a e : ℕ) → a ≡ 0 → e ≡ length ws → slice_range ws a e ≡ ws
whole_range ws a e za le = rw (za, le) (take_all (length ws - 0) ws (omega arith))

pub body_written : (b ws : List ℕ) (n i : ℕ) → Fills b ws n i i → WritesBody b ws i (with_span b n i ws)
body_written b ws n i f =
    let new = with_span b n i ws in
    let k' = kept b ws n i i f in
    let lt : i < n = f.within in
    let is = f.counted in
    let now : n ≡ count_of new = is ∙ sym k'.count_is in
    let long = f.long in
    let item : Item = record { key = key_at b i; plugin = plugin_at b i; body = ws } in
    let this : item_at n new i ≡ item = part b ws n i i i f (omega arith) (omega arith) ∙ ap (λ (xs : List ℕ). record { key = key_at b i; plugin = plugin_at b i; body = xs }) (whole_range ws (edge_at n b i - edge_at n b i) (edge_at n b (i + 1) - edge_at n b i) (omega arith) (omega arith)) in
    let old_long = length-items_of b in
    let new_long = length-items_of new in
    let set_long = length-set (items_of b) i item in
    record {
      laid = laid_again b ws n i i f;
      count = k'.count_is;
      items = same_lists (items_of new) (set (items_of b) i item) (omega arith) (λ k d h.
          elim (cases_eq k i) [
            | inl at ↦ rw at (get_or-items_of new n i d (sym now) lt ∙ this ∙ sym (get_or-set_same (items_of b) i item d (omega arith)))
            | inr other ↦ get_or-items_of new n k d (sym now) (omega arith) ∙ elim (cases_lt k i) [
              | inl below ↦ low_item b ws n i i k f below
              | inr above ↦ high_item b ws n i i k f (omega arith) (omega arith)
            ] ∙ sym (get_or-items_of b n k d (sym is) (omega arith)) ∙ sym (get_or-set_other (items_of b) i k item d other)
          ]);
      head = k'.head;
      room = room_same b new k'.count_is k'.free_is;
      flags = λ k lt. (k'.headers k (omega arith)).flags;
      start = k'.start_is;
      free = λ p ge lt. k'.above p (omega (arith, (edge_stands b n (i + 1) f.laid f.counted (omega (arith, f.within))).high, k'.start_is));
    }

pub span_lent : (b ws : List ℕ) (i j : ℕ) → IsLaid b → i ≤ j → j < count_of b → length ws ≡ length (span_at b i j) → WritesSpan b ws i j (written b (offset_at b i) ws)
span_lent b ws i j laid le lt long =
    let n = count_of b in
    let here : edge_at n b i ≡ offset_at b i = edge_next n i b (omega arith) in
    let e = edge_stands b n (j + 1) laid refl (omega arith) in
    let up = edges_apart b n i (j + 1) laid refl (omega arith) (omega arith) in
    let all = length-slice_range b (offset_at b i) (edge_at n b (j + 1)) (omega arith) (omega (arith, e.high, e.start, laid.whole)) in
    let same : written b (offset_at b i) ws ≡ with_span b n i ws = written_is b ws (offset_at b i) (omega (arith, e.high, e.start, laid.whole)) ∙ ap (λ (at : ℕ). overwrite at ws b) (sym here) in
    rw same (span_written b ws n i j (record { laid = laid; counted = refl; order = le; within = lt; long = omega arith }))

pub body_lent : (b ws : List ℕ) (i : ℕ) → IsLaid b → i < count_of b → length ws ≡ length (span_at b i i) → WritesBody b ws i (written b (offset_at b i) ws)
body_lent b ws i laid lt long =
    let n = count_of b in
    let here : edge_at n b i ≡ offset_at b i = edge_next n i b (omega arith) in
    let e = edge_stands b n (i + 1) laid refl (omega arith) in
    let up = edges_apart b n i (i + 1) laid refl (omega arith) (omega arith) in
    let all = length-slice_range b (offset_at b i) (edge_at n b (i + 1)) (omega arith) (omega (arith, e.high, e.start, laid.whole)) in
    let same : written b (offset_at b i) ws ≡ with_span b n i ws = written_is b ws (offset_at b i) (omega (arith, e.high, e.start, laid.whole)) ∙ ap (λ (at : ℕ). overwrite at ws b) (sym here) in
    rw same (body_written b ws n i (record { laid = laid; counted = refl; order = omega arith; within = lt; long = omega arith }))
