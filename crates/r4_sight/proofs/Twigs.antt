-- What the item of a twig whose range has a key has of the twig: its units, its blocks and its extent.
use Rattle.std.proofs.Common.{◌≡◌, ◌⊎◌, inl, inr, ℕ, zero, suc, ◌+◌, ◌-◌, ◌*◌, ◌^◌, ◌<◌, ◌≤◌, Bool, true, false, List, [], ◌∷◌, ◌++◌, drop, refl, ap, subst, ◌∙◌, arith, append-nil}
use Rattle.std.specs.Prelude.{Option, Some, None, Contains, ◌==◌, slice_get, if◌then◌else◌}
use Rattle.std.proofs.lemmas.Bool.{eqb-true}
use Rattle.std.proofs.lemmas.Bool.Decides.{nat_tests}
use Rattle.std.proofs.lemmas.List.Elements.{Contains-append_cases}
use Rattle.r4_base.specs.Cell.{block_names, hole_bytes, item_end, item_names, item_units, items_in_fault, names_in, next_key, spans_in, units_in}
use Rattle.r4_base.specs.Extents.{blocks_in, pointer_of, units_of}
use Rattle.r4_base.specs.Key.{rank}
use Rattle.r4_base.specs.Node.{Item, PluginsFit, fits_level}
use Rattle.r4_base.specs.Tree.{InName, InSpan, IsData, Name, Span}
use Rattle.r4_base.specs.Value.{Value}
use Rattle.r4_base.proofs.Choices.{nothing_in}
use Rattle.r4_base.proofs.FreshTree.{only}
use Rattle.r4_units.proofs.r4_cell.ItemRows.{extent_row}
use Rattle.r4_units.proofs.r4_cell.Items.{IsGoodItem, good_item, items_part}
use Rattle.r4_units.proofs.r4_cell.Parts.{IsPart}
use Rattle.r4_content.specs.Edited.{Pairs}
use Rattle.r4_content.specs.Seen.{pairs_in}
use Rattle.r4_units.proofs.r4_search.Places.{extent_span}
use Rattle.r4_sight.proofs.Between.{both_in, pairs_high, pairs_low}

-- ---- one item

plugin_of : (level plugin : ℕ) → 2 ≤ level → fits_level level plugin ≡ true → (plugin ≡ 3) ⊎ (plugin ≡ 5)
plugin_of level plugin two fits = grind (arith, nat_tests)

-- What an item has ends where the next one begins.
record EndsAt (level next : ℕ) (x : Item) : Type 0 where
  order : rank x.key ≤ next
  units : (k : ℕ) (v : Value) → Contains (item_units x) (k, v) → k < next
  names : (n : Name) → Contains (item_names level next x) n → IsData n → n.hi ≤ next
  spans : (s : Span) → Contains (extent_span next x) s → s.hi ≤ next

pointer_ends : (level next : ℕ) (x : Item) → 2 ≤ level → x.plugin ≡ 3 → item_end x ≤ next → EndsAt level next x
unfolding item_units item_names item_end
pointer_ends level next x two is le =
    let a : (x.plugin == 0) ≡ false = ap (λ (p : ℕ). p == 0) is in
    let b : (x.plugin == 2) ≡ false = ap (λ (p : ℕ). p == 2) is in
    let t : (x.plugin == 3) ≡ true = ap (λ (p : ℕ). p == 3) is in
    let d : (x.plugin == 5) ≡ false = ap (λ (p : ℕ). p == 5) is in
    let end : item_end x ≡ rank x.key + 1 = rw (a, t) refl in
    let none : item_units x ≡ [] = rw (a, b, t) refl in
    let no_span : extent_span next x ≡ [] = rw d refl in
    record {
      order = omega (arith, end, le);
      units = λ k v h. absurd (nothing_in (k, v) (subst (λ (us : Pairs). Contains us (k, v)) none h));
      names = λ n h is_data. absurd (not_data (pointer_of x.body) n (subst (λ (ns : List Name). Contains ns n) (names_are t) h) is_data);
      spans = λ s h. absurd (nothing_in s (subst (λ (ss : List Span). Contains ss s) no_span h));
    }
  where
    pointed : Option ℕ → List Name
    pointed None = []
    pointed (Some to) = record { id = to; level = level - 1; lo = rank x.key; hi = next } ∷ []

    names_are : (x.plugin == 3) ≡ true → item_names level next x ≡ pointed (pointer_of x.body)
    names_are t = by (pointer_of x.body) t refl
      where
        by : (o : Option ℕ) → (x.plugin == 3) ≡ true → pointer_of x.body ≡ o → item_names level next x ≡ pointed o
        by None t e = rw (t, e) refl
        by (Some to) t e = rw (t, e) refl

    not_data : (o : Option ℕ) (n : Name) → Contains (pointed o) n → IsData n → ⊥
    not_data None n h is_data = nothing_in n h
    not_data (Some to) n h is_data =
        let is = ap (λ (m : Name). m.level) (only (record { id = to; level = level - 1; lo = rank x.key; hi = next }) n h) in
        omega (arith, is, is_data, two)

pub extent_end : (x : Item) → x.plugin ≡ 5 → item_end x ≡ rank x.key + 4096 * blocks_in (units_of x.body)
unfolding item_end
extent_end x is =
    let a : (x.plugin == 0) ≡ false = ap (λ (p : ℕ). p == 0) is in
    let b : (x.plugin == 2) ≡ false = ap (λ (p : ℕ). p == 2) is in
    let t : (x.plugin == 3) ≡ false = ap (λ (p : ℕ). p == 3) is in
    let d : (x.plugin == 5) ≡ true = ap (λ (p : ℕ). p == 5) is in
    rw (a, t, b, d) refl

pub extent_units : (x : Item) → x.plugin ≡ 5 → item_units x ≡ hole_bytes (rank x.key) (units_of x.body)
unfolding item_units
extent_units x is =
    let a : (x.plugin == 0) ≡ false = ap (λ (p : ℕ). p == 0) is in
    let b : (x.plugin == 2) ≡ false = ap (λ (p : ℕ). p == 2) is in
    let t : (x.plugin == 3) ≡ false = ap (λ (p : ℕ). p == 3) is in
    let d : (x.plugin == 5) ≡ true = ap (λ (p : ℕ). p == 5) is in
    rw (a, b, t, d) refl

pub extent_names : (level next : ℕ) (x : Item) → x.plugin ≡ 5 → item_names level next x ≡ block_names (rank x.key) (units_of x.body)
unfolding item_names
extent_names level next x is =
    let t : (x.plugin == 3) ≡ false = ap (λ (p : ℕ). p == 3) is in
    let d : (x.plugin == 5) ≡ true = ap (λ (p : ℕ). p == 5) is in
    rw (t, d) refl

extent_ends : (level next : ℕ) (x : Item) → x.plugin ≡ 5 → item_end x ≤ next → EndsAt level next x
extent_ends level next x is le =
    let end = extent_end x is in
    let row = extent_row (rank x.key) (units_of x.body) in
    let d : (x.plugin == 5) ≡ true = ap (λ (p : ℕ). p == 5) is in
    let span : Span = record { lo = rank x.key; hi = next } in
    let spanned : extent_span next x ≡ span ∷ [] = rw d refl in
    record {
      order = omega (arith, end, le);
      units = λ k v h. let below = (row.unit_in k v (subst (λ (us : Pairs). Contains us (k, v)) (extent_units x is) h)).1 in omega (arith, below, end, le);
      names = λ n h is_data. let below = row.to n (subst (λ (ns : List Name). Contains ns n) (extent_names level next x is) h) in omega (arith, below, end, le);
      spans = λ s h. let hi = ap (λ (r : Span). r.hi) (only span s (subst (λ (ss : List Span). Contains ss s) spanned h)) in omega (arith, hi);
    }

item_ends : (level next : ℕ) (x : Item) → 2 ≤ level → fits_level level x.plugin ≡ true → item_end x ≤ next → EndsAt level next x
item_ends level next x two fits le = elim (plugin_of level x.plugin two fits) [
  | inl is ↦ pointer_ends level next x two is le
  | inr is ↦ extent_ends level next x is le
]

-- ---- where the items stand

next_low : (level lo hi from : ℕ) (items : List Item) (i : ℕ) (it : Item) → 2 ≤ level → PluginsFit level items → items_in_fault true (2 ^ 64) level lo hi from items ≡ None → slice_get items i ≡ Some it → next_key hi items ≤ rank it.key
next_low level lo hi from [] i it two fits h is = absurd cc
next_low level lo hi from (x ∷ items) zero it two fits h is =
    let e : x ≡ it = cc in
    subst (λ (y : Item). rank x.key ≤ rank y.key) e (omega arith)
next_low level lo hi from (x ∷ items) (suc i) it two fits h is =
    let g = good_item true (2 ^ 64) level lo hi from x items h in
    let up = (item_ends level (next_key hi items) x two (fits 0 x refl) g.range.end).order in
    let on = next_low level lo hi (from + 1) items i it two (λ k. fits (suc k)) g.rest is in
    omega (arith, up, on)

-- ---- what is the item's own, at the keys from its own up to the next item's

pub record IsOwn (level hi next : ℕ) (items : List Item) (it : Item) : Type 0 where
  pub units : (a b : ℕ) → rank it.key ≤ a → b ≤ next → pairs_in (units_in items) a b ≡ pairs_in (item_units it) a b
  pub names : (n : Name) (k : ℕ) → rank it.key ≤ k → k < next → Contains (names_in level hi items) n → IsData n → InName n k → Contains (item_names level next it) n
  pub spans : (s : Span) (k : ℕ) → rank it.key ≤ k → k < next → Contains (spans_in hi items) s → InSpan s k → Contains (extent_span next it) s

module _ (level lo hi from : ℕ) (x : Item) (items : List Item) (two : 2 ≤ level) (fits : PluginsFit level (x ∷ items)) (h : items_in_fault true (2 ^ 64) level lo hi from (x ∷ items) ≡ None) where
  abbrev next : ℕ
  next = next_key hi items

  good_is : IsGoodItem true (2 ^ 64) level lo hi from x items
  good_is = good_item true (2 ^ 64) level lo hi from x items h

  rest : IsPart level next hi (names_in level hi items) (spans_in hi items) (units_in items)
  rest = items_part true (2 ^ 64) level lo hi (from + 1) items (omega (arith, two)) (λ k. fits (suc k)) good_is.rest

  x_ends : EndsAt level next x
  x_ends = item_ends level next x two (fits 0 x refl) good_is.range.end

  first_own : IsOwn level hi next (x ∷ items) x
  unfolding units_in names_in spans_in
  first_own = record {
    units = λ a b le up. both_in a b (item_units x) (units_in items)
        ∙ (ap (λ (es : Pairs). pairs_in (item_units x) a b ++ es) (pairs_high a b (units_in items) (λ k v at. let low = (rest.row.unit_in k v at).0 in omega (arith, low, up)))
        ∙ append-nil (pairs_in (item_units x) a b));
    names = λ n k le lt at is_data in_name. elim (Contains-append_cases (item_names level next x) (names_in level hi items) n at) [
      | inl mine ↦ mine
      | inr other ↦ let low = rest.row.from n other in let begins = in_name.0 in absurd (omega (arith, low, lt, begins))
    ];
    spans = λ s k le lt at in_span. elim (Contains-append_cases (extent_span next x) (spans_in hi items) s at) [
      | inl mine ↦ mine
      | inr other ↦ let low = rest.span_from s other in let begins = in_span.0 in absurd (omega (arith, low, lt, begins))
    ];
  }

  later_own : (to : ℕ) (it : Item) → next ≤ rank it.key → IsOwn level hi to items it → IsOwn level hi to (x ∷ items) it
  unfolding units_in names_in spans_in
  later_own to it behind own = record {
    units = λ a b le up. both_in a b (item_units x) (units_in items)
        ∙ (ap (λ (es : Pairs). es ++ pairs_in (units_in items) a b) (pairs_low a b (item_units x) (λ k v at. let high = x_ends.units k v at in omega (arith, high, behind, le)))
        ∙ own.units a b le up);
    names = λ n k le lt at is_data in_name. elim (Contains-append_cases (item_names level next x) (names_in level hi items) n at) [
      | inl mine ↦ let high = x_ends.names n mine is_data in let stops = in_name.1 in absurd (omega (arith, high, behind, le, stops))
      | inr other ↦ own.names n k le lt other is_data in_name
    ];
    spans = λ s k le lt at in_span. elim (Contains-append_cases (extent_span next x) (spans_in hi items) s at) [
      | inl mine ↦ let high = x_ends.spans s mine in let stops = in_span.1 in absurd (omega (arith, high, behind, le, stops))
      | inr other ↦ own.spans s k le lt other in_span
    ];
  }

own : (level lo hi from : ℕ) (items : List Item) (i : ℕ) (it : Item) → 2 ≤ level → PluginsFit level items → items_in_fault true (2 ^ 64) level lo hi from items ≡ None → slice_get items i ≡ Some it
    → IsOwn level hi (next_key hi (drop (suc i) items)) items it
own level lo hi from [] i it two fits h is = absurd cc
own level lo hi from (x ∷ items) zero it two fits h is =
    let e : x ≡ it = cc in
    subst (λ (y : Item). IsOwn level hi (next_key hi items) (x ∷ items) y) e (first_own level lo hi from x items two fits h)
own level lo hi from (x ∷ items) (suc i) it two fits h is =
    let g = good_item true (2 ^ 64) level lo hi from x items h in
    later_own level lo hi from x items two fits h (next_key hi (drop (suc i) items)) it
    (next_low level lo hi (from + 1) items i it two (λ k. fits (suc k)) g.rest is)
    (own level lo hi (from + 1) items i it two (λ k. fits (suc k)) g.rest is)

pub own_item : (level lo hi : ℕ) (items : List Item) (i : ℕ) (it : Item) → 2 ≤ level → PluginsFit level items → items_in_fault true (2 ^ 64) level lo hi 0 items ≡ None → slice_get items i ≡ Some it
    → IsOwn level hi (next_key hi (drop (i + 1) items)) items it
own_item level lo hi items i it two fits h is =
    let e : suc i ≡ i + 1 = omega arith in
    subst (λ (n : ℕ). IsOwn level hi (next_key hi (drop n items)) items it) e (own level lo hi 0 items i it two fits h is)

-- ---- its extent

pub span_extent : (next : ℕ) (it : Item) (s : Span) → Contains (extent_span next it) s → it.plugin ≡ 5
span_extent next it s at = by (it.plugin == 5) refl at
  where
    by : (t : Bool) → (it.plugin == 5) ≡ t → Contains (if t then record { lo = rank it.key; hi = next } ∷ [] else []) s → it.plugin ≡ 5
    by true e h = eqb-true it.plugin 5 e
    by false e h = absurd (nothing_in s h)
