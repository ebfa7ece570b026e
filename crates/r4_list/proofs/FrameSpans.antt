-- The way from a key to the next leaf: over extents, in which no entries stand.
use Rattle.std.proofs.Common.{◌≡◌, ◌≢◌, inl, inr, ℕ, zero, suc, ◌+◌, ◌*◌, ◌^◌, ◌<◌, ◌≤◌, Bool, true, false, List, [], ◌∷◌, length, refl, sym, ap, subst, ◌∙◌, arith}
use Rattle.std.specs.Prelude.{Some, Contains, slice_get, slice_index, if◌then◌else◌}
use Rattle.std.proofs.Math.Decide.{dec_le}
use Rattle.std.proofs.Math.Nat.{lt_of_not-le}
use Rattle.std.proofs.lemmas.List.Elements.{Contains-append_cases}
use Rattle.std.proofs.lemmas.Option.{same_Some}
use Rattle.r4_base.specs.Cell.{cell_of, is_extent, next_key, spans_in}
use Rattle.r4_base.specs.Image.{Image}
use Rattle.r4_base.specs.Key.{IsKey, rank, least}
use Rattle.r4_base.specs.Name.{is_long_name, key_of_name, packed}
use Rattle.r4_base.specs.Node.{Item, items_of}
use Rattle.r4_base.specs.Tree.{Span, InSpan}
use Rattle.r4_base.specs.Value.{Content, Entry}
use Rattle.r4_base.specs.Volume.{HasContent}
use Rattle.r4_base.specs.declared.key.Key.{Key}
use Rattle.r4_base.proofs.FreshTree.{only}
use Rattle.r4_base.proofs.Choices.{nothing_in}
use Rattle.r4_cell.specs.Seen.{CellSeen, node_of}
use Rattle.r4_search.specs.Path.{EndsAt}
use Rattle.r4_search.proofs.Places.{item_in}
use Rattle.r4_units.specs.Leaf.{AreUpTo}
use Rattle.r4_list.specs.Frame.{NoEntries, dir_number}
use Rattle.r4_list.proofs.FrameLeaves.{first_high, first_low, other_above}
use Rattle.r4_list.proofs.OverAnswers.{none_at, none_outside}
use Rattle.r4_list.proofs.OverPaths.{IsStored}

-- ---- the extents of a node

-- An extent's range begins with an item's key, and ends where the next item begins, or with the node.
pub record SpanAt (hi : ℕ) (items : List Item) (s : Span) : Type 0 where
  pub i : ℕ
  pub item : Item
  pub is : slice_get items i ≡ Some item
  pub lo : s.lo ≡ rank item.key
  pub next : (y : Item) → slice_get items (i + 1) ≡ Some y → s.hi ≡ rank y.key
  pub end : length items ≤ i + 1 → s.hi ≡ hi

abbrev pub extent_of : (hi : ℕ) → (b : Bool) → Item → List Item → List Span
extent_of hi b x items = if b then record { lo = rank x.key; hi = next_key hi items } ∷ [] else []

first_span : (hi : ℕ) (b : Bool) (x : Item) (items : List Item) (s : Span) → Contains (extent_of hi b x items) s → SpanAt hi (x ∷ items) s
first_span hi false x items s h = absurd (nothing_in s h)
first_span hi true x [] s h =
    let is = only (record { lo = rank x.key; hi = hi }) s h in
    record { i = 0; item = x; is = refl; lo = ap (λ (t : Span). t.lo) is; next = λ y e. absurd cc; end = λ le. ap (λ (t : Span). t.hi) is }
first_span hi true x (z ∷ items) s h =
    let is = only (record { lo = rank x.key; hi = rank z.key }) s h in
    record {
      i = 0;
      item = x;
      is = refl;
      lo = ap (λ (t : Span). t.lo) is;
      next = λ y e. ap (λ (t : Span). t.hi) is ∙ ap (λ (w : Item). rank w.key) (same_Some z y e);
      end = λ le. absurd (short (length items) le);
    }
  where
    short : (n : ℕ) → suc (suc n) ≤ 0 + 1 → ⊥
    short n le = omega (arith, le)

pub span_at : (hi : ℕ) (items : List Item) (s : Span) → Contains (spans_in hi items) s → SpanAt hi items s
unfolding spans_in
span_at hi [] s h = absurd (nothing_in s h)
span_at hi (x ∷ items) s h = elim (Contains-append_cases (extent_of hi (is_extent x) x items) (spans_in hi items) s h) [
  | inl here ↦ first_span hi (is_extent x) x items s here
  | inr later ↦
      let a = span_at hi items s later in
      let e : suc a.i + 1 ≡ suc (a.i + 1) = omega arith in
      record {
        i = suc a.i;
        item = a.item;
        is = a.is;
        lo = a.lo;
        next = λ y at. a.next y (subst (λ (n : ℕ). slice_get (x ∷ items) n ≡ Some y) e at);
        end = λ le. a.end (omega (arith, le));
      }
]

node_spans : (level lo hi : ℕ) (b : List ℕ) → 1 ≤ level → (cell_of level lo hi b).spans ≡ spans_in hi (items_of b)
unfolding cell_of
node_spans zero lo hi b some = absurd (omega (arith, some))
node_spans (suc l) lo hi b some = refl

module _ (hi key n : ℕ) (items : List Item) (up : AreUpTo items key n) (s : Span) (a : SpanAt hi items s) (at : InSpan s key) where
  before : a.i < n
  before = elim (dec_le n a.i) [
    | yes le ↦ let high = up.high a.i a.item a.is le in let lo = a.lo in let from = at.0 in absurd (omega (arith, high, lo, from))
    | no gt ↦ lt_of_not-le gt
  ]

  not_next : a.i + 1 < n → ⊥
  not_next lt =
      let within = up.within in
      let (y, e) = item_in items (a.i + 1) (omega (arith, lt, within)) in
      let low = up.low (a.i + 1) y e lt in
      let h = a.next y e in
      let to = at.1 in
      omega (arith, low, h, to)

  last_place : a.i + 1 ≡ n
  last_place = elim (dec_le n (a.i + 1)) [
    | yes le ↦ let lt = before in omega (arith, le, lt)
    | no gt ↦ absurd (not_next (lt_of_not-le gt))
  ]

  -- the next item begins where the extent ends, and behind the last item the node
  pub next_ends : (y : Item) → slice_get items n ≡ Some y → rank y.key ≤ s.hi
  next_ends y e = let h = a.next y (subst (λ (i : ℕ). slice_get items i ≡ Some y) (sym last_place) e) in omega (arith, h)

  pub node_ends : length items ≤ n → hi ≤ s.hi
  node_ends le = let last = last_place in let h = a.end (omega (arith, le, last)) in omega (arith, h)

pub span_of : (x : CellSeen) (some : 1 ≤ x.level) (s : Span) → Contains (node_of x).spans s → SpanAt (rank x.hi) (items_of x.block) s
span_of x some s h = span_at (rank x.hi) (items_of x.block) s (subst (λ (ss : List Span). Contains ss s) (node_spans x.level (rank x.lo) (rank x.hi) x.block some) h)

-- ---- no entries

pub none_yet : (m : Content) (from : ℕ) → NoEntries m from from
none_yet m from k name o e low high = omega (arith, low, high)

pub none_both : (m : Content) (from mid to : ℕ) → NoEntries m from mid → NoEntries m mid to → NoEntries m from to
none_both m from mid to a b k name o e low high = elim (dec_le mid k) [
  | yes le ↦ b k name o e le high
  | no gt ↦ a k name o e low (lt_of_not-le gt)
]

pub none_less : (m : Content) (from to less : ℕ) → less ≤ to → NoEntries m from to → NoEntries m from less
none_less m from to less le a k name o e low high = a k name o e low (omega (arith, le, high))

least_is : least ≡ 657 * 2 ^ 192 + 42 * 2 ^ 64
unfolding least
least_is = refl

module _ {n : ℕ} {image : Image} {m : Content} (c : HasContent n image m) where
  -- a key that ends in an extent, and those up to where that ends
  pub none_behind : (x : CellSeen) (key to : ℕ) → IsStored c.store x → x.level ≢ 1 → EndsAt x key → ((s : Span) → Contains (node_of x).spans s → InSpan s key → to ≤ s.hi) → NoEntries m key to
  none_behind x key to is other (inl one) within k name o e low high = other one
  none_behind x key to is other (inr (s, xs, at)) within k name o e low high =
      let ends = within s xs at in
      let from = at.0 in
      none_at c x is k (Entry name o) tt (inr (s, xs, (omega (arith, low, from), omega (arith, high, ends)))) other e

  -- the keys of the directory are passed
  pub none_passed : (dir : ℕ) (key at : Key) → IsKey at → slice_index key.el 0 ≡ dir_number dir → rank key ≤ rank at → slice_index at.el 0 ≢ slice_index key.el 0 → NoEntries m (rank key) (rank at) → NoEntries m (rank key) ((dir_number dir + 1) * 2 ^ 192)
  none_passed dir key at is first le other none =
      let low = first_low key in
      let low_at : dir_number dir * 2 ^ 192 ≤ rank at = subst (λ (a : ℕ). a * 2 ^ 192 ≤ rank at) first (omega (arith, low, le)) in
      none_less m (rank key) (rank at) ((dir_number dir + 1) * 2 ^ 192) (other_above (slice_index at.el 0) (dir_number dir) (rank at) (λ h. other (h ∙ sym first)) low_at (first_low at) (first_high at is)) none

  -- or they are all below the least key
  pub none_least : (dir : ℕ) (key at : Key) → slice_index key.el 0 ≡ dir_number dir → slice_index at.el 0 ≡ slice_index key.el 0 → rank at < least → NoEntries m (rank key) ((dir_number dir + 1) * 2 ^ 192)
  none_least dir key at first same lt k name o e low high =
      let from = none_outside c k (Entry name o) e in
      let low_at = first_low at in
      let number = same ∙ first in
      below dir k (rank at) least_is (subst (λ (a : ℕ). a * 2 ^ 192 ≤ rank at) number low_at) lt from high
    where
      below : (dir k at : ℕ) → least ≡ 657 * 2 ^ 192 + 42 * 2 ^ 64 → dir * 16 * 2 ^ 192 ≤ at → at < least → least ≤ k → k < (dir * 16 + 1) * 2 ^ 192 → ⊥
      below dir k at is low lt from high = omega (arith, is, low, lt, from, high)

-- ---- the key of an entry is above the first number alone

packed_some : (x : ℕ) (s : List ℕ) → x ≢ 0 → 1 ≤ packed 7 (x ∷ s)
unfolding packed
packed_some x s some = from x (packed 6 s) some
  where
    from : (x rest : ℕ) → x ≢ 0 → 1 ≤ x * 256 ^ 6 + rest
    from x rest some = omega (arith, some)

second_some : (b : Bool) (p : ℕ) → 1 ≤ p → 1 ≤ (if b then 2 ^ 56 + p else p)
second_some true p h = omega (arith, h)
second_some false p h = h

above_first : (a b c d : ℕ) → 1 ≤ b → a * 2 ^ 192 < a * 2 ^ 192 + (b * 2 ^ 128 + (c * 2 ^ 64 + d))
above_first a b c d some = omega (arith, some)

pub name_above : (dir x : ℕ) (s : List ℕ) → x ≢ 0 → dir_number dir * 2 ^ 192 < rank (key_of_name dir (x ∷ s))
unfolding rank key_of_name
name_above dir x s some =
    above_first (dir * 16) (if is_long_name (x ∷ s) then 2 ^ 56 + packed 7 (x ∷ s) else packed 7 (x ∷ s)) _ _ (second_some (is_long_name (x ∷ s)) (packed 7 (x ∷ s)) (packed_some x s some))
