-- What stands from a key on in the cell at which the way ends.
use Rattle.std.proofs.Common.{◌≡◌, ◌≢◌, ◌⊎◌, inl, inr, ℕ, zero, suc, ◌+◌, ◌*◌, ◌^◌, ◌<◌, ◌≤◌, true, false, not, ◌||◌, List, [], ◌∷◌, length, drop, refl, sym, ap, subst, ◌∙◌, arith}
use Rattle.std.specs.Prelude.{Some, None, Contains, replicate, ◌==◌, nat_le, slice_get, if◌then◌else◌}
use Rattle.std.proofs.lemmas.Bool.{and_parts, leb-true}
use Rattle.std.proofs.lemmas.List.Elements.{All-nil, Contains-append_right}
use Rattle.r4_base.specs.Cell.{block_names, bytes_from, cell_of, hole_bytes, item_body_fault, item_end, items_in_fault, next_key, offsets_fit, range_is_good, spans_in}
use Rattle.r4_base.specs.Extents.{block_of, blocks_in, units_of}
use Rattle.r4_base.specs.Key.{offset_of, rank}
use Rattle.r4_base.specs.Node.{Item, items_of}
use Rattle.r4_base.specs.Tree.{Holds, InName, Name, Span}
use Rattle.r4_base.specs.declared.key.Key.{Key}
use Rattle.r4_base.specs.declared.items.CellFault.TheVariants.{Range}
use Rattle.r4_base.proofs.Choices.{chosen, or_none}
use Rattle.r4_units.specs.r4_cell.Seen.{CellSeen, node_of}
use Rattle.r4_units.proofs.r4_cell.ItemRows.{extent_row}
use Rattle.r4_units.proofs.r4_cell.Items.{good_item, items_part}
use Rattle.r4_content.specs.Edited.{Pairs}
use Rattle.r4_content.specs.Held.{part_pairs}
use Rattle.r4_content.specs.Seen.{Rises, pairs_in}
use Rattle.r4_content.specs.declared.seen.SeenPart.{SeenPart}
use Rattle.r4_node40.proofs.Following.{item_first}
use Rattle.r4_units.specs.r4_search.Path.{EndsAt}
use Rattle.r4_units.specs.r4_search.Place.{IsPlace}
use Rattle.r4_units.specs.r4_search.Pool.{StandsInMemory}
use Rattle.r4_units.proofs.r4_search.Places.{IsBranch, branch, extent_span, place_key, spans_at}
use Rattle.r4_sight.specs.Parts.{AreFull, all_pairs}
use Rattle.r4_sight.specs.Stretches.{IsBorder, IsStretchOf}
use Rattle.r4_sight.specs.declared.stretch.Stretch.{Stretch}
use Rattle.r4_sight.proofs.Between.{bytes_rise_in}
use Rattle.r4_sight.proofs.Holes.{hole_in, hole_nameless, units_low}
use Rattle.r4_sight.proofs.Twigs.{IsOwn, extent_end, extent_names, extent_units, own_item, span_extent}
use Rattle.r4_units.proofs.ExtentUnits.{names_of}
use Rattle.r4_units.proofs.ItemUnits.{at_place}
use Rattle.r4_units.proofs.LeafUnits.{node_units}

-- ---- a cell and its node

node_level : (level lo hi : ℕ) (b : List ℕ) → (cell_of level lo hi b).level ≡ level
unfolding cell_of
node_level zero lo hi b = refl
node_level (suc l) lo hi b = refl

node_lo : (level lo hi : ℕ) (b : List ℕ) → (cell_of level lo hi b).lo ≡ lo
unfolding cell_of
node_lo zero lo hi b = refl
node_lo (suc l) lo hi b = refl

node_hi : (level lo hi : ℕ) (b : List ℕ) → (cell_of level lo hi b).hi ≡ hi
unfolding cell_of
node_hi zero lo hi b = refl
node_hi (suc l) lo hi b = refl

spans_of : (level lo hi : ℕ) (b : List ℕ) → 1 ≤ level → (cell_of level lo hi b).spans ≡ spans_in hi (items_of b)
unfolding cell_of
spans_of zero lo hi b some = absurd (omega (arith, some))
spans_of (suc l) lo hi b some = refl

data_units : (level lo hi : ℕ) (b : List ℕ) → level ≡ 0 → (cell_of level lo hi b).units ≡ bytes_from lo b
unfolding cell_of
data_units zero lo hi b is = refl
data_units (suc l) lo hi b is = absurd cc

-- a leaf and a data block hold each key of their range
pub low_holds : (c : CellSeen) (k : ℕ) → c.level ≤ 1 → rank c.lo ≤ k → k < rank c.hi → Holds (node_of c) k
low_holds c k low from below =
    let l = node_level c.level (rank c.lo) (rank c.hi) c.block in
    let a = node_lo c.level (rank c.lo) (rank c.hi) c.block in
    let b = node_hi c.level (rank c.lo) (rank c.hi) c.block in
    inl (omega (arith, l, low), (omega (arith, a, from), omega (arith, b, below)))

-- ---- a data block

pub data_stretch : (c : CellSeen) (from to : ℕ) (s : Stretch) → c.level ≡ 0 → from < rank s.to → rank s.to ≤ to → rank c.lo ≤ from → rank s.to ≤ rank c.hi
    → all_pairs s.parts.items ≡ pairs_in (bytes_from (rank c.lo) c.block) from (rank s.to) → AreFull s.parts.items → IsStretchOf (node_of c) from to s
data_stretch c from to s level onward within low high pairs full = record {
  onward = onward;
  within = within;
  holds = λ k le lt. low_holds c k (omega (arith, level)) (omega (arith, low, le)) (omega (arith, high, lt));
  pairs = pairs ∙ ap (λ (us : Pairs). pairs_in us from (rank s.to)) (sym (data_units c.level (rank c.lo) (rank c.hi) c.block level));
  rises = subst Rises (sym pairs) (bytes_rise_in from (rank s.to) (rank c.lo) c.block);
  full = full;
}

-- ---- a twig

offsets_at : (level lo hi from : ℕ) (items : List Item) (i : ℕ) (it : Item) → items_in_fault true (2 ^ 64) level lo hi from items ≡ None → slice_get items i ≡ Some it → offsets_fit it ≡ true
unfolding items_in_fault
offsets_at level lo hi from [] i it h e = absurd cc
offsets_at level lo hi from (x ∷ items) zero it h e =
    let same : x ≡ it = cc in
    let first = or_none (item_body_fault true (2 ^ 64) x) _ h in
    let rest = or_none (if range_is_good level lo hi (next_key hi items) from x then None else Some (Range from)) _ first.1 in
    let a = and_parts _ (nat_le level 1 || not (from == 0) || rank x.key == lo) (chosen _ (Range from) rest.0) in
    let b = and_parts _ (nat_le (item_end x) (next_key hi items)) a.0 in
    let d = and_parts _ (nat_le (item_end x) hi) b.0 in
    let fits = and_parts _ (offsets_fit x) d.0 in
    subst (λ (y : Item). offsets_fit y ≡ true) same fits.1
offsets_at level lo hi from (x ∷ items) (suc i) it h e = offsets_at level lo hi (from + 1) items i it (good_item true (2 ^ 64) level lo hi from x items h).rest e

extent_offsets : (it : Item) → it.plugin ≡ 5 → offsets_fit it ≡ true → offset_of it.key + 4096 * blocks_in (units_of it.body) ≤ 2 ^ 64
extent_offsets it is h =
    let a : (it.plugin == 0) ≡ false = ap (λ (p : ℕ). p == 0) is in
    let b : (it.plugin == 2) ≡ false = ap (λ (p : ℕ). p == 2) is in
    let t : (it.plugin == 3) ≡ false = ap (λ (p : ℕ). p == 3) is in
    let d : (it.plugin == 5) ≡ true = ap (λ (p : ℕ). p == 5) is in
    let said : offsets_fit it ≡ nat_le (offset_of it.key + 4096 * blocks_in (units_of it.body)) (2 ^ 64) = rw (a, b, t, d) refl in
    leb-true _ _ (sym said ∙ h)

module _ (c : CellSeen) (whole : length c.block ≡ 4096) (two : 2 ≤ c.level) (stands : StandsInMemory c) (i : ℕ) (it : Item) (is : slice_get (items_of c.block) i ≡ Some it) where
  abbrev next : ℕ
  next = next_key (rank c.hi) (drop (i + 1) (items_of c.block))

  branch_is : IsBranch c.level (rank c.lo) (rank c.hi) c.block
  branch_is = branch c.level (rank c.lo) (rank c.hi) c.block whole two stands

  own : IsOwn c.level (rank c.hi) next (items_of c.block) it
  own = own_item c.level (rank c.lo) (rank c.hi) (items_of c.block) i it two branch_is.fits branch_is.items is

  -- the item is an extent where the way ends within its range
  pub is_extent_at : (key : ℕ) → rank it.key ≤ key → key < next → EndsAt c key → it.plugin ≡ 5
  is_extent_at key low high (inl leaf) = absurd (omega (arith, leaf, two))
  is_extent_at key low high (inr (s, at, has)) =
      span_extent next it s (own.spans s key low high (subst (λ (ss : List Span). Contains ss s) (spans_of c.level (rank c.lo) (rank c.hi) c.block (omega (arith, two))) at) has)

  module _ (five : it.plugin ≡ 5) where
    abbrev span : Span
    span = record { lo = rank it.key; hi = next }

    in_spans : Contains (spans_in (rank c.hi) (items_of c.block)) span
    in_spans =
        let one : Contains (span ∷ []) span = (zero, omega arith, refl) in
        let t : (it.plugin == 5) ≡ true = ap (λ (p : ℕ). p == 5) five in
        let here : Contains (extent_span next it) span = rw t one in
        spans_at (rank c.hi) (items_of c.block) i it (drop (i + 1) (items_of c.block)) span (item_first (items_of c.block) i it is) here

    pub ends_in : item_end it ≤ next
    ends_in =
        let e : suc i ≡ i + 1 = omega arith in
        subst (λ (n : ℕ). item_end it ≤ next_key (rank c.hi) (drop n (items_of c.block))) e (end_at c.level (rank c.lo) (rank c.hi) 0 (items_of c.block) i branch_is.items is)
      where
        end_at : (level lo hi from : ℕ) (items : List Item) (i : ℕ) → items_in_fault true (2 ^ 64) level lo hi from items ≡ None → slice_get items i ≡ Some it → item_end it ≤ next_key hi (drop (suc i) items)
        end_at level lo hi from [] i h e = absurd cc
        end_at level lo hi from (x ∷ items) zero h e =
            let same : x ≡ it = cc in
            subst (λ (y : Item). item_end y ≤ next_key hi items) same (good_item true (2 ^ 64) level lo hi from x items h).range.end
        end_at level lo hi from (x ∷ items) (suc i) h e = end_at level lo hi (from + 1) items i (good_item true (2 ^ 64) level lo hi from x items h).rest e

    -- its range ends where the twig's does, or before
    pub next_in : next ≤ rank c.hi
    next_in = (items_part true (2 ^ 64) c.level (rank c.lo) (rank c.hi) 0 (items_of c.block) (omega (arith, two)) branch_is.fits branch_is.items).span_to span in_spans

    -- the twig holds the keys of the range that no block has
    pub span_holds : (k : ℕ) → rank it.key ≤ k → k < next → ((n : Name) → Contains (block_names (rank it.key) (units_of it.body)) n → InName n k → ⊥) → Holds (node_of c) k
    span_holds k low high none =
        inr (
          span,
          subst (λ (ss : List Span). Contains ss span) (sym (spans_of c.level (rank c.lo) (rank c.hi) c.block (omega (arith, two)))) in_spans,
          (low, high),
          λ n at is_data has. none n (subst (λ (ns : List Name). Contains ns n) (extent_names c.level next it five)
              (own.names n k low high (subst (λ (ns : List Name). Contains ns n) (names_of c.level (rank c.lo) (rank c.hi) c.block (omega (arith, two))) at) is_data has)) has,
        )

    twig_pairs : (a b : ℕ) → rank it.key ≤ a → b ≤ next → pairs_in (node_of c).units a b ≡ pairs_in (hole_bytes (rank it.key) (units_of it.body)) a b
    twig_pairs a b low high =
        ap (λ (us : Pairs). pairs_in us a b) (node_units c.level (rank c.lo) (rank c.hi) c.block (omega (arith, two)))
        ∙ (own.units a b low high ∙ ap (λ (us : Pairs). pairs_in us a b) (extent_units it five))

    -- behind its last block nothing stands
    pub gap_stretch : (from to : ℕ) (s : Stretch) → rank it.key + 4096 * blocks_in (units_of it.body) ≤ from → from < rank s.to → rank s.to ≤ to → rank s.to ≤ next → s.parts.items ≡ [] → IsStretchOf (node_of c) from to s
    gap_stretch from to s past onward within high none = record {
      onward = onward;
      within = within;
      holds = λ k le lt. span_holds k (omega (arith, past, le)) (omega (arith, high, lt))
          (λ n at has. let stops = (extent_row (rank it.key) (units_of it.body)).to n at in let up = has.1 in omega (arith, stops, up, past, le));
      pairs = ap all_pairs none ∙ sym (twig_pairs from (rank s.to) (omega (arith, past)) high ∙ units_low from (rank s.to) (rank it.key) (units_of it.body) past);
      rises = subst (λ (parts : List SeenPart). Rises (all_pairs parts)) (sym none) tt;
      full = subst AreFull (sym none) (All-nil (λ (p : SeenPart). part_pairs p ≢ []));
    }

    -- in a hole zeros stand
    pub hole_stretch : (block lo from to : ℕ) (s : Stretch) → block_of (units_of it.body) block ≡ None → block < blocks_in (units_of it.body) → lo ≡ rank it.key + 4096 * block → lo ≤ from → rank s.to ≤ lo + 4096
        → from < rank s.to → rank s.to ≤ to → all_pairs s.parts.items ≡ pairs_in (bytes_from lo (replicate 4096 0)) from (rank s.to) → AreFull s.parts.items → IsStretchOf (node_of c) from to s
    hole_stretch block lo from to s none within lo_is low high onward up pairs full =
        let end = extent_end it five in
        let stops = ends_in in
        record {
          onward = onward;
          within = up;
          holds = λ k le lt. span_holds k (omega (arith, lo_is, low, le)) (omega (arith, end, stops, within, lo_is, high, lt))
              (λ n at has. hole_nameless (rank it.key) (units_of it.body) block k n none within (omega (arith, lo_is, low, le)) (omega (arith, lo_is, high, lt)) at has);
          pairs = pairs ∙ (ap (λ (j : ℕ). pairs_in (bytes_from j (replicate 4096 0)) from (rank s.to)) lo_is
              ∙ (sym (hole_in from (rank s.to) (rank it.key) (units_of it.body) block none within (omega (arith, lo_is, low)) (omega (arith, lo_is, high)))
              ∙ sym (twig_pairs from (rank s.to) (omega (arith, lo_is, low)) (omega (arith, end, stops, within, lo_is, high)))));
          rises = subst Rises (sym pairs) (bytes_rise_in from (rank s.to) lo (replicate 4096 0));
          full = full;
        }

    -- the offsets of its bytes fit
    pub offsets_in : offset_of it.key + 4096 * blocks_in (units_of it.body) ≤ 2 ^ 64
    offsets_in = extent_offsets it five (offsets_at c.level (rank c.lo) (rank c.hi) 0 (items_of c.block) i it branch_is.items is)

    -- and lie in the twig
    pub ends_below : rank it.key + 4096 * blocks_in (units_of it.body) ≤ rank c.hi
    ends_below =
        let end = extent_end it five in
        let a = ends_in in
        let b = next_in in
        omega (arith, end, a, b)

-- ---- the item whose range has a key

pub place_below : (c : CellSeen) (items : List Item) → items ≡ items_of c.block → (hi : Key) → hi ≡ c.hi → (key i : ℕ) → IsPlace (rank hi) items key i → key < next_key (rank c.hi) (drop (i + 1) (items_of c.block))
place_below c items are hi is key i p =
    subst (λ (xs : List Item). key < next_key (rank c.hi) (drop (i + 1) xs)) are (subst (λ (k : Key). key < next_key (rank k) (drop (i + 1) items)) is p.below)

pub extent_at : (c : CellSeen) (items : List Item) → items ≡ items_of c.block → (hi : Key) → hi ≡ c.hi → length c.block ≡ 4096 → 2 ≤ c.level → StandsInMemory c → (i : ℕ) (it : Item) → slice_get (items_of c.block) i ≡ Some it
    → (key : ℕ) → IsPlace (rank hi) items key i → EndsAt c key → it.plugin ≡ 5
extent_at c items are hi hi_is whole two stands i it is key p ends =
    let low = place_key (rank hi) key i items it (subst (λ (xs : List Item). slice_get xs i ≡ Some it) (sym are) is) p in
    is_extent_at c whole two stands i it is key low (place_below c items are hi hi_is key i p) ends

-- ---- how far it goes

pub leaf_far : (c : CellSeen) (k to : ℕ) → (k ≡ to) ⊎ (k ≡ rank c.hi) → (k ≡ to) ⊎ IsBorder c k
leaf_far c k to (inl is) = inl is
leaf_far c k to (inr is) = inr (inl is)

next_border : (c : CellSeen) (items : List Item) → 2 ≤ c.level → ((x : Item) → Contains items x → Contains (items_of c.block) x) → IsBorder c (next_key (rank c.hi) items)
next_border c [] two all = inl refl
next_border c (x ∷ items) two all =
    let e : rank x.key ≡ rank x.key + 4096 * 0 = omega arith in
    inr (two, x, all x (zero, omega arith, refl), 0, e)

dropped : (n : ℕ) (items : List Item) (x : Item) → Contains (drop n items) x → Contains items x
dropped zero items x at = at
dropped (suc n) [] x at = at
dropped (suc n) (y ∷ items) x at = Contains-append_right (y ∷ []) items x (dropped n items x at)

pub next_far : (c : CellSeen) → 2 ≤ c.level → (i to k : ℕ) → (k ≡ to) ⊎ (k ≡ next_key (rank c.hi) (drop (i + 1) (items_of c.block))) → (k ≡ to) ⊎ IsBorder c k
next_far c two i to k (inl is) = inl is
next_far c two i to k (inr is) = inr (subst (IsBorder c) (sym is) (next_border c (drop (i + 1) (items_of c.block)) two (dropped (i + 1) (items_of c.block))))

pub hole_far : (c : CellSeen) → 2 ≤ c.level → (i : ℕ) (it : Item) → slice_get (items_of c.block) i ≡ Some it → (block lo to k : ℕ) → lo ≡ rank it.key + 4096 * block → (k ≡ to) ⊎ (k ≡ lo + 4096) → (k ≡ to) ⊎ IsBorder c k
hole_far c two i it at block lo to k lo_is (inl is) = inl is
hole_far c two i it at block lo to k lo_is (inr is) = inr (inr (two, it, at_place (items_of c.block) i it at, block + 1, omega (arith, is, lo_is)))
