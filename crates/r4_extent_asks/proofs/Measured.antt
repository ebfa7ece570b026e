-- A leaf, measured with the edits that it gets, bodies in extents included.
use Rattle.std.specs.Prelude.{◌≡◌, ℕ, ◌+◌, ◌-◌, ◌^◌, ◌<◌, ◌≤◌, List, [], ◌∷◌, length, All, true}
use Rattle.std.specs.Prelude.{None, Option, min, nat_le, nat_lt}
use Rattle.std.proofs.Common.{arith, inl, sym, ap, subst, ◌∙◌}
use Rattle.std.specs.List.{filter}
use Rattle.std.proofs.lemmas.Bool.{and_from, le-leb, lt-ltb}
use Rattle.std.proofs.lemmas.List.Elements.{All-cons, All-nil}
use Rattle.r4_base.specs.Cell.{cell_fault, units_in}
use Rattle.r4_base.specs.Key.{rank}
use Rattle.r4_base.specs.Node.{Item, items_of}
use Rattle.r4_base.specs.declared.key.Key.{Key}
use Rattle.r4_units.specs.r4_cell.Seen.{CellSeen, node_of}
use Rattle.r4_content.specs.Edited.{Edits, is_between}
use Rattle.r4_content.specs.Listed.{list_edited}
use Rattle.r4_twig_asks.specs.r4_leaf.Items.{Lie}
use Rattle.r4_twig_asks.specs.r4_leaf.Leaves.{MayStand}
use Rattle.r4_twig_asks.specs.r4_leaf.Remade.{CanPutAll, cut_all, put_all, units_after as units_left}
use Rattle.r4_twig_asks.specs.r4_leaf.Units.{LeafUnit, leaf_bytes}
use Rattle.r4_twig_asks.specs.r4_leaf.declared.remaking.Given.{Given}
use Rattle.r4_twig_asks.specs.r4_leaf.declared.remaking.KeyRange.{KeyRange}
use Rattle.r4_twig_asks.proofs.r4_leaf.LeafItems.{lie_rise}
use Rattle.r4_twig_asks.proofs.r4_leaf.Rising.{Rise}
use Rattle.r4_twig_asks.proofs.r4_leaf.Standing.{stand_lie}
use Rattle.r4_twig_asks.specs.r4_leaf_edits.Made.{AreOfLeaf, MakesEdits}
use Rattle.r4_twig_asks.proofs.r4_path.CellNodes.{units_are}
use Rattle.r4_twig_asks.proofs.r4_path.Rising.{hi_is, lo_is}
use Rattle.r4_twig_asks.specs.r4_reach.Needs.{leaf_edits, units_after}
use Rattle.r4_twig_asks.specs.r4_reach.Touched.{Body}
use Rattle.r4_twig_asks.proofs.r4_leaf_demands.r4_suited.Cells.{IsFitting, leaf_fits}
use Rattle.r4_twig_asks.specs.r4_extent_demands.Sizes.{AreExtentEdits}

-- ---- units that rise lie in their range

in_range : (lo hi k : ℕ) → lo ≤ k → k < hi → is_between lo hi k ≡ true
in_range lo hi k low high = and_from (nat_le lo k) (nat_lt k hi) (le-leb lo k low) (lt-ltb k hi high)

rise_ends : (from to : ℕ) (us : List LeafUnit) → Rise from to us → from ≤ to
rise_ends from to [] h = h
rise_ends from to (u ∷ us) h = let low = h.0 in let rest = rise_ends (u.0 + 1) to us h.1 in omega (arith, low, rest)

rise_within : (lo hi from : ℕ) (us : List LeafUnit) → lo ≤ from → Rise from hi us
    → All (λ (u : LeafUnit). is_between lo hi u.0 ≡ true) us
rise_within lo hi from [] le h = All-nil (λ (u : LeafUnit). is_between lo hi u.0 ≡ true)
rise_within lo hi from (u ∷ us) le h =
    let low = h.0 in
    let rest = rise_ends (u.0 + 1) hi us h.1 in
    All-cons (λ (x : LeafUnit). is_between lo hi x.0 ≡ true) u us
    (in_range lo hi u.0 (omega (arith, low, le)) (omega (arith, rest)))
    (rise_within lo hi (u.0 + 1) us (omega (arith, low, le)) h.1)

-- ---- a leaf

module _ (x : CellSeen) (level : x.level ≡ 1) (whole : length x.block ≡ 4096)
    (stands : cell_fault true (2 ^ 64) x.level (rank x.lo) (rank x.hi) x.block ≡ None)
    (le : rank x.lo ≤ rank x.hi) where
  stand : MayStand (rank x.lo) (rank x.hi) x.block
  stand = (whole, subst (λ (l : ℕ). cell_fault true (2 ^ 64) l (rank x.lo) (rank x.hi) x.block ≡ None) level stands)

  fitting : IsFitting (node_of x).units
  fitting = leaf_fits x level stand le

  pub lie : Lie (rank x.lo) (rank x.hi) (items_of x.block)
  lie = stand_lie (rank x.lo) (rank x.hi) x.block stand (inl le)

  units : (node_of x).units ≡ units_in (items_of x.block)
  units = units_are x 0 level

  pub of_leaf : AreOfLeaf (rank x.lo) (rank x.hi) (node_of x).units
  of_leaf = record {
    rises = fitting.rises;
    within = subst (λ (us : List LeafUnit). All (λ (u : LeafUnit). is_between (rank x.lo) (rank x.hi) u.0 ≡ true) us)
        (sym units)
        (rise_within (rank x.lo) (rank x.hi) (rank x.lo) (units_in (items_of x.block)) (omega arith)
        (lie_rise (rank x.lo) (rank x.hi) (items_of x.block) lie));
  }

  -- keys that are those of the range
  pub makes : (e : Edits) (cuts : List KeyRange) (gs : List Given) (lo hi : Key) → lo ≡ x.lo → hi ≡ x.hi
      → (AreOfLeaf (rank lo) (rank hi) (node_of x).units → MakesEdits (rank lo) (rank hi) e cuts gs (node_of x).units)
      → MakesEdits (rank x.lo) (rank x.hi) e cuts gs (node_of x).units
  makes e cuts gs lo hi low high made =
      let us = (node_of x).units in
      let here = subst (λ (k : Key). AreOfLeaf (rank k) (rank hi) us) (sym low)
      (subst (λ (k : Key). AreOfLeaf (rank x.lo) (rank k) us) (sym high) of_leaf) in
      subst (λ (k : Key). MakesEdits (rank k) (rank x.hi) e cuts gs us) low
      (subst (λ (k : Key). MakesEdits (rank lo) (rank k) e cuts gs us) high (made here))

  module _ (b : Option Body) (e : Edits) (ok : AreExtentEdits b e) (cuts : List KeyRange) (gs : List Given)
      (m : MakesEdits (rank x.lo) (rank x.hi) (leaf_edits b e) cuts gs (node_of x).units) where
    after : units_after b e (node_of x) ≡ put_all gs (cut_all cuts (node_of x).units)
    after = (λ i. filter (λ u. is_between (lo_is x i) (hi_is x i) u.0) (list_edited (leaf_edits b e) (node_of x).units))
        ∙ sym m.units

    few : leaf_bytes (units_after b e (node_of x)) < 58912
    few = ok.small (node_of x) fitting.rises fitting.few

    module _ (given : List Given) (ranges : List KeyRange) (items : List Item) (same : given ≡ gs)
        (also : ranges ≡ cuts) (shown : items ≡ items_of x.block) where
      left : units_in items ≡ (node_of x).units
      left = ap units_in shown ∙ sym units

      pub can : CanPutAll given (cut_all ranges (units_in items))
      can =
          subst (λ (g : List Given). CanPutAll g (cut_all ranges (units_in items))) (sym same)
          (subst (λ (r : List KeyRange). CanPutAll gs (cut_all r (units_in items))) (sym also)
          (subst (λ (us : List LeafUnit). CanPutAll gs (cut_all cuts us)) (sym left) m.can))

      bytes_are : leaf_bytes (units_left ranges given items) ≡ leaf_bytes (units_after b e (node_of x))
      bytes_are = (λ i. leaf_bytes (put_all (same i) (cut_all (also i) (left i)))) ∙ ap leaf_bytes (sym after)

      module _ (n : ℕ) (is : n ≡ min (leaf_bytes (units_left ranges given items)) (2 ^ 64 - 1)) where
        pub measured : n ≡ leaf_bytes (units_after b e (node_of x))
        measured = let small = few in let same_bytes = bytes_are in let all = is in omega
            (arith, small, same_bytes, all)

        pub measured_few : n < 58912
        measured_few = let small = few in let same_bytes = measured in omega (arith, small, same_bytes)
