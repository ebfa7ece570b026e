-- A leaf without units that gets the values of its range, as the calls tell it.
use Rattle.std.proofs.Common.{◌≡◌, inl, ℕ, ◌^◌, ◌<◌, true, List, [], length, refl, sym, subst, ◌∙◌, arith}
use Rattle.std.specs.Prelude.{None, Option}
use Rattle.r4_base.specs.Cell.{cell_fault, units_in}
use Rattle.r4_base.specs.Key.{rank}
use Rattle.r4_base.specs.Node.{Item, items_of}
use Rattle.r4_base.specs.declared.key.Key.{Key}
use Rattle.r4_extent_build.specs.r4_cell.Seen.{CellSeen, node_of}
use Rattle.r4_content.specs.Edited.{Edits}
use Rattle.r4_build.proofs.r4_edit.LeafLent.{lent_stands, lent_units}
use Rattle.r4_extent_build.specs.r4_extent_demands.Putting.{put_into}
use Rattle.r4_extent_build.specs.r4_extent_demands.Sizes.{AreExtentEdits}
use Rattle.r4_build.specs.r4_leaf.Items.{Lie}
use Rattle.r4_build.specs.r4_leaf.Leaves.{AreFew, Packs}
use Rattle.r4_build.specs.r4_leaf.Remade.{AreWithin, CanPutAll, cut_all, put_all, units_after as units_left}
use Rattle.r4_build.specs.r4_leaf.Units.{LeafUnit, bytes_behind, leaf_bytes}
use Rattle.r4_build.specs.r4_leaf.declared.leaf.Leaf.{Leaf}
use Rattle.r4_build.specs.r4_leaf.declared.remaking.Given.{Given}
use Rattle.r4_build.specs.r4_leaf.declared.remaking.KeyRange.{KeyRange}
use Rattle.r4_extent_build.proofs.r4_leaf.Standing.{stand_lie}
use Rattle.r4_build.specs.r4_leaf_edits.Made.{MakesEdits}
use Rattle.r4_build.specs.r4_reach.Needs.{leaf_edits}
use Rattle.r4_build.specs.r4_reach.Touched.{Body}

pub no_bytes : leaf_bytes [] ≡ 0
unfolding bytes_behind
no_bytes = refl

-- values of one range are few enough to be packed
pub few_values : (b : Option Body) (e : Edits) → AreExtentEdits b e → (lo hi : ℕ) → leaf_bytes (put_into b e lo hi) < 58912
few_values b e ok lo hi =
    ok.small (record { level = 1; lo = lo; hi = hi; block = []; names = []; spans = []; units = [] }) tt
    (let z = no_bytes in omega (arith, z))

module _ (b : Option Body) (e : Edits) (ok : AreExtentEdits b e) (leaf : CellSeen) (level : leaf.level ≡ 1) (some : rank leaf.lo < rank leaf.hi) (empty : (node_of leaf).units ≡ [])
    (whole : length leaf.block ≡ 4096) (accepted : cell_fault true (2 ^ 64) leaf.level (rank leaf.lo) (rank leaf.hi) leaf.block ≡ None)
    (from to at : Key) (from_is : from ≡ leaf.lo) (to_is : to ≡ leaf.hi) (at_is : at ≡ leaf.lo) (cuts ranges : List KeyRange) (gs given : List Given) (items : List Item)
    (ranges_are : ranges ≡ cuts) (given_are : given ≡ gs) (items_are : items ≡ items_of leaf.block)
    (made : MakesEdits (rank from) (rank to) (leaf_edits b e) cuts gs []) (within : AreWithin (rank from) (rank to) gs) where
  pub lies : Lie (rank at) (rank leaf.hi) items
  lies =
      subst (λ (k : Key). Lie (rank k) (rank leaf.hi) items) (sym at_is) (subst (Lie (rank leaf.lo) (rank leaf.hi)) (sym items_are)
      (stand_lie (rank leaf.lo) (rank leaf.hi) leaf.block (lent_stands leaf level leaf.block leaf.lo refl refl whole accepted) (inl (omega (arith, some)))))

  pub are_within : AreWithin (rank at) (rank leaf.hi) given
  are_within =
      subst (λ (k : Key). AreWithin (rank k) (rank leaf.hi) given) (sym at_is)
      (subst (λ (k : Key). AreWithin (rank k) (rank leaf.hi) given) from_is
      (subst (λ (k : Key). AreWithin (rank from) (rank k) given) to_is (subst (AreWithin (rank from) (rank to)) (sym given_are) within)))

  left : units_in items ≡ []
  left = lent_units leaf level items items_are ∙ empty

  pub can_put : CanPutAll given (cut_all ranges (units_in items))
  can_put =
      subst (λ (hs : List Given). CanPutAll hs (cut_all ranges (units_in items))) (sym given_are)
      (subst (λ (rs : List KeyRange). CanPutAll gs (cut_all rs (units_in items))) (sym ranges_are)
      (subst (λ (us : List LeafUnit). CanPutAll gs (cut_all cuts us)) (sym left) made.can))

  pub values_are : units_left ranges given items ≡ put_into b e (rank leaf.lo) (rank leaf.hi)
  values_are =
      (λ i. put_all (given_are i) (cut_all (ranges_are i) (left i))) ∙ (made.units ∙ (λ i. put_into b e (rank (from_is i)) (rank (to_is i))))

  pub are_small : leaf_bytes (units_left ranges given items) < 58912
  are_small = subst (λ us. leaf_bytes us < 58912) (sym values_are) (few_values b e ok (rank leaf.lo) (rank leaf.hi))

  pub packs_values : (leaves : List Leaf) → Packs (rank at) (rank leaf.hi) (units_left ranges given items) leaves → Packs (rank leaf.lo) (rank leaf.hi) (put_into b e (rank leaf.lo) (rank leaf.hi)) leaves
  packs_values leaves p = subst (λ (us : List LeafUnit). Packs (rank leaf.lo) (rank leaf.hi) us leaves) values_are (subst (λ (k : Key). Packs (rank k) (rank leaf.hi) (units_left ranges given items) leaves) at_is p)

  pub few_values_are : (leaves : List Leaf) → AreFew (units_left ranges given items) leaves → AreFew (put_into b e (rank leaf.lo) (rank leaf.hi)) leaves
  few_values_are leaves f = subst (λ (us : List LeafUnit). AreFew us leaves) values_are f
