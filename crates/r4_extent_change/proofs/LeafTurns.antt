-- The edits of leaves in a measured set, in which each leaf stands, or goes on with a wider range.
use Rattle.std.proofs.Common.{◌≡◌, inl, inr, ℕ, ◌+◌, ◌*◌, ◌^◌, ◌<◌, ◌≤◌, List, [], ◌∷◌, length, ap, sym, subst, ◌∙◌, arith}
use Rattle.std.specs.Prelude.{Contains, None, Some, true}
use Rattle.std.specs.List.{filter}
use Rattle.r4_base.specs.Cell.{units_in}
use Rattle.r4_base.specs.Key.{rank}
use Rattle.r4_base.specs.Node.{items_of}
use Rattle.r4_base.specs.Tree.{Root, Store}
use Rattle.r4_base.specs.Value.{Value}
use Rattle.r4_build.proofs.MetKeys.{met_key}
use Rattle.r4_build.specs.Making.{AreTurnsOf, CanMake, IsTurnOf, MakeAtMost}
use Rattle.r4_content.specs.Edited.{Edits, changed, is_between}
use Rattle.r4_content.specs.Listed.{list_edited}
use Rattle.r4_build.proofs.r4_measure.Loop.{all_turns, few_stand, of_id}
use Rattle.r4_build.proofs.r4_measure.r4_patch.Members.{Distinct, cases, distinct, here, later}
use Rattle.r4_build.proofs.r4_measure.r4_path.CellNodes.{units_are}
use Rattle.r4_build.proofs.r4_measure.r4_path.Rising.{hi_is, level_is, lo_is}
use Rattle.r4_build.proofs.r4_measure.r4_work.InPlace.{standing_is}
use Rattle.r4_build.specs.r4_measure.Budget.{Budget, most_from}
use Rattle.r4_build.specs.r4_measure.Loop.{AreReady, IsReady, LeafTurn, units_now}
use Rattle.r4_build.specs.r4_measure.Measured.{IsMeasured}
use Rattle.r4_build.specs.r4_measure.r4_cell.Patch.{HaveNames}
use Rattle.r4_build.specs.r4_measure.r4_cell.Seen.{CellSeen, node_of}
use Rattle.r4_build.specs.r4_measure.r4_cell.declared.change.Fresh.{Fresh}
use Rattle.r4_build.specs.r4_measure.r4_edit.Editing.{extra_cells}
use Rattle.r4_build.specs.r4_measure.r4_leaf.Remade.{AreWithin, CanPutAll, cut_all, put_all}
use Rattle.r4_build.specs.r4_measure.r4_leaf.Units.{LeafUnit, leaf_bytes}
use Rattle.r4_build.specs.r4_measure.r4_leaf.declared.remaking.Given.{Given}
use Rattle.r4_build.specs.r4_measure.r4_leaf.declared.remaking.KeyRange.{KeyRange}
use Rattle.r4_build.specs.r4_measure.r4_patch.Joining.{ids_of}
use Rattle.r4_build.specs.r4_measure.r4_reach.Needs.{is_met, units_after}
use Rattle.r4_build.specs.r4_measure.r4_work.Remaking.{CutsWithin}
use Rattle.r4_build.specs.r4_measure.r4_work.Working.{now_of, root_of, standing}
use Rattle.r4_build.specs.r4_measure.r4_work.declared.working.WorkingSet.{WorkingSet}
use Rattle.r4_extent_change.specs.Wider.{GoesOn, IsWider}

-- what lies in a range lies in a wider one
cuts_wider : (lo hi lo2 hi2 : ℕ) → lo2 ≡ lo → hi ≤ hi2 → (cs : List KeyRange) → CutsWithin lo hi cs → CutsWithin lo2 hi2 cs
cuts_wider lo hi lo2 hi2 first last [] within = tt
cuts_wider lo hi lo2 hi2 first last (c ∷ cs) (low, high, more) = (omega (arith, low, first), omega (arith, high, last), cuts_wider lo hi lo2 hi2 first last cs more)

items_wider : (lo hi lo2 hi2 : ℕ) → lo2 ≡ lo → hi ≤ hi2 → (gs : List Given) → AreWithin lo hi gs → AreWithin lo2 hi2 gs
items_wider lo hi lo2 hi2 first last [] within = tt
items_wider lo hi lo2 hi2 first last (g ∷ gs) (low, high, more) = (omega (arith, low, first), omega (arith, high, last), items_wider lo hi lo2 hi2 first last gs more)

module _ (e : Edits) (t : Store Value) (r : Root) (f : Fresh) (w : WorkingSet) (u : Budget) (is : IsMeasured t r f w u) (cells : List CellSeen) (names : HaveNames cells)
    (stand : (c : CellSeen) → Contains cells c → c.level ≡ 1 → GoesOn w c)
    (room : (c : CellSeen) → Contains cells c → c.level ≡ 1 → is_met (changed e) (rank c.lo) (rank c.hi) ≡ true → leaf_bytes (units_after None e (node_of c)) ≤ 4068) where
  units : (c : CellSeen) (turn : LeafTurn) → IsTurnOf e c turn → units_after None e (node_of c) ≡ units_now turn (node_of c)
  units c turn of =
      let lo = lo_is c in
      let hi = hi_is c in
      (λ i. filter (λ v. is_between (lo i) (hi i) v.0) (list_edited e (node_of c).units)) ∙ sym of.makes.units

  same_units : (c d : CellSeen) → c.level ≡ 1 → IsWider c d → (node_of c).units ≡ (node_of d).units
  same_units c d one wide = units_are c 0 one ∙ (ap (λ bytes. units_in (items_of bytes)) (sym wide.block) ∙ sym (units_are d 0 (wide.level ∙ one)))

  ready_one : (c : CellSeen) → Contains cells c → (turn : LeafTurn) → IsTurnOf e c turn → IsReady t w u turn c.id
  ready_one c at turn of =
      let (d, stands, wide) = stand c at of.level in
      let (k, on, low, high) = met_key (changed e) (rank c.lo) (rank c.hi) of.touched in
      let lo : (node_of d).lo ≡ rank c.lo = lo_is d ∙ wide.lo in
      let hi : rank c.hi ≤ (node_of d).hi = let h = hi_is d in let m = wide.hi in omega (arith, h, m) in
      let key : rank turn.key ≡ rank c.lo = ap rank of.key in
      let few : leaf_bytes (units_now turn (node_of c)) ≤ 4068 = subst (λ (us : List LeafUnit). leaf_bytes us ≤ 4068) (units c turn of) (room c at of.level of.touched) in
      let now_few : leaf_bytes (units_now turn (node_of d)) ≤ 4068 = subst (λ (us : List LeafUnit). leaf_bytes (put_all turn.items (cut_all turn.cuts us)) ≤ 4068) (same_units c d of.level wide) few in
      let none : extra_cells (units_now turn (node_of d)) ≤ 0 = omega (arith, now_few) in
      record {
        node = node_of d;
        at = subst (λ i. now_of w t i ≡ Some (node_of d)) wide.id (standing_is t r f w is.working d stands);
        stands = (d, stands, wide.id);
        level = level_is d ∙ (wide.level ∙ of.level);
        key = (omega (arith, lo, key), omega (arith, hi, key, low, high));
        cuts_within = cuts_wider (rank c.lo) (rank c.hi) (node_of d).lo (node_of d).hi lo hi turn.cuts of.cuts_within;
        within = items_wider (rank c.lo) (rank c.hi) (node_of d).lo (node_of d).hi lo hi turn.items of.within;
        keys = of.keys;
        can = subst (λ (us : List LeafUnit). CanPutAll turn.items (cut_all turn.cuts us)) (same_units c d of.level wide) of.makes.can;
        small = omega (arith, now_few);
        come = omega (arith, none);
      }

  -- those of a leaf each, by the leaves' numbers
  abbrev Numbered : List CellSeen → List LeafTurn → Type 0
  Numbered cs us = (ids : List ℕ) × AreReady t w u us ids × ((i : ℕ) → Contains ids i → Contains (ids_of cs) i) × (length us ≤ length cs)

  numbered : (cs : List CellSeen) (us : List LeafTurn) → Distinct cs → ((c : CellSeen) → Contains cs c → Contains cells c) → AreTurnsOf e cs us → Numbered cs us
  numbered [] us apart among none_is = subst (Numbered []) (sym none_is) ([], tt, λ i m. m, omega arith)
  numbered (c ∷ cs) us (first, apart) among (inl h) =
      let (ids, ready, are, long) = numbered cs us apart (λ x m. among x (later c x cs m)) h in
      (ids, ready, λ i m. later c.id i (ids_of cs) (are i m), omega (arith, long))
  numbered (c ∷ cs) us (first, apart) among (inr (turn, rest, same, of, h)) =
      let (ids, ready, are, long) = numbered cs rest apart (λ x m. among x (later c x cs m)) h in
      subst (Numbered (c ∷ cs)) (sym same) (
        c.id ∷ ids,
        (ready_one c (among c (here c cs)) turn of, λ j m e2. (let (x, at, id) = of_id cs j (are j m) in first x at (sym (id ∙ e2))), ready),
        λ i m. elim (cases c.id i ids m) [
          | inl g ↦ subst (Contains (ids_of (c ∷ cs))) (sym g) (here c.id (ids_of cs))
          | inr g ↦ later c.id i (ids_of cs) (are i g)
        ],
        omega (arith, long),
      )

  module _ (low : 2 ^ 63 ≤ f.next) (high : f.end < 2 ^ 64) (numbers : f.next + 64 * length cells ≤ f.end) where
    pub can_make : CanMake t r e cells f w
    can_make = record {
      working = is.working;
      turns = λ us h.
          let (ids, ready, are, long) = numbered cells us (distinct cells names) (λ c m. m) h in
          all_turns t r us ids f w u is ready low high (omega (arith, numbers, long));
    }

    pub few_made : (most : ℕ) → most_from u (root_of w r) (standing w) ≤ most → MakeAtMost most t r e cells f w
    few_made most few us h =
        let (ids, ready, are, long) = numbered cells us (distinct cells names) (λ c m. m) h in
        few_stand most t r us ids f w u is ready low high (omega (arith, numbers, long)) few
