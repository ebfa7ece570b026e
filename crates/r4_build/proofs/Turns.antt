-- From what is reached to the edits of each leaf.
use Rattle.std.proofs.Common.{◌≡◌, inl, inr, ℕ, ◌+◌, ◌<◌, ◌≤◌, Bool, true, false, List, [], ◌∷◌, length, refl, sym, ap, subst, ◌∙◌, arith}
use Rattle.std.specs.Prelude.{Contains, None, Option, Some, not, ◌==◌, ◌^◌, if◌then◌else◌}
use Rattle.std.specs.List.{filter, list_any}
use Rattle.std.proofs.lemmas.Bool.{eq-eqb}
use Rattle.std.proofs.lemmas.Option.{none-some}
use Rattle.r4_base.specs.Key.{rank}
use Rattle.r4_base.specs.Tree.{Root, Span, Store}
use Rattle.r4_base.specs.Value.{Value}
use Rattle.r4_measure.specs.r4_cell.Seen.{CellSeen, node_of}
use Rattle.r4_measure.specs.r4_cell.declared.change.Fresh.{Fresh}
use Rattle.r4_content.specs.Edited.{Edits, Intervals, changed, is_between}
use Rattle.r4_content.specs.Listed.{list_edited}
use Rattle.r4_measure.specs.r4_leaf.Remade.{AreWithin}
use Rattle.r4_measure.specs.r4_leaf.Units.{LeafUnit, leaf_bytes}
use Rattle.r4_leaf_edits.specs.Made.{spread_keys}
use Rattle.r4_measure.specs.r4_patch.Joining.{ids_of}
use Rattle.r4_measure.proofs.r4_patch.Members.{Distinct, cases, distinct, here, later}
use Rattle.r4_measure.proofs.r4_path.Rising.{hi_is, in_node, level_is, lo_is}
use Rattle.r4_measure.specs.r4_reach.Needs.{is_met, leaf_edits, units_after}
use Rattle.r4_measure.specs.r4_reach.Reach.{is_body}
use Rattle.r4_measure.specs.r4_reach.Touched.{Body, first_byte, is_spread}
use Rattle.r4_measure.specs.r4_work.Remaking.{CutsWithin}
use Rattle.r4_measure.specs.r4_work.Working.{IsStart}
use Rattle.r4_measure.specs.r4_work.declared.working.WorkingSet.{WorkingSet}
use Rattle.r4_measure.proofs.r4_work.Starting.{start_working}
use Rattle.r4_measure.specs.Begin.{AreEditsOf, IsEditOf}
use Rattle.r4_measure.specs.Loop.{LeafTurn, units_now}
use Rattle.r4_measure.proofs.Begin.{reach_few, reach_turns}
use Rattle.r4_measure.proofs.Loop.{of_id}
use Rattle.r4_build.specs.Building.{CanBuild, most_new}
use Rattle.r4_build.specs.Making.{AreTurnsOf, CanMake, IsTurnOf, MakeAtMost}
use Rattle.r4_build.proofs.MetKeys.{met_key}

none_only : (t : Bool) (y : ℕ × ℕ) → (if t then Some y else None) ≡ None → t ≡ false
none_only true y e = absurd (none-some y (sym e))
none_only false y e = refl

-- where no body goes to extents, leaves get the edits as they are
pub plain_edits : (b : Option Body) (e : Edits) → spread_keys b ≡ None → leaf_edits b e ≡ e
plain_edits None e h = refl
plain_edits (Some b) e h = as_is (is_spread b) (none_only (is_spread b) (first_byte b, first_byte b + 2 ^ 64) h)
  where
    as_is : (t : Bool) → t ≡ false
        → (let x : Edits = if t then (record { cuts = (first_byte b, first_byte b + 2 ^ 64) ∷ e.cuts; zeros = []; puts = filter (λ p. not (is_body p.0)) e.puts }) else e in x) ≡ e
    as_is true g = absurd cc
    as_is false g = refl

on_true : (b x y : Bool) → b ≡ true → (if b then x else y) ≡ x
on_true true x y h = refl
on_true false x y h = absurd cc

module _ (b : Option Body) (e : Edits) (reads : Intervals) (t : Store Value) (r : Root) (f : Fresh) (cells : List CellSeen) (is : CanBuild b e reads t r f cells) where
  edit_of : (c : CellSeen) → Contains cells c → (u : LeafTurn) → IsTurnOf e c u → IsEditOf b e reads (changed e) t u c.id
  edit_of c at u turn =
      let stands = is.reached.cells_in.stand c at in
      let (k, on, low, high) = met_key (changed e) (rank c.lo) (rank c.hi) turn.touched in
      let l = level_is c in
      let lo = lo_is c in
      let hi = hi_is c in
      let one = turn.level in
      let key : rank u.key ≡ rank c.lo = ap rank turn.key in
      record {
        node = node_of c;
        at = stands;
        written = (node_of c, stands, inl (k, on, inl (omega (arith, l, one), in_node c k (low, high))));
        touched = on_true ((node_of c).level == 1) (is_met (changed e) (node_of c).lo (node_of c).hi) (list_any (λ (s : Span). is_met (changed e) s.lo s.hi) (node_of c).spans) (eq-eqb (node_of c).level 1 (l ∙ one))
            ∙ ((λ i. is_met (changed e) (lo i) (hi i)) ∙ turn.touched);
        level = l ∙ one;
        key = (omega (arith, lo, key), omega (arith, hi, key, low, high));
        cuts_within = subst (λ x. CutsWithin x (node_of c).hi u.cuts) (sym lo) (subst (λ y. CutsWithin (rank c.lo) y u.cuts) (sym hi) turn.cuts_within);
        within = subst (λ x. AreWithin x (node_of c).hi u.items) (sym lo) (subst (λ y. AreWithin (rank c.lo) y u.items) (sym hi) turn.within);
        keys = turn.keys;
        can = turn.makes.can;
        small = subst (λ (us : List LeafUnit). leaf_bytes us < 58912) (units c u turn) (is.small c at one turn.touched);
        units = units c u turn;
      }
    where
      units : (c : CellSeen) (u : LeafTurn) → IsTurnOf e c u → units_after b e (node_of c) ≡ units_now u (node_of c)
      units c u turn =
          let plain = plain_edits b e is.tails in
          let lo = lo_is c in
          let hi = hi_is c in
          (λ i. filter (λ v. is_between (lo i) (hi i) v.0) (list_edited (plain i) (node_of c).units)) ∙ sym turn.makes.units

  -- those of a leaf each, by the leaves' numbers
  abbrev Numbered : List CellSeen → List LeafTurn → Type 0
  Numbered cs us = (ids : List ℕ) × AreEditsOf b e reads (changed e) t us ids × ((i : ℕ) → Contains ids i → Contains (ids_of cs) i) × (length us ≤ length cs)

  numbered : (cs : List CellSeen) (us : List LeafTurn) → Distinct cs → ((c : CellSeen) → Contains cs c → Contains cells c) → AreTurnsOf e cs us → Numbered cs us
  numbered [] us apart among none_is = subst (Numbered []) (sym none_is) ([], tt, λ i m. m, omega arith)
  numbered (c ∷ cs) us (first, apart) among (inl h) =
      let (ids, edits, are, long) = numbered cs us apart (λ x m. among x (later c x cs m)) h in
      (ids, edits, λ i m. later c.id i (ids_of cs) (are i m), omega (arith, long))
  numbered (c ∷ cs) us (first, apart) among (inr (u, rest, same, turn, h)) =
      let (ids, edits, are, long) = numbered cs rest apart (λ x m. among x (later c x cs m)) h in
      subst (Numbered (c ∷ cs)) (sym same) (
        c.id ∷ ids,
        (edit_of c (among c (here c cs)) u turn, λ j m e2. (let (x, at, id) = of_id cs j (are j m) in first x at (sym (id ∙ e2))), edits),
        λ i m. elim (cases c.id i ids m) [
          | inl g ↦ subst (Contains (ids_of (c ∷ cs))) (sym g) (here c.id (ids_of cs))
          | inr g ↦ later c.id i (ids_of cs) (are i g)
        ],
        omega (arith, long),
      )

  pub can_make : (w : WorkingSet) → IsStart cells w → CanMake t r e cells f w
  can_make w start = record {
    working = start_working cells w start t r f is.reached.cells_in;
    turns = λ us h.
        let (ids, edits, are, long) = numbered cells us (distinct cells is.names) (λ c m. m) h in
        let all = is.numbers in
        reach_turns b e reads (changed e) t r f cells is.reached w start us ids edits is.unplaced.0 is.unplaced.1 (omega (arith, all, long));
  }

  pub few_made : (w : WorkingSet) → IsStart cells w → MakeAtMost (most_new b e reads t r cells) t r e cells f w
  few_made w start us h =
      let (ids, edits, are, long) = numbered cells us (distinct cells is.names) (λ c m. m) h in
      let all = is.numbers in
      reach_few b e reads (changed e) t r f cells is.reached w start us ids edits is.unplaced.0 is.unplaced.1 (omega (arith, all, long))
