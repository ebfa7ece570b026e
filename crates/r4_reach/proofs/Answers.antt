-- What is reached and seen by the cells that were met is so in a tree that has them.
use Rattle.std.proofs.Common.{◌≡◌, ◌↔◌, inl, ℕ, ◌<◌, ◌≤◌, Bool, true, false, List, [], ◌∷◌, ◌++◌, refl, sym}
use Rattle.std.proofs.Common.{arith}
use Rattle.std.specs.Prelude.{Contains, Option, None, Some, ◌||◌}
use Rattle.std.specs.FinMap.{find}
use Rattle.std.specs.Ordering.{nat_cmp}
use Rattle.r4_base.specs.Key.{least, top}
use Rattle.r4_base.specs.Tree.{IsTree, Root, Store, UnitAt}
use Rattle.r4_base.specs.Value.{Content, Value, at_key}
use Rattle.r4_base.specs.Volume.{HasUnits}
use Rattle.r4_base.proofs.Trees.{unit_iff, unit_range}
use Rattle.r4_path.specs.r4_cell.Patch.{by_name, root_of_pair}
use Rattle.r4_path.specs.r4_cell.Seen.{CellSeen}
use Rattle.r4_path.specs.r4_cell.declared.change.Root.{Root as RootPair}
use Rattle.r4_content.specs.Course.{asked}
use Rattle.r4_content.specs.Edited.{Intervals, is_between, is_in}
use Rattle.r4_content.specs.Meaning.{course, greatest_size}
use Rattle.r4_content.specs.Seen.{IsSeen, of_seen}
use Rattle.r4_content.specs.declared.command.Command.{Command}
use Rattle.r4_path.proofs.r4_patch.PartCells.{tree_is_part}
use Rattle.r4_path.proofs.r4_patch.PartUnits.{held_unit}
use Rattle.r4_reach.specs.Answer.{HasAll, IsReachOf}
use Rattle.r4_reach.specs.Demand.{Demand, IsPlain}
use Rattle.r4_reach.specs.Needs.{Ask, demand_on}
use Rattle.r4_reach.specs.Reach.{HasReached, HasRoot, Touches, IsRead, IsWritten}
use Rattle.r4_reach.specs.Touched.{body_on, changes_on, edits_on, kind_reads, reads_on}
use Rattle.r4_reach.proofs.Plain.{demand_plain}
use Rattle.r4_reach.proofs.Same.{reached_from, reached_to, written_from, written_to}
use Rattle.r4_reach.proofs.Trees.{held}

module _ {A : Type 0} where
  same_option : (o p : Option A) → ((v : A) → (o ≡ Some v) ↔ (p ≡ Some v)) → o ≡ p
  same_option None None h = refl
  same_option (Some v) p h = sym ((h v).0 refl)
  same_option None (Some v) h = (h v).1 refl

in_first : (rs qs : Intervals) (k : ℕ) → is_in rs k ≡ true → is_in (rs ++ qs) k ≡ true
in_first [] qs k e = absurd (grind (arith, e))
in_first (r ∷ rs) qs k e = by_test (is_between r.0 r.1 k) (in_first rs qs k) e
  where
    by_test : (b : Bool) → (is_in rs k ≡ true → is_in (rs ++ qs) k ≡ true) → (b || is_in rs k) ≡ true
        → (b || is_in (rs ++ qs) k) ≡ true
    by_test true rest e = refl
    by_test false rest e = rest e

module _ (root : RootPair) (c : Command) (met reads writes : List CellSeen) (rises : Option RootPair)
    (h : IsReachOf root c met reads writes rises) (u : Store Value) where
  abbrev D : Demand Ask
  D = demand_on c h.seen h.in_extents

  plain : IsPlain (demand_on c h.seen h.in_extents)
  plain = demand_plain (body_on c h.seen h.in_extents) (edits_on c h.seen) (reads_on c h.seen h.in_extents)
      (changes_on c h.seen h.in_extents)

  module _ (other : Root) (iu : IsTree u other) (same : HasReached (demand_on c h.seen h.in_extents) (by_name met) u)
    where
      unit_back : (k : ℕ) (v : Value) → Touches D k → UnitAt u k v → UnitAt (by_name met) k v
      unit_back k v touch has =
          let (from, to) = unit_range u other iu k v has in
          let (i, n, tn, holds, reached) = held D (by_name met) (root_of_pair root) h.part h.has k touch from to in
          let (forth, back) = unit_iff u other iu i n k v (same i n reached tn) holds in
          (i, n, tn, forth has)

      unit_on : (k : ℕ) (v : Value) → Touches D k → UnitAt (by_name met) k v → UnitAt u k v
      unit_on k v touch (j, d, td, has) =
          let node = h.part.nodes j d td in
          let at = node.unit_in k v has in
          let least_is = node.from_least in
          let top_is = node.to_top in
          let from : least ≤ k = omega (arith, at, least_is) in
          let to : k < top = omega (arith, at, top_is) in
          let (i, n, tn, holds, reached) = held D (by_name met) (root_of_pair root) h.part h.has k touch from to in
          let (forth, back) = held_unit (by_name met) (root_of_pair root) h.part i n k v tn holds in
          (i, n, same i n reached tn, forth (j, d, td, has))

      pub same_units : (k : ℕ) (v : Value) → Touches D k → UnitAt (by_name met) k v ↔ UnitAt u k v
      same_units k v touch = (unit_on k v touch, unit_back k v touch)

  module _ (other : Root) (m : Content) (iu : IsTree u other)
      (same : HasReached (demand_on c h.seen h.in_extents) (by_name met) u) (units : HasUnits u m) where
    asked_touched : (k : ℕ) → is_in (asked (course greatest_size c) (of_seen h.seen)) k ≡ true → Touches D k
    asked_touched k asks =
        inl
        (in_first (asked (course greatest_size c) (of_seen h.seen)) (kind_reads (body_on c h.seen h.in_extents)) k
        asks)

    pub is_seen : IsSeen greatest_size c h.seen m
    is_seen = record {
      rises = h.sees.rises;
      agrees = λ k asks. same_option (find nat_cmp k h.seen) (at_key m k) (λ v.
          let (s_to, s_from) = h.sees.agrees k v asks in
          let (u_to, u_from) = units k v in
          let (on, back) = same_units other iu same k v (asked_touched k asks) in
          (λ e. u_from (on (s_to e)), λ e. s_from (back (u_to e))));
    }

  module _ (iu : IsTree u (root_of_pair root)) (all : HasAll met u) where
    same : HasReached (demand_on c h.seen h.in_extents) (by_name met) u
    same i n reached tn = all i n tn

    roots : HasRoot (demand_on c h.seen h.in_extents) (by_name met) (root_of_pair root) (root_of_pair root)
    roots a asking = refl

    pub w_to : (i : ℕ) → IsWritten D (by_name met) i → IsWritten D u i
    w_to i w = written_to D plain (by_name met) u (root_of_pair root) (root_of_pair root) h.part
        (tree_is_part u (root_of_pair root) iu) h.has same roots i w

    pub w_from : (i : ℕ) → IsWritten D u i → IsWritten D (by_name met) i
    w_from i w = written_from D plain (by_name met) u (root_of_pair root) (root_of_pair root) h.part
        (tree_is_part u (root_of_pair root) iu) h.has same roots i w

    pub written_is : (x : CellSeen) → Contains writes x ↔ (Contains met x × IsWritten D u x.id)
    written_is x = let (to, from) = h.written x in
        (λ y. let (a, w) = to y in (a, w_to x.id w), λ (a, w). from (a, w_from x.id w))

    pub read_is : (x : CellSeen) → Contains reads x ↔ (Contains met x × IsRead D u x.id)
    read_is x =
        let (to, from) = h.read x in
        let up = tree_is_part u (root_of_pair root) iu in (
          λ y. let (a, (r, w)) = to y in (
            a,
            (
              reached_to D plain (by_name met) u (root_of_pair root) (root_of_pair root) h.part up h.has same roots
                  x.id r,
              λ z. w (w_from x.id z),
            ),
          ),
          λ (a, r). from (
            a,
            (
              reached_from D plain (by_name met) u (root_of_pair root) (root_of_pair root) h.part up
                  h.has same roots x.id r.0,
              λ z. r.1 (w_to x.id z),
            ),
          ),
        )
