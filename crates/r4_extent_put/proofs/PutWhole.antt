-- The change where values come among extents, step by step: what each step needs, and what it leaves for the next one.
use Rattle.std.proofs.Common.{◌≡◌, ℕ, ◌+◌, ◌*◌, ◌^◌, ◌<◌, ◌≤◌, Bool, List, length, refl, ap, subst, arith}
use Rattle.std.specs.Prelude.{◌==◌, ◌||◌, Contains, None, Option, nat_lt}
use Rattle.std.proofs.Math.Bool.{or_comm}
use Rattle.std.proofs.lemmas.Bool.{and_parts, eqb-true}
use Rattle.r4_base.specs.Tree.{Node, Root, Store}
use Rattle.r4_base.specs.Value.{Value}
use Rattle.r4_content.specs.Edited.{Edits}
use Rattle.r4_extent_among.proofs.Several.{can_each, leaves_each, sets_each}
use Rattle.r4_extent_among.specs.AmongEach.{CanPutEach, HasPutEach, LeavesAll, MayPutEach, is_put_in_each}
use Rattle.r4_extent_turned.proofs.r4_extent_growth.r4_extent_change.AtStart.{standing_in, start_few, start_measured}
use Rattle.r4_extent_turned.proofs.r4_extent_growth.r4_extent_change.Chosen.{picked, picked_apart}
use Rattle.r4_extent_turned.proofs.r4_extent_growth.r4_extent_change.LeafTurns.{few_made}
use Rattle.r4_extent_turned.proofs.r4_extent_growth.r4_extent_change.r4_build.Changing.{changes_all, changes_both, same_effect}
use Rattle.r4_extent_turned.proofs.r4_extent_growth.r4_extent_change.r4_build.Made.{few_new, start_of}
use Rattle.r4_extent_turned.proofs.r4_extent_growth.r4_extent_change.r4_extent_build.r4_extent_demands.r4_leaf_demands.Alike.{in_leaves_edits}
use Rattle.r4_extent_turned.proofs.r4_extent_growth.r4_measure.r4_patch.Members.{distinct, have_names}
use Rattle.r4_extent_turned.specs.r4_extent_growth.r4_build.Building.{set_by}
use Rattle.r4_extent_turned.specs.r4_extent_growth.r4_build.Making.{AreMadeIn, IsOf, MakeAtMost, changed_among}
use Rattle.r4_extent_turned.specs.r4_extent_growth.r4_extent_change.Wider.{GoesOn}
use Rattle.r4_extent_turned.specs.r4_extent_growth.r4_extent_demands.r4_leaf_demands.Leaves.{IsInLeaves}
use Rattle.r4_extent_turned.specs.r4_extent_growth.r4_measure.Budget.{Budget}
use Rattle.r4_extent_turned.specs.r4_extent_growth.r4_measure.Measured.{IsMeasured}
use Rattle.r4_extent_turned.specs.r4_extent_growth.r4_measure.r4_cell.Seen.{CellSeen, node_of}
use Rattle.r4_extent_turned.specs.r4_extent_growth.r4_measure.r4_cell.declared.change.Fresh.{Fresh}
use Rattle.r4_extent_turned.specs.r4_extent_growth.r4_measure.r4_leaf.Units.{LeafUnit, leaf_bytes}
use Rattle.r4_extent_turned.specs.r4_extent_growth.r4_measure.r4_patch.Effect.{HasEffect}
use Rattle.r4_extent_turned.specs.r4_extent_growth.r4_measure.r4_patch.Joining.{patch_of_change}
use Rattle.r4_extent_turned.specs.r4_extent_growth.r4_measure.r4_reach.Needs.{put_among, units_after}
use Rattle.r4_extent_turned.specs.r4_extent_growth.r4_measure.r4_reach.Touched.{Body}
use Rattle.r4_extent_turned.specs.r4_extent_growth.r4_measure.r4_work.Remaking.{Changes}
use Rattle.r4_extent_turned.specs.r4_extent_growth.r4_measure.r4_work.Working.{HasNoEffect, IsStart, IsWorking, standing}
use Rattle.r4_extent_turned.specs.r4_extent_growth.r4_measure.r4_work.declared.working.WorkingSet.{WorkingSet}
use Rattle.r4_extent_put.specs.Putting.{CanPut, LeavesHaveRoom, most_put}
use Rattle.r4_extent_put.specs.Whole.{is_putting, put_keys, putting_among}
use Rattle.r4_extent_put.proofs.PutEach.{Taken, taken}

-- what the edits make of a node's units, where no body stands in extents afterwards
pub units_same : (b : Option Body) (e : Edits) (n : Node Value) → IsInLeaves b → units_after b e n ≡ units_after None e n
units_same b e n leaves = ap (λ (x : Edits). units_after None x n) (in_leaves_edits b e leaves)

module _ (b : Option Body) (e : Edits) (u : Budget) (t : Store Value) (r : Root) (f : Fresh) (cells : List CellSeen) (is : CanPut b e u t r f cells) (w0 : WorkingSet) (start : IsStart cells w0) where
  abbrev twigs : List CellSeen
  twigs = putting_among b e cells

  measured : IsMeasured t r f w0 u
  measured = start_measured cells w0 start t r f is.cells_in u is.measured

  stand : (c : CellSeen) → Contains cells c → Contains (standing w0) c
  stand = standing_in cells w0 start

  pub may_put : MayPutEach b e t r twigs f w0 u
  may_put = record {
    measured = measured;
    quiet = is.quiet;
    each = λ c at.
        let (among, on) = picked (is_putting b e) cells c at in
        record {
          stands = stand c among;
          sound = (is.twigs c at).takes.sound;
          level = eqb-true c.level 2 (and_parts (c.level == 2) (nat_lt 0 (put_among b e (node_of c))) on).0;
          free = (is.twigs c at).takes.free;
        };
    room = λ c at. (is.twigs c at).takes.room;
    come = λ c at. (is.twigs c at).come;
    names = have_names twigs (picked_apart (is_putting b e) cells (distinct cells is.names));
    unplaced = is.unplaced;
    numbers = let n = is.numbers in omega (arith, n);
  }

  pub can_twigs : CanPutEach b e t r twigs f w0
  can_twigs = can_each b e t r twigs f w0 u may_put

  room : LeavesHaveRoom b e cells → LeavesHaveRoom None e cells
  room has c at level met = subst (λ (us : List LeafUnit). leaf_bytes us ≤ 4068) (units_same b e (node_of c) is.in_leaves) (has c at level met)

  module _ (left : Fresh) (w1 : WorkingSet) (news : List CellSeen) (put : HasPutEach b e twigs f left w0 w1 news) where
    all : LeavesAll u t r f left w0 w1 news
    all = leaves_each b e t r twigs news f left w0 w1 u may_put put

    took : Taken b e twigs f left news
    took = taken b e twigs news f left w0 w1 put

    goes_on : (c : CellSeen) → Contains cells c → c.level ≡ 1 → GoesOn w1 c
    goes_on c at one = (c, all.leaves c (stand c at) one, record { id = refl; level = refl; lo = refl; hi = omega arith; block = refl })

    pub left_low : 2 ^ 63 ≤ left.next
    left_low = let n = all.rises in let low = is.unplaced.0 in omega (arith, n, low)

    left_high : left.end < 2 ^ 64
    left_high = let n = took.end in let high = is.unplaced.1 in omega (arith, n, high)

    left_enough : left.next + 64 * length cells ≤ left.end
    left_enough = let n = took.next in let z = took.end in let m = is.numbers in omega (arith, n, z, m)

    pub left_ends : left.next ≤ left.end
    left_ends = let n = left_enough in omega (arith, n)

    pub left_takes : (f.next ≤ left.next) × (left.end ≡ f.end)
    left_takes = (all.rises, took.end)

    pub left_working : IsWorking t r left w1
    left_working = all.measured.working

    few_leaves : LeavesHaveRoom b e cells → MakeAtMost (most_put b e u r cells) t r e cells left w1
    few_leaves has =
        let a = start_few cells w0 start t r f is.cells_in u is.measured in
        let g = all.few in
        let n = took.few in
        few_made e t r left w1 all.left all.measured cells is.names goes_on (room has) left_low left_high left_enough (most_put b e u r cells) (omega (arith, a, g, n))

    of_those : IsOf cells f.next left w1
    of_those = all.stays cells f.next (omega arith) (start_of cells w0 f start)

    twigs_change : Changes w0 w1 (is_put_in_each b e twigs) (set_by e)
    twigs_change = subst (λ (x : Edits). Changes w0 w1 (is_put_in_each b e twigs) (set_by x)) (in_leaves_edits b e is.in_leaves) (sets_each b e t r twigs news f left w0 w1 can_twigs put)

    module _ (g : Fresh) (now : WorkingSet) (made : AreMadeIn t r e cells left g w1 now) where
      pub few_put : LeavesHaveRoom b e cells → length now.change.new ≤ most_put b e u r cells
      few_put has = few_new (most_put b e u r cells) t r g now made.working (made.few (most_put b e u r cells) (few_leaves has))

      pub of_cells : IsOf cells f.next g now
      of_cells = made.stays cells f.next all.rises of_those

      pub effect_is : HasNoEffect w0 → HasEffect (patch_of_change now.change) (put_keys b e cells) (set_by e)
      effect_is none =
          let one : ℕ → Bool = is_put_in_each b e twigs in
          let two : ℕ → Bool = changed_among e cells in
          same_effect (patch_of_change now.change) (λ k. one k || two k) (put_keys b e cells) (set_by e) (set_by e)
          (changes_all w0 now (λ k. one k || two k) (set_by e) none (changes_both w0 w1 now one two (set_by e) twigs_change made.changes))
          (λ k. or_comm (two k) (one k))
          (λ k on. refl)
