-- What the calls of the change say, one after the other, and what follows of them.
use Rattle.std.proofs.Common.{◌≡◌, ◌^◌, ◌≤◌, List, length, refl, sym, ap, subst, ◌∙◌, arith}
use Rattle.std.specs.Prelude.{None, Option, Some, if◌then◌else◌}
use Rattle.r4_base.specs.Tree.{Root, Store}
use Rattle.r4_base.specs.Value.{Value}
use Rattle.r4_content.specs.Edited.{Edits}
use Rattle.r4_extent_among.specs.AmongEach.{CanPutEach, HasPutEach}
use Rattle.r4_extent_turned.specs.r4_extent_growth.r4_build.Making.{AreMadeIn, IsOf}
use Rattle.r4_extent_turned.specs.r4_extent_growth.r4_extent_demands.Sizes.{end_of_bytes}
use Rattle.r4_extent_turned.specs.r4_extent_growth.r4_extent_demands.r4_leaf_demands.Leaves.{IsInLeaves}
use Rattle.r4_extent_turned.specs.r4_extent_growth.r4_leaf_edits.Suiting.{SuitLeaves}
use Rattle.r4_extent_turned.specs.r4_extent_growth.r4_measure.Budget.{Budget}
use Rattle.r4_extent_turned.specs.r4_extent_growth.r4_measure.r4_cell.Seen.{CellSeen}
use Rattle.r4_extent_turned.specs.r4_extent_growth.r4_measure.r4_cell.declared.change.Fresh.{Fresh}
use Rattle.r4_extent_turned.specs.r4_extent_growth.r4_measure.r4_patch.Effect.{HasEffect}
use Rattle.r4_extent_turned.specs.r4_extent_growth.r4_measure.r4_patch.Joining.{patch_of_change}
use Rattle.r4_extent_turned.specs.r4_extent_growth.r4_measure.r4_path.Steps.{OnlyTakes}
use Rattle.r4_extent_turned.specs.r4_extent_growth.r4_measure.r4_reach.Touched.{Body}
use Rattle.r4_extent_turned.specs.r4_extent_growth.r4_measure.r4_work.Working.{HasNoEffect, IsStart, IsWorking}
use Rattle.r4_extent_turned.specs.r4_extent_growth.r4_measure.r4_work.declared.working.WorkingSet.{WorkingSet}
use Rattle.r4_extent_turned.specs.r4_extent_growth.r4_build.Building.{set_by}
use Rattle.r4_extent_put.specs.Putting.{CanPut, LeavesHaveRoom, most_put}
use Rattle.r4_extent_put.specs.Whole.{put_keys, putting_among}
use Rattle.r4_extent_put.proofs.PutWhole.{can_twigs, left_ends, left_low, left_takes}
use Rattle.r4_extent_put.proofs.PutWhole.{effect_is as effect_of, few_put as few_of, left_working as working_left, of_cells as cells_of}

-- where bytes end that leaves get, if no body stands in extents afterwards
pub end_is : (b : Option Body) → IsInLeaves b → end_of_bytes b ≡ 16384
end_is None h = refl
end_is (Some b) h = ap (λ t. if t then 2 ^ 30 else 16384) h

pub suits : (b : Option Body) (e : Edits) → IsInLeaves b → SuitLeaves (end_of_bytes b) e → SuitLeaves 16384 e
suits b e leaves h = subst (λ n. SuitLeaves n e) (end_is b leaves) h

-- the set that starts, the one in which the twigs had their turns, the numbers that are left, and the leaves that came
pub record Put (b : Option Body) (e : Edits) (f : Fresh) (cells : List CellSeen) (w0 w1 : WorkingSet) (those : List CellSeen) (left : Fresh) (news : List CellSeen) : Type 0 where
  pub start : IsStart cells w0
  pub none : HasNoEffect w0
  pub twigs : those ≡ putting_among b e cells
  pub put : HasPutEach b e those f left w0 w1 news

pub may_each : (b : Option Body) (e : Edits) (f : Fresh) (cells : List CellSeen) (w0 : WorkingSet) (start : IsStart cells w0) (u : Budget) (t : Store Value) (r : Root) → CanPut b e u t r f cells
    → (those : List CellSeen) → those ≡ putting_among b e cells → CanPutEach b e t r those f w0
may_each b e f cells w0 start u t r can those same = subst (λ xs. CanPutEach b e t r xs f w0) (sym same) (can_twigs b e u t r f cells can w0 start)

module _ (b : Option Body) (e : Edits) (f : Fresh) (cells : List CellSeen) (w0 w1 : WorkingSet) (those : List CellSeen) (left : Fresh) (news : List CellSeen) (done : Put b e f cells w0 w1 those left news) (u : Budget) (t : Store Value) (r : Root) (can : CanPut b e u t r f cells) where
  all_put : HasPutEach b e (putting_among b e cells) f left w0 w1 news
  all_put = subst (λ xs. HasPutEach b e xs f left w0 w1 news) done.twigs done.put

  pub left_numbers : (2 ^ 63 ≤ left.next) × (left.next ≤ left.end)
  left_numbers = (
    left_low b e u t r f cells can w0 done.start left w1 news all_put,
    left_ends b e u t r f cells can w0 done.start left w1 news all_put,
  )

  pub left_working : IsWorking t r left w1
  left_working = working_left b e u t r f cells can w0 done.start left w1 news all_put

  -- the numbers that all steps take
  pub takes_more : (g : Fresh) → OnlyTakes left g → OnlyTakes f g
  takes_more g takes =
      let (n, z) = left_takes b e u t r f cells can w0 done.start left w1 news all_put in
      (omega (arith, n, takes), omega (arith, takes), takes.2 ∙ z)

  module _ (g : Fresh) (now : WorkingSet) (made : AreMadeIn t r e cells left g w1 now) where
    pub few_put : LeavesHaveRoom b e cells → length now.change.new ≤ most_put b e u r cells
    few_put = few_of b e u t r f cells can w0 done.start left w1 news all_put g now made

    pub of_cells : IsOf cells f.next g now
    of_cells = cells_of b e u t r f cells can w0 done.start left w1 news all_put g now made

    pub effect_is : HasEffect (patch_of_change now.change) (put_keys b e cells) (set_by e)
    effect_is = effect_of b e u t r f cells can w0 done.start left w1 news all_put g now made done.none
