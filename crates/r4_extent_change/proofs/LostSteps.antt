-- What the calls of the change of a body that loses blocks say, one after the other, and what follows of them.
use Rattle.std.proofs.Common.{◌≡◌, ◌^◌, ◌≤◌, List, length, sym, ap, subst, ◌∙◌, arith}
use Rattle.r4_base.specs.Tree.{Root, Store}
use Rattle.r4_base.specs.Value.{Value}
use Rattle.r4_build.specs.Making.{AreMadeIn, CanMake, IsOf}
use Rattle.r4_content.specs.Edited.{Edits}
use Rattle.r4_extent_loss.specs.r4_extent_build.Looping.{AreTurned, behind_all}
use Rattle.r4_extent_loss.specs.Losing.{Loss}
use Rattle.r4_extent_loss.specs.LosingEach.{CanLoseAll, losing_turns}
use Rattle.r4_build.specs.r4_measure.Budget.{Budget}
use Rattle.r4_build.specs.r4_measure.r4_cell.Seen.{CellSeen}
use Rattle.r4_build.specs.r4_measure.r4_cell.declared.change.Fresh.{Fresh}
use Rattle.r4_build.specs.r4_measure.r4_patch.Effect.{HasEffect}
use Rattle.r4_build.specs.r4_measure.r4_patch.Joining.{patch_of_change}
use Rattle.r4_build.specs.r4_measure.r4_reach.Touched.{Body}
use Rattle.r4_build.specs.r4_measure.r4_work.Working.{HasNoEffect, IsStart}
use Rattle.r4_build.specs.r4_measure.r4_work.declared.working.WorkingSet.{WorkingSet}
use Rattle.r4_extent_change.specs.Among.{losses_among}
use Rattle.r4_extent_change.specs.Beside.{without_bytes}
use Rattle.r4_extent_change.specs.Losing.{CanLose, lost_keys, lost_values, most_lost}
use Rattle.r4_extent_change.proofs.LostWhole.{can_leaves, can_losses, left_ends, left_low}
use Rattle.r4_extent_change.proofs.LostWhole.{effect_is as effect_of, few_lost as few_of, of_cells as cells_of}

-- the set that starts, the one in which the twigs had their turns, and the numbers that are left
pub record Lost (b : Body) (e : Edits) (f : Fresh) (cells : List CellSeen) (w0 w1 : WorkingSet) (those : List Loss) (left : Fresh) : Type 0 where
  pub start : IsStart cells w0
  pub none : HasNoEffect w0
  pub losses : those ≡ losses_among b cells
  pub turned : (t : Store Value) (r : Root) → CanLoseAll b e t r those f w0 → AreTurned t r (losing_turns b e those) f w0 w1
  pub left_is : left ≡ behind_all (losing_turns b e those) f

pub may_regraft : (b : Body) (e : Edits) (f : Fresh) (cells : List CellSeen) (w0 : WorkingSet) (start : IsStart cells w0) (u : Budget) (t : Store Value) (r : Root) → CanLose b e u t r f cells
    → (those : List Loss) → those ≡ losses_among b cells → CanLoseAll b e t r those f w0
may_regraft b e f cells w0 start u t r can those same = subst (λ xs. CanLoseAll b e t r xs f w0) (sym same) (can_losses b e u t r f cells can w0 start)

module _ (b : Body) (e : Edits) (f : Fresh) (cells : List CellSeen) (w0 w1 : WorkingSet) (those : List Loss) (left : Fresh) (lost : Lost b e f cells w0 w1 those left) (u : Budget) (t : Store Value) (r : Root) (can : CanLose b e u t r f cells) where
  all_turned : AreTurned t r (losing_turns b e (losses_among b cells)) f w0 w1
  all_turned = subst (λ xs. AreTurned t r (losing_turns b e xs) f w0 w1) lost.losses (lost.turned t r (may_regraft b e f cells w0 lost.start u t r can those lost.losses))

  left_as : left ≡ behind_all (losing_turns b e (losses_among b cells)) f
  left_as = lost.left_is ∙ ap (λ xs. behind_all (losing_turns b e xs) f) lost.losses

  pub left_numbers : (2 ^ 63 ≤ left.next) × (left.next ≤ left.end)
  left_numbers =
      let low = left_low b e u t r f cells can w0 lost.start w1 all_turned in
      let ends = left_ends b e u t r f cells can w0 lost.start w1 all_turned in
      let n = ap (λ (g : Fresh). g.next) left_as in
      let m = ap (λ (g : Fresh). g.end) left_as in
      (omega (arith, low, n), omega (arith, ends, n, m))

  module _ (x : Edits) (same : x ≡ without_bytes e) where
    pub may_make : CanMake t r x cells left w1
    may_make = subst (λ y. CanMake t r y cells left w1) (sym same) (subst (λ g. CanMake t r (without_bytes e) cells g w1) (sym left_as) (can_leaves b e u t r f cells can w0 lost.start w1 all_turned))

    module _ (g : Fresh) (now : WorkingSet) (made : AreMadeIn t r x cells left g w1 now) where
      made_as : AreMadeIn t r (without_bytes e) cells (behind_all (losing_turns b e (losses_among b cells)) f) g w1 now
      made_as = subst (λ y. AreMadeIn t r y cells (behind_all (losing_turns b e (losses_among b cells)) f) g w1 now) same (subst (λ h. AreMadeIn t r x cells h g w1 now) left_as made)

      pub few_lost : length now.change.new ≤ most_lost b u r cells
      few_lost = few_of b e u t r f cells can w0 lost.start w1 all_turned g now made_as

      pub of_cells : IsOf cells f.next g now
      of_cells = cells_of b e u t r f cells can w0 lost.start w1 all_turned g now made_as

      pub effect_is : HasEffect (patch_of_change now.change) (lost_keys b e cells) (lost_values e)
      effect_is = effect_of b e u t r f cells can w0 lost.start w1 all_turned g now made_as lost.none
