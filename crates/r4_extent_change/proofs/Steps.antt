-- What the calls of the whole change say, one after the other, and what follows of them.
use Rattle.std.proofs.Common.{◌≡◌, ℕ, ◌^◌, ◌≤◌, Bool, List, length, sym, ap, subst, ◌∙◌, arith}
use Rattle.r4_base.specs.Tree.{Root, Store}
use Rattle.r4_base.specs.Value.{Value}
use Rattle.r4_build.proofs.Made.{few_new}
use Rattle.r4_build.specs.Making.{AreMadeIn, CanMake, IsOf}
use Rattle.r4_content.specs.Edited.{Edits}
use Rattle.r4_extent_loss.specs.r4_extent_build.Looping.{AreKeysOfEach, AreTurned, CanTurnAll, behind_all, turns_of}
use Rattle.r4_extent_renew.specs.Overwriting.{AreOverwritten, AreSetAmong, AreStandingCells, StaysMeasured, blocks_among, bytes_set, is_set_in}
use Rattle.r4_build.specs.r4_measure.Budget.{Budget}
use Rattle.r4_build.specs.r4_measure.Measured.{IsMeasured}
use Rattle.r4_build.specs.r4_measure.r4_cell.Seen.{CellSeen}
use Rattle.r4_build.specs.r4_measure.r4_cell.declared.change.Fresh.{Fresh}
use Rattle.r4_build.specs.r4_measure.r4_patch.Effect.{HasEffect}
use Rattle.r4_build.specs.r4_measure.r4_patch.Joining.{patch_of_change}
use Rattle.r4_build.specs.r4_measure.r4_path.Steps.{OnlyTakes}
use Rattle.r4_build.specs.r4_measure.r4_reach.Touched.{Body}
use Rattle.r4_build.specs.r4_measure.r4_work.Remaking.{Changes}
use Rattle.r4_build.specs.r4_measure.r4_work.Working.{HasNoEffect, IsStart}
use Rattle.r4_build.specs.r4_measure.r4_work.declared.working.WorkingSet.{WorkingSet}
use Rattle.r4_extent_loss.specs.r4_extent_build.r4_twig_turns.r4_twig_work.Renewing.{IsRenewed, StandAsBefore}
use Rattle.r4_extent_change.specs.Beside.{turning_among, without_bytes}
use Rattle.r4_extent_change.specs.Changing.{CanGrow, grown_keys, grown_values, most_grown}
use Rattle.r4_extent_change.proofs.AllTurned.{left_over}
use Rattle.r4_extent_change.proofs.Effects.{whole_effect}
use Rattle.r4_extent_change.proofs.Whole.{at_start, blocks_stand, can_leaves, can_twigs, few_leaves, left_ends, left_low, of_those, twigs_change}

-- the set that starts, and the one with other bytes in its blocks
pub record Begun (e : Edits) (cells : List CellSeen) (w0 w1 : WorkingSet) : Type 0 where
  pub start : IsStart cells w0
  pub none : HasNoEffect w0
  pub changes : Changes w0 w1 (is_set_in e (blocks_among cells)) (bytes_set e)
  pub renewed : (olds : List CellSeen) × ((news : List CellSeen) × (AreSetAmong e cells olds × (AreOverwritten e olds news
      × ((t : Store Value) (r : Root) (f : Fresh) → AreStandingCells t r f w0 cells → IsRenewed t r f w0 w1 olds news))))
  pub stand : StandAsBefore w0 w1
  pub measured : (t : Store Value) (r : Root) (f : Fresh) (u : Budget) → AreStandingCells t r f w0 cells → IsMeasured t r f w0 u → StaysMeasured t r f w0 w1 u

-- then the one in which the twigs had their turns, and the numbers that are left
pub record Turned (b : Body) (e : Edits) (f : Fresh) (cells : List CellSeen) (w1 w2 : WorkingSet) (those : List CellSeen) (left : Fresh) : Type 0 where
  pub twigs : those ≡ turning_among b e cells
  pub turned : (t : Store Value) (r : Root) → CanTurnAll b e t r those f w1 → AreTurned t r (turns_of b e those) f w1 w2
  pub left_is : left ≡ behind_all (turns_of b e those) f

module _ (b : Body) (e : Edits) (f : Fresh) (cells : List CellSeen) (w0 w1 : WorkingSet) (begun : Begun e cells w0 w1) where
  module _ (u : Budget) (t : Store Value) (r : Root) (can : CanGrow b e u t r f cells) where
    stands : AreStandingCells t r f w0 cells
    stands = blocks_stand b e u t r f cells can w0 begun.start

    stays : StaysMeasured t r f w0 w1 u
    stays = begun.measured t r f u stands (at_start b e u t r f cells can w0 begun.start)

    pub may_turn : (those : List CellSeen) → those ≡ turning_among b e cells → CanTurnAll b e t r those f w1
    may_turn those same =
        let (olds, (news, (among, (over, renewed)))) = begun.renewed in
        subst (λ cs. CanTurnAll b e t r cs f w1) (sym same) (can_twigs b e u t r f cells can w0 begun.start w1 stays olds news among (renewed t r f stands))

    module _ (those : List CellSeen) (w2 : WorkingSet) (left : Fresh) (then : Turned b e f cells w1 w2 those left) where
      all_turned : AreTurned t r (turns_of b e (turning_among b e cells)) f w1 w2
      all_turned = subst (λ cs. AreTurned t r (turns_of b e cs) f w1 w2) then.twigs (then.turned t r (may_turn those then.twigs))

      left_as : left ≡ behind_all (turns_of b e (turning_among b e cells)) f
      left_as = then.left_is ∙ ap (λ cs. behind_all (turns_of b e cs) f) then.twigs

      pub may_make : (x : Edits) → x ≡ without_bytes e → CanMake t r x cells left w2
      may_make x same =
          let (olds, (news, (among, (over, renewed)))) = begun.renewed in
          subst (λ y. CanMake t r y cells left w2) (sym same) (subst (λ g. CanMake t r (without_bytes e) cells g w2) (sym left_as)
          (can_leaves b e u t r f cells can w0 begun.start w1 stays olds news among (renewed t r f stands) w2 all_turned))

      pub left_numbers : (2 ^ 63 ≤ left.next) × (left.next ≤ left.end)
      left_numbers =
          let (olds, (news, (among, (over, renewed)))) = begun.renewed in
          let low = left_low b e u t r f cells can w0 begun.start w1 stays olds news among (renewed t r f stands) w2 all_turned in
          let ends = left_ends b e u t r f cells can w0 begun.start w1 stays olds news among (renewed t r f stands) w2 all_turned in
          let n = ap (λ (g : Fresh). g.next) left_as in
          let m = ap (λ (g : Fresh). g.end) left_as in
          (omega (arith, low, n), omega (arith, ends, n, m))

      module _ (x : Edits) (same : x ≡ without_bytes e) (g : Fresh) (now : WorkingSet) (made : AreMadeIn t r x cells left g w2 now) where
        pub few_grown : length now.change.new ≤ most_grown b e u r cells
        few_grown =
            let (olds, (news, (among, (over, renewed)))) = begun.renewed in
            let few = few_leaves b e u t r f cells can w0 begun.start w1 stays olds news among (renewed t r f stands) w2 all_turned in
            let is : AreMadeIn t r (without_bytes e) cells (behind_all (turns_of b e (turning_among b e cells)) f) g w2 now
            = subst (λ y. AreMadeIn t r y cells (behind_all (turns_of b e (turning_among b e cells)) f) g w2 now) same (subst (λ h. AreMadeIn t r x cells h g w2 now) left_as made) in
            few_new (most_grown b e u r cells) t r g now made.working (is.few (most_grown b e u r cells) few)

        pub of_cells : IsOf cells f.next g now
        of_cells =
            let (olds, (news, (among, (over, renewed)))) = begun.renewed in
            let was = of_those b e u t r f cells can w0 begun.start w1 stays olds news among (renewed t r f stands) w2 all_turned begun.stand in
            let n = (left_over (turns_of b e (turning_among b e cells)) f).0 in
            let m = ap (λ (h : Fresh). h.next) left_as in
            made.stays cells f.next (omega (arith, n, m)) (subst (λ h. IsOf cells f.next h w2) (sym left_as) was)

        pub effect_is : (at : CellSeen → ℕ → Bool) → AreKeysOfEach b e (turning_among b e cells) at → HasEffect (patch_of_change now.change) (grown_keys b e cells at) (grown_values e)
        effect_is at keys =
            let (olds, (news, (among, (over, renewed)))) = begun.renewed in
            let is : AreMadeIn t r (without_bytes e) cells left g w2 now = subst (λ y. AreMadeIn t r y cells left g w2 now) same made in
            whole_effect b e cells w0 w1 w2 now at begun.none begun.changes (twigs_change b e u t r f cells can w0 begun.start w1 stays olds news among (renewed t r f stands) w2 all_turned at keys) is.changes can.lie

-- the numbers that all steps take
pub takes_more : (b : Body) (e : Edits) (f : Fresh) (those : List CellSeen) (left g : Fresh) → left ≡ behind_all (turns_of b e those) f → OnlyTakes left g → OnlyTakes f g
takes_more b e f those left g is takes =
    let (n, m) = left_over (turns_of b e those) f in
    let a = ap (λ (h : Fresh). h.next) is in
    let z = ap (λ (h : Fresh). h.end) is in
    (omega (arith, n, a, takes), omega (arith, takes), takes.2 ∙ (z ∙ m))
