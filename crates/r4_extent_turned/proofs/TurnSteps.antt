-- What the calls of the change of a body that comes to extents say, one after the other, and what follows of them.
use Rattle.std.proofs.Common.{◌≡◌, ◌^◌, ◌+◌, ◌≤◌, List, ◌++◌, length, sym, ap, subst, ◌∙◌, arith}
use Rattle.r4_base.specs.Tree.{Root, Store}
use Rattle.r4_base.specs.Value.{Value}
use Rattle.r4_content.specs.Edited.{Edits}
use Rattle.r4_extent_shrink.specs.r4_extent_growth.r4_build.Making.{AreMadeIn, CanMake, IsOf}
use Rattle.r4_extent_shrink.specs.r4_extent_growth.r4_extent_build.Looping.{AreTurned}
use Rattle.r4_extent_shrink.specs.r4_extent_growth.r4_extent_build.r4_twig_turns.Turning.{behind}
use Rattle.r4_extent_shrink.specs.r4_extent_growth.r4_extent_change.Beside.{without_bytes}
use Rattle.r4_extent_shrink.specs.r4_extent_growth.r4_measure.Budget.{Budget}
use Rattle.r4_extent_shrink.specs.r4_extent_growth.r4_measure.r4_cell.Seen.{CellSeen}
use Rattle.r4_extent_shrink.specs.r4_extent_growth.r4_measure.r4_cell.declared.change.Fresh.{Fresh}
use Rattle.r4_extent_shrink.specs.r4_extent_growth.r4_measure.r4_patch.Effect.{HasEffect}
use Rattle.r4_extent_shrink.specs.r4_extent_growth.r4_measure.r4_patch.Following.{without}
use Rattle.r4_extent_shrink.specs.r4_extent_growth.r4_measure.r4_patch.Joining.{ids_of, patch_of_change}
use Rattle.r4_extent_shrink.specs.r4_extent_growth.r4_measure.r4_path.Steps.{OnlyTakes}
use Rattle.r4_extent_shrink.specs.r4_extent_growth.r4_measure.r4_reach.Touched.{Body}
use Rattle.r4_extent_shrink.specs.r4_extent_growth.r4_measure.r4_work.Working.{HasNoEffect, IsStart}
use Rattle.r4_extent_shrink.specs.r4_extent_growth.r4_measure.r4_work.declared.working.WorkingSet.{WorkingSet}
use Rattle.r4_extent_turn.specs.Turning.{Turn, blocks_turned, kept_cells, leaves_of, numbered, turning_turn}
use Rattle.r4_extent_turn.specs.TurningIn.{HasTurnedOut, turn_from, turns_to}
use Rattle.r4_extent_turn.proofs.GivenLeaves.{leaves_given}
use Rattle.r4_extent_turned.specs.Whole.{CanTurn, cells_after, most_turned, turned_keys, turned_values}
use Rattle.r4_extent_turned.proofs.TurnWhole.{can_leaves, can_out, few_turned as few_of, left_ends, left_low}
use Rattle.r4_extent_turned.proofs.TurnWhole.{effect_is as effect_of, of_cells as cells_of}

-- the set that starts, the one in which the twig had its turn, what stays of the leaves and stands beside the other
-- cells, and the numbers that are left
pub record TurnedOnce (b : Body) (e : Edits) (f : Fresh) (cells : List CellSeen) (twig : CellSeen) (leaves : List CellSeen) (w0 w1 : WorkingSet) (kept after : List CellSeen) (left : Fresh) : Type 0 where
  pub start : IsStart cells w0
  pub none : HasNoEffect w0
  pub out : HasTurnedOut b e (turn_from twig leaves) f left w0 w1 kept
  pub after_is : after ≡ without (ids_of leaves) cells ++ kept

-- the numbers that all steps take
pub takes_more : (b : Body) (e : Edits) (x : Turn) (f left g : Fresh) (w0 w1 : WorkingSet) (kept : List CellSeen) → HasTurnedOut b e x f left w0 w1 kept → OnlyTakes left g → OnlyTakes f g
takes_more b e x f left g w0 w1 kept out takes =
    let n = ap (λ (h : Fresh). h.next) out.left in
    let z = ap (λ (h : Fresh). h.end) out.left in
    (omega (arith, n, takes), omega (arith, takes), takes.2 ∙ z)

module _ (b : Body) (e : Edits) (f : Fresh) (cells : List CellSeen) (twig : CellSeen) (leaves : List CellSeen) (w0 w1 : WorkingSet) (kept after : List CellSeen) (left : Fresh) (once : TurnedOnce b e f cells twig leaves w0 w1 kept after left)
    (u : Budget) (t : Store Value) (r : Root) (can : CanTurn b e u t r f cells (turn_from twig leaves)) where
  abbrev x : Turn
  x = turn_from twig leaves

  turned : AreTurned t r (turns_to b e x once.out.kept) f w0 w1
  turned = once.out.turned t r (can_out b e u t r f cells x can w0 once.start)

  after_as : after ≡ cells_after x kept cells
  after_as = once.after_is ∙ ap (λ cs. without (ids_of cs) cells ++ kept) (leaves_given b twig leaves (can_out b e u t r f cells x can w0 once.start).turn)

  pub left_numbers : (2 ^ 63 ≤ left.next) × (left.next ≤ left.end)
  left_numbers =
      let low = left_low b e u t r f cells x can w0 once.start once.out.kept once.out.are w1 turned in
      let ends = left_ends b e u t r f cells x can w0 once.start once.out.kept once.out.are w1 turned in
      let n = ap (λ (g : Fresh). g.next) once.out.left in
      let m = ap (λ (g : Fresh). g.end) once.out.left in
      (omega (arith, low, n), omega (arith, ends, n, m))

  module _ (edits : Edits) (same : edits ≡ without_bytes e) where
    abbrev those : List CellSeen
    those = cells_after x kept cells

    pub may_make : CanMake t r edits after left w1
    may_make =
        subst (λ cs. CanMake t r edits cs left w1) (sym after_as)
        (subst (λ y. CanMake t r y those left w1) (sym same)
        (subst (λ g. CanMake t r (without_bytes e) those g w1) (sym once.out.left)
        (subst (λ cs. CanMake t r (without_bytes e) (cells_after x cs cells) (behind (turning_turn b e x once.out.kept) f) w1) (sym once.out.cells_are)
        (can_leaves b e u t r f cells x can w0 once.start once.out.kept once.out.are w1 turned))))

    module _ (g : Fresh) (now : WorkingSet) (made : AreMadeIn t r edits after left g w1 now) where
      made_as : AreMadeIn t r (without_bytes e) (cells_after x (kept_cells (numbered x (f.next + blocks_turned b e) once.out.kept)) cells) (behind (turning_turn b e x once.out.kept) f) g w1 now
      made_as =
          subst (λ cs. AreMadeIn t r (without_bytes e) (cells_after x cs cells) (behind (turning_turn b e x once.out.kept) f) g w1 now) once.out.cells_are
          (subst (λ h. AreMadeIn t r (without_bytes e) those h g w1 now) once.out.left
          (subst (λ y. AreMadeIn t r y those left g w1 now) same
          (subst (λ cs. AreMadeIn t r edits cs left g w1 now) after_as made)))

      pub few_turned : length now.change.new + length (leaves_of x) ≤ most_turned b e u r cells x
      few_turned = few_of b e u t r f cells x can w0 once.start once.out.kept once.out.are w1 turned g now made_as

      pub of_cells : IsOf cells f.next g now
      of_cells = cells_of b e u t r f cells x can w0 once.start once.out.kept once.out.are w1 turned g now made_as

      pub effect_is : HasEffect (patch_of_change now.change) (turned_keys b e) (turned_values b e x)
      effect_is = effect_of b e u t r f cells x can w0 once.start once.out.kept once.out.are w1 turned g now made_as once.none
