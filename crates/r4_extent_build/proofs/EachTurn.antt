-- The turns of several twigs, one after the other.
use Rattle.std.proofs.Common.{◌≡◌, ◌+◌, List, ◌∷◌, sym, subst, arith}
use Rattle.std.proofs.lemmas.List.Sums.{sum_by-cons}
use Rattle.r4_base.specs.Tree.{Root, Store}
use Rattle.r4_base.specs.Value.{Value}
use Rattle.r4_extent_demands.specs.r4_cell.Seen.{CellSeen}
use Rattle.r4_extent_demands.specs.r4_cell.declared.change.Fresh.{Fresh}
use Rattle.r4_content.specs.Edited.{Edits}
use Rattle.r4_extent_demands.proofs.r4_patch.Members.{here, later}
use Rattle.r4_extent_demands.specs.r4_reach.Touched.{Body}
use Rattle.r4_twig_turns.specs.Turning.{IsTurned, TwigTurn, behind, own_of}
use Rattle.r4_twig_turns.specs.r4_twig_work.Regrafting.{DoesBelow, IsRegraftable}
use Rattle.r4_twig_turns.specs.r4_work.declared.working.WorkingSet.{WorkingSet}
use Rattle.r4_extent_build.specs.Looping.{AreTurned, CanTurnAll, IsTwigFor, turns_of}
use Rattle.r4_extent_build.specs.Turns.{growing_turn}

module _ (b : Body) (e : Edits) (t : Store Value) (r : Root) (cs xs : List CellSeen) (x y : CellSeen) (f : Fresh) (w : WorkingSet)
    (cs_is : cs ≡ x ∷ xs) (y_is : y ≡ x) where
  all_is : cs ≡ y ∷ xs
  all_is = subst (λ z. cs ≡ z ∷ xs) (sym y_is) cs_is

  pub first_twig : CanTurnAll b e t r cs f w → IsTwigFor b e y
  first_twig can = (subst (λ zs. CanTurnAll b e t r zs f w) all_is can).each y (here y xs)

  pub first_can : CanTurnAll b e t r cs f w → IsRegraftable t r (own_of (growing_turn b e y) f) w (growing_turn b e y).key
      ((growing_turn b e y).pieces f.next) ((growing_turn b e y).beside f.next) (f.next + (growing_turn b e y).blocks)
  first_can can = (subst (λ zs. CanTurnAll b e t r zs f w) all_is can).turns.0

  pub rest_can : (f2 after : Fresh) (v : WorkingSet) → f2 ≡ behind (growing_turn b e y) f → IsTurned t r (growing_turn b e y) f after w v
      → CanTurnAll b e t r cs f w → CanTurnAll b e t r xs f2 v
  rest_can f2 after v f2_is turned can =
      let is = subst (λ zs. CanTurnAll b e t r zs f w) all_is can in
      let n = sum_by-cons (λ (d : TwigTurn). d.blocks + (d.leaves + 64)) (growing_turn b e y) (turns_of b e xs) in
      let low = is.low in
      let numbers = is.numbers in
      subst (λ g. CanTurnAll b e t r xs g v) (sym f2_is) (record {
        turns = is.turns.2 after v turned;
        each = λ c m. is.each c (later y c xs m);
        low = omega (arith, low);
        numbers = omega (arith, n, numbers);
      })

  pub all_turned : (f2 after : Fresh) (v now : WorkingSet) → f2 ≡ behind (growing_turn b e y) f → IsTurned t r (growing_turn b e y) f after w v
      → DoesBelow w v (growing_turn b e y).key ((growing_turn b e y).pieces f.next) ((growing_turn b e y).beside f.next)
      → AreTurned t r (turns_of b e xs) f2 v now → AreTurned t r (turns_of b e cs) f w now
  all_turned f2 after v now f2_is turned does rest =
      subst (λ zs. AreTurned t r (turns_of b e zs) f w now) (sym all_is)
      (after, (v, turned, does, subst (λ g. AreTurned t r (turns_of b e xs) g v now) f2_is rest))
