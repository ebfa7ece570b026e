-- The turns of several twigs of which blocks go, one after the other.
use Rattle.std.proofs.Common.{◌≡◌, ◌+◌, ◌≤◌, List, ◌∷◌, sym, subst, arith}
use Rattle.std.proofs.lemmas.List.Sums.{sum_by-cons}
use Rattle.r4_base.specs.Tree.{Root, Store}
use Rattle.r4_base.specs.Value.{Value}
use Rattle.r4_extent_build.specs.r4_cell.declared.change.Fresh.{Fresh}
use Rattle.r4_content.specs.Edited.{Edits}
use Rattle.r4_extent_build.proofs.r4_patch.Members.{here, later}
use Rattle.r4_extent_build.specs.r4_reach.Touched.{Body}
use Rattle.r4_extent_build.specs.r4_twig_turns.Turning.{IsTurned, TwigTurn, behind, own_of}
use Rattle.r4_extent_build.specs.r4_twig_work.Regrafting.{DoesBelow, IsRegraftable}
use Rattle.r4_extent_build.specs.r4_work.declared.working.WorkingSet.{WorkingSet}
use Rattle.r4_extent_build.specs.Looping.{AreTurned}
use Rattle.r4_extent_loss.specs.Losing.{IsLossOf, Loss, losing_turn}
use Rattle.r4_extent_loss.specs.LosingEach.{CanLoseAll, losing_turns}

module _ (b : Body) (e : Edits) (t : Store Value) (r : Root) (cs xs : List Loss) (x : Loss) (f : Fresh) (w : WorkingSet)
    (cs_is : cs ≡ x ∷ xs) where
  pub first_loss : CanLoseAll b e t r cs f w → IsLossOf b x
  first_loss can = (subst (λ zs. CanLoseAll b e t r zs f w) cs_is can).each x (here x xs)

  pub first_can : CanLoseAll b e t r cs f w → IsRegraftable t r (own_of (losing_turn b e x) f) w (losing_turn b e x).key
      ((losing_turn b e x).pieces f.next) ((losing_turn b e x).beside f.next) (f.next + (losing_turn b e x).blocks)
  first_can can = (subst (λ zs. CanLoseAll b e t r zs f w) cs_is can).turns.0

  pub first_numbers : CanLoseAll b e t r cs f w → f.next + ((losing_turn b e x).blocks + ((losing_turn b e x).leaves + 64)) ≤ f.end
  first_numbers can =
      let is = subst (λ zs. CanLoseAll b e t r zs f w) cs_is can in
      let n = sum_by-cons (λ (d : TwigTurn). d.blocks + (d.leaves + 64)) (losing_turn b e x) (losing_turns b e xs) in
      let numbers = is.numbers in
      omega (arith, n, numbers)

  pub rest_can : (f2 after : Fresh) (v : WorkingSet) → f2 ≡ behind (losing_turn b e x) f → IsTurned t r (losing_turn b e x) f after w v
      → CanLoseAll b e t r cs f w → CanLoseAll b e t r xs f2 v
  rest_can f2 after v f2_is turned can =
      let is = subst (λ zs. CanLoseAll b e t r zs f w) cs_is can in
      let n = sum_by-cons (λ (d : TwigTurn). d.blocks + (d.leaves + 64)) (losing_turn b e x) (losing_turns b e xs) in
      let low = is.low in
      let numbers = is.numbers in
      subst (λ g. CanLoseAll b e t r xs g v) (sym f2_is) (record {
        first = is.first;
        losing = is.losing;
        turns = is.turns.2 after v turned;
        each = λ c m. is.each c (later x c xs m);
        low = omega (arith, low);
        numbers = omega (arith, n, numbers);
      })

  pub all_turned : (f2 after : Fresh) (v now : WorkingSet) → f2 ≡ behind (losing_turn b e x) f → IsTurned t r (losing_turn b e x) f after w v
      → DoesBelow w v (losing_turn b e x).key ((losing_turn b e x).pieces f.next) ((losing_turn b e x).beside f.next)
      → AreTurned t r (losing_turns b e xs) f2 v now → AreTurned t r (losing_turns b e cs) f w now
  all_turned f2 after v now f2_is turned does rest =
      subst (λ zs. AreTurned t r (losing_turns b e zs) f w now) (sym cs_is)
      (after, (v, turned, does, subst (λ g. AreTurned t r (losing_turns b e xs) g v now) f2_is rest))
