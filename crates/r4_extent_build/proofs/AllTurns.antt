-- What the turns of several twigs do to units.
use Rattle.std.proofs.Common.{◌≡◌, inl, inr, ℕ, ◌≤◌, Bool, false, List, [], ◌∷◌, length, refl, sym, ap, subst, ◌∙◌, arith}
use Rattle.std.specs.Prelude.{◌↔◌, Option}
use Rattle.r4_base.specs.Tree.{Holds, Node, Root, Store}
use Rattle.r4_base.specs.Value.{Value}
use Rattle.r4_base.specs.declared.key.Key.{Key}
use Rattle.r4_extent_demands.specs.r4_branch.Pieces.{units_of}
use Rattle.r4_extent_demands.specs.r4_branch.declared.piece.TwigPiece.{TwigPiece}
use Rattle.r4_extent_demands.specs.r4_cell.Seen.{CellSeen, node_of}
use Rattle.r4_extent_demands.specs.r4_cell.declared.change.Fresh.{Fresh}
use Rattle.r4_content.specs.Edited.{Edits}
use Rattle.r4_twig_turns.specs.r4_measure.Grafting.{Beside, comes_below}
use Rattle.r4_twig_turns.specs.r4_patch.Effect.{Placed}
use Rattle.r4_extent_demands.proofs.r4_patch.Members.{here, later}
use Rattle.r4_extent_demands.specs.r4_reach.Touched.{Body}
use Rattle.r4_twig_turns.specs.Turning.{CanRegraftAll, TurnAtMost, TwigTurn, behind}
use Rattle.r4_twig_turns.specs.r4_twig_work.Regrafting.{SetsBelow, StandsBelow}
use Rattle.r4_twig_turns.specs.r4_work.Remaking.{Changes}
use Rattle.r4_twig_turns.specs.r4_work.Working.{IsWorking, standing}
use Rattle.r4_twig_turns.specs.r4_work.declared.working.WorkingSet.{WorkingSet}
use Rattle.r4_extent_build.proofs.Changing.{changes_both, changes_none}
use Rattle.r4_extent_build.specs.Growing.{IsGrowing}
use Rattle.r4_extent_build.specs.Looping.{AreKeysOfEach, AreTurned, behind_all, keys_of_each, turns_of}
use Rattle.r4_extent_build.specs.Setting.{bytes_after}
use Rattle.r4_extent_build.specs.Turns.{growing_turn}
use Rattle.r4_extent_build.proofs.TurnSets.{sets_below}

-- another cell of the same node
other_cell : (c twig : CellSeen) (qs : List TwigPiece) (x : Beside) (at : ℕ → Bool) (to : ℕ → Option (Placed Value)) → node_of twig ≡ node_of c → SetsBelow c qs x at to → SetsBelow twig qs x at to
other_cell c twig qs x at to same s = record {
  held = λ k h. let (z, in_it, holds) = s.held k h in elim in_it [
    | inl m ↦ (z, inl m, holds)
    | inr is ↦ (twig, inr refl, subst (λ (y : Node Value). Holds y k) (ap node_of is ∙ sym same) holds)
  ];
  there = s.there;
  others = λ k u h. subst (λ (y : Node Value). StandsBelow (comes_below x) (units_of qs) k u ↔ StandsBelow x.below.old y.units k u) (sym same) (s.others k u h);
}

pub all_set : (b : Body) (first : Key) (e : Edits) (t : Store Value) (r : Root) (twigs : List CellSeen) (f : Fresh) (w now : WorkingSet) (at : CellSeen → ℕ → Bool) → IsGrowing b first → AreKeysOfEach b e twigs at → CanRegraftAll t r (turns_of b e twigs) f w → 1 ≤ f.next
    → AreTurned t r (turns_of b e twigs) f w now → Changes w now (keys_of_each at twigs) (bytes_after e)
all_set b first e t r [] f w now at growing keys can some is = subst (λ v. Changes w v (λ k. false) (bytes_after e)) (sym is) (changes_none w (bytes_after e))
all_set b first e t r (c ∷ cs) f w now at growing keys can some (after, (v, turned, does, rest)) =
    let same = can.1 turned.twig turned.ups turned.path in
    let one = does turned.twig turned.ups (at c) (bytes_after e) turned.path
    (other_cell c turned.twig ((growing_turn b e c).pieces f.next) ((growing_turn b e c).beside f.next) (at c) (bytes_after e) same (sets_below b first e c growing (keys.clear c (here c cs)) (at c) (keys.keys c (here c cs)) f.next some)) in
    let more = all_set b first e t r cs (behind (growing_turn b e c) f) v now at growing
    (record { clear = λ d m. keys.clear d (later c d cs m); keys = λ d m. keys.keys d (later c d cs m) }) (can.2 after v turned) (omega (arith, some)) rest in
    changes_both w v now (at c) (keys_of_each at cs) (bytes_after e) one more

pub all_left : (most : ℕ) (t : Store Value) (r : Root) (es : List TwigTurn) (f : Fresh) (w now : WorkingSet) → TurnAtMost most t r es f w → AreTurned t r es f w now → IsWorking t r (behind_all es f) now × (length (standing now) ≤ most)
all_left most t r [] f w now few is = subst (λ v. IsWorking t r f v × (length (standing v) ≤ most)) (sym is) few
all_left most t r (e ∷ es) f w now few (after, (v, turned, does, rest)) = all_left most t r es (behind e f) v now (few after v turned) rest
