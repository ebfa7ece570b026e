-- What the turns of several twigs of which blocks go do to units.
use Rattle.std.proofs.Common.{◌≡◌, inl, inr, ℕ, ◌^◌, ◌≤◌, Bool, false, List, [], ◌∷◌, refl, sym, ap, subst, ◌∙◌, arith}
use Rattle.std.specs.Prelude.{◌↔◌, Contains, Option}
use Rattle.r4_base.specs.Tree.{Holds, Node, Root, Store}
use Rattle.r4_base.specs.Value.{Value}
use Rattle.r4_base.specs.declared.key.Key.{Key}
use Rattle.r4_extent_build.specs.r4_branch.Pieces.{units_of}
use Rattle.r4_extent_build.specs.r4_branch.declared.piece.TwigPiece.{TwigPiece}
use Rattle.r4_extent_build.specs.r4_cell.Seen.{CellSeen, node_of}
use Rattle.r4_extent_build.specs.r4_cell.declared.change.Fresh.{Fresh}
use Rattle.r4_content.specs.Edited.{Edits}
use Rattle.r4_extent_build.specs.r4_measure.Grafting.{Beside, comes_below}
use Rattle.r4_extent_build.specs.r4_patch.Effect.{Placed}
use Rattle.r4_extent_build.proofs.r4_patch.Members.{here, later}
use Rattle.r4_extent_build.specs.r4_reach.Touched.{Body}
use Rattle.r4_extent_build.specs.r4_twig_turns.Turning.{CanRegraftAll, behind}
use Rattle.r4_extent_build.specs.r4_twig_work.Regrafting.{SetsBelow, StandsBelow}
use Rattle.r4_extent_build.specs.r4_work.Remaking.{Changes}
use Rattle.r4_extent_build.specs.r4_work.declared.working.WorkingSet.{WorkingSet}
use Rattle.r4_extent_build.proofs.Changing.{changes_both, changes_none}
use Rattle.r4_extent_build.specs.Looping.{AreTurned}
use Rattle.r4_extent_loss.specs.Losing.{IsLosing, IsLossOf, Loss, in_gone, losing_turn, no_value}
use Rattle.r4_extent_loss.specs.LosingEach.{gone_of_each, losing_turns}
use Rattle.r4_extent_loss.proofs.LosingSets.{sets_below}

-- another cell of the same node
other_cell : (c twig : CellSeen) (qs : List TwigPiece) (x : Beside) (at : ℕ → Bool) (to : ℕ → Option (Placed Value)) → node_of twig ≡ node_of c → SetsBelow c qs x at to → SetsBelow twig qs x at to
other_cell c twig qs x at to same s = record {
  held = λ k h. let (z, in_it, holds) = s.held k h in elim in_it [
    | inl m ↦ (z, inl m, holds)
    | inr is ↦ (twig, inr refl, subst (λ (y : Node Value). Holds y k) (ap node_of is ∙ sym same) holds)
  ];
  there = s.there;
  others = λ k u h. subst (λ (y : Node Value). StandsBelow (comes_below x) (units_of qs) k u ↔ StandsBelow x.below.old y.units k u) (sym same) (s.others k u h);
}

pub all_lost : (b : Body) (first : Key) (e : Edits) → IsLosing b first e → (t : Store Value) (r : Root) (xs : List Loss) (f : Fresh) (w now : WorkingSet) → ((x : Loss) → Contains xs x → IsLossOf b x)
    → CanRegraftAll t r (losing_turns b e xs) f w → 2 ^ 63 ≤ f.next → AreTurned t r (losing_turns b e xs) f w now → Changes w now (gone_of_each b xs) no_value
all_lost b first e losing t r [] f w now each can low is = subst (λ v. Changes w v (λ k. false) no_value) (sym is) (changes_none w no_value)
all_lost b first e losing t r (x ∷ xs) f w now each can low (after, (v, turned, does, rest)) =
    let same = can.1 turned.twig turned.ups turned.path in
    let one = does turned.twig turned.ups (in_gone b x.twig) no_value turned.path
    (other_cell x.twig turned.twig ((losing_turn b e x).pieces f.next) ((losing_turn b e x).beside f.next) (in_gone b x.twig) no_value same (sets_below b x (each x (here x xs)) first e losing f.next low)) in
    let more = all_lost b first e losing t r xs (behind (losing_turn b e x) f) v now (λ y m. each y (later x y xs m)) (can.2 after v turned) (omega (arith, low)) rest in
    changes_both w v now (in_gone b x.twig) (gone_of_each b xs) no_value one more
