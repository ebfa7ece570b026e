-- What the turn of a twig of a body that comes to extents does in a working set.
use Rattle.std.proofs.Common.{◌≡◌, inl, inr, ℕ, Bool, List, refl, sym, ap, subst, ◌∙◌}
use Rattle.std.specs.Prelude.{◌↔◌, Option}
use Rattle.r4_base.specs.Tree.{Holds, Node, Root, Store}
use Rattle.r4_base.specs.Value.{Value}
use Rattle.r4_build.specs.r4_branch.Pieces.{units_of}
use Rattle.r4_build.specs.r4_branch.declared.piece.TwigPiece.{TwigPiece}
use Rattle.r4_extent_build.specs.r4_cell.Seen.{CellSeen, node_of}
use Rattle.r4_extent_build.specs.r4_cell.declared.change.Fresh.{Fresh}
use Rattle.r4_content.specs.Edited.{Edits}
use Rattle.r4_build.specs.r4_measure.Grafting.{Beside, comes_below}
use Rattle.r4_build.specs.r4_patch.Effect.{Placed}
use Rattle.r4_build.specs.r4_reach.Touched.{Body}
use Rattle.r4_extent_build.specs.r4_twig_work.Regrafting.{SetsBelow, StandsBelow}
use Rattle.r4_build.specs.r4_work.Remaking.{Changes}
use Rattle.r4_build.specs.r4_work.declared.working.WorkingSet.{WorkingSet}
use Rattle.r4_extent_build.specs.Looping.{AreTurned}
use Rattle.r4_extent_turn.specs.Turning.{AreKept, Kept, Turn, in_turned, turned_values, turning_turn}
use Rattle.r4_extent_turn.specs.TurningIn.{CanTurnOut, turns_to}
use Rattle.r4_extent_turn.proofs.SetsBytes.{sets_below}

-- another cell of the same node
other_cell : (c twig : CellSeen) (qs : List TwigPiece) (x : Beside) (at : ℕ → Bool) (to : ℕ → Option (Placed Value)) → node_of twig ≡ node_of c → SetsBelow c qs x at to → SetsBelow twig qs x at to
other_cell c twig qs x at to same s = record {
  held = λ k h. let (z, in_it, holds) = s.held k h in elim in_it [
    | inl m ↦ (z, inl m, holds)
    | inr is ↦ (twig, inr refl, subst (λ (y : Node Value). Holds y k) (ap node_of is ∙ sym same) holds)
  ];
  there = s.there;
  others = λ k u h. subst (λ (y : Node Value). StandsBelow (comes_below x) (units_of qs) k u ↔ StandsBelow x.below.old y.units k u) (sym same) (s.others k u h);
}

pub set_turned : (b : Body) (e : Edits) (t : Store Value) (r : Root) (x : Turn) (s : Kept) (f : Fresh) (w now : WorkingSet) → CanTurnOut b e t r x f w → AreKept b x s
    → AreTurned t r (turns_to b e x s) f w now → Changes w now (in_turned b) (turned_values b e x)
set_turned b e t r x s f w now can k (after, (v, turned, does, rest)) =
    let same = (can.turns s k).1 turned.twig turned.ups turned.path in
    subst (λ z. Changes w z (in_turned b) (turned_values b e x)) (sym rest)
    (does turned.twig turned.ups (in_turned b) (turned_values b e x) turned.path
    (other_cell x.twig turned.twig ((turning_turn b e x s).pieces f.next) ((turning_turn b e x s).beside f.next) (in_turned b) (turned_values b e x) same
    (sets_below b x can.turn s k can.first can.turning e f.next can.low)))
