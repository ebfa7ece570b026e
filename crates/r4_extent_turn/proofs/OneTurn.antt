-- A twig at its turn, as it is packed anew with what was made for it.
use Rattle.std.proofs.Common.{◌≡◌, ℕ, ◌+◌, List, sym, ap, subst, ◌∙◌, refl, arith}
use Rattle.r4_base.specs.Tree.{Root, Store}
use Rattle.r4_base.specs.Value.{Value}
use Rattle.r4_build.specs.r4_branch.declared.piece.TwigPiece.{TwigPiece}
use Rattle.r4_extent_build.specs.r4_cell.Seen.{CellSeen}
use Rattle.r4_extent_build.specs.r4_cell.declared.change.Fresh.{Fresh}
use Rattle.r4_content.specs.Edited.{Edits}
use Rattle.r4_build.specs.r4_measure.Grafting.{Beside, IsRegrafted}
use Rattle.r4_build.specs.r4_reach.Touched.{Body}
use Rattle.r4_extent_build.specs.Looping.{AreTurned}
use Rattle.r4_extent_build.specs.r4_twig_turns.Turning.{IsTurned, TwigTurn, own_of}
use Rattle.r4_extent_build.specs.r4_twig_work.Regrafting.{DoesBelow, IsRegraftable}
use Rattle.r4_build.specs.r4_work.declared.working.WorkingSet.{WorkingSet}
use Rattle.r4_extent_turn.specs.Turning.{Turn, turning_turn}
use Rattle.r4_extent_turn.specs.TurningIn.{CanTurnOut, HasTurnedOut, IsMadeFor, turns_to}

module _ (b : Body) (e : Edits) (x : Turn) (f after : Fresh) (pieces : List TwigPiece) (beside : Beside) (cells : List CellSeen) (m : IsMadeFor b e x f after pieces beside cells) where
  abbrev turn : TwigTurn
  turn = turning_turn b e x m.kept

  abbrev own : Fresh
  own = record { next = after.next; end = after.next + 64 }

  own_is : own ≡ own_of turn f
  own_is =
      let n = ap (λ (g : Fresh). g.next) m.left in
      let a : after.next ≡ f.next + (turn.blocks + turn.leaves) = omega (arith, n) in
      let z : after.next + 64 ≡ f.next + (turn.blocks + (turn.leaves + 64)) = omega (arith, n) in
      λ i. record { next = a i; end = z i }

  module _ (t : Store Value) (r : Root) (w : WorkingSet) (can : CanTurnOut b e t r x f w) (key : ℕ) (key_is : key ≡ turn.key) (qs : List TwigPiece) (qs_are : qs ≡ pieces) where
    qs_is : qs ≡ turn.pieces f.next
    qs_is = qs_are ∙ m.pieces_are

    pub may_turn : IsRegraftable t r own w key qs beside (f.next + turn.blocks)
    may_turn = subst (λ g. IsRegraftable t r g w key qs beside (f.next + turn.blocks)) (sym own_is) (subst (λ k. IsRegraftable t r (own_of turn f) w k qs beside (f.next + turn.blocks)) (sym key_is)
        (subst (λ ps. IsRegraftable t r (own_of turn f) w turn.key ps beside (f.next + turn.blocks)) (sym qs_is) (subst (λ y. IsRegraftable t r (own_of turn f) w turn.key (turn.pieces f.next) y (f.next + turn.blocks)) (sym m.beside_is)
        (can.turns m.kept m.are).0)))

    pub are_turned : (left : Fresh) (v : WorkingSet) → IsRegrafted t r own left w v key qs beside → DoesBelow w v key qs beside → AreTurned t r (turns_to b e x m.kept) f w v
    are_turned left v made does =
        let is : IsTurned t r turn f left w v = subst (λ y. IsRegrafted t r (own_of turn f) left w v turn.key (turn.pieces f.next) y) m.beside_is (subst (λ ps. IsRegrafted t r (own_of turn f) left w v turn.key ps beside) qs_is
        (subst (λ k. IsRegrafted t r (own_of turn f) left w v k qs beside) key_is (subst (λ g. IsRegrafted t r g left w v key qs beside) own_is made))) in
        let did : DoesBelow w v turn.key (turn.pieces f.next) (turn.beside f.next) = subst (λ y. DoesBelow w v turn.key (turn.pieces f.next) y) m.beside_is (subst (λ ps. DoesBelow w v turn.key ps beside) qs_is (subst (λ k. DoesBelow w v k qs beside) key_is does)) in
        (left, (v, is, did, refl))

  pub has_turned : (w v : WorkingSet) (last : Fresh) → last ≡ record after { next = after.next + 64 } → ((t : Store Value) (r : Root) → CanTurnOut b e t r x f w → AreTurned t r (turns_to b e x m.kept) f w v)
      → HasTurnedOut b e x f last w v cells
  has_turned w v last last_is turned = record {
    kept = m.kept;
    are = m.are;
    turned = turned;
    cells_are = m.cells_are;
    left =
        let n = ap (λ (g : Fresh). g.next) m.left in
        let end = ap (λ (g : Fresh). g.end) m.left in
        let at : after.next + 64 ≡ f.next + (turn.blocks + (turn.leaves + 64)) = omega (arith, n) in
        last_is ∙ (λ i. record { next = at i; end = end i });
  }
