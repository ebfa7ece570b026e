-- A twig at its turn, as it is packed anew.
use Rattle.std.proofs.Common.{◌≡◌, ℕ, ◌+◌, List, sym, ap, subst, arith}
use Rattle.r4_base.specs.Tree.{Root, Store}
use Rattle.r4_base.specs.Value.{Value}
use Rattle.r4_extent_demands.specs.r4_branch.declared.piece.TwigPiece.{TwigPiece}
use Rattle.r4_extent_demands.specs.r4_cell.declared.change.Fresh.{Fresh}
use Rattle.r4_twig_turns.specs.r4_measure.Grafting.{Beside, IsRegrafted}
use Rattle.r4_twig_turns.specs.Turning.{IsTurned, TwigTurn, own_of}
use Rattle.r4_twig_turns.specs.r4_twig_work.Regrafting.{DoesBelow, IsRegraftable}
use Rattle.r4_twig_turns.specs.r4_work.declared.working.WorkingSet.{WorkingSet}

module _ (e : TwigTurn) (f left : Fresh) (leaves : e.leaves ≡ 0) (left_is : left ≡ record f { next = f.next + e.blocks }) where
  pub own_is : record { next = left.next; end = left.next + 64 } ≡ own_of e f
  own_is =
      let n = ap (λ (g : Fresh). g.next) left_is in
      let a : left.next ≡ f.next + (e.blocks + e.leaves) = omega (arith, n, leaves) in
      let z : left.next + 64 ≡ f.next + (e.blocks + (e.leaves + 64)) = omega (arith, n, leaves) in
      λ i. record { next = a i; end = z i }

  module _ (t : Store Value) (r : Root) (w : WorkingSet) (key : ℕ) (qs : List TwigPiece) (x : Beside) (key_is : key ≡ e.key) (qs_is : qs ≡ e.pieces f.next) (x_is : x ≡ e.beside f.next) where
    pub may_turn : IsRegraftable t r (own_of e f) w e.key (e.pieces f.next) (e.beside f.next) (f.next + e.blocks) → IsRegraftable t r (record { next = left.next; end = left.next + 64 }) w key qs x (f.next + e.blocks)
    may_turn is = subst (λ g. IsRegraftable t r g w key qs x (f.next + e.blocks)) (sym own_is) (subst (λ k. IsRegraftable t r (own_of e f) w k qs x (f.next + e.blocks)) (sym key_is)
        (subst (λ ps. IsRegraftable t r (own_of e f) w e.key ps x (f.next + e.blocks)) (sym qs_is) (subst (λ y. IsRegraftable t r (own_of e f) w e.key (e.pieces f.next) y (f.next + e.blocks)) (sym x_is) is)))

    pub is_turned : (after : Fresh) (v : WorkingSet) → IsRegrafted t r (record { next = left.next; end = left.next + 64 }) after w v key qs x → IsTurned t r e f after w v
    is_turned after v is = subst (λ y. IsRegrafted t r (own_of e f) after w v e.key (e.pieces f.next) y) x_is (subst (λ ps. IsRegrafted t r (own_of e f) after w v e.key ps x) qs_is
        (subst (λ k. IsRegrafted t r (own_of e f) after w v k qs x) key_is (subst (λ g. IsRegrafted t r g after w v key qs x) own_is is)))

    pub does_turn : (v : WorkingSet) → DoesBelow w v key qs x → DoesBelow w v e.key (e.pieces f.next) (e.beside f.next)
    does_turn v is = subst (λ y. DoesBelow w v e.key (e.pieces f.next) y) x_is (subst (λ ps. DoesBelow w v e.key ps x) qs_is (subst (λ k. DoesBelow w v k qs x) key_is is))
