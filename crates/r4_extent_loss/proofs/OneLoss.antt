-- A twig of which blocks go at its turn, as it is packed anew.
use Rattle.std.proofs.Common.{◌≡◌, ℕ, ◌+◌, ◌^◌, ◌≤◌, List, [], sym, ap, subst, ◌∙◌, arith}
use Rattle.std.specs.Prelude.{Contains, Some}
use Rattle.r4_base.specs.declared.key.Key.{Key}
use Rattle.r4_base.specs.Tree.{Root, Store}
use Rattle.r4_base.specs.Value.{Value}
use Rattle.r4_extent_build.specs.r4_branch.declared.piece.TwigPiece.{TwigPiece}
use Rattle.r4_extent_build.specs.r4_cell.Seen.{CellSeen, node_of}
use Rattle.r4_extent_build.specs.r4_cell.declared.change.Fresh.{Fresh}
use Rattle.r4_content.specs.Edited.{Edits}
use Rattle.r4_extent_build.specs.r4_measure.Grafting.{Beside, IsRegrafted}
use Rattle.r4_extent_build.specs.r4_path.Sharing.{IsSound}
use Rattle.r4_extent_build.specs.r4_reach.Needs.{pieces_after}
use Rattle.r4_extent_build.specs.r4_reach.Touched.{Body}
use Rattle.r4_extent_build.specs.r4_twig_turns.Turning.{IsTurned, TwigTurn, own_of}
use Rattle.r4_extent_build.specs.r4_twig_work.Regrafting.{DoesBelow, IsRegraftable}
use Rattle.r4_extent_build.specs.r4_work.declared.working.WorkingSet.{WorkingSet}
use Rattle.r4_extent_loss.specs.Losing.{IsLosing, IsLossOf, Loss, leaf_at, losing_turn, numbers_taken, taken_block, taken_from, taken_id, taken_pieces}
use Rattle.r4_extent_loss.proofs.LosingTurns.{come_is, many_is, taker_sound}

-- what is made for the turn, as the calls tell it
module _ (b : Body) (first : Key) (e : Edits) (x : Loss) (g : IsLosing b first e) (c : IsLossOf b x) (n : ℕ) (low : 2 ^ 63 ≤ n) (taken : ℕ) (after : List TwigPiece)
    (taken_is : taken ≡ taken_from b x) (after_is : after ≡ pieces_after (Some b) e (node_of x.twig) []) where
  pub new_is : leaf_at taken (taken_id x n) x.twig.hi (taken_block x) after ≡ ((losing_turn b e x).beside n).below.new
  new_is = λ i. leaf_at (taken_is i) (taken_id x n) x.twig.hi (taken_block x) (after_is i)

  pub pieces_are : taken_pieces x taken n after ≡ (losing_turn b e x).pieces n
  pieces_are = λ i. taken_pieces x (taken_is i) n (after_is i)

  pub sounds : (d : CellSeen) → Contains (leaf_at taken (taken_id x n) x.twig.hi (taken_block x) after) d → IsSound d
  sounds d at = taker_sound b x c (taken_id x n) d (subst (λ ds. Contains ds d) (new_is ∙ come_is b x c first e g n) at)

  pub count_is : (news : List CellSeen) → news ≡ leaf_at taken (taken_id x n) x.twig.hi (taken_block x) after → numbers_taken x news ≡ (losing_turn b e x).leaves
  count_is news is = ap (numbers_taken x) (is ∙ new_is) ∙ sym (many_is b x c first e g n).0

module _ (e : TwigTurn) (f own : Fresh) (next : ℕ) (blocks : e.blocks ≡ 0) (next_is : next ≡ f.next + e.leaves) (own_at : own ≡ record { next = next; end = next + 64 }) where
  own_is : own ≡ own_of e f
  own_is =
      let n = ap (λ (g : Fresh). g.next) own_at in
      let m = ap (λ (g : Fresh). g.end) own_at in
      let a : own.next ≡ f.next + (e.blocks + e.leaves) = omega (arith, n, next_is, blocks) in
      let z : own.end ≡ f.next + (e.blocks + (e.leaves + 64)) = omega (arith, m, next_is, blocks) in
      λ i. record { next = a i; end = z i }

  module _ (t : Store Value) (r : Root) (w : WorkingSet) (key : ℕ) (qs : List TwigPiece) (x : Beside) (key_is : key ≡ e.key) (qs_is : qs ≡ e.pieces f.next) (x_is : x ≡ e.beside f.next) where
    pub may_turn : IsRegraftable t r (own_of e f) w e.key (e.pieces f.next) (e.beside f.next) (f.next + e.blocks) → IsRegraftable t r own w key qs x (f.next + e.blocks)
    may_turn is = subst (λ g. IsRegraftable t r g w key qs x (f.next + e.blocks)) (sym own_is) (subst (λ k. IsRegraftable t r (own_of e f) w k qs x (f.next + e.blocks)) (sym key_is)
        (subst (λ ps. IsRegraftable t r (own_of e f) w e.key ps x (f.next + e.blocks)) (sym qs_is) (subst (λ y. IsRegraftable t r (own_of e f) w e.key (e.pieces f.next) y (f.next + e.blocks)) (sym x_is) is)))

    pub is_turned : (after : Fresh) (v : WorkingSet) → IsRegrafted t r own after w v key qs x → IsTurned t r e f after w v
    is_turned after v is = subst (λ y. IsRegrafted t r (own_of e f) after w v e.key (e.pieces f.next) y) x_is (subst (λ ps. IsRegrafted t r (own_of e f) after w v e.key ps x) qs_is
        (subst (λ k. IsRegrafted t r (own_of e f) after w v k qs x) key_is (subst (λ g. IsRegrafted t r g after w v key qs x) own_is is)))

    pub does_turn : (v : WorkingSet) → DoesBelow w v key qs x → DoesBelow w v e.key (e.pieces f.next) (e.beside f.next)
    does_turn v is = subst (λ y. DoesBelow w v e.key (e.pieces f.next) y) x_is (subst (λ ps. DoesBelow w v e.key ps x) qs_is (subst (λ k. DoesBelow w v k qs x) key_is is))
