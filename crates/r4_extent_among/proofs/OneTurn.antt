-- A twig among whose extents values come, as it is packed anew with the leaves that were made.
use Rattle.std.proofs.Common.{map, ◌≡◌, inl, inr, ℕ, ◌+◌, List, [], ◌∷◌, length, refl, sym, ap, subst, ◌∙◌, arith}
use Rattle.std.specs.Prelude.{Contains, Option}
use Rattle.r4_base.specs.Key.{rank}
use Rattle.r4_base.specs.Tree.{IsNode, Root, Span, Store}
use Rattle.r4_base.specs.Value.{Value}
use Rattle.r4_build.specs.r4_branch.declared.piece.TwigPiece.{TwigPiece}
use Rattle.r4_extent_build.specs.r4_cell.Seen.{CellSeen, node_of}
use Rattle.r4_extent_build.specs.r4_cell.declared.change.Fresh.{Fresh}
use Rattle.r4_content.specs.Edited.{Edits}
use Rattle.r4_extent_build.specs.Looping.{AreTurned}
use Rattle.r4_extent_build.specs.r4_twig_turns.Turning.{IsTurned, TwigTurn, own_of}
use Rattle.r4_build.specs.r4_leaf.declared.remaking.KeyRange.{KeyRange}
use Rattle.r4_extent_build.specs.r4_leaf_demands.Touching.{span_of}
use Rattle.r4_build.specs.r4_measure.Grafting.{Beside, IsRegrafted}
use Rattle.r4_build.proofs.r4_patch.Members.{cases, here, later, none}
use Rattle.r4_build.specs.r4_path.Sharing.{IsSound}
use Rattle.r4_build.specs.r4_path.TwigPieces.{twig_pieces}
use Rattle.r4_build.specs.r4_reach.Touched.{Body}
use Rattle.r4_extent_build.specs.r4_twig_work.Regrafting.{DoesBelow, IsRegraftable}
use Rattle.r4_build.specs.r4_work.declared.working.WorkingSet.{WorkingSet}
use Rattle.r4_extent_among.specs.Among.{AreNewLeaves, among_turn, numbered, with_leaves}
use Rattle.r4_extent_among.specs.AmongIn.{CanPutAmong, HasPutAmong, turns_among}
use Rattle.r4_extent_among.specs.Making.{IsLeafRange}
use Rattle.r4_extent_among.proofs.SpansRise.{some_key, twig_spans}

-- ---- the ranges of the extents

span_in : (rs : List KeyRange) (r : KeyRange) → Contains rs r → Contains (map span_of rs) (span_of r)
span_in [] r at = absurd (none r at)
span_in (x ∷ rs) r at = elim (cases x r rs at) [
  | inl is ↦ subst (λ (y : KeyRange). Contains (span_of x ∷ map span_of rs) (span_of y)) (sym is) (here (span_of x) (map span_of rs))
  | inr more ↦ later (span_of x) (span_of r) (map span_of rs) (span_in rs r more)
]

pub leaf_range : (twig : CellSeen) → IsSound twig → twig.level ≡ 2 → IsNode (node_of twig) → (rs : List KeyRange) → map span_of rs ≡ (node_of twig).spans → (r : KeyRange) → Contains rs r → IsLeafRange r
leaf_range twig sound level node rs are r at =
    let in_it = subst (λ (ss : List Span). Contains ss (span_of r)) are (span_in rs r at) in
    let low = node.span_from (span_of r) in_it in
    let high = node.span_to (span_of r) in_it in
    let a = node.from_least in
    let z = node.to_top in
    record {
      low = omega (arith, a, low);
      some = some_key (rank twig.lo) (node_of twig).spans (span_of r) (twig_spans twig sound level) in_it;
      high = omega (arith, high, z);
    }

-- ---- the turn

module _ (b : Option Body) (e : Edits) (twig : CellSeen) (f after : Fresh) (cells : List CellSeen) (are : AreNewLeaves b e twig cells) (numbers : cells ≡ numbered f.next cells) (left : after ≡ record f { next = f.next + length cells }) where
  abbrev turn : TwigTurn
  turn = among_turn twig cells

  abbrev own : Fresh
  own = record { next = after.next; end = after.next + 64 }

  own_is : own ≡ own_of turn f
  own_is =
      let n = ap (λ (g : Fresh). g.next) left in
      let a : after.next ≡ f.next + (turn.blocks + turn.leaves) = omega (arith, n) in
      let z : after.next + 64 ≡ f.next + (turn.blocks + (turn.leaves + 64)) = omega (arith, n) in
      λ i. record { next = a i; end = z i }

  module _ (t : Store Value) (r : Root) (w : WorkingSet) (can : CanPutAmong b e t r twig f w) (key : ℕ) (key_is : key ≡ turn.key) (qs : List TwigPiece) (qs_are : qs ≡ with_leaves cells (twig_pieces twig))
      (beside : Beside) (beside_are : beside ≡ record { below = record { old = []; new = cells }; blocks = [] }) where
    qs_is : qs ≡ turn.pieces f.next
    qs_is = qs_are ∙ ap (λ cs. with_leaves cs (twig_pieces twig)) numbers

    beside_is : beside ≡ turn.beside f.next
    beside_is = beside_are ∙ (λ i. record { below = record { old = []; new = numbers i }; blocks = [] })

    pub may_turn : IsRegraftable t r own w key qs beside (f.next + turn.blocks)
    may_turn = subst (λ g. IsRegraftable t r g w key qs beside (f.next + turn.blocks)) (sym own_is) (subst (λ k. IsRegraftable t r (own_of turn f) w k qs beside (f.next + turn.blocks)) (sym key_is)
        (subst (λ ps. IsRegraftable t r (own_of turn f) w turn.key ps beside (f.next + turn.blocks)) (sym qs_is) (subst (λ y. IsRegraftable t r (own_of turn f) w turn.key (turn.pieces f.next) y (f.next + turn.blocks)) (sym beside_is)
        (can.turns cells are).0)))

    pub are_turned : (last : Fresh) (v : WorkingSet) → IsRegrafted t r own last w v key qs beside → DoesBelow w v key qs beside → AreTurned t r (turns_among twig cells) f w v
    are_turned last v made does =
        let is : IsTurned t r turn f last w v = subst (λ y. IsRegrafted t r (own_of turn f) last w v turn.key (turn.pieces f.next) y) beside_is (subst (λ ps. IsRegrafted t r (own_of turn f) last w v turn.key ps beside) qs_is
        (subst (λ k. IsRegrafted t r (own_of turn f) last w v k qs beside) key_is (subst (λ g. IsRegrafted t r g last w v key qs beside) own_is made))) in
        let did : DoesBelow w v turn.key (turn.pieces f.next) (turn.beside f.next) = subst (λ y. DoesBelow w v turn.key (turn.pieces f.next) y) beside_is (subst (λ ps. DoesBelow w v turn.key ps beside) qs_is (subst (λ k. DoesBelow w v k qs beside) key_is does)) in
        (last, (v, is, did, refl))

  pub has_put : (w v : WorkingSet) (last : Fresh) → last ≡ record after { next = after.next + 64 } → ((t : Store Value) (r : Root) → CanPutAmong b e t r twig f w → AreTurned t r (turns_among twig cells) f w v)
      → HasPutAmong b e twig f last w v cells
  has_put w v last last_is turned = record {
    leaves = cells;
    are = are;
    turned = turned;
    cells_are = numbers;
    left =
        let n = ap (λ (g : Fresh). g.next) left in
        let end = ap (λ (g : Fresh). g.end) left in
        let at : after.next + 64 ≡ f.next + (turn.blocks + (turn.leaves + 64)) = omega (arith, n) in
        last_is ∙ (λ i. record { next = at i; end = end i });
  }
