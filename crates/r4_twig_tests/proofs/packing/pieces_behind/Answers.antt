use Rattle.std.proofs.Common.{◌≡◌, ℕ, ◌++◌, ◌∷◌, [], ◌*◌, ◌+◌, ◌^◌, ◌≤◌, List, sym, subst, ap, ◌∙◌, arith}
use Rattle.r4_base.specs.Key.{rank}
use Rattle.r4_branch.specs.Pieces.{AreTwigPieces, IsSound, piece_end}
use Rattle.r4_branch.specs.declared.piece.TwigPiece.{TwigPiece}
use Rattle.r4_branch.proofs.Following.{are_more, are_one, are_wider}
use Rattle.r4_twig_tests.proofs.packing.pieces_behind.Goals as goal

one : (none new : List TwigPiece) (p : TwigPiece) → none ≡ [] → new ≡ none ++ p ∷ [] → rank p.key ≡ 4096 * 0 → IsSound p → piece_end p ≤ 4096 * (0 + 1) → AreTwigPieces 0 (4096 * 1) new
one none new p begins pushed at sound end =
    subst (λ (ps : List TwigPiece). AreTwigPieces 0 (4096 * 1) ps) (sym (pushed ∙ ap (λ (ps : List TwigPiece). ps ++ p ∷ []) begins)) (are_one 0 (4096 * 1) p (omega (arith, at)) sound (omega (arith, end)))

more : (end n : ℕ) (ps new : List TwigPiece) (p : TwigPiece) → AreTwigPieces 0 (4096 * end) ps → new ≡ ps ++ p ∷ [] → rank p.key ≡ 4096 * n → end ≤ n → IsSound p → piece_end p ≤ 4096 * (n + 1) → AreTwigPieces 0 (4096 * (n + 1)) new
more end n ps new p are pushed at from sound to = subst (λ (qs : List TwigPiece). AreTwigPieces 0 (4096 * (n + 1)) qs) (sym pushed) (are_more 0 (4096 * end) (4096 * (n + 1)) ps p are (omega (arith, at, from)) sound to)

pub loop-row-init : goal.loop-row-init
loop-row-init c = record {
  pieces = one c.new-pieces.result.items c.push.new.self.items c.in_ok-piece_at.field-0 c.new-pieces.ensures.items c.in_ok-push.ensures.items c.in_ok-piece_at.ensures.at c.in_ok-piece_at.ensures.sound c.in_ok-piece_at.ensures.to;
  within = omega arith;
}

pub loop-row-preserved : goal.loop-row-preserved
loop-row-preserved c = record {
  pieces = more c.loop-row.end _ c.loop-row.pieces.items c.push-in-loop-row.new.self.items c.in_ok-piece_at-2.field-0 c.loop-row.invariant.pieces c.in_ok-push-2.ensures.items c.in_ok-piece_at-2.ensures.at c.in_ok-piece_at-2.ensures.from c.in_ok-piece_at-2.ensures.sound
      c.in_ok-piece_at-2.ensures.to;
  within = let within = c.in_ok-piece_at-2.ensures.within in omega (arith, within);
}

pub returns : goal.returns
returns c = let within = c.loop-row.invariant.within in are_wider 0 (4096 * c.loop-row.end) (2 ^ 64) c.loop-row.pieces.items c.loop-row.invariant.pieces (omega (arith, within))
