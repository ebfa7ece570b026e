use Rattle.std.proofs.Common.{◌≡◌, ◌≤◌, ◌∙◌, ◌∷◌, ◌++◌, [], ap, arith, length, map, rules, subst, sym}
use Rattle.std.proofs.lemmas.List.{map-append}
use Rattle.r4_work.specs.r4_branch.declared.piece.TwigPiece.{TwigPiece}
use Rattle.r4_row_gather.proofs.PartsTogether.{one_more_part}
use Rattle.r4_row_gather.specs.Parting.{AreParts}
use Rattle.r4_row_gather.proofs.parting.add_part.Goals as goal

pub returns : goal.returns
returns c = λ all ps a.
    let pieces = c.args.pieces.now in
    let parts = map (λ p. p.items) c.args.parts.now.items in
    let some : 1 ≤ length pieces = search rules in
    let bytes = c.twig_bytes.ensures in
    let low = c.if-twig_bytes-gt-ROOM.false in
    let same : c.extend_from_slice.new.self.items ≡ pieces =
    c.in_ok-extend_from_slice.ensures.items ∙ ap (λ xs. xs ++ pieces) c.in_ok-part.ensures.items in
    let are : map (λ p. p.items) c.push.new.self.items ≡ parts ++ pieces ∷ [] =
    ap (map (λ p. p.items)) c.in_ok-push.ensures.items
    ∙ (map-append (λ p. p.items) c.args.parts.now.items (c.extend_from_slice.new.self ∷ [])
    ∙ ap (λ (g : Rattle.std.specs.Prelude.List TwigPiece). parts ++ g ∷ []) same) in
    subst (AreParts (ps ++ pieces)) (sym are) (one_more_part parts pieces some (omega (arith, bytes, low)) ps a)
