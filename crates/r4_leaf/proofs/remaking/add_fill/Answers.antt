use Rattle.std.proofs.Common.{◌≡◌, ℕ, List, [], ◌∷◌, ◌++◌, replicate, refl, sym, ap, subst, ◌∙◌, rules}
use Rattle.r4_base.proofs.Keys.{is_key}
use Rattle.r4_leaf.specs.Remade.{AddsItem, filled_tail}
use Rattle.r4_leaf.specs.declared.piece.Piece.{Piece}
use Rattle.r4_leaf.specs.declared.piece.Piece.TheVariants.{Bytes}
use Rattle.r4_leaf.proofs.ItemPieces.{adds_tail}
use Rattle.r4_leaf.proofs.Standing.{put_sound}
use Rattle.r4_leaf.proofs.remaking.add_fill.Goals as goal

pub returns : goal.returns
returns c =
    let same : c.same-run.result ≡ replicate c.args.count c.args.byte = search rules in
    let put : c.push.new.self.items ≡ c.args.pieces.now.items ++ Bytes c.args.key c.same-run.result ∷ [] = search rules in
    subst (λ (ps : List Piece). AddsItem c.args.pieces.now.items (filled_tail c.args.key c.args.count c.args.byte) ps)
    (sym (put ∙ ap (λ (bs : List ℕ). c.args.pieces.now.items ++ Bytes c.args.key bs ∷ []) same))
    (adds_tail c.args.key 6 (replicate c.args.count c.args.byte) c.args.pieces.now.items refl
    (put_sound (filled_tail c.args.key c.args.count c.args.byte) c.requires
    (is_key c.args.key (search rules) (search rules) (search rules) (search rules) (search rules))))
