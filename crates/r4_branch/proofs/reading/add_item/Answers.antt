use Rattle.std.proofs.Common.{ℕ, ◌++◌, ◌∷◌, [], sym, ap, ◌∙◌, arith}
use Rattle.r4_base.specs.Node.{Item}
use Rattle.r4_branch.specs.declared.piece.TwigPart.TheVariants.{Pointer}
use Rattle.r4_branch.proofs.ItemPieces.{pointer_pieces}
use Rattle.r4_branch.proofs.SoundItems.{pointer_item}
use Rattle.r4_branch.proofs.reading.add_item.Goals as goal

pub get64-requires : goal.get64-requires
get64-requires c = let long = (pointer_item _ c.if-plugin-eq-POINTER.true c.requires).long in omega (arith, long)

pub returns-then-plugin-eq-POINTER : goal.returns-then-plugin-eq-POINTER
returns-then-plugin-eq-POINTER c =
    let it : Item = record { key = c.args.key; plugin = c.args.plugin; body = c.args.body.now } in
    c.in_ok-push.ensures.items
    ∙ (ap (λ (n : ℕ). c.args.pieces.now.items ++ (record { key = c.args.key; part = Pointer (record { 0 = n }) }) ∷ []) c.get64.ensures
    ∙ ap (λ ps. c.args.pieces.now.items ++ ps) (sym (pointer_pieces it c.if-plugin-eq-POINTER.true)))
