use Rattle.std.proofs.Common.{◌≡◌, List, sym, ap, ◌∙◌, subst, arith}
use Rattle.std.proofs.lemmas.Bool.{ltb-true}
use Rattle.r4_base.specs.Key.{rank}
use Rattle.r4_leaf.specs.Pieces.{LastBelow}
use Rattle.r4_leaf.specs.declared.piece.Piece.{Piece}
use Rattle.r4_leaf.proofs.Merged.{Moving, last_below, moves_begin, moves_end}
use Rattle.r4_leaf.proofs.merging.move_above.Goals as goal

pub loop-piece-init : goal.loop-piece-init
loop-piece-init c = moves_begin (rank c.args.key.now) c.args.pieces.now.items c.args.merged.now.items

pub returns-then-is_below : goal.returns-then-is_below
returns-then-is_below c =
    let lt = ltb-true _ _ (sym c.if-is_below.ensures) in
    let key = ap rank c.key.ensures in
    let back : c.push.new.self.items ≡ c.loop-piece.pieces.items = c.in_ok-push.ensures.items ∙ sym c.in-Some.ensures.items in
    moves_end (rank c.args.key.now) c.args.pieces.now.items c.args.merged.now.items c.push.new.self.items c.loop-piece.merged.items
    (subst (λ (ps : List Piece). LastBelow (rank c.args.key.now) ps) (sym c.in_ok-push.ensures.items) (last_below (rank c.args.key.now) c.pop.new.self.items c.in-Some.piece (omega (arith, lt, key))))
    (subst (λ (ps : List Piece). Moving (rank c.args.key.now) c.args.pieces.now.items c.args.merged.now.items ps c.loop-piece.merged.items) (sym back) c.loop-piece.invariant)
