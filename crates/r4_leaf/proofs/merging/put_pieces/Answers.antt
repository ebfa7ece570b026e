use Rattle.std.proofs.Common.{ℕ, ◌+◌, List, ap, subst, arith}
use Rattle.r4_base.specs.Key.{rank}
use Rattle.r4_leaf.specs.Pieces.{Follow, Moves, piece_key}
use Rattle.r4_leaf.specs.declared.piece.Piece.{Piece}
use Rattle.r4_leaf.proofs.CutPieces.{follow_lower, no_pieces}
use Rattle.r4_leaf.proofs.Following.{follow_wider}
use Rattle.r4_leaf.proofs.Merged.{merge_ended, merge_more}
use Rattle.r4_leaf.proofs.merging.put_pieces.Goals as goal

-- a range of both lists of pieces
wide : (lo hi more : ℕ) (ps : List Piece) → Follow lo hi ps → Follow 0 (hi + more) ps
wide lo hi more ps h = follow_lower lo 0 (hi + more) ps (omega arith) (follow_wider lo hi (hi + more) ps (omega arith) h)

pub loop-piece-preserved : goal.loop-piece-preserved
loop-piece-preserved c =
    let g = c.requires.given in
    let p = c.requires.pieces in
    let moves : Moves (rank (piece_key c.in-Some.piece)) c.loop-piece.pieces.items c.loop-piece.merged.items c.move_above.new.pieces.items c.move_above.new.merged.items = subst (λ k. Moves k c.loop-piece.pieces.items c.loop-piece.merged.items c.move_above.new.pieces.items c.move_above.new.merged.items) (ap rank c.key.ensures) c.in_ok-move_above.ensures in
    merge_more c.args.given.items c.args.pieces.items c.loop-piece.given.items c.loop-piece.pieces.items c.loop-piece.merged.items c.pop.new.self.items c.move_above.new.pieces.items c.move_above.new.merged.items c.push.new.self.items c.in-Some.piece
    c.in-Some.ensures.items c.loop-piece.invariant moves c.in_ok-push.ensures.items 0 (p.1 + g.1) (wide p.0 p.1 g.1 c.args.pieces.items p.2)
    (subst (λ h. Follow 0 h c.args.given.items) (omega arith) (wide g.0 g.1 p.1 c.args.given.items g.2))

pub returns-clause-units : goal.returns-clause-units
returns-clause-units c = (merge_ended c.args.given.items c.args.pieces.items c.loop-piece.given.items c.loop-piece.pieces.items c.loop-piece.merged.items c.move_all.new.merged.items (no_pieces _ (let none = c.in_default.ensures.cases in omega (arith, none))) c.in_ok-move_all.ensures c.loop-piece.invariant).0

pub returns-clause-follow : goal.returns-clause-follow
returns-clause-follow c = (merge_ended c.args.given.items c.args.pieces.items c.loop-piece.given.items c.loop-piece.pieces.items c.loop-piece.merged.items c.move_all.new.merged.items (no_pieces _ (let none = c.in_default.ensures.cases in omega (arith, none))) c.in_ok-move_all.ensures c.loop-piece.invariant).1
