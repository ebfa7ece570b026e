use Rattle.std.proofs.Common.{List, sym, subst, arith}
use Rattle.r4_base.specs.Key.{rank}
use Rattle.r4_leaf.specs.declared.piece.Piece.{Piece}
use Rattle.r4_leaf.specs.Pieces.{Follow}
use Rattle.r4_leaf.proofs.CutPieces.{IsCutTo, cut_begins, cut_ended, cut_more, follow_last, no_pieces}
use Rattle.r4_leaf.proofs.cutting.cut_pieces.Goals as goal

pub loop-piece-init : goal.loop-piece-init
loop-piece-init c = subst (λ (left : List Piece). IsCutTo (rank c.args.from.now) (rank c.args.to.now) c.args.pieces.items c.args.pieces.items left) (sym c.new-left.ensures.items) (cut_begins (rank c.args.from.now) (rank c.args.to.now) c.args.pieces.items)

pub keep-requires : goal.keep-requires
keep-requires c =
    let f = c.loop-piece.invariant.follow c.requires.0 c.requires.1 c.requires.2 in
    (follow_last c.requires.0 f.0 c.pop.new.self.items c.in-Some.piece (subst (λ (xs : List Piece). Follow c.requires.0 f.0 xs) c.in-Some.ensures.items f.1)).sound

pub loop-piece-preserved : goal.loop-piece-preserved
loop-piece-preserved c = cut_more (rank c.args.from.now) (rank c.args.to.now) c.args.pieces.items c.loop-piece.pieces.items c.pop.new.self.items c.loop-piece.left.items c.keep.new.left.items c.in-Some.piece c.in-Some.ensures.items c.in_ok-keep.ensures c.loop-piece.invariant

pub returns-clause-units : goal.returns-clause-units
returns-clause-units c = (cut_ended (rank c.args.from.now) (rank c.args.to.now) c.args.pieces.items c.loop-piece.pieces.items c.loop-piece.left.items (no_pieces _ (let none = c.in_default.ensures.cases in omega (arith, none))) c.loop-piece.invariant).0

pub returns-clause-follow : goal.returns-clause-follow
returns-clause-follow c = (cut_ended (rank c.args.from.now) (rank c.args.to.now) c.args.pieces.items c.loop-piece.pieces.items c.loop-piece.left.items (no_pieces _ (let none = c.in_default.ensures.cases in omega (arith, none))) c.loop-piece.invariant).1
