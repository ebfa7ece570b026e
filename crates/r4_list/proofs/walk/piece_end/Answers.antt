use Rattle.std.proofs.Common.{inl, inr, arith}
use Rattle.r4_list.proofs.OverPieces.{piece_at}
use Rattle.r4_list.proofs.walk.piece_end.Goals as goal

pub returns-then-path-end-eq47-clause-piece : goal.returns-then-path-end-eq47-clause-piece
returns-then-path-end-eq47-clause-piece c = piece_at c.args.path.now c.args.from c.loop-end.end c.loop-end.invariant.0 c.loop-end.invariant.1 c.loop-end.invariant.2 (inr c.if-path-end-eq47.true)

pub returns-clause-piece : goal.returns-clause-piece
returns-clause-piece c =
    let within = c.loop-end.invariant.1 in
    let out = c.loop-end-test.false in
    piece_at c.args.path.now c.args.from c.loop-end.end c.loop-end.invariant.0 within c.loop-end.invariant.2 (inl (omega (arith, within, out)))
