use Rattle.std.proofs.Common.{◌*◌, sym, arith}
use Rattle.r4_space.proofs.BitmapLaws.{held_all, held_not}
use Rattle.r4_space.proofs.check.is_held.Goals as goal

pub returns-then-not-is_half_held : goal.returns-then-not-is_half_held
returns-then-not-is_half_held c =
    let one = c.is_half_held.ensures.clear c.if-not-is_half_held.true in
    sym (held_not c.args.blocks (c.args.n * 32736) one.0 c.args.block.now one.1 one.3 one.2)

pub returns : goal.returns
returns c =
    let end = c.loop-j-test.false in
    sym (held_all c.args.blocks (c.args.n * 32736) c.args.block.now
    (λ k lt always. c.loop-j.invariant k (omega arith) (omega (arith, lt, end)) always))
