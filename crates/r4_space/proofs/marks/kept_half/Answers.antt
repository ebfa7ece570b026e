use Rattle.std.proofs.Common.{length, arith}
use Rattle.r4_space.proofs.HalfLaws.{all_past, kept_bits}
use Rattle.r4_space.proofs.marks.kept_half.Goals as goal

pub returns-then-blocks-h : goal.returns-then-blocks-h
returns-then-blocks-h c j lt = all_past (length c.args.marked.now) c.args.h j _ (rw c.len-blocks.ensures at c.if-blocks-h.true) lt

pub returns : goal.returns
returns c j lt =
    kept_bits (length c.args.marked.now) c.args.h j c.half.result c.half-2.result c.ones_from.result c.args.marked.now c.args.placed.now lt
    (λ within. c.half.ensures j lt within) (λ within. c.half-2.ensures j lt (let size = c.requires.size in omega (arith, within))) (rw c.len-blocks.ensures at (c.ones_from.ensures j lt))
