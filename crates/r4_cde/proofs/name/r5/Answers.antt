use Rattle.std.proofs.Common.{◌∙◌, sym, arith}
use Rattle.r4_base.proofs.Names.{r5_step, r5_done}
use Rattle.r4_cde.proofs.name.r5.Goals as goal

pub loop-byte-preserved : goal.loop-byte-preserved
loop-byte-preserved c = rw c.from-c.ensures (sym (r5_step c.loop-byte.hash c.loop-byte.byte-index c.args.bytes.now c.loop-byte-test.true) ∙ c.loop-byte.invariant)

pub returns : goal.returns
returns c = sym (r5_done c.loop-byte.hash c.loop-byte.byte-index c.args.bytes.now (omega arith)) ∙ c.loop-byte.invariant
