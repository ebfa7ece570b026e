use Rattle.std.proofs.Common.{sym, ◌∙◌, arith}
use Rattle.r4_cde.proofs.Spelled.{all_spelled}
use Rattle.r4_cde.proofs.short.ShortName.spelled_by.Goals as goal
use Rattle.r4_cde.proofs.short.ShortName.spelled_by.Goals.{then-loop-len-test+else-byte_of-ne0, else-loop-len-test}

pub returns : goal.returns
returns c = all_spelled c.args.key.now c.loop-len.bytes c.loop-len.len c.loop-len.invariant (λ lt.
    elim c.loop-len-test.branch [
      | then-loop-len-test+else-byte_of-ne0 w ↦ sym w.byte_of.ensures ∙ w.if-byte_of-ne0.false
      | else-loop-len-test w ↦ absurd (omega arith)
    ])
