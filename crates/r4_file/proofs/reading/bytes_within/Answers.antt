use Rattle.std.proofs.Common.{◌∙◌}
use Rattle.r4_base.specs.Key.{rank}
use Rattle.r4_file.proofs.Runs.{next_part}
use Rattle.r4_file.proofs.reading.bytes_within.Goals as goal

pub loop-part-preserved : goal.loop-part-preserved
loop-part-preserved c =
    next_part (rank c.args.within.from) (rank c.args.within.to) c.loop-part.bytes.items c.push_part.new.bytes.items c.part-item.result c.args.seen.now.parts.items c.as_slice-part-items.result.now c.loop-part.part-index
    c.as_slice-part-items.ensures.value c.loop-part-test.true c.part-item.is c.in_ok-push_part.ensures
    ∙ c.loop-part.invariant
