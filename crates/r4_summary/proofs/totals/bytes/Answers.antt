use Rattle.std.proofs.Common.{rules}
use Rattle.r4_summary.proofs.Sums.{all_counted}
use Rattle.r4_summary.specs.Totals.{size_in}
use Rattle.r4_summary.proofs.totals.bytes.Goals as goal

pub returns : goal.returns
returns c = all_counted size_in c.args.parts.now c.loop-part.part-index c.loop-part.bytes (search rules) c.loop-part.invariant.1 c.loop-part.invariant.0
