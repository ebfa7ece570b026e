use Rattle.std.proofs.Common.{ap, ◌∙◌, arith}
use Rattle.std.proofs.lemmas.List.Sums.{sum_by-cons}
use Rattle.r4_summary.proofs.Steps.{first_ones, one_more}
use Rattle.r4_summary.proofs.Sums.{one_at_most}
use Rattle.r4_summary.specs.Totals.{refused_in, refused_one}
use Rattle.r4_summary.proofs.totals.refused.Goals as goal

pub loop-i-preserved : goal.loop-i-preserved
loop-i-preserved c =
    let e = ap refused_in (one_more c.args.trace.now.entries c.loop-i.i c.entry.result.now c.entry.ensures)
    ∙ sum_by-cons refused_one c.entry.result.now (first_ones c.loop-i.i c.args.trace.now.entries) in
    let one = c.refused_by-refused.ensures in
    let before = c.loop-i.invariant.0 in
    let le = c.loop-i.invariant.1 in
    let few = one_at_most c.entry.result.now in
    (omega (arith, e, one, before), omega (arith, one, le, few))
