use Rattle.std.proofs.Common.{ap, ◌∙◌}
use Rattle.std.specs.Prelude.{sum_by}
use Rattle.r4_summary.proofs.Sums.{bytes_summed, objects_summed}
use Rattle.r4_summary.specs.Totals.{counted, made_by, size_in, stats_in}
use Rattle.r4_summary.proofs.totals.summarize.Goals as goal

pub returns : goal.returns
returns c =
    let m = made_by c.args.trace.now.entries in
    let seen = c.in_ok-seen.seen.parts.items in
    let objects = c.objects.ensures ∙ ap (sum_by stats_in) c.as_slice.ensures.value ∙ objects_summed seen m c.in_ok-seen.ensures in
    let bytes = c.bytes.ensures ∙ ap (λ ps. counted (sum_by size_in ps)) c.as_slice-2.ensures.value ∙ ap counted (bytes_summed seen m c.in_ok-seen.ensures) in
    λ i. record { objects = objects i; bytes = bytes i; refused = c.refused.ensures i }
