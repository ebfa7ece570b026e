use Rattle.std.proofs.Common.{◌++◌, ◌∙◌, map, sym, ap}
use Rattle.r4_base.specs.Key.{rank}
use Rattle.r4_content.specs.Held.{interval_of}
use Rattle.r4_reach.specs.Needs.{is_met}
use Rattle.r4_leaf_edits.proofs.Touched.{intervals_met, met_both, or_false, or_true}
use Rattle.r4_leaf_edits.proofs.touching.takes_in.Goals as goal

pub returns-then-meets_intervals : goal.returns-then-meets_intervals
returns-then-meets_intervals c =
    let lo = rank c.args.range.now.from in
    let hi = rank c.args.range.now.to in
    let zs = map interval_of c.args.edits.now.zeros.items in
    let cs = map interval_of c.args.edits.now.cuts.items in
    let zeros = c.meets_intervals.ensures ∙ sym (intervals_met lo hi c.as_slice.result.now) ∙ ap (λ xs. is_met (map interval_of xs) lo hi) c.as_slice.ensures.value in
    zeros ∙ or_true (is_met zs lo hi) (is_met cs lo hi) (is_met (zs ++ cs) lo hi) (met_both zs cs lo hi) (sym zeros ∙ c.if-meets_intervals.true)

pub returns-else-meets_intervals : goal.returns-else-meets_intervals
returns-else-meets_intervals c =
    let lo = rank c.args.range.now.from in
    let hi = rank c.args.range.now.to in
    let zs = map interval_of c.args.edits.now.zeros.items in
    let cs = map interval_of c.args.edits.now.cuts.items in
    let zeros = c.meets_intervals.ensures ∙ sym (intervals_met lo hi c.as_slice.result.now) ∙ ap (λ xs. is_met (map interval_of xs) lo hi) c.as_slice.ensures.value in
    let cuts = c.meets_intervals-else-meets_intervals.ensures ∙ sym (intervals_met lo hi c.as_slice-else-meets_intervals.result.now) ∙ ap (λ xs. is_met (map interval_of xs) lo hi) c.as_slice-else-meets_intervals.ensures.value in
    cuts ∙ or_false (is_met zs lo hi) (is_met cs lo hi) (is_met (zs ++ cs) lo hi) (met_both zs cs lo hi) (sym zeros ∙ c.if-meets_intervals.false)
