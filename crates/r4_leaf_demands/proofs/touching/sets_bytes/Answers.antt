use Rattle.std.proofs.Common.{◌++◌, ◌∙◌, map, sym, ap}
use Rattle.std.specs.List.{flat_map}
use Rattle.r4_base.specs.Key.{rank}
use Rattle.r4_content.specs.Edited.{put_keys}
use Rattle.r4_content.specs.Held.{fill_pairs, interval_of, run_pairs}
use Rattle.r4_marking.specs.r4_reach.Needs.{is_met}
use Rattle.r4_suited.proofs.r4_leaf_edits.Touched.{intervals_met, met_both, or_false, or_true}
use Rattle.r4_leaf_demands.proofs.touching.sets_bytes.Goals as goal

pub returns-then-meets_intervals : goal.returns-then-meets_intervals
returns-then-meets_intervals c =
    let lo = rank c.args.range.now.from in
    let hi = rank c.args.range.now.to in
    let zs = map interval_of c.args.edits.now.zeros.items in
    let rs = put_keys
    (flat_map fill_pairs c.args.edits.now.fills.items ++ flat_map run_pairs c.args.edits.now.runs.items) in
    let zeros = c.meets_intervals.ensures ∙ sym (intervals_met lo hi c.as_slice.result.now)
    ∙ ap (λ xs. is_met (map interval_of xs) lo hi) c.as_slice.ensures.value in
    zeros ∙ or_true (is_met zs lo hi) (is_met rs lo hi) (is_met (zs ++ rs) lo hi) (met_both zs rs lo hi)
    (sym zeros ∙ c.if-meets_intervals.true)

pub returns-else-meets_intervals : goal.returns-else-meets_intervals
returns-else-meets_intervals c =
    let lo = rank c.args.range.now.from in
    let hi = rank c.args.range.now.to in
    let zs = map interval_of c.args.edits.now.zeros.items in
    let rs = put_keys
    (flat_map fill_pairs c.args.edits.now.fills.items ++ flat_map run_pairs c.args.edits.now.runs.items) in
    let zeros = c.meets_intervals.ensures ∙ sym (intervals_met lo hi c.as_slice.result.now)
    ∙ ap (λ xs. is_met (map interval_of xs) lo hi) c.as_slice.ensures.value in
    c.sets_runs.ensures ∙ or_false (is_met zs lo hi) (is_met rs lo hi) (is_met (zs ++ rs) lo hi) (met_both zs rs lo hi)
    (sym zeros ∙ c.if-meets_intervals.false)
