use Rattle.std.proofs.Common.{◌++◌, sym, ◌∙◌, ap, map}
use Rattle.r4_base.specs.Key.{rank}
use Rattle.r4_content.specs.Edited.{put_keys}
use Rattle.r4_content.specs.Held.{edits_of, interval_of}
use Rattle.r4_bodies.proofs.r4_leaf_edits.Touched.{intervals_met, met_both, or_false, or_true}
use Rattle.r4_bodies.specs.r4_leaf_edits.r4_reach.Needs.{is_met}
use Rattle.r4_extent_demands.proofs.ranges.puts_some.Goals as goal

pub returns-then-meets_intervals : goal.returns-then-meets_intervals
returns-then-meets_intervals c =
    let lo = rank c.args.range.now.from in
    let hi = rank c.args.range.now.to in
    let zs = map interval_of c.args.edits.now.zeros.items in
    let ks = put_keys (edits_of c.args.edits.now).puts in
    let met = c.meets_intervals.ensures ∙ sym (intervals_met lo hi c.as_slice.result.now)
    ∙ ap (λ xs. is_met (map interval_of xs) lo hi) c.as_slice.ensures.value in
    met ∙ or_true (is_met zs lo hi) (is_met ks lo hi) (is_met (zs ++ ks) lo hi) (met_both zs ks lo hi)
    (sym met ∙ c.if-meets_intervals.true)

pub returns-else-meets_intervals : goal.returns-else-meets_intervals
returns-else-meets_intervals c =
    let lo = rank c.args.range.now.from in
    let hi = rank c.args.range.now.to in
    let zs = map interval_of c.args.edits.now.zeros.items in
    let ks = put_keys (edits_of c.args.edits.now).puts in
    let met = c.meets_intervals.ensures ∙ sym (intervals_met lo hi c.as_slice.result.now)
    ∙ ap (λ xs. is_met (map interval_of xs) lo hi) c.as_slice.ensures.value in
    c.puts_in.ensures ∙ or_false (is_met zs lo hi) (is_met ks lo hi) (is_met (zs ++ ks) lo hi) (met_both zs ks lo hi)
    (sym met ∙ c.if-meets_intervals.false)
