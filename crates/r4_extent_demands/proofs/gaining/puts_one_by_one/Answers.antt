use Rattle.std.proofs.Common.{◌++◌, ◌∙◌, map, sym, ap}
use Rattle.std.specs.List.{flat_map}
use Rattle.r4_base.specs.Key.{rank}
use Rattle.r4_content.specs.Edited.{put_keys}
use Rattle.r4_content.specs.Held.{pair_of, run_pairs}
use Rattle.r4_bodies.specs.r4_leaf_edits.r4_reach.Needs.{is_met}
use Rattle.r4_bodies.proofs.r4_leaf_edits.Touched.{keys_met, or_false, or_true, values_met}
use Rattle.r4_extent_demands.proofs.gaining.puts_one_by_one.Goals as goal

pub returns-then-meets_runs : goal.returns-then-meets_runs
returns-then-meets_runs c =
    let lo = rank c.args.range.now.from in
    let hi = rank c.args.range.now.to in
    let rs = flat_map run_pairs c.args.edits.now.runs.items in
    let ps = map pair_of c.args.edits.now.puts.items in
    let runs = c.meets_runs.ensures ∙ ap (λ xs. is_met (put_keys (flat_map run_pairs xs)) lo hi) c.as_slice.ensures.value in
    runs ∙ or_true (is_met (put_keys rs) lo hi) (is_met (put_keys ps) lo hi) (is_met (put_keys (rs ++ ps)) lo hi) (keys_met rs ps lo hi) (sym runs ∙ c.if-meets_runs.true)

pub returns-else-meets_runs : goal.returns-else-meets_runs
returns-else-meets_runs c =
    let lo = rank c.args.range.now.from in
    let hi = rank c.args.range.now.to in
    let rs = flat_map run_pairs c.args.edits.now.runs.items in
    let ps = map pair_of c.args.edits.now.puts.items in
    let runs = c.meets_runs.ensures ∙ ap (λ xs. is_met (put_keys (flat_map run_pairs xs)) lo hi) c.as_slice.ensures.value in
    let values = c.meets_values.ensures ∙ sym (values_met lo hi c.as_slice-else-meets_runs.result.now) ∙ ap (λ xs. is_met (put_keys (map pair_of xs)) lo hi) c.as_slice-else-meets_runs.ensures.value in
    values ∙ or_false (is_met (put_keys rs) lo hi) (is_met (put_keys ps) lo hi) (is_met (put_keys (rs ++ ps)) lo hi) (keys_met rs ps lo hi) (sym runs ∙ c.if-meets_runs.false)
