use Rattle.std.proofs.Common.{◌++◌, ◌∙◌, map, sym, ap}
use Rattle.std.specs.List.{flat_map}
use Rattle.r4_base.specs.Key.{rank}
use Rattle.r4_content.specs.Edited.{put_keys}
use Rattle.r4_content.specs.Held.{fill_pairs, pair_of, run_pairs}
use Rattle.r4_bodies.specs.r4_leaf_edits.r4_reach.Needs.{is_met}
use Rattle.r4_bodies.proofs.r4_leaf_edits.Touched.{fills_met, keys_met, or_false, or_true}
use Rattle.r4_extent_demands.proofs.gaining.puts_in.Goals as goal

pub returns-then-meets_fills : goal.returns-then-meets_fills
returns-then-meets_fills c =
    let lo = rank c.args.range.now.from in
    let hi = rank c.args.range.now.to in
    let fs = flat_map fill_pairs c.args.edits.now.fills.items in
    let rs = flat_map run_pairs c.args.edits.now.runs.items ++ map pair_of c.args.edits.now.puts.items in
    let fills = c.meets_fills.ensures ∙ sym (fills_met lo hi c.as_slice.result.now) ∙ ap (λ xs. is_met (put_keys (flat_map fill_pairs xs)) lo hi) c.as_slice.ensures.value in
    fills ∙ or_true (is_met (put_keys fs) lo hi) (is_met (put_keys rs) lo hi) (is_met (put_keys (fs ++ rs)) lo hi) (keys_met fs rs lo hi) (sym fills ∙ c.if-meets_fills.true)

pub returns-else-meets_fills : goal.returns-else-meets_fills
returns-else-meets_fills c =
    let lo = rank c.args.range.now.from in
    let hi = rank c.args.range.now.to in
    let fs = flat_map fill_pairs c.args.edits.now.fills.items in
    let rs = flat_map run_pairs c.args.edits.now.runs.items ++ map pair_of c.args.edits.now.puts.items in
    let fills = c.meets_fills.ensures ∙ sym (fills_met lo hi c.as_slice.result.now) ∙ ap (λ xs. is_met (put_keys (flat_map fill_pairs xs)) lo hi) c.as_slice.ensures.value in
    c.puts_one_by_one.ensures ∙ or_false (is_met (put_keys fs) lo hi) (is_met (put_keys rs) lo hi) (is_met (put_keys (fs ++ rs)) lo hi) (keys_met fs rs lo hi) (sym fills ∙ c.if-meets_fills.false)
