use Rattle.std.proofs.Common.{◌∙◌, List, sym, ap}
use Rattle.std.specs.List.{flat_map}
use Rattle.r4_base.specs.Key.{rank}
use Rattle.r4_content.specs.Edited.{put_keys}
use Rattle.r4_content.specs.Held.{run_pairs}
use Rattle.r4_content.specs.declared.edits.ByteRun.{ByteRun}
use Rattle.r4_reach.specs.Needs.{is_met}
use Rattle.r4_leaf_edits.proofs.Touched.{keys_met, or_false, or_true}
use Rattle.r4_leaf_edits.proofs.touching.+meets_runs.Goals as goal

pub returns-then-meets_run : goal.returns-then-meets_run
returns-then-meets_run t c =
    let lo = rank c.args.range.now.from in
    let hi = rank c.args.range.now.to in
    let whole = ap (λ (rs : List ByteRun). is_met (put_keys (flat_map run_pairs rs)) lo hi) c.in-Some.ensures.cases.0 ∙ keys_met (run_pairs c.in-Some.first.now) (flat_map run_pairs c.in-Some.rest.now) lo hi in
    c.meets_run.ensures ∙ or_true (is_met (put_keys (run_pairs c.in-Some.first.now)) lo hi) (is_met (put_keys (flat_map run_pairs c.in-Some.rest.now)) lo hi) (is_met (put_keys (flat_map run_pairs c.args.runs.now)) lo hi) whole
    (sym c.meets_run.ensures ∙ c.if-meets_run.true)

pub returns-else-meets_run : goal.returns-else-meets_run
returns-else-meets_run t c =
    let lo = rank c.args.range.now.from in
    let hi = rank c.args.range.now.to in
    let whole = ap (λ (rs : List ByteRun). is_met (put_keys (flat_map run_pairs rs)) lo hi) c.in-Some.ensures.cases.0 ∙ keys_met (run_pairs c.in-Some.first.now) (flat_map run_pairs c.in-Some.rest.now) lo hi in
    c.meets_runs.ensures ∙ or_false (is_met (put_keys (run_pairs c.in-Some.first.now)) lo hi) (is_met (put_keys (flat_map run_pairs c.in-Some.rest.now)) lo hi) (is_met (put_keys (flat_map run_pairs c.args.runs.now)) lo hi) whole
    (sym c.meets_run.ensures ∙ c.if-meets_run.false)
