use Rattle.std.proofs.Common.{map, sym, subst, ap, ◌∙◌, ◌++◌, ◌^◌}
use Rattle.std.specs.List.{flat_map}
use Rattle.std.specs.Prelude.{All, Some}
use Rattle.std.specs.Option.{option_map}
use Rattle.r4_base.specs.Key.{rank}
use Rattle.r4_content.specs.Edited.{put_keys}
use Rattle.r4_content.specs.Held.{fill_pairs, interval_of, pair_of, run_pairs}
use Rattle.r4_leaf_demands.specs.r4_leaf_edits.Suiting.{IsBefore, zero_pairs}
use Rattle.r4_leaf_demands.proofs.r4_leaf_edits.Clipped.{all_left, all_right}
use Rattle.r4_leaf_demands.proofs.r4_leaf_edits.Meant.{bytes_before}
use Rattle.r4_leaf_demands.proofs.r4_leaf_edits.Puts.{put_keys_append}
use Rattle.r4_leaf_demands.specs.r4_reach.Touched.{body_key}
use Rattle.r4_bodies.proofs.FirstKeys.{behind, here}
use Rattle.r4_bodies.proofs.finding.first_put.Goals as goal

pub first_of_fills-requires : goal.first_of_fills-requires
first_of_fills-requires c =
    let e = c.args.edits.now in
    let zs = flat_map zero_pairs (map interval_of e.zeros.items) in
    let fs = flat_map fill_pairs e.fills.items in
    let rs = flat_map run_pairs e.runs.items in
    subst (λ is. All (IsBefore (2 ^ 64)) (flat_map fill_pairs is)) (sym c.as_slice.ensures.value)
    (all_left (IsBefore (2 ^ 64)) fs rs
    (all_right (IsBefore (2 ^ 64)) zs (fs ++ rs) (bytes_before e (2 ^ 64) c.requires)))

pub first_of_runs-requires : goal.first_of_runs-requires
first_of_runs-requires c =
    let e = c.args.edits.now in
    let zs = flat_map zero_pairs (map interval_of e.zeros.items) in
    let fs = flat_map fill_pairs e.fills.items in
    let rs = flat_map run_pairs e.runs.items in
    subst (λ is. All (IsBefore (2 ^ 64)) (flat_map run_pairs is)) (sym c.as_slice-2.ensures.value)
    (all_right (IsBefore (2 ^ 64)) fs rs
    (all_right (IsBefore (2 ^ 64)) zs (fs ++ rs) (bytes_before e (2 ^ 64) c.requires)))

pub returns-in-Some : goal.returns-in-Some
returns-in-Some c =
    let e = c.args.edits.now in
    let fs = flat_map fill_pairs e.fills.items in
    let rs = flat_map run_pairs e.runs.items in
    let vs = map pair_of e.puts.items in
    let fills = ap (λ xs. body_key (put_keys (flat_map fill_pairs xs))) c.as_slice.ensures.value in
    here (put_keys fs) (put_keys (rs ++ vs)) (put_keys (fs ++ (rs ++ vs))) (rank c.in-Some.key)
    (put_keys_append fs (rs ++ vs)) (sym (c.in-Some.ensures ∙ fills))

pub returns-in-Some-first_of_runs : goal.returns-in-Some-first_of_runs
returns-in-Some-first_of_runs c =
    let e = c.args.edits.now in
    let fs = flat_map fill_pairs e.fills.items in
    let rs = flat_map run_pairs e.runs.items in
    let vs = map pair_of e.puts.items in
    let key = rank c.in-Some-first_of_runs.key in
    let fills = ap (λ xs. body_key (put_keys (flat_map fill_pairs xs))) c.as_slice.ensures.value in
    let runs = ap (λ xs. body_key (put_keys (flat_map run_pairs xs))) c.as_slice-2.ensures.value in
    behind (put_keys fs) (put_keys (rs ++ vs)) (put_keys (fs ++ (rs ++ vs))) (Some key) (put_keys_append fs (rs ++ vs))
    (sym (c.in_default.ensures ∙ fills))
    (here (put_keys rs) (put_keys vs) (put_keys (rs ++ vs)) key (put_keys_append rs vs)
    (sym (c.in-Some-first_of_runs.ensures ∙ runs)))

pub returns : goal.returns
returns c =
    let e = c.args.edits.now in
    let fs = flat_map fill_pairs e.fills.items in
    let rs = flat_map run_pairs e.runs.items in
    let vs = map pair_of e.puts.items in
    let o = option_map rank c.first_of_values.result in
    let fills = ap (λ xs. body_key (put_keys (flat_map fill_pairs xs))) c.as_slice.ensures.value in
    let runs = ap (λ xs. body_key (put_keys (flat_map run_pairs xs))) c.as_slice-2.ensures.value in
    let values = ap (λ xs. body_key (put_keys (map pair_of xs))) c.as_slice-3.ensures.value in
    behind (put_keys fs) (put_keys (rs ++ vs)) (put_keys (fs ++ (rs ++ vs))) o (put_keys_append fs (rs ++ vs))
    (sym (c.in_default.ensures ∙ fills))
    (behind (put_keys rs) (put_keys vs) (put_keys (rs ++ vs)) o (put_keys_append rs vs)
    (sym (c.in_default-first_of_runs.ensures ∙ runs))
    (c.first_of_values.ensures ∙ values))
