use Rattle.std.proofs.Common.{ap, subst, sym, rules}
use Rattle.std.specs.List.{flat_map}
use Rattle.std.specs.Prelude.{All, ◌^◌}
use Rattle.std.proofs.lemmas.Result.{on_ok_weaker}
use Rattle.r4_base.specs.Key.{rank}
use Rattle.r4_content.specs.Edited.{put_keys}
use Rattle.r4_content.specs.Held.{run_pairs}
use Rattle.r4_content.specs.Objects.{byte_pairs}
use Rattle.r4_twig_asks.specs.r4_leaf_edits.Suiting.{IsBefore}
use Rattle.r4_twig_asks.proofs.r4_leaf_edits.Clipped.{all_left, all_right}
use Rattle.r4_extent_asks.specs.Widening.{AddsChanges}
use Rattle.r4_extent_asks.proofs.Adding.{adds_both, adds_none, keys_both, nothing_of}
use Rattle.r4_extent_asks.proofs.intervals.+add_runs.Goals as goal

pub returns-in-None : goal.returns-in-None
returns-in-None t c = adds_none c.args.keys.now.items (put_keys (flat_map run_pairs c.args.runs.now))
    (ap (λ rs. put_keys (flat_map run_pairs rs)) (nothing_of c.args.runs.now c.in-None.ensures.cases))

pub add_bytes-requires : goal.add_bytes-requires
add_bytes-requires t c =
    let all = subst (All (IsBefore (2 ^ 30))) (ap (flat_map run_pairs) c.in-Some.ensures.cases.0) c.requires in
    subst (λ bytes. All (IsBefore (2 ^ 30)) (byte_pairs (rank c.in-Some.first.now.from) bytes)) (sym c.as_slice.ensures)
    (all_left (IsBefore (2 ^ 30)) (run_pairs c.in-Some.first.now) (flat_map run_pairs c.in-Some.rest.now) all)

pub add_runs-requires : goal.add_runs-requires
add_runs-requires t c = (
  search rules,
  all_right (IsBefore (2 ^ 30)) (run_pairs c.in-Some.first.now) (flat_map run_pairs c.in-Some.rest.now)
      (subst (All (IsBefore (2 ^ 30))) (ap (flat_map run_pairs) c.in-Some.ensures.cases.0) c.requires),
)

pub returns-in_ok-add_bytes-in-Some : goal.returns-in_ok-add_bytes-in-Some
returns-in_ok-add_bytes-in-Some t c =
    let f = c.in-Some.first.now in
    on_ok_weaker c.add_runs.result
    (adds_both c.args.keys.now.items c.add_bytes.new.keys.items c.add_runs.new.keys.items (put_keys (run_pairs f))
    (put_keys (flat_map run_pairs c.in-Some.rest.now)) (put_keys (flat_map run_pairs c.args.runs.now))
    (keys_both (run_pairs f) (flat_map run_pairs c.in-Some.rest.now) (flat_map run_pairs c.args.runs.now)
    (ap (flat_map run_pairs) c.in-Some.ensures.cases.0))
    (subst (λ bytes. AddsChanges c.args.keys.now.items (put_keys (byte_pairs (rank f.from) bytes))
    c.add_bytes.new.keys.items) c.as_slice.ensures c.in_ok-add_bytes-in-Some.ensures)) c.add_runs.ensures
