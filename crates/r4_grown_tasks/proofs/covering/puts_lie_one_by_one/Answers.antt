use Rattle.std.proofs.Common.{map, sym, subst, ◌++◌, ◌^◌}
use Rattle.std.specs.List.{flat_map}
use Rattle.std.specs.Prelude.{All}
use Rattle.r4_content.specs.Held.{fill_pairs, interval_of, run_pairs}
use Rattle.r4_lost_tasks.specs.r4_extent_growth.r4_leaf_edits.Suiting.{IsBefore, zero_pairs}
use Rattle.r4_lost_tasks.proofs.r4_extent_growth.r4_extent_change.r4_extent_build.r4_extent_demands.r4_leaf_edits.Clipped.{all_right}
use Rattle.r4_lost_tasks.proofs.r4_extent_growth.r4_extent_change.r4_extent_build.r4_extent_demands.r4_leaf_edits.Meant.{bytes_before}
use Rattle.r4_grown_tasks.proofs.covering.puts_lie_one_by_one.Goals as goal

pub runs_lie-requires : goal.runs_lie-requires
runs_lie-requires c =
    let e = c.args.edits.now in
    let zs = flat_map zero_pairs (map interval_of e.zeros.items) in
    let fs = flat_map fill_pairs e.fills.items in
    let rs = flat_map run_pairs e.runs.items in
    subst (λ is. All (IsBefore (2 ^ 30)) (flat_map run_pairs is)) (sym c.as_slice.ensures.value)
    (all_right (IsBefore (2 ^ 30)) fs rs (all_right (IsBefore (2 ^ 30)) zs (fs ++ rs) (bytes_before e (2 ^ 30) c.requires)))
