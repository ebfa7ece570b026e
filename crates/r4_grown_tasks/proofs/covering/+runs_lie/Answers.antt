use Rattle.std.proofs.Common.{ap, rules, subst}
use Rattle.std.specs.List.{flat_map}
use Rattle.std.specs.Prelude.{All, ◌^◌}
use Rattle.r4_content.specs.Held.{run_pairs}
use Rattle.r4_lost_tasks.specs.r4_extent_growth.r4_leaf_edits.Suiting.{IsBefore}
use Rattle.r4_lost_tasks.proofs.r4_extent_growth.r4_extent_change.r4_extent_build.r4_extent_demands.r4_leaf_edits.Clipped.{all_right}
use Rattle.r4_grown_tasks.proofs.covering.+runs_lie.Goals as goal

pub runs_lie-requires : goal.runs_lie-requires
runs_lie-requires t c = (
  search rules,
  all_right (IsBefore (2 ^ 30)) (run_pairs c.in-Some.first.now) (flat_map run_pairs c.in-Some.rest.now)
      (subst (All (IsBefore (2 ^ 30))) (ap (flat_map run_pairs) c.in-Some.ensures.cases.0) c.requires),
)
