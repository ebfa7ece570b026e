use Rattle.r4_sets_told.proofs.Counted.{counted, has_ids}
use Rattle.r4_sets_told.proofs.runs.chosen_commands_count.Goals as goal

pub returns : goal.returns
returns c = record {
  objects = λ limit start job trace s lt run finds. counted limit lt start job s trace run.lawful run.room run.paths
      run.ids finds;
  ids = λ limit start job trace s super lt run finds counts. has_ids limit lt start job s trace super run finds counts;
}
