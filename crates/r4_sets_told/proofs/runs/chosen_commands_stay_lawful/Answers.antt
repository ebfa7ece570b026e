use Rattle.r4_sets_told.proofs.Counted.{good}
use Rattle.r4_sets_told.proofs.runs.chosen_commands_stay_lawful.Goals as goal

pub returns : goal.returns
returns c = record {
  lawful = λ limit start job trace s lt run.
      (good limit lt start job s trace run.lawful run.room run.paths run.ids).lawful;
  known = λ limit start job trace s lt run.
      (good limit lt start job s trace run.lawful run.room run.paths run.ids).known;
}
