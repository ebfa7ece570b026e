use Rattle.r4_measure.proofs.Begin.{reach_few, reach_turns}
use Rattle.r4_measure.proofs.laws.reach_suffices_for_all_edits.Goals as goal

pub returns : goal.returns
returns c = record {
  turns = λ b e reads rs t r f cells w us is reached start edits unplaced numbers. reach_turns b e reads rs t r f cells reached w start us is edits unplaced.0 unplaced.1 numbers;
  few = λ b e reads rs t r f cells w us is reached start edits unplaced numbers. reach_few b e reads rs t r f cells reached w start us is edits unplaced.0 unplaced.1 numbers;
}
