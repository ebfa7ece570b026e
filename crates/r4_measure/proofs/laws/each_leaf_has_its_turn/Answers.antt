use Rattle.std.proofs.Common.{arith}
use Rattle.r4_measure.specs.Budget.{most_from}
use Rattle.r4_measure.proofs.Loop.{all_turns, few_stand}
use Rattle.r4_work.specs.Working.{root_of, standing}
use Rattle.r4_measure.proofs.laws.each_leaf_has_its_turn.Goals as goal

pub returns : goal.returns
returns c = record {
  turns = λ t r es is f w b measured ready unplaced numbers. all_turns t r es is f w b measured ready unplaced.0 unplaced.1 numbers;
  few = λ t r es is f w b measured ready unplaced numbers. few_stand (most_from b (root_of w r) (standing w)) t r es is f w b measured ready unplaced.0 unplaced.1 numbers (omega arith);
}
