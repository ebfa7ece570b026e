use Rattle.std.proofs.Common.{◌+◌, arith}
use Rattle.r4_twig_work.specs.r4_measure.Budget.{most_from}
use Rattle.r4_twig_turns.proofs.TurnByTurn.{all_turns, few_stand}
use Rattle.r4_twig_turns.specs.Turning.{come_at_most}
use Rattle.r4_twig_work.specs.r4_work.Working.{root_of, standing}
use Rattle.r4_twig_turns.proofs.laws.each_twig_has_its_turn.Goals as goal

pub returns : goal.returns
returns c = record {
  turns = λ t r es is f w b measured quiet ready unplaced numbers. all_turns t r es is f w b measured quiet ready unplaced.0 unplaced.1 numbers;
  few = λ t r es is f w b measured quiet ready unplaced numbers. few_stand (most_from b (root_of w r) (standing w) + come_at_most es) t r es is f w b measured quiet ready unplaced.0 unplaced.1 numbers (omega arith);
}
