use Rattle.r4_reach.proofs.Answers.{is_seen, read_is, same_units, written_is}
use Rattle.r4_reach.proofs.laws.answers_hold_in_the_tree.Goals as goal

pub returns : goal.returns
returns g = record {
  units = λ root c met reads writes rises h u other k v iu same touch. same_units root c met reads writes rises h u
      other iu same k v touch;
  seen = λ root c met reads writes rises h u other m iu same units. is_seen root c met reads writes rises h u other m
      iu same units;
  written = λ root c met reads writes rises h u x iu all. written_is root c met reads writes rises h u iu all x;
  read = λ root c met reads writes rises h u x iu all. read_is root c met reads writes rises h u iu all x;
}
