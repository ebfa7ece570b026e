use Rattle.r4_spared.proofs.Answered.{answer_builds, changes_leaves}
use Rattle.r4_spared.proofs.laws.answers_can_be_built.Goals as goal

pub returns : goal.returns
returns g = record {
  changes = λ root c met reads writes rises h stand paths tails lie.
      changes_leaves root c met reads writes rises h stand paths tails lie;
  builds = λ root c met reads writes rises h f stand paths tails lie keys height low has.
      answer_builds root c met reads writes rises h stand paths tails lie f height low has keys;
}
