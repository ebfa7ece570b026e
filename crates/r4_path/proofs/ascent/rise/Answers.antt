use Rattle.std.proofs.Common.{ap, subst, map, List}
use Rattle.std.proofs.lemmas.Result.{IfOk-weaker}
use Rattle.std.specs.Prelude.{option_map, reverse}
use Rattle.std.specs.Arc.{arc_value}
use Rattle.r4_path.specs.Levels.{Climbed, HasLevels, step_of}
use Rattle.r4_path.specs.Steps.{Step}
use Rattle.r4_path.proofs.ascent.rise.Goals as goal

pub returns-clause-rises : goal.returns-clause-rises
returns-clause-rises c =
    let over = option_map (λ x. arc_value x) c.in_ok-over.over in
    IfOk-weaker c.gather.result _ _ (λ d levels. record {
      steps = map step_of c.climb.new.levels.items;
      over = over;
      climbed = subst (λ (were : List Step). Climbed (step_of c.args.lowest)
          (reverse (map arc_value c.args.above.now)) c.args.fresh.now c.climb.new.fresh were
          (map step_of c.climb.new.levels.items) over)
          (ap (map step_of) c.new-levels.ensures.items) c.in_ok-over.ensures.climbed;
      levels = subst (λ (steps : List Step). HasLevels steps over d) (ap (map step_of) c.as_slice.ensures.value) levels;
    }) c.gather.ensures
