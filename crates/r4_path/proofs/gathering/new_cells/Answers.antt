use Rattle.std.proofs.Common.{◌∙◌, ◌++◌, ap, sym, map, take, None}
use Rattle.std.specs.Arc.{arc_value}
use Rattle.r4_path.specs.Levels.{step_of}
use Rattle.r4_path.specs.Steps.{news}
use Rattle.r4_path.proofs.Upwards.{news_more}
use Rattle.r4_path.proofs.gathering.new_cells.Goals as goal

pub loop-level-preserved : goal.loop-level-preserved
loop-level-preserved c =
    c.in_ok-add.ensures
    ∙ (ap (λ xs. xs ++ map (λ x. arc_value x) c.as_slice.result.now) c.loop-level.invariant
    ∙ (ap (λ xs. news (map step_of (take c.loop-level.level-index c.args.levels.now)) None ++ xs) c.as_slice.ensures
    ∙ sym (news_more step_of c.args.levels.now c.loop-level.level-index c.level-item.result c.loop-level-test.true c.level-item.is)))
