use Rattle.std.proofs.Common.{ap}
use Rattle.r4_check.specs.Units.{unit_names}
use Rattle.r4_check.specs.Walk.{look_at}
use Rattle.r4_check.proofs.Items.{unit_run}
use Rattle.r4_check.proofs.Steps.{steps_as}
use Rattle.r4_check.proofs.look.look_at_unit.Goals as goal

pub returns-clause-steps : goal.returns-clause-steps
returns-clause-steps g c image levels key bitmaps =
    let blocks = c.args.settled.now.found.super40.block_count in
    steps_as blocks _ _ _ _ _ _ (λ w. look_at levels blocks image w (unit_names key c.args.unit)) (λ w h. ap (look_at levels blocks image w) (unit_run key c.args.unit c.if-unit-eq0.false)) (c.look_at_run.ensures.steps image levels key bitmaps)
