use Rattle.std.proofs.Common.{refl}
use Rattle.r4_check.specs.Walk.{with_gap}
use Rattle.r4_check.proofs.Steps.{steps_noted, steps_then}
use Rattle.r4_check.proofs.Tallies.{tally_gap}
use Rattle.r4_check.proofs.look.look_again.Goals as goal

pub returns-clause-steps : goal.returns-clause-steps
returns-clause-steps g c blocks = steps_then blocks _ _ _ _ _ _ (tt {0}) _ with_gap _
    (steps_noted blocks _ _ _ (tt {0}) with_gap (λ w. refl) (λ w h. tally_gap blocks w _ _ h refl refl refl refl)) (c.tell_wrong.ensures.steps blocks)
