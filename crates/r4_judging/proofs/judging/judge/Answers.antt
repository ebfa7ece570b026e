use Rattle.std.proofs.Common.{map, subst}
use Rattle.std.specs.Arc.{arc_value}
use Rattle.r4_judging.specs.Judging.{IsJudged, all_names}
use Rattle.r4_judging.proofs.Parts.{is_part}
use Rattle.r4_judging.proofs.judging.judge.Goals as goal

pub returns-in-None-clause-judged : goal.returns-in-None-clause-judged
returns-in-None-clause-judged c =
    let met = map (λ x. arc_value x) c.args.met.now in
    is_part c.args.root.now met c.requires c.in_ok-misnamed.ensures.sound
    (subst (IsJudged (all_names met) met) c.in-None.is c.in_ok-misnamed.ensures.judged)
