use Rattle.std.proofs.Common.{length, ap, arith, false, refl}
use Rattle.std.proofs.lemmas.Bool.{both_ways}
use Rattle.r4_bodies.specs.r4_leaf_demands.Touching.{span_of}
use Rattle.r4_extent_demands.proofs.Ahead.{holds_one, none_holds, one_holds}
use Rattle.r4_extent_demands.proofs.ranges.extent_has.Goals as goal

pub returns-in-Some : goal.returns-in-Some
returns-in-Some c =
    let told = c.in-Some.ensures in
    let answer = c.range_has.ensures in
    let within = c.requires.within in
    let same = ap length c.requires.items in (
      (λ t. one_holds c.args.way c.args.cell.now c.args.place (span_of c.in-Some.range) told
          (omega (arith, within, same)) (answer.0 t)),
      (λ h. answer.1 (holds_one c.args.way c.args.cell.now c.args.place (span_of c.in-Some.range) told h)),
    )

pub returns-in-None : goal.returns-in-None
returns-in-None c = (
  (λ t. absurd (both_ways false refl t)),
  (λ h. absurd (none_holds c.args.way c.args.cell.now c.args.place c.in-None.ensures h)),
)
