use Rattle.std.proofs.Common.{map, length, ap, arith}
use Rattle.r4_content.specs.Held.{edits_of, interval_of}
use Rattle.r4_leaf_demands.specs.Touching.{span_of}
use Rattle.r4_leaf_demands.proofs.Spans.{one_touched, touched_one}
use Rattle.r4_leaf_demands.proofs.touching.extent_has.Goals as goal

pub returns-in-Some : goal.returns-in-Some
returns-in-Some c =
    let e = edits_of c.args.edits.now in
    let reads = map interval_of c.args.reads.now in
    let cell = c.args.cell.now in
    let told = c.in-Some.ensures in
    let answer = c.range_has.ensures in
    let within = c.requires.within in
    let same = ap length c.requires.items in (
      (λ t. one_touched c.args.way e reads cell c.args.place (span_of c.in-Some.range) told
          (omega (arith, within, same)) (answer.0 t)),
      (λ h. answer.1 (touched_one c.args.way e reads cell c.args.place (span_of c.in-Some.range) told h)),
    )
