use Rattle.std.proofs.Common.{arith, ◌≡◌, ◌≤◌, ◌++◌, ◌∷◌, [], length, drop}
use Rattle.std.proofs.lemmas.Grind.{common_steps}
use Rattle.r4_script.specs.Split.{until}
use Rattle.r4_script.proofs.Splits.{until_short, names_more_at, names_last_at}
use Rattle.r4_script.proofs.path.names.Goals as goal

pub loop-place-preserved : goal.loop-place-preserved
loop-place-preserved c =
    let here : c.loop-place.place ≤ length c.args.bytes.now = omega arith in
    let part : c.until-part.result.now ≡ until 47 (drop c.loop-place.place c.args.bytes.now) = grind (arith, common_steps) in
    let made : c.push.new.self.items ≡ c.loop-place.names.items ++ c.until-part.result.now ∷ [] = grind (arith, common_steps) in
    let short : length c.until-part.result.now ≤ length (drop c.loop-place.place c.args.bytes.now) = grind (arith, until_short, common_steps) in
    record {
      within = grind (arith, common_steps);
      more = names_more_at c.loop-place.place _ c.args.bytes.now c.until-part.result.now c.loop-place.names.items c.push.new.self.items here c.loop-place.invariant.more part made (omega arith);
      done = names_last_at c.loop-place.place _ c.args.bytes.now c.until-part.result.now c.loop-place.names.items c.push.new.self.items here c.loop-place.invariant.more part made (omega arith);
    }
