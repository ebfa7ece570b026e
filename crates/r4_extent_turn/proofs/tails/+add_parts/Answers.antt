use Rattle.std.proofs.lemmas.Result.{on_ok_weaker}
use Rattle.r4_content.specs.Held.{part_pairs}
use Rattle.r4_extent_turn.proofs.Gathered.{adds_first}
use Rattle.r4_extent_turn.proofs.tails.+add_parts.Goals as goal

pub returns-in_ok-add_part-in-Some : goal.returns-in_ok-add_part-in-Some
returns-in_ok-add_part-in-Some t c =
    on_ok_weaker c.add_parts.result (λ done. adds_first part_pairs c.args.parts.now c.in-Some.first.now c.in-Some.rest.now c.in-Some.ensures.cases.0
    c.args.runs.now.items c.add_part.new.runs.items c.add_parts.new.runs.items c.in_ok-add_part-in-Some.ensures done) c.add_parts.ensures
