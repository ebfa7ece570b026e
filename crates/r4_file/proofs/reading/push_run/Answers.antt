use Rattle.std.proofs.Common.{◌≡◌, ◌-◌, ◌≤◌, [], ◌∙◌, arith, length, min}
use Rattle.std.proofs.lemmas.Grind.{common_steps}
use Rattle.r4_base.specs.Key.{rank}
use Rattle.r4_content.specs.Bodies.{bytes_in}
use Rattle.r4_content.specs.Held.{run_pairs}
use Rattle.r4_content.specs.Seen.{pairs_in}
use Rattle.r4_file.proofs.Runs.{no_bytes, run_bytes}
use Rattle.r4_file.proofs.reading.push_run.Goals as goal

pub returns-then-from-to : goal.returns-then-from-to
returns-then-from-to c =
    let places : min (rank c.args.within.to - rank c.args.run.now.from) (length c.args.run.now.bytes) ≤ min (rank c.args.within.from - rank c.args.run.now.from) (length c.args.run.now.bytes) = grind (arith, common_steps) in
    let none : bytes_in (pairs_in (run_pairs c.args.run.now) (rank c.args.within.from) (rank c.args.within.to)) ≡ [] = run_bytes (rank c.args.within.from) (rank c.args.within.to) (rank c.args.run.now.from) c.args.run.now.bytes ∙ no_bytes c.args.run.now.bytes _ _ places in
    grind (arith, common_steps)
