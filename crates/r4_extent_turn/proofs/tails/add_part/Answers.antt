use Rattle.std.proofs.Common.{ap, sym, ◌∙◌}
use Rattle.r4_base.specs.Key.{rank}
use Rattle.r4_content.specs.Held.{part_pairs}
use Rattle.r4_content.specs.Objects.{byte_pairs}
use Rattle.r4_extent_turn.proofs.Gathered.{adds_run}
use Rattle.r4_extent_turn.proofs.tails.add_part.Goals as goal

pub returns-in_ok-push-in-Run : goal.returns-in_ok-push-in-Run
returns-in_ok-push-in-Run c =
    adds_run c.args.runs.now.items c.push.new.self.items (record { from = c.in-Run.run'.from; bytes = c.in_ok-bytes-in-Run.bytes }) (part_pairs c.args.part.now)
    c.in_ok-push-in-Run.ensures.items (ap (byte_pairs (rank c.in-Run.run'.from)) c.in_ok-bytes-in-Run.ensures ∙ sym (ap part_pairs c.in-Run.is))
