use Rattle.std.proofs.Common.{[], ◌∷◌, ◌++◌, ap, ◌∙◌}
use Rattle.r4_base.specs.Key.{rank}
use Rattle.r4_content.specs.Objects.{byte_pairs}
use Rattle.r4_extent_turn.specs.Gathering.{byte_pair}
use Rattle.r4_extent_turn.proofs.Gathered.{adds_run}
use Rattle.r4_extent_turn.proofs.tails.add_byte.Goals as goal

pub returns : goal.returns
returns c = adds_run c.args.runs.now.items c.push-2.new.self.items (record { from = c.args.key.now; bytes = c.in_ok-bytes-2.bytes }) (byte_pair (rank c.args.key.now) c.args.byte)
    c.in_ok-push-2.ensures.items (ap (byte_pairs (rank c.args.key.now)) (c.in_ok-bytes-2.ensures ∙ (c.in_ok-push.ensures.items ∙ ap (λ xs. xs ++ (c.args.byte ∷ [])) c.in_ok-bytes.ensures.items)))
