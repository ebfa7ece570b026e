use Rattle.std.proofs.Common.{ℕ}
use Rattle.std.proofs.lemmas.List.{length-map}
use Rattle.std.proofs.Math.ListN.{get_or-map}
use Rattle.r4_replay.proofs.Overlaps.{adds_more}
use Rattle.r4_replay.proofs.overlap.keep_wandered.Goals as goal

pub loop-wandered-preserved : goal.loop-wandered-preserved
loop-wandered-preserved c = adds_more _ _ _ _ _ _ _ (rw (length-map {A = ℕ × ℕ} c.args.pairs.now (λ p. p.1)) c.loop-wandered-test.true) (get_or-map {A = ℕ × ℕ} (λ p. p.1) c.args.pairs.now c.loop-wandered.wandered-index (0, 0)) c.loop-wandered.invariant c.in_ok-insert.ensures.updates
