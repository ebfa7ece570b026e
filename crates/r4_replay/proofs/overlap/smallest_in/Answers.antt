use Rattle.std.proofs.Common.{sym, ◌∙◌}
use Rattle.r4_base.proofs.Choices.{never_both}
use Rattle.r4_replay.proofs.Overlaps.{pair_skipped, pair_taken}
use Rattle.r4_replay.proofs.overlap.smallest_in.Goals as goal
use Rattle.r4_replay.proofs.overlap.smallest_in.Goals.{then-contains, else-contains}

pub loop-original-preserved : goal.loop-original-preserved
loop-original-preserved c = elim c.if-contains.branch [
  | then-contains w ↦ pair_taken c.args.kept.now c.args.pairs.now c.loop-original.original-index w.smaller.result c.args.before c.loop-original.smallest c.if-contains.smallest c.loop-original-test.true
      (sym c.contains.ensures ∙ w.if-contains.true) w.smallest-is w.smaller.ensures c.loop-original.invariant
  | else-contains w ↦ pair_skipped c.args.kept.now c.args.pairs.now c.loop-original.original-index c.args.before c.loop-original.smallest c.if-contains.smallest c.loop-original-test.true
      (λ has. never_both _ has (sym c.contains.ensures ∙ w.if-contains.false)) w.smallest-is c.loop-original.invariant
]
