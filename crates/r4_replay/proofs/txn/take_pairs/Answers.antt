use Rattle.std.proofs.Common.{◌∙◌, sym, inl, refl, arith}
use Rattle.r4_replay.proofs.Pairs.{first_bad, second_bad, both_good, one_bad, one_good, one_taken}
use Rattle.r4_replay.proofs.txn.take_pairs.Goals as goal
use Rattle.r4_replay.proofs.txn.take_pairs.Goals.{then-not-is_original-via-then-not-is_original, then-not-is_original-via-else-not-is_original+then-not-is_in_log}

pub returns-then-not-is_original : goal.returns-then-not-is_original
returns-then-not-is_original c = (
  refl,
  inl (
    refl,
    elim c.then-not-is_original.branch [
      | then-not-is_original-via-then-not-is_original w ↦ one_bad c.args.blocks _ c.loop-i.i c.pair-original.result (omega (arith, c.loop-i-test.true, c.loop-i.invariant.ends)) c.pair-original.ensures (first_bad c.args.blocks c.pair-original.result (sym c.is_original.ensures ∙ w.if-not-is_original.true))
      | then-not-is_original-via-else-not-is_original+then-not-is_in_log w ↦ one_bad c.args.blocks _ c.loop-i.i c.pair-original.result (omega (arith, c.loop-i-test.true, c.loop-i.invariant.ends)) c.pair-original.ensures (second_bad c.args.blocks c.pair-original.result (sym w.is_in_log.ensures ∙ w.if-not-is_in_log.true))
    ],
  ),
)

pub loop-i-preserved : goal.loop-i-preserved
loop-i-preserved c = record {
  ends = c.loop-i.invariant.ends;
  good = one_good c.args.blocks _ c.loop-i.i c.pair-original.result (omega (arith, c.loop-i-test.true, c.loop-i.invariant.ends)) c.pair-original.ensures
      (both_good c.args.blocks c.pair-original.result (sym c.is_original.ensures ∙ c.if-not-is_original.false) (sym c.is_in_log.ensures ∙ c.if-not-is_in_log.false)) c.loop-i.invariant.good;
  taken = one_taken _ _ _ _ c.loop-i.i c.pair-original.result (omega (arith, c.loop-i-test.true, c.loop-i.invariant.ends)) c.pair-original.ensures c.loop-i.invariant.taken c.in_ok-push.ensures.items;
}
