use Rattle.std.proofs.Common.{ℕ, ◌<◌, ◌^◌, get_or, arith}
use Rattle.std.proofs.lemmas.List.Elements.{All-more}
use Rattle.r4_logfmt.proofs.Writes.{pairs_more}
use Rattle.r4_logfmt.proofs.record_write.put_pairs.Goals as goal

pub loop-i-preserved : goal.loop-i-preserved
loop-i-preserved c =
    let small : (get_or c.args.pairs.now c.loop-i.i (0, 0)).0 < 2 ^ 64 = omega arith in
    let small' : (get_or c.args.pairs.now c.loop-i.i (0, 0)).1 < 2 ^ 64 = omega arith in
    record {
      fit = All-more (λ (p : ℕ × ℕ). (p.0 < 2 ^ 64) × (p.1 < 2 ^ 64)) c.args.pairs.now c.loop-i.i (0, 0) c.loop-i-test.true c.loop-i.invariant.fit (small, small');
      spelled = pairs_more c.args.pairs.now c.loop-i.i c.args.b.now c.loop-i.b c.put64.new.b c.put64-in-loop-i.new.b c.loop-i-test.true c.loop-i.invariant.spelled c.put64.ensures c.put64-in-loop-i.ensures;
    }
