use Rattle.std.proofs.Common.{length, sym, ap, ◌∙◌, arith}
use Rattle.std.proofs.lemmas.Bool.{leb-true, ltb-false}
use Rattle.r4_base.specs.Key.{rank}
use Rattle.r4_extent_blocks.proofs.Sets.{run_all}
use Rattle.r4_extent_blocks.proofs.finding.run_covers.Goals as goal

pub returns-then-not-is_below : goal.returns-then-not-is_below
returns-then-not-is_below c = λ e.
    run_all (rank c.args.lo.now) (rank c.args.run.now.from) c.args.run.now.bytes (ltb-false _ _ (sym c.is_below.ensures ∙ c.if-not-is_below.true)) (let n = ap length c.as_slice-count.ensures in let le = leb-true _ _ e in let k = c.keys_between.ensures in omega (arith, n, le, k))
