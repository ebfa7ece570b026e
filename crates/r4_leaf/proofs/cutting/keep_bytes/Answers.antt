use Rattle.std.proofs.Common.{◌+◌, length, arith}
use Rattle.r4_base.specs.Key.{rank}
use Rattle.r4_leaf.proofs.CutPieces.{leads_as, on_ok, two_runs, whole_run}
use Rattle.r4_leaf.proofs.cutting.keep_bytes.Goals as goal

pub returns-then-end-first : goal.returns-then-end-first
returns-then-end-first c =
    on_ok c.keep_part.result _ _ (leads_as c.args.left.now.items c.keep_part.new.left.items (rank c.args.key) (rank c.args.key + length c.args.bytes) _ _
    (whole_run c.args.key c.args.bytes c.len-count.result (rank c.args.from.now) (rank c.args.to.now) c.below-first.result c.below-end.result c.len-count.ensures c.below-first.ensures.within c.below-end.ensures.within c.below-first.ensures.before c.below-first.ensures.rest c.below-end.ensures.before c.below-end.ensures.rest c.if-end-first.true))
    c.keep_part.ensures

pub returns : goal.returns
returns c =
    let lt = c.if-end-first.false in
    on_ok c.keep_part-3.result _ _
    (two_runs c.args.key c.args.bytes c.len-count.result (rank c.args.from.now) (rank c.args.to.now) c.below-first.result c.below-end.result c.len-count.ensures c.below-first.ensures.within c.below-end.ensures.within c.below-first.ensures.before c.below-first.ensures.rest c.below-end.ensures.before c.below-end.ensures.rest
    c.args.left.now.items c.keep_part-2.new.left.items c.keep_part-3.new.left.items c.behind.result c.tail.result c.head.result (omega (arith, lt)) c.behind.ensures.rank c.tail.ensures c.head.ensures c.in_ok-keep_part.ensures)
    c.keep_part-3.ensures
