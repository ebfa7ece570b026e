use Rattle.std.proofs.Common.{length, arith}
use Rattle.std.proofs.lemmas.Result.{on_ok_weaker}
use Rattle.r4_leaf_edits.proofs.Few.{grows_both, grows_none}
use Rattle.r4_leaf_edits.proofs.making.+cut_each.Goals as goal

pub returns-in_ok-cut-in-Some-clause-few : goal.returns-in_ok-cut-in-Some-clause-few
returns-in_ok-cut-in-Some-clause-few t c =
    let n = c.in-Some.ensures.cases.1 in
    on_ok_weaker c.cut_each.result
    (grows_both 1 (length c.in-Some.rest.now) (length c.args.cuts.now) c.args.made.now c.cut.new.edits c.cut_each.new.made (omega (arith, n)) c.in_ok-cut-in-Some.ensures.few) c.cut_each.ensures.few

pub returns-in-None-clause-few : goal.returns-in-None-clause-few
returns-in-None-clause-few t c = grows_none (length c.args.cuts.now) c.args.made.now
