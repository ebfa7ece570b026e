use Rattle.std.proofs.lemmas.Result.{on_ok_weaker}
use Rattle.r4_base.specs.Key.{rank}
use Rattle.r4_leaf_edits.proofs.Few.{grows_cut, grows_none}
use Rattle.r4_leaf_edits.proofs.Added.{cut_added, cut_nothing}
use Rattle.r4_leaf_edits.proofs.adding.cut.Goals as goal

pub returns-in-Some-clause-gains : goal.returns-in-Some-clause-gains
returns-in-Some-clause-gains c =
    on_ok_weaker c.cut.result
    (λ cut. cut_added (rank c.args.range.now.from) (rank c.args.range.now.to) (rank c.args.interval.now.from) (rank c.args.interval.now.to) c.args.edits.now c.cut.new.self c.in-Some.part
    c.in-Some.ensures.part.0 c.in-Some.ensures.part.1 cut c.cut.ensures.items) c.cut.ensures.cuts

pub returns-in-None-clause-gains : goal.returns-in-None-clause-gains
returns-in-None-clause-gains c =
    cut_nothing (rank c.args.range.now.from) (rank c.args.range.now.to) (rank c.args.interval.now.from) (rank c.args.interval.now.to) c.args.edits.now c.in-None.ensures.part

pub returns-in-Some-clause-few : goal.returns-in-Some-clause-few
returns-in-Some-clause-few c = on_ok_weaker c.cut.result (λ cut. grows_cut c.args.edits.now c.cut.new.self c.in-Some.part cut c.cut.ensures.items) c.cut.ensures.cuts

pub returns-in-None-clause-few : goal.returns-in-None-clause-few
returns-in-None-clause-few c = grows_none 1 c.args.edits.now
